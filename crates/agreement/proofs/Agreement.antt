-- Law: demand 3, of every input that converts and every default and nominal width that finishing accepts.
use Rattle.std.specs.Prelude.{◌≡◌, ℕ, ◌+◌, ◌≤◌, Bool, true, false, cond, List, [], ◌++◌, length, T}
use Rattle.std.proofs.Math.Path.{refl}
use Rattle.std.proofs.Common.{sym, ap, ◌∙◌, subst, le_trans, le_of_eq, arith, lit≤}
use Rattle.std.specs.Float.{binary64}
use Rattle.std.specs.Float.Ieee.Scale.{finite}
use Rattle.binary64.specs.Value.{Whole}
use Rattle.charstring.specs.Cipher.{Bytes}
use Rattle.geometry.specs.declared.Matrix.{Matrix}
use Rattle.type1.specs.declared.Reading.{Reading}
use Rattle.type1.specs.Interpret.{Source}
use Rattle.type1.specs.State.{State}
use Rattle.type1.specs.Run.{font_of, unlimited}
use Rattle.type1.specs.Sound as Sound
use Rattle.type1.specs.Sound.{All, Numbers, Placed}
use Rattle.type1.specs.Invariants.{run-points, run-placed, run-finite, run-whole}
use Rattle.type2.specs.Number.{Is}
use Rattle.type2.specs.Instruction.{numbers, bytes, all_fine}
use Rattle.renderer.specs.Machine as Machine
use Rattle.renderer.specs.Machine.{machine}
use Rattle.type2.specs.Bools.{and_both}
use Rattle.folding.specs.Folding.{fold_of, folded_list, folded_groups, folded_width, finite_list, finite_groups}
use Rattle.type1_to_type2.specs.Stems.{stems_of}
use Rattle.type1_to_type2.specs.Emission.{points_of, program}
use Rattle.type1_to_type2.specs.Writing.{wrote}
use Rattle.type1_to_type2.specs.Convert.{folds_finite, Glyph, Rooms, converted, instructions, convert}
use Rattle.type2.specs.declared.Widths.{Widths}
use Rattle.agreement.specs.Finished.{with_program}
use Rattle.type1_to_type2.specs.Finish.{width_for, first, finish}
use Rattle.agreement.specs.Demand3.{SameDrawing, masks_for, left, unlimited_run, Demand3}
use Rattle.agreement.specs.Simulation.{commands_of, Meets, ListCoordinates, point_count, masks_of, Ran, Folds}
use Rattle.agreement.proofs.Program.{program-run}
use Rattle.agreement.proofs.Runs.{states_hold, ends_at_14}
use Rattle.type1_to_type2.specs.Fine.{write_is}
use Rattle.agreement.proofs.Writes.{finish_is}
use Rattle.agreement.proofs.Commands.{commands-entries, commands-points, commands_coordinates, commands_masks}
use Rattle.agreement.proofs.Folded.{near_list, exact_list, folded-points, folded-length, folded_rising, folded_masks, few_stems_lem}
use Rattle.agreement.proofs.Converted.{ends_so, converts}

instructions_are : (m : Matrix) (s : State) → instructions m s ≡ program (left m s) (commands_of m s)
instructions_are m s = unfold instructions in refl

list-finite : (m : Matrix) (s : State) → folds_finite m s ≡ true → T (finite_list (folded_list (fold_of m) s.drawn))
unfolding folds_finite
list-finite m s e =
    let w = and_both (finite (folded_width m s.width)) _ (subst T (sym e) tt) in
    (and_both (finite_list (folded_list (fold_of m) s.drawn)) (finite_groups (folded_groups (fold_of m) s.groups)) w.1).0

-- the machine's run of the finished bytes: with b, each coordinate exactly
finished-run : (b : Bool) (m : Matrix) (s : State) (room room' : ℕ) (g : Glyph) (p : Widths) (out : List ℕ)
    → Folds m room s g → Sound.points_of s.drawn ≤ 1048576 → All (λ c. ListCoordinates b (points_of c)) (folded_list (fold_of m) s.drawn) → finish g.width g.program p room' ≡ wrote out
    → (out ≡ numbers (first (width_for g.width p)) ++ bytes (program (left m s) (commands_of m s))) × Ran b (width_for g.width p) (left m s) (commands_of m s)
finished-run b m s room room' g p out f short coordinates h =
    let (o, t) = finish_is g.width g.program p room' out h in
    let (e, a) = write_is (instructions m s) room g.program f.wrote in
    let gs = folded_groups (fold_of m) s.groups in
    let cs = folded_list (fold_of m) s.drawn in
    let few : point_count (commands_of m s) ≤ 4194303 = le_trans (le_of_eq (commands-points 0 gs cs ∙ folded-points (fold_of m) s.drawn)) (le_trans short (lit≤ tt)) in (
      o ∙ ap (λ (l : List ℕ). numbers (first (width_for g.width p)) ++ l) (e ∙ ap bytes (instructions_are m s)),
      program-run b (width_for g.width p) (left m s) (commands_of m s) (few_stems_lem gs) few (commands_coordinates b 0 gs cs coordinates) t (subst (λ x. T (all_fine x)) (instructions_are m s) a),
    )

-- two runs of the same bytes end alike
same_end : (l : List ℕ) (s t : Machine.State) → machine l ≡ Machine.ended s [] → machine l ≡ Machine.ended t [] → s ≡ t
same_end l s t p q = let e : Machine.ended s [] ≡ Machine.ended t [] = sym p ∙ q in cc

group_masks_lem : (m : Matrix) (s : State) → Placed s → masks_of (left m s).masked (stems_of (left m s)) 0 (commands_of m s) ≡ cond (left m s).masked (masks_for m (stems_of (left m s)) s.groups) []
group_masks_lem m s r = go (left m s).masked
  where
    go : (b : Bool) → masks_of b (stems_of (left m s)) 0 (commands_of m s) ≡ cond b (masks_for m (stems_of (left m s)) s.groups) []
    go true =
        commands_masks (stems_of (left m s)) 0 (folded_groups (fold_of m) s.groups) (folded_list (fold_of m) s.drawn) (subst (Sound.Rising 0 (folded_groups (fold_of m) s.groups)) (let e = folded-length (fold_of m) s.drawn in let z : length s.drawn ≡ 0 + length (folded_list (fold_of m) s.drawn) = omega arith in z) (folded_rising (fold_of m) 0 s.groups (length s.drawn) r))
        ∙ folded_masks m (stems_of (left m s)) s.groups
    go false = refl

-- ---- DEMAND 3
pub demand3 : (x : Source) (reading : Reading) (m : Matrix) (r : Rooms) (g : Glyph) (p : Widths) (room : ℕ) (out : List ℕ)
    → Bytes x.charstring → Bytes x.bank → convert x reading m r ≡ converted g → finish g.width g.program p room ≡ wrote out
    → Demand3 x reading m p (with_program g out)
demand3 x reading m r g p room out code bodies c h =
    let U = converts x reading m r g c in
    let s = U.state in
    let font = font_of x.bank reading in
    let outcome = unlimited_run x reading in
    let counted = ends_so _ outcome (run-points unlimited font x.charstring) s U.run in
    let placed = ends_so Placed outcome (run-placed unlimited font x.charstring) s U.run in
    let sound = ends_so Sound.Sound outcome (run-finite unlimited font x.charstring bodies code) s U.run in
    let whole = ends_so (λ t. t.divided ≡ false → Numbers (Whole binary64) t) outcome (run-whole unlimited font x.charstring bodies code) s U.run in
    let short : Sound.points_of s.drawn ≤ 1048576 = let a = counted.0 in let b = counted.1 in omega arith in
    let listed = list-finite m s U.folds.finite in
    let (o, A) = finished-run false m s r.bytes room g p out U.folds short (near_list (fold_of m) s.drawn sound.drawn listed) h in
    let is-machine : machine out ≡ Machine.ended A.end [] = ap machine o ∙ A.ran in
    let (front, last) = ends_at_14 out 0 Machine.start A.end is-machine in
    let entries = commands-entries 0 (folded_groups (fold_of m) s.groups) (folded_list (fold_of m) s.drawn) in
    record {
      state = s;
      run = U.run;
      end = A.end;
      ran = is-machine;
      held = states_hold out 0 Machine.start (lit≤ tt);
      front = front;
      last = last;
      advance = U.folds.width;
      width = A.width;
      stems = A.stems;
      drawn = subst (SameDrawing (Meets false) A.end.drawn) entries A.drawn;
      exact = λ i d.
          let (q, E) = finished-run true m s r.bytes room g p out U.folds short (exact_list (fold_of m) i s.drawn sound.drawn (whole d).drawn listed) h in
          subst (λ (x : Machine.State). SameDrawing Is x.drawn (folded_list (fold_of m) s.drawn)) (same_end out E.end A.end (ap machine q ∙ E.ran) is-machine) (subst (SameDrawing (Meets true) E.end.drawn) entries E.drawn);
      masks = A.masks ∙ group_masks_lem m s placed;
    }
