-- Laws: the machine runs a program, from the width and the stems to the endchar.
use Rattle.std.specs.Prelude.{◌≡◌, Bool, true, false, ◌||◌, cond, T, leb, eqb, ℤ, pos, Float}
use Rattle.std.proofs.Math.Path.{refl, ap}
use Rattle.std.proofs.Common.{sym, ◌∙◌, subst}
use Prim.Native.Nat.{ℕ, zero, suc, ◌+◌, ◌*◌, ◌≤◌}
use native.Mathlib.Omega.{arith}
use mathlib.Core.List.{List, [], ◌∷◌, ◌++◌}
use Rattle.std.proofs.Math.Option.{Option, none, some}
use Rattle.std.proofs.Math.ListN.{length, length-append}
use Rattle.std.proofs.Math.Dec.{lit≤}
use Rattle.std.specs.Float.{binary64}
use Rattle.std.specs.Float.Ieee.{fits}
use Rattle.binary64.specs.Value.{mag}
use Rattle.renderer.specs.Machine.{Entry, State, start, with_ops, with_stems, run}
use Rattle.type2.specs.Number.{Is}
use Rattle.type2.specs.Instruction.{Instr, instr, bytes, fine, all_fine}
use Rattle.type2.specs.Bools.{and_both}
use Rattle.renderer.specs.Operators.{Ready, settled_with, width_of}
use Rattle.renderer.proofs.InstructionLaws.{numbers-run, operands_run, stem-run}
use Rattle.renderer.specs.Machine as Machine
use Rattle.outline.specs.declared.Stem.{Stem}
use Rattle.outline.specs.Outline.{plus_zero, origin}
use Rattle.type1_to_type2.specs.Stems.{Declared, stems_of}
use Rattle.type1_to_type2.specs.Emission.{idle, pack, pair, second_edge, stems_from, items, Cmd, program}
use Rattle.type1_to_type2.specs.Finish.{first}
use Rattle.agreement.specs.Demand3.{SamePoint, SameDrawing}
use Rattle.type1_to_type2.specs.Fine.{pack-fine}
use Rattle.agreement.specs.Simulation.{Meets, effects, StemsRun, entries_of, point_count, CommandCoordinates, Ran}
use Rattle.agreement.proofs.Items.{pack-run}
use Rattle.agreement.proofs.Path.{commands-run}

-- ---- stems: the machine counts them all
module _ (op : ℕ) (isStem : (eqb op 1 || eqb op 3 || eqb op 18 || eqb op 23) ≡ true) (no_number : (eqb op 28 || leb 32 op) ≡ false) where
  one_op : (l : List ℤ) (j : ℕ) (is : List Instr) (s : State) → Ready s → length l ≡ suc j * 2 → j ≤ 22 → T (fine l) → s.stems + suc j ≤ 96
      → run (bytes (instr l (op ∷ []) ∷ is)) 0 s ≡ run (bytes is) 0 (with_stems (s.stems + suc j) (settled_with l s))
  unfolding bytes
  one_op l j is s g e h f k = operands_run l (op ∷ bytes is) s g f (omega arith) ∙ stem-run l (bytes is) s g op j isStem no_number e k

  stems_run : (ss : List Stem) (k j : ℕ) (from : Float) (l : List ℤ) (is : List Instr) (s : State) → Ready s → length l ≡ j * 2 → j + k ≡ 23 → T (all_fine (stems_from op ss k from l is)) → s.stems + j + length ss ≤ 96
      → StemsRun is (stems_from op ss k from l is) s (s.stems + j + length ss)
  unfolding stems_from all_fine
  stems_run [] k j from [] is s g e c f h =
      let z : s.stems ≡ s.stems + j + 0 = omega arith in
      record { here = s; ready = g; is_t = ap (λ (n : ℕ). with_stems n (settled_with [] s)) z; ran = refl; rest = f }
  stems_run [] k zero from (u ∷ l) is s g e c f h = absurd (let z : ⊥ = omega arith in z)
  stems_run [] k (suc j) from (u ∷ l) is s g e c f h =
      let w = and_both (fine (u ∷ l)) (all_fine is) f in
      let z : s.stems + suc j ≡ s.stems + suc j + 0 = omega arith in
      record { here = with_stems (s.stems + suc j) (settled_with (u ∷ l) s); ready = lit≤ tt; is_t = ap (λ (n : ℕ). with_stems n (settled_with [] s)) z; ran = one_op (u ∷ l) j is s g e (omega arith) w.0 (omega arith); rest = w.1 }
  stems_run (x ∷ ss) zero zero from l is s g e c f h = absurd (let z : ⊥ = omega arith in z)
  stems_run (x ∷ ss) zero (suc j) from l is s g e c f h =
      let tail = stems_from op ss 22 (second_edge x) (pair plus_zero x) is in
      let w = and_both (fine l) (all_fine tail) f in
      let s' = with_stems (s.stems + suc j) (settled_with l s) in
      let R = stems_run ss 22 1 (second_edge x) (pair plus_zero x) is s' (lit≤ tt) refl refl w.1 (omega arith) in
      let z : s.stems + suc j + 1 + length ss ≡ s.stems + suc j + suc (length ss) = omega arith in
      record { here = R.here; ready = R.ready; is_t = R.is_t ∙ ap (λ (n : ℕ). with_stems n (settled_with [] s)) z; ran = one_op l j tail s g e (omega arith) w.0 (omega arith) ∙ R.ran; rest = R.rest }
  stems_run (x ∷ ss) (suc k) j from l is s g e c f h =
      let len : length (l ++ pair from x) ≡ suc j * 2 = length-append l (pair from x) ∙ (let z : length l + 2 ≡ suc j * 2 = omega arith in z) in
      let R = stems_run ss k (suc j) (second_edge x) (l ++ pair from x) is s g len (omega arith) f (omega arith) in
      let z : s.stems + suc j + length ss ≡ s.stems + j + suc (length ss) = omega arith in
      record { here = R.here; ready = R.ready; is_t = R.is_t ∙ ap (λ (n : ℕ). with_stems n (settled_with [] s)) z; ran = R.ran; rest = R.rest }

-- ---- the program
origin_is : SamePoint Is Machine.origin origin
origin_is = (zero-point, zero-point)
  where
    fit : T (fits binary64 plus_zero)
    fit = unfold fits in tt

    nothing : mag binary64 plus_zero ≡ 0
    nothing = unfold mag in refl

    zero-point : Is (pos 0) plus_zero
    zero-point = record { fit = fit; fine = tt; plus = nothing; minus = refl }

first_ready : (w : Option ℤ) → Ready (with_ops (first w) start)
first_ready none = lit≤ tt
first_ready (some u) = lit≤ tt

first_short : (w : Option ℤ) → length (first w) ≤ 1
first_short none = lit≤ tt
first_short (some u) = lit≤ tt

first_width : (w : Option ℤ) → width_of (first w) (with_ops (first w) start) ≡ w
first_width none = refl
first_width (some u) = refl

across_op : (m : Bool) → (eqb (cond m 18 1) 1 || eqb (cond m 18 1) 3 || eqb (cond m 18 1) 18 || eqb (cond m 18 1) 23) ≡ true
across_op true = refl
across_op false = refl

upright_op : (m : Bool) → (eqb (cond m 23 3) 1 || eqb (cond m 23 3) 3 || eqb (cond m 23 3) 18 || eqb (cond m 23 3) 23) ≡ true
upright_op true = refl
upright_op false = refl

across-low : (m : Bool) → (eqb (cond m 18 1) 28 || leb 32 (cond m 18 1)) ≡ false
across-low true = refl
across-low false = refl

upright-low : (m : Bool) → (eqb (cond m 23 3) 28 || leb 32 (cond m 23 3)) ≡ false
upright-low true = refl
upright-low false = refl

drawn_so : (b : Bool) (cs : List Cmd) (l more : List (Entry Machine.Point)) → l ≡ more → SameDrawing (Meets b) more (entries_of cs) → SameDrawing (Meets b) l (entries_of cs)
drawn_so b cs l more e h = subst (λ (x : List (Entry Machine.Point)). SameDrawing (Meets b) x (entries_of cs)) (sym e) h

-- with at most 96 stems and 4194303 points, each coordinate a finite double
pub program-run : (b : Bool) (w : Option ℤ) (d : Declared) (cs : List Cmd) → length (stems_of d) ≤ 96 → point_count cs ≤ 4194303 → CommandCoordinates b cs → T (fine (first w)) → T (all_fine (program d cs)) → Ran b w d cs
unfolding program
program-run b w d cs few short coordinates f0 f1 =
    let p = first w in
    let m = d.masked in
    let its = items m (stems_of d) origin cs in
    let tail2 = pack its idle in
    let tail1 = stems_from (cond m 23 3) d.upright 23 plus_zero [] tail2 in
    let whole = stems_from (cond m 18 1) d.across 23 plus_zero [] tail1 in
    let s0 = with_ops p start in
    let la = length-append d.across d.upright in
    let short-p = first_short w in
    let N = numbers-run p [] (bytes whole) start f0 (omega arith) in
    let F1 = stems_run (cond m 18 1) (across_op m) (across-low m) d.across 23 0 plus_zero [] tail1 s0 (first_ready w) refl refl f1 (omega arith) in
    let c1 : F1.here.stems ≡ 0 + 0 + length d.across = ap (λ (x : State). x.stems) F1.is_t in
    let F2 = stems_run (cond m 23 3) (upright_op m) (upright-low m) d.upright 23 0 plus_zero [] tail2 F1.here F1.ready refl refl F1.rest (omega arith) in
    let n = F1.here.stems + 0 + length d.upright in
    let t = with_stems n (settled_with [] s0) in
    let e : settled_with [] F2.here ≡ t = F2.is_t ∙ ap (with_stems n) F1.is_t in
    let count : length (stems_of d) ≡ n = omega arith in
    let W = commands-run b m (stems_of d) cs origin t 0 origin_is (lit≤ tt, lit≤ tt) coordinates (omega arith) (pack-fine its idle F2.rest).1 count in
    let X = W.1 in
    record {
      end = effects its t;
      ran = N ∙ F1.ran ∙ F2.ran ∙ pack-run its idle F2.here t F2.ready e W.0;
      width = X.width ∙ first_width w;
      stems = X.stems ∙ sym count;
      drawn = drawn_so b cs (effects its t).drawn X.more X.drawn X.same_drawing;
      masks = X.masks;
    }
