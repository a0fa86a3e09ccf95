-- Laws: the machine runs the bytes of items. Each has its effect, and the run ends at the last byte.
use Rattle.std.specs.Prelude.{◌≡◌, ℕ, suc, ◌+◌, ◌*◌, ◌≤◌, Bool, ◌&&◌, length, T, leb, ℤ}
use Rattle.std.proofs.Math.Path.{refl, ap, subst}
use Rattle.std.proofs.Common.{sym, ◌∙◌, zero-mul, le_trans, arith, length-append, leb→le, lit≤}
use mathlib.Core.List.{List, [], ◌∷◌, ◌++◌}
use Rattle.std.specs.Float.Ieee.Fits.{and_i}
use Rattle.type2.specs.Path.{Kind, moves, lines, curves, flexes, most}
use Rattle.renderer.specs.Machine.{State, on, ended, with_mask, draws, run}
use Rattle.type2.specs.Number.{in_range}
use Rattle.type2.specs.Instruction.{Instr, instr, numbers, bytes, fine, mask_bytes}
use Rattle.type2.specs.Bools.{choose, and_both}
use Rattle.renderer.specs.Operators.{Ready, settled_with, acted}
use Rattle.renderer.proofs.InstructionLaws.{operands_run, end_run, mask-run, draws_snoc, move_run, flex_run, lines_run, curves_run}
use Rattle.type1_to_type2.specs.Emission.{move_of, Item, mask, go, Waiting, idle, held, code_of, same_kind, flush, join, pack}
use Rattle.agreement.specs.Simulation.{effect, effects, size, Drawable, Accepted, AllAccepted, waits, Held, Waits, Flushed, ItemsRun}

held-run : (k : Kind) (l : List ℤ) (r : List ℕ) (s t : State) → Ready s → Held k l s t → run (numbers l ++ (code_of k ∷ r)) 0 s ≡ run r 0 t
held-run moves l r s t g h = absurd h.batch
held-run lines l r s t g h = lines_run r s g l h.n t h.len h.few h.nums h.does
held-run curves l r s t g h = curves_run r s g l h.n t h.len h.few h.nums h.does
held-run flexes l r s t g h = absurd h.batch

fine-append : (l m : List ℤ) → T (fine l) → T (fine m) → T (fine (l ++ m))
unfolding fine
fine-append [] m f h = h
fine-append (u ∷ l) m f h = let w = and_both (in_range u) (fine l) f in and_i (in_range u) (fine (l ++ m)) w.0 (fine-append l m w.1 h)

small_size : (k : Kind) → T (waits k) → size k ≤ 47
small_size moves t = lit≤ tt
small_size lines t = lit≤ tt
small_size curves t = lit≤ tt
small_size flexes t = lit≤ tt

most-small : (k : Kind) → most k ≤ 47
most-small moves = lit≤ tt
most-small lines = lit≤ tt
most-small curves = lit≤ tt
most-small flexes = lit≤ tt

first-held : (k : Kind) (l : List ℤ) (s t : State) → T (waits k) → settled_with [] s ≡ t → Drawable k l t → Held k l s (acted k l t)
first-held k l s t b e d =
    let f = d.len in
    let w = small_size k b in
    record {
      n = 0;
      batch = b;
      len = (let z : size k ≡ 1 * size k = omega arith in f ∙ z);
      few = omega arith;
      nums = d.nums;
      does = draws_snoc k (size k) 0 [] l (settled_with [] s) t (sym (zero-mul (size k))) f (unfold draws in ap (on 0) e) d.near;
      clean = subst (λ (x : State). settled_with [] (acted k l x) ≡ acted k l x) e refl;
      begun = subst (λ (x : State). Ready (acted k l x)) e (lit≤ tt);
    }

more_held : (k : Kind) (m l : List ℤ) (s t : State) → Held k m s t → length m + length l ≤ 47 → Drawable k l t → Held k (m ++ l) s (acted k l t)
more_held k m l s t h w d =
    let f = d.len in
    let e = length-append m l in
    record {
      n = suc h.n;
      batch = h.batch;
      len = grow h.n (size k) (length (m ++ l)) (length m) (length l) e h.len f;
      few = omega arith;
      nums = fine-append m l h.nums d.nums;
      does = draws_snoc k (size k) (suc h.n) m l (settled_with [] s) t h.len f h.does d.near;
      clean = subst (λ (x : State). settled_with [] (acted k l x) ≡ acted k l x) h.clean refl;
      begun = subst (λ (x : State). Ready (acted k l x)) h.clean (lit≤ tt);
    }
  where
    grow : (n K a b c : ℕ) → a ≡ b + c → b ≡ suc n * K → c ≡ K → a ≡ suc (suc n) * K
    grow n K a b c p q r = omega arith

kind_eq : (j k : Kind) → T (same_kind j k) → j ≡ k
kind_eq moves moves t = refl
kind_eq moves lines t = absurd t
kind_eq moves curves t = absurd t
kind_eq moves flexes t = absurd t
kind_eq lines moves t = absurd t
kind_eq lines lines t = refl
kind_eq lines curves t = absurd t
kind_eq lines flexes t = absurd t
kind_eq curves moves t = absurd t
kind_eq curves lines t = absurd t
kind_eq curves curves t = refl
kind_eq curves flexes t = absurd t
kind_eq flexes moves t = absurd t
kind_eq flexes lines t = absurd t
kind_eq flexes curves t = absurd t
kind_eq flexes flexes t = refl

flushed : (w : Waiting) (is : List Instr) (s t : State) → Ready s → Waits w s t → Flushed w is s t
unfolding bytes
flushed idle is s t g h = record { here = s; ready = g; is_t = h; ran = refl }
flushed (held k l) is s t g h = record { here = t; ready = h.begun; is_t = h.clean; ran = held-run k l (bytes is) s t g h }

joined : (k : Kind) (l : List ℤ) (is : List Item) (w : Waiting) (s t : State) → T (waits k) → ItemsRun is → Ready s → Waits w s t → Drawable k l t → AllAccepted is (acted k l t)
    → run (bytes (join k l w (pack is))) 0 s ≡ ended (effects is (acted k l t)) []
unfolding bytes
joined k l is idle s t b f g h d a = f (held k l) s (acted k l t) g (first-held k l s t b h d) a
joined k l is (held j m) s t b f g h d a =
    choose (same_kind j k && leb (length m + length l) (most k)) (λ (x : List Instr). run (bytes x) 0 s ≡ ended (effects is (acted k l t)) []) (pack is (held k (m ++ l))) (instr m (code_of j ∷ []) ∷ pack is (held k l))
    (λ v. let w = and_both (same_kind j k) (leb (length m + length l) (most k)) v in
    f (held k (m ++ l)) s (acted k l t) g (more_held k m l s t (subst (λ (x : Kind). Held x m s t) (kind_eq j k w.0) h) (le_trans (leb→le (length m + length l) (most k) w.1) (most-small k)) d) a)
    (λ v. held-run j m (bytes (pack is (held k l))) s t g h ∙ f (held k l) t (acted k l t) h.begun (first-held k l t t b h.clean d) a)

-- an instruction of its own
alone : (i : Item) (is : List Item) (x : Instr) (w : Waiting) (s t : State) → ItemsRun is → Ready s → Waits w s t → Accepted i t → AllAccepted is (effect i t)
    → ((r : List ℕ) (s : State) → Ready s → Accepted i (settled_with [] s) → run (numbers x.operands ++ (x.code ++ r)) 0 s ≡ run r 0 (effect i (settled_with [] s)))
    → (Σclean : (s : State) → (settled_with [] (effect i (settled_with [] s)) ≡ effect i (settled_with [] s)) × Ready (effect i (settled_with [] s)))
    → run (bytes (flush w (x ∷ pack is idle))) 0 s ≡ ended (effects is (effect i t)) []
unfolding bytes
alone i is x w s t f g h d a law c =
    let F = flushed w (x ∷ pack is idle) s t g h in
    let u = F.here in
    let cu = c u in
    F.ran ∙ subst (λ (v : State). Accepted i v → AllAccepted is (effect i v) → run (bytes (x ∷ pack is idle)) 0 u ≡ ended (effects is (effect i v)) []) F.is_t
    (λ good all. law (bytes (pack is idle)) u F.ready good ∙ f idle (effect i (settled_with [] u)) (effect i (settled_with [] u)) cu.1 cu.0 all) d a

move_law : (l : List ℤ) (r : List ℕ) (s : State) → Ready s → Drawable moves l (settled_with [] s) → run (numbers (move_of l).operands ++ ((move_of l).code ++ r)) 0 s ≡ run r 0 (acted moves l (settled_with [] s))
move_law [] r s g d = let e = d.len in absurd (let z : ⊥ = omega arith in z)
move_law (a ∷ []) r s g d = let e = d.len in absurd (let z : ⊥ = omega arith in z)
move_law (a ∷ b ∷ []) r s g d = move_run r s g a b d.nums d.near
move_law (a ∷ b ∷ c ∷ l) r s g d = let e = d.len in absurd (let z : ⊥ = omega arith in z)

mask_law : (b : List Bool) (r : List ℕ) (s : State) → Ready s → length b ≡ s.stems → run (numbers [] ++ (19 ∷ mask_bytes b ++ r)) 0 s ≡ run r 0 (with_mask b (settled_with [] s))
unfolding numbers
mask_law b r s g e = operands_run [] (19 ∷ mask_bytes b ++ r) s g (unfold fine in tt) (lit≤ tt) ∙ mask-run [] r s g b refl e

end_law : (s : State) → Ready s → run (bytes (instr [] (14 ∷ []) ∷ [])) 0 s ≡ ended (settled_with [] s) []
unfolding numbers bytes
end_law s g = operands_run [] (14 ∷ []) s g (unfold fine in tt) (lit≤ tt) ∙ end_run [] [] s g refl

pub pack-run : (is : List Item) → ItemsRun is
unfolding pack effects AllAccepted
pack-run [] w s t g h a = let F = flushed w (instr [] (14 ∷ []) ∷ []) s t g h in F.ran ∙ end_law F.here F.ready ∙ ap (λ (x : State). ended x []) F.is_t
pack-run (mask b ∷ is) w s t g h a = alone (mask b) is (instr [] (19 ∷ mask_bytes b)) w s t (pack-run is) g h a.0 a.1 (mask_law b) (λ s. (refl, lit≤ tt))
pack-run (go moves l ∷ is) w s t g h a = alone (go moves l) is (move_of l) w s t (pack-run is) g h a.0 a.1 (move_law l) (λ s. (refl, lit≤ tt))
pack-run (go lines l ∷ is) w s t g h a = joined lines l is w s t tt (pack-run is) g h a.0 a.1
pack-run (go curves l ∷ is) w s t g h a = joined curves l is w s t tt (pack-run is) g h a.0 a.1
pack-run (go flexes l ∷ is) w s t g h a = alone (go flexes l) is (instr l (12 ∷ 35 ∷ [])) w s t (pack-run is) g h a.0 a.1 (λ r s g d. flex_run r s g l d.len d.nums d.near) (λ s. (refl, lit≤ tt))
