-- Laws: steps one after the other, and the hint operators.
use mathlib.Core.Path.{◌≡◌, refl, sym, ap, ap₂, ◌∙◌, subst}
use Prim.Native.Nat.{ℕ, suc, ◌-◌, ◌≤◌, ◌<◌}
use native.Mathlib.Omega.{arith}
use mathlib.Core.Bool.{Bool}
use borrow.Author.Tests.{le-leb}
use lib.ListN.{length, get_or}
use lib.Ieee.{Float, nan, binary64, add}
use Rattle.type1.specs.declared.St.{St}
use Rattle.type1.specs.declared.Ran.{Ran}
use Rattle.type1.specs.State.{State}
use Rattle.type1.specs.Run.{Limits, Outcome, check, and_then, top, cleared, stem, stems3, point_at}
use Rattle.type1.specs.Memory.{Mem, abs, Holds, Meets}
use Rattle.type1.proofs.PathLaws.{stop_then, go_then}
use Rattle.type1.proofs.Stacks.{operand_count, top_is}

-- ---- a step after a step that goes on
pub then_goes : (o : Outcome) (r : Ran) (n : Mem) (k : State → Outcome) (q : Ran) (n' : Mem) → Meets r n o → r.flow ≡ 0 → ((s : State) → Holds r.st n s → Meets q n' (k s)) → Meets q n' (and_then o k)
then_goes o r n k q n' m z f = let (u, h, e) = go_then r n o k m z in subst (Meets q n') (sym e) (f u h)

-- ---- a stem's edge is counted from the side bearing
module _ (t : St) (m : Mem) (s : State) (H : Holds t m s) where
  pub bearing_is : s.bearing ≡ point_at (get_or m.cells 14 nan) (get_or m.cells 15 nan)
  unfolding abs
  bearing_is = sym (ap (λ (u : State). u.bearing) H.is)

  pub stem_is : (lim : Limits) (h : Bool) (k : ℕ) (a b : Float) (u : State) → a ≡ b → 0 < k → suc k ≤ t.operands
      → stem lim h (add binary64 a (top (suc k) s)) (top k s) u ≡ stem lim h (add binary64 b (get_or m.ops (t.operands - suc k) nan)) (get_or m.ops (t.operands - k) nan) u
  stem_is lim h k a b u e p l =
      ap (λ (x : Float). stem lim h (add binary64 x (top (suc k) s)) (top k s) u) e
      ∙ ap₂ (λ (x y : Float). stem lim h (add binary64 b x) y u) (top_is t m s H (suc k) (omega arith) l) (top_is t m s H k p (omega arith))

  -- three in turn
  abbrev pub third : Limits → Bool → Float → ℕ → State → Outcome
  third lim h from k u = stem lim h (add binary64 from (get_or m.ops (t.operands - suc k) nan)) (get_or m.ops (t.operands - k) nan) u

  module _ (lim : Limits) (h : Bool) (from : Float) (l : 6 ≤ t.operands) where
    three_are : stems3 lim h from s ≡ and_then (third lim h from 5 (cleared s)) (λ (v : State). and_then (third lim h from 3 v) (third lim h from 1))
    unfolding stems3
    three_are =
        ap (λ (b : Bool). check b 7 (and_then (stem lim h (add binary64 from (top 6 s)) (top 5 s) (cleared s)) (λ (v : State). and_then (stem lim h (add binary64 from (top 4 s)) (top 3 s) v) (λ (u : State). stem lim h (add binary64 from (top 2 s)) (top 1 s) u)))) (le-leb 6 (length s.operands) (let n = operand_count t m s H in omega arith))
        ∙ ap (λ (o : Outcome). and_then o (λ (v : State). and_then (stem lim h (add binary64 from (top 4 s)) (top 3 s) v) (λ (u : State). stem lim h (add binary64 from (top 2 s)) (top 1 s) u))) (stem_is lim h 5 from from (cleared s) refl (omega arith) (omega arith))
        ∙ ap₂ (λ (x y : Float). and_then (third lim h from 5 (cleared s)) (λ (v : State). and_then (stem lim h (add binary64 from x) y v) (λ (u : State). stem lim h (add binary64 from (top 2 s)) (top 1 s) u))) (top_is t m s H 4 (omega arith) (omega arith)) (top_is t m s H 3 (omega arith) (omega arith))
        ∙ ap₂ (λ (x y : Float). and_then (third lim h from 5 (cleared s)) (λ (v : State). and_then (third lim h from 3 v) (λ (u : State). stem lim h (add binary64 from x) y u))) (top_is t m s H 2 (omega arith) (omega arith)) (top_is t m s H 1 (omega arith) (omega arith))

    pub first_stops : (r : Ran) (n : Mem) → Meets r n (third lim h from 5 (cleared s)) → (r.flow ≡ 0 → ⊥) → Meets r n (stems3 lim h from s)
    first_stops r n a z = subst (Meets r n) (sym three_are) (stop_then r n (third lim h from 5 (cleared s)) (λ (v : State). and_then (third lim h from 3 v) (third lim h from 1)) a z)

    pub second_stops : (r₁ r : Ran) (n₁ n : Mem) → Meets r₁ n₁ (third lim h from 5 (cleared s)) → r₁.flow ≡ 0 → ((v : State) → Holds r₁.st n₁ v → Meets r n (third lim h from 3 v)) → (r.flow ≡ 0 → ⊥) → Meets r n (stems3 lim h from s)
    second_stops r₁ r n₁ n a e b z = subst (Meets r n) (sym three_are) (then_goes (third lim h from 5 (cleared s)) r₁ n₁ (λ (v : State). and_then (third lim h from 3 v) (third lim h from 1)) r n a e (λ v K. stop_then r n (third lim h from 3 v) (third lim h from 1) (b v K) z))

    pub all_three : (r₁ r₂ r : Ran) (n₁ n₂ n : Mem) → Meets r₁ n₁ (third lim h from 5 (cleared s)) → r₁.flow ≡ 0 → ((v : State) → Holds r₁.st n₁ v → Meets r₂ n₂ (third lim h from 3 v)) → r₂.flow ≡ 0 → ((v : State) → Holds r₂.st n₂ v → Meets r n (third lim h from 1 v)) → Meets r n (stems3 lim h from s)
    all_three r₁ r₂ r n₁ n₂ n a e b f c = subst (Meets r n) (sym three_are) (then_goes (third lim h from 5 (cleared s)) r₁ n₁ (λ (v : State). and_then (third lim h from 3 v) (third lim h from 1)) r n a e (λ v K. then_goes (third lim h from 3 v) r₂ n₂ (third lim h from 1) r n (b v K) f c))
