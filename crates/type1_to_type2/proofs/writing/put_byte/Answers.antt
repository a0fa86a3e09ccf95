-- `type1_to_type2::writing::put_byte` meets its contract.
use mathlib.Core.Path.{refl, sym, subst}
use Prim.Native.Nat.{ℕ, ◌≤◌}
use native.Mathlib.Omega.{arith}
use lib.ListN.{length, length-set}
use Rattle.std.specs.Prelude.{Result, IfOk}
use Rattle.refusal.specs.declared.Refusal.{Refusal}
use Rattle.type1_to_type2.proofs.Writes.{stays_refused, not_before, byte_stored, byte_refused}
use Rattle.type1_to_type2.proofs.writing.put_byte.Goals as goal

pub returns-in_default : goal.returns-in_default
returns-in_default c =
    record { puts = record { then = λ f. stays_refused _ _ _ _ c.in_default.is; same = refl }; still = record { x = refl; y = refl; waits = refl; held = refl }; next_in_bounds = subst (λ (r : Result ℕ Refusal). IfOk r (λ n. n ≤ length c.args.out.now)) (sym c.in_default.is) tt }

pub returns-then-out-at : goal.returns-then-out-at
returns-then-out-at c =
    record { puts = record { then = λ f. not_before _ _ _ _ c.in-Ok.is (byte_refused _ _ _ f c.if-out-at.true); same = refl }; still = record { x = refl; y = refl; waits = refl; held = refl }; next_in_bounds = tt }

pub returns : goal.returns
returns c =
    let l = length-set c.args.out.now c.in-Ok.at c.args.b in
    record { puts = record { then = λ f. not_before _ _ _ _ c.in-Ok.is (byte_stored _ _ _ f c.if-out-at.false); same = l }; still = record { x = refl; y = refl; waits = refl; held = refl }; next_in_bounds = omega (arith, l, c.if-out-at.false) }
