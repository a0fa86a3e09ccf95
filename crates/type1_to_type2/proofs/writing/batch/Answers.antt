-- `type1_to_type2::writing::batch` meets its contract.
use Prim.Native.Nat.{◌+◌}
use Rattle.outline.specs.Outline.{pick}
use mathlib.Core.Bool.{Bool}
use native.Mathlib.Omega.{arith}
use mathlib.Core.Logic.{inl, inr}
use mathlib.Core.Path.{refl, sym, ap}
use Rattle.type1_to_type2.proofs.Draws.{is_shared, not_shared, as_put, shared_none, first-closed}
use Rattle.type1_to_type2.proofs.writing.batch.Goals as goal
use Rattle.type1_to_type2.proofs.writing.batch.Goals.{else-w-op-via-then-w-op+else-takes, else-w-op-via-else-w-op}

pub overflow_add-result : goal.overflow_add-result
overflow_add-result c = let few = c.requires c.if-takes.true in omega (arith, few)

pub returns-then-takes : goal.returns-then-takes
returns-then-takes c =
    let w = c.args.w in let t = is_shared w _ _ c.if-w-op.true c.if-takes.true in record { puts = record { then = shared_none w _ _ _ t; same = refl }; at = refl; waits = c.if-w-op.true; held = ap (λ (x : Bool). pick x (w.held + c.args.count) c.args.count) (sym t) }

pub returns : goal.returns
returns c =
    let w = c.args.w in let t = not_shared w c.args.op c.args.takes (elim c.else-w-op.branch [ else-w-op-via-then-w-op+else-takes x ↦ inr x.if-takes.false | else-w-op-via-else-w-op x ↦ inl x.if-w-op.false ]) in let q = as_put _ c.flush-r.ensures.puts (first-closed w _ _ t) in record { puts = record { then = q.then; same = q.same }; at = c.flush-r.ensures.at; waits = refl; held = ap (λ (x : Bool). pick x (w.held + c.args.count) c.args.count) (sym t) }
