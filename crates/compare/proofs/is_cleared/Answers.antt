-- `compare::is_cleared` meets its contract: below i the doubles are n zeros, then rest.
use borrow.Author.Count.{below_more}
use lib.Dec.{T, leb→le, le→leb}
use mathlib.Core.Path.{sym, ◌∙◌, subst}
use Prim.Native.Nat.{◌≤◌}
use native.Mathlib.Omega.{arith}
use lib.ListN.{length, replicate, length-replicate}
use lib.Ieee.{nan}
use Rattle.binary64.specs.Round.{plus_zero}
use Rattle.compare.proofs.Fronts.{front_then, then_front, front_within}
use Rattle.compare.proofs.is_cleared.Goals as goal

pub returns-then-not-same : goal.returns-then-not-same
returns-then-not-same c =
    (λ h. absurd h, λ p. subst T c.if-not-same.true (c.same.ensures.1 (then_front nan c.args.xs.now (replicate c.args.n plus_zero) c.args.rest p c.loop-i.i (omega arith) ∙ sym c.zero_or.ensures)))

pub loop-i-preserved : goal.loop-i-preserved
loop-i-preserved c = below_more _ _ c.loop-i.invariant (c.same.ensures.0 (subst T (sym c.if-not-same.false) tt) ∙ c.zero_or.ensures)

pub returns : goal.returns
returns c =
    let front = replicate c.args.n plus_zero in
    let e = length-replicate c.args.n plus_zero in
    (λ h. let b : c.args.n ≤ length c.args.xs.now = leb→le _ _ h in front_then nan c.args.xs.now front c.args.rest (omega arith) (λ k l. c.loop-i.invariant k (omega arith)), λ p. let b = front_within c.args.xs.now front c.args.rest p in le→leb c.args.n (length c.args.xs.now) (omega arith))
