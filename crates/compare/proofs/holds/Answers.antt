-- `compare::holds` meets its contract: below i the output is the front, then rest.
use borrow.Author.Count.{below_more}
use lib.Dec.{leb→le, le→leb}
use mathlib.Core.Path.{sym, ◌∙◌}
use native.Mathlib.Omega.{arith}
use Rattle.compare.proofs.Fronts.{front_then, then_front, front_within}
use Rattle.compare.proofs.holds.Goals as goal

pub returns-then-b-byte_or : goal.returns-then-b-byte_or
returns-then-b-byte_or c =
    (λ h. absurd h, λ p. absurd (c.if-b-byte_or.true (then_front 0 c.args.out.now c.args.front.now c.args.rest p c.loop-i.i (omega arith) ∙ sym c.byte_or.ensures)))

pub loop-i-preserved : goal.loop-i-preserved
loop-i-preserved c = below_more _ _ c.loop-i.invariant (c.if-b-byte_or.false ∙ c.byte_or.ensures)

pub returns : goal.returns
returns c =
    (λ h. front_then 0 c.args.out.now c.args.front.now c.args.rest (leb→le _ _ h) (λ k l. c.loop-i.invariant k (omega arith)), λ p. le→leb _ _ (front_within c.args.out.now c.args.front.now c.args.rest p))
