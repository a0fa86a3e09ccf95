use borrow.Author.Tests.{eq-eqb, ne_eqb}
use Rattle.type1.proofs.number_of.Goals as goal

pub returns-then-flow-eq2 : goal.returns-then-flow-eq2
returns-then-flow-eq2 c = simp (eq-eqb _ _ c.if-flow-eq2.true)

pub returns-else-flow-eq2 : goal.returns-else-flow-eq2
returns-else-flow-eq2 c = simp (ne_eqb _ _ c.if-flow-eq2.false)
