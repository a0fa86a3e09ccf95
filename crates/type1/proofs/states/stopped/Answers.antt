use borrow.Author.Tests.{eq-eqb, ne_eqb}
use mathlib.Core.Path.{◌∙◌}
use Rattle.type1.proofs.states.stopped.Goals as goal

pub returns-then-flow-eq1 : goal.returns-then-flow-eq1
returns-then-flow-eq1 c = c.made.ensures ∙ simp (eq-eqb _ _ c.if-flow-eq1.true)

pub returns-else-flow-eq1 : goal.returns-else-flow-eq1
returns-else-flow-eq1 c = c.made-else-flow-eq1.ensures ∙ simp (ne_eqb _ _ c.if-flow-eq1.false)
