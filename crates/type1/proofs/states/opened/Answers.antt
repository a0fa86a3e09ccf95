use borrow.Author.Tests.{eq-eqb, ne_eqb}
use mathlib.Core.Path.{sym, ◌∙◌}
use Rattle.type1.proofs.states.opened.Goals as goal

pub returns-then-r-ne0 : goal.returns-then-r-ne0
returns-then-r-ne0 c =
    sym (simp (ne_eqb _ _ c.if-r-ne0.true))

pub returns : goal.returns
returns c =
    c.made.ensures ∙ sym (simp (eq-eqb _ _ c.if-r-ne0.false))
