use Rattle.type1.specs.Small.{ran_of, with_opened}
use Rattle.type1.specs.declared.St.{St}
use mathlib.Core.Path.{ap, ◌∙◌}
use mathlib.Core.Bool.{false}
use Rattle.type1.proofs.operators.closepath.Goals as goal

pub returns : goal.returns
returns c =
    c.made.ensures ∙ ap (λ (u : St). ran_of (with_opened false u) 0) c.cleared-s.ensures
