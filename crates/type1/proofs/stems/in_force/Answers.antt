use Rattle.type1.proofs.Hints.{in_force_is}
use mathlib.Core.Path.{◌∙◌}
use Rattle.type1.proofs.stems.in_force.Goals as goal

pub returns : goal.returns
returns c =
    c.in_force.ensures ∙ in_force_is _ _ _ _ c.requires
