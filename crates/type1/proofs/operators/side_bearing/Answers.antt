use mathlib.Core.Path.{ap, ◌∙◌}
use Rattle.type1.specs.declared.Ran.{Ran}
use Rattle.type1.specs.declared.St.{St}
use Rattle.type1.proofs.Stacks.{bearing_set}
use Rattle.type1.proofs.operators.side_bearing.Goals as goal

pub returns : goal.returns
returns c =
    record { meets = λ m s H. bearing_set _ _ s H _ _ _ _ _ c.made.ensures c.at_point.ensures; groups_value = ap (λ (q : Ran). q.st.groups) c.made.ensures ∙ ap (λ (u : St). u.groups) c.at_point.ensures }
