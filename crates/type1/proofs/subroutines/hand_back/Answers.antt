use mathlib.Core.Path.{◌∙◌}
use Rattle.type1.proofs.Stacks.{hand_refused, hand_done, groups-kept}
use Rattle.type1.proofs.subroutines.hand_back.Goals as goal

pub returns-then-f-ne0 : goal.returns-then-f-ne0
returns-then-f-ne0 c =
    record { meets = λ m s room words l H. hand_refused _ _ _ c.requires.0 c.requires.1.0 l _ _ s H room words _ _ (c.flow_of-f.ensures ∙ c.hand_back.ensures.value) _ c.if-f-ne0.true c.made.ensures; groups_value = groups-kept _ _ _ c.made.ensures }

pub returns : goal.returns
returns c =
    record { meets = λ m s room words l H. hand_done _ _ _ c.requires.0 c.requires.1.0 l _ _ s H room words _ _ (c.flow_of-f.ensures ∙ c.hand_back.ensures.value) c.if-f-ne0.false _ c.hand_back.ensures.stack_after c.made-2.ensures; groups_value = groups-kept _ _ 0 c.made-2.ensures }
