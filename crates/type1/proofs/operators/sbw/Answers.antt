use mathlib.Core.Path.{ap, ◌∙◌}
use Rattle.type1.specs.Run.{operate}
use Rattle.type1.specs.declared.St.{St}
use Rattle.type1.proofs.Stacks.{too_few, enough, bearing_of_four, from_cleared, groups-kept}
use Rattle.type1.specs.Memory.{with_ops}
use Rattle.type1.proofs.operators.sbw.Goals as goal

pub returns-then-n-lt4 : goal.returns-then-n-lt4
unfolding operate
returns-then-n-lt4 c =
    record { meets = λ m s o room words H. too_few _ _ s H 4 _ _ c.made.ensures c.if-n-lt4.true; groups_value = groups-kept _ _ 7 c.made.ensures }

pub returns : goal.returns
unfolding operate
returns c =
    record { meets = λ m s o room words H. enough _ _ s H 4 _ _ _ _ c.if-n-lt4.false (bearing_of_four _ _ s H c.if-n-lt4.false) (c.side_bearing.ensures.meets (with_ops c.args.ops.now m) _ (from_cleared _ _ _ s H c.cleared.ensures)); groups_value = c.side_bearing.ensures.groups_value ∙ ap (λ (u : St). u.groups) c.cleared.ensures }
