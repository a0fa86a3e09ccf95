use Rattle.outline.specs.Outline.{plus_zero}
use Rattle.type1.specs.Memory.{with_ops}
use mathlib.Core.Path.{ap, ap₂, ◌∙◌}
use native.Mathlib.Omega.{arith}
use lib.Ieee.{Float, of_bits}
use Rattle.type1.specs.Run.{operate, going, point_at, cleared}
use Rattle.type1.specs.State.{with_bearing}
use Rattle.type1.specs.declared.St.{St}
use Rattle.type1.proofs.Stacks.{too_few, enough, top_is, from_cleared, groups-kept}
use Rattle.type1.proofs.operators.hsbw.Goals as goal

pub returns-then-n-lt2 : goal.returns-then-n-lt2
unfolding operate
returns-then-n-lt2 c =
    record { meets = λ m s o room words H. too_few _ _ s H 2 _ _ c.made.ensures c.if-n-lt2.true; groups_value = groups-kept _ _ 7 c.made.ensures }

pub returns : goal.returns
unfolding operate of_bits
returns c =
    record { meets = λ m s o room words H. enough _ _ s H 2 _ _ _ _ c.if-n-lt2.false (ap₂ (λ (x w : Float). going (with_bearing (point_at x plus_zero) w (cleared s))) (top_is _ _ s H 2 (omega arith) c.if-n-lt2.false) (top_is _ _ s H 1 (omega arith) (omega arith))) (c.side_bearing.ensures.meets (with_ops c.args.ops.now m) _ (from_cleared _ _ _ s H c.cleared.ensures)); groups_value = c.side_bearing.ensures.groups_value ∙ ap (λ (u : St). u.groups) c.cleared.ensures }
