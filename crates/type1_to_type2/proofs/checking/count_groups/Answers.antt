use native.Mathlib.Omega.{arith}
use mathlib.Core.Path.{◌∙◌}
use Rattle.type1_to_type2.proofs.CheckingLaws.{groups_none, groups_more, groups_same, is_start, no_start, groups_all}
use Rattle.type1_to_type2.proofs.checking.count_groups.Goals as goal
use Rattle.type1_to_type2.proofs.checking.count_groups.Goals.{then-commands-e-eq-GROUP, else-commands-e-eq-GROUP}

pub loop-e-init : goal.loop-e-init
loop-e-init c = (groups_none _, omega arith)

pub loop-e-preserved : goal.loop-e-preserved
loop-e-preserved c =
    let i = c.loop-e.invariant in
    elim c.if-commands-e-eq-GROUP.branch [
      | then-commands-e-eq-GROUP w ↦ (w.groups-is ∙ groups_more c.args.commands.now c.loop-e.e _ 1 i.0 (is_start c.args.commands.now c.loop-e.e w.if-commands-e-eq-GROUP.true).0, omega (arith, w.groups-is, i.1))
      | else-commands-e-eq-GROUP w ↦ (w.groups-is ∙ groups_same c.args.commands.now c.loop-e.e _ i.0 (no_start c.args.commands.now c.loop-e.e w.if-commands-e-eq-GROUP.false).0, omega (arith, w.groups-is, i.1))
    ]

pub returns : goal.returns
returns c = groups_all _ _ _ _ (omega arith) c.loop-e.invariant.0
