use mathlib.Core.Path.{sym}
use Rattle.type1_to_type2.proofs.Coordinates.{group_first, group_count_lem, no_first, no_count}
use Rattle.type1_to_type2.proofs.checking.group_start.Goals as goal

pub returns-then-commands-at-ne-GROUP : goal.returns-then-commands-at-ne-GROUP
returns-then-commands-at-ne-GROUP c =
    (sym (no_first c.args.commands.now c.args.e c.if-commands-at-ne-GROUP.true), sym (no_count c.args.commands.now c.args.e c.if-commands-at-ne-GROUP.true))

pub returns : goal.returns
returns c =
    (group_first c.args.commands.now c.args.e c.if-commands-at-ne-GROUP.false, group_count_lem c.args.commands.now c.args.e c.if-commands-at-ne-GROUP.false)
