use native.Mathlib.Omega.{arith}
use Rattle.type1.proofs.Groups.{space_same}
use Rattle.type1.proofs.PathLaws.{both_fine}
use Rattle.type1.proofs.OperandLaws.{does_setcurrentpoint, short_setcurrentpoint, clear_bounds, clear_space}
use Rattle.type1.proofs.operators.setcurrentpoint.Goals as goal

pub returns-then-n-lt2 : goal.returns-then-n-lt2
returns-then-n-lt2 c =
    record { takes = short_setcurrentpoint _ _ _ _ _ _ c.if-n-lt2.true c.made.ensures; space = space_same c.args.st _ 7 _ c.made.ensures }

pub set_point-requires : goal.set_point-requires
set_point-requires c =
    record { bounds = (clear_bounds _ _ _ _ c.cleared.ensures c.requires.bounds c.requires.stems_le_room).0; stems_le_room = (clear_bounds _ _ _ _ c.cleared.ensures c.requires.bounds c.requires.stems_le_room).1; t = both_fine _ _ (c.requires.by_index _ (omega arith), c.requires.by_index _ (omega arith)) }

pub returns : goal.returns
returns c =
    record { takes = does_setcurrentpoint _ c.args.st _ _ _ _ _ _ c.cleared.ensures c.if-n-lt2.false c.set_point.ensures.step; space = clear_space c.args.st _ c.set_point.result _ c.cleared.ensures c.set_point.ensures.space }
