use Rattle.type1.proofs.Groups.{space_same}
use Rattle.type1.proofs.OperandLaws.{point-short, point-does, clear_bounds, clear_space}
use Rattle.type1.proofs.operators.move_operator.Goals as goal

pub returns-in-None : goal.returns-in-None
returns-in-None c =
    record { takes = point-short _ _ _ _ _ _ _ _ c.in-None.ensures c.made.ensures; space = space_same _ _ 7 _ c.made.ensures }

pub move_by-requires : goal.move_by-requires
move_by-requires c =
    record { bounds = (clear_bounds _ _ _ _ c.cleared.ensures c.requires.bounds c.requires.stems_le_room).0; stems_le_room = (clear_bounds _ _ _ _ c.cleared.ensures c.requires.bounds c.requires.stems_le_room).1 }

pub returns-in-Some : goal.returns-in-Some
returns-in-Some c =
    record { takes = point-does _ _ _ _ _ _ _ _ _ c.in-Some.ensures _ _ c.cleared.ensures c.move_by.ensures.step; space = clear_space c.args.st _ c.move_by.result _ c.cleared.ensures c.move_by.ensures.space }
