use Rattle.type1.proofs.Groups.{space_same}
use Rattle.type1.proofs.OperandLaws.{curve_short, curve_does, clear_bounds, clear_finite, clear_space}
use Rattle.type1.proofs.operators.curve_operator.Goals as goal

pub returns-in-None : goal.returns-in-None
returns-in-None c =
    record { takes = curve_short _ _ _ _ _ _ _ c.in-None.ensures c.made.ensures; space = space_same _ _ 7 _ c.made.ensures }

pub curve_by-requires : goal.curve_by-requires
curve_by-requires c =
    record { bounds = (clear_bounds _ _ _ _ c.cleared.ensures c.requires.bounds c.requires.stems_le_room).0; stems_le_room = (clear_bounds _ _ _ _ c.cleared.ensures c.requires.bounds c.requires.stems_le_room).1; t = clear_finite c.args.st _ c.cleared.ensures c.requires.t }

pub returns-in-Some : goal.returns-in-Some
returns-in-Some c =
    record { takes = curve_does _ _ _ _ _ _ _ _ c.in-Some.ensures _ _ c.cleared.ensures c.curve_by.ensures.step; space = clear_space c.args.st _ c.curve_by.result _ c.cleared.ensures c.curve_by.ensures.space }
