use lib.Dec.{lit<}
use Rattle.type1.proofs.PathLaws.{opens-first, opened_path, opened_grown, both_fine}
use Rattle.type1.proofs.paths.open_subpath.Goals as goal

pub list_point-requires : goal.list_point-requires
list_point-requires c =
    record { bounds = c.requires.bounds; stems_le_room = c.requires.stems_le_room; kind_nonzero = (lit< tt, lit< tt); t = both_fine _ _ c.requires.t }

pub returns : goal.returns
returns c =
    record { step = opens-first _ c.args.st c.list_point.result _ _ _ _ c.opened.ensures c.list_point.ensures.step; path = opened_path c.args.st c.list_point.result _ _ c.opened.ensures c.list_point.ensures.path; grown = opened_grown c.args.st c.list_point.result _ _ _ c.opened.ensures c.list_point.ensures.grown }
