-- `boxes::bounds_of` meets its contract.
use Rattle.boxes.proofs.ExtentLaws.{bounds_are}
use Rattle.boxes.proofs.bounds_of.Goals as goal

pub returns : goal.returns
returns c =
    bounds_are _ _ _ _ _ c.requires c.units.ensures c.units-2.ensures c.units-3.ensures c.units-4.ensures
