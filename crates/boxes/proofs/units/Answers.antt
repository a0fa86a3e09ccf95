-- `boxes::units` meets its contract.
use Rattle.boxes.proofs.ExtentLaws.{unit-fits, unit_is}
use Rattle.boxes.proofs.units.Goals as goal

pub overflow_sub-result : goal.overflow_sub-result
overflow_sub-result c =
    unit-fits _ c.requires

pub returns : goal.returns
returns c =
    unit_is _ c.requires
