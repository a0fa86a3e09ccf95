-- `boxes::extended` meets its contract.
use Rattle.boxes.proofs.ExtentLaws.{Grows}
use Rattle.boxes.proofs.extended.Given as goal

abbrev pub invariant-loop-dx : goal.invariant-loop-dx
invariant-loop-dx l = Grows l.deltas l.fn.from l.fn.before l.extent l.p l.dx-index
