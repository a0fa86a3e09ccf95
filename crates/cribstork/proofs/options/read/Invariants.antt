-- `cribstork::options::read` ends.
use Rattle.std.proofs.Common.{length}
use Rattle.cribstork.proofs.options.read.Given as goal

abbrev pub decreases-loop-left : goal.decreases-loop-left
decreases-loop-left l = length l.left
