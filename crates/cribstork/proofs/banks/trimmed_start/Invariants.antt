-- `cribstork::banks::trimmed_start` ends.
use Rattle.std.proofs.Common.{length}
use Rattle.cribstork.proofs.banks.trimmed_start.Given as goal

abbrev pub decreases-loop-v : goal.decreases-loop-v
decreases-loop-v l = length l.v
