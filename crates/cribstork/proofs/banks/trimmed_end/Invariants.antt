-- `cribstork::banks::trimmed_end` ends.
use Rattle.std.proofs.Common.{length}
use Rattle.cribstork.proofs.banks.trimmed_end.Given as goal

abbrev pub decreases-loop-v : goal.decreases-loop-v
decreases-loop-v l = length l.v
