-- The next place of `cribstork::file::Places` is found, and none comes twice.
use Rattle.std.proofs.Common.{◌-◌, ◌≤◌, length}
use Rattle.cribstork.proofs.file.PlacesIterator.next.Given as goal

abbrev pub invariant-loop-left : goal.invariant-loop-left
invariant-loop-left l = l.initial.at ≤ l.at

abbrev pub decreases-loop-left : goal.decreases-loop-left
decreases-loop-left l = length l.self.file.now - l.at
