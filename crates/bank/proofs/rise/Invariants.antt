-- `bank::rise` meets its contract. Assumes nothing.
use Rattle.std.proofs.Common.{◌≡◌, ◌+◌, ◌-◌, ◌*◌}
use Rattle.bank.specs.Bank.{rises_from}
use Rattle.bank.proofs.rise.Given as goal

-- the offsets so far rise, so those from i on decide
abbrev pub invariant-loop-i : goal.invariant-loop-i
invariant-loop-i g l = rises_from l.bank l.before l.at l.i-end ≡ rises_from l.bank l.last (l.at + 4 * l.i) (l.i-end - l.i)
