-- `hints::in_force` meets its contract. Assumes nothing.
use Rattle.std.proofs.Common.{◌≡◌, false}
use Rattle.hints.specs.Hints.{is_among}
use Rattle.hints.proofs.in_force.Given as goal

-- none of the stems so far is the one
abbrev pub invariant-loop-i : goal.invariant-loop-i
invariant-loop-i l = is_among l.i l.edges l.across l.s ≡ false
