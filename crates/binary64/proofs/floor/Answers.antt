-- `binary64::floor` meets its contract: each arm is a law of `specs/Floor.antt`.
use Rattle.std.proofs.Common.{T, sym, subst}
use lib.Ieee.{of_bits}
use Rattle.binary64.specs.Floor.{floor_taken, floor_left}
use Rattle.binary64.proofs.floor.Goals as goal

pub returns-then-v-r : goal.returns-then-v-r
unfolding of_bits
returns-then-v-r c = floor_taken _ _ (subst T (sym c.well_formed.0.1) tt) c.round-r.ensures c.if-v-r.true

pub returns-else-v-r : goal.returns-else-v-r
returns-else-v-r c = floor_left _ _ (subst T (sym c.well_formed.0.1) tt) c.round-r.ensures c.if-v-r.false
