-- `binary64::round_positive` meets its contract: each arm is a law of `specs/Round.antt`, with the constants by their bit patterns. Assumes nothing.
use Rattle.std.proofs.Common.{T, sym, subst}
use lib.Ieee.{of_bits}
use Rattle.binary64.specs.Round.{tie_down, tie_up, large}
use Rattle.binary64.proofs.round_positive.Goals as goal

-- what owning an `f64` tells: the format holds it
pub returns-then-a-r : goal.returns-then-a-r
unfolding of_bits
returns-then-a-r c = tie_up c.args.a (subst T (sym c.well_formed.0.1) tt) c.requires c.if-a.true c.if-a-r.true

pub returns-else-a-r : goal.returns-else-a-r
unfolding of_bits
returns-else-a-r c = tie_down c.args.a (subst T (sym c.well_formed.0.1) tt) c.requires c.if-a.true c.if-a-r.false

pub returns-else-a : goal.returns-else-a
unfolding of_bits
returns-else-a c = large c.args.a (subst T (sym c.well_formed.0.1) tt) c.requires c.if-a.false
