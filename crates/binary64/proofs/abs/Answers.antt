-- `binary64::abs` meets its contract, arm by arm. Assumes nothing.
use Rattle.std.proofs.Common.{T, sym, subst}
use lib.Ieee.{of_bits}
use Rattle.binary64.specs.Abs.{abs-zero, abs-below, abs-above}
use Rattle.binary64.proofs.abs.Goals as goal

pub returns-then-x : goal.returns-then-x
unfolding of_bits
returns-then-x c = abs-zero c.args.x (subst T (sym c.well_formed.0.1) tt) c.if-x.true

pub returns-then-x-2 : goal.returns-then-x-2
unfolding of_bits
returns-then-x-2 c = abs-below c.args.x (subst T (sym c.well_formed.0.1) tt) c.if-x-2.true

pub returns-else-x-2 : goal.returns-else-x-2
unfolding of_bits
returns-else-x-2 c = abs-above c.args.x (subst T (sym c.well_formed.0.1) tt) c.if-x.false c.if-x-2.false
