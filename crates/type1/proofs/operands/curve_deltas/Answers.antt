use lib.Ieee.{of_bits}
use Rattle.type1.proofs.DeltasMade.{curve_none, vh_made, hv_made, any_made, any_short}
use Rattle.type1.proofs.operands.curve_deltas.Goals as goal

pub returns-then-n-lt4 : goal.returns-then-n-lt4
returns-then-n-lt4 c = curve_none _ _ c.if-n-lt4.true

pub returns-in-30 : goal.returns-in-30
unfolding of_bits
returns-in-30 c = vh_made _ _ c.in-30.is c.if-n-lt4.false

pub returns-in-31 : goal.returns-in-31
unfolding of_bits
returns-in-31 c = hv_made _ _ c.in-31.is c.if-n-lt4.false

pub returns-then-n-lt6 : goal.returns-then-n-lt6
returns-then-n-lt6 c = any_short _ _ c.in_default.in_default-own.rest c.if-n-lt6.true

pub returns-else-n-lt6 : goal.returns-else-n-lt6
returns-else-n-lt6 c = any_made _ _ c.in_default.in_default-own.rest c.if-n-lt6.false
