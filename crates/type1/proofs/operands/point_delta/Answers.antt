use lib.Ieee.{of_bits}
use Rattle.type1.proofs.DeltasMade.{point-none, horizontal_made, vertical_made, both_made, both-short}
use Rattle.type1.proofs.operands.point_delta.Goals as goal

pub returns-then-n-lt1 : goal.returns-then-n-lt1
returns-then-n-lt1 c = point-none _ _ c.if-n-lt1.true

pub returns-in-22 : goal.returns-in-22
unfolding of_bits
returns-in-22 c = horizontal_made _ _ c.in-22.is c.if-n-lt1.false

pub returns-in-4 : goal.returns-in-4
unfolding of_bits
returns-in-4 c = vertical_made _ _ c.in-4.is c.if-n-lt1.false

pub returns-then-n-lt2 : goal.returns-then-n-lt2
returns-then-n-lt2 c = both-short _ _ c.in_default.in_default-own.rest c.if-n-lt2.true

pub returns-else-n-lt2 : goal.returns-else-n-lt2
returns-else-n-lt2 c = both_made _ _ c.in_default.in_default-own.rest c.if-n-lt2.false
