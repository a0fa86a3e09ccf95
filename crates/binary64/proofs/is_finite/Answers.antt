-- `binary64::is_finite` meets its contract.
use Rattle.std.proofs.Common.{◌∙◌, rules}
use lib.Ieee.{of_bits, div, neg}
use Rattle.binary64.specs.Tests.{below_top, not_below-top}
use Rattle.binary64.proofs.is_finite.Goals as goal

pub returns-then-x-top : goal.returns-then-x-top
unfolding of_bits div neg
returns-then-x-top c = below_top _ c.if-x-top.true

pub returns-else-x-top : goal.returns-else-x-top
unfolding of_bits div neg
returns-else-x-top c = (search rules) ∙ not_below-top _ c.if-x-top.false
