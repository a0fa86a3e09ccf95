-- `geometry::round10` meets its contract.
use mathlib.Core.Path.{ap}
use lib.Ieee.{Float, binary64, div, of_bits}
use Rattle.geometry.specs.Transform.{ten_billion, rounded10}
use Rattle.geometry.proofs.round10.Goals as goal

pub returns : goal.returns
unfolding of_bits rounded10
returns c = ap (λ (z : Float). div binary64 z ten_billion) c.round.ensures
