-- `Matrix::transform_delta` meets its contract.
use mathlib.Core.Path.{ap₂}
use lib.Ieee.{Float}
use Rattle.geometry.specs.Transform.{delta}
use Rattle.geometry.proofs.Matrix.transform_delta.Goals as goal

pub returns : goal.returns
unfolding delta
returns c = ap₂ (λ (u v : Float). record { x = u; y = v }) c.round10.ensures c.round10-2.ensures
