-- `Matrix::transform_point` meets its contract.
use mathlib.Core.Path.{ap₂}
use lib.Ieee.{Float}
use Rattle.geometry.specs.Transform.{point}
use Rattle.geometry.proofs.Matrix.transform_point.Goals as goal

pub returns : goal.returns
unfolding point
returns c = ap₂ (λ (u v : Float). record { x = u; y = v }) c.round10.ensures c.round10-2.ensures
