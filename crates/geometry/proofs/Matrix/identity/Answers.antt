-- `Matrix::identity` meets its contract.
use mathlib.Core.Path.{refl}
use lib.Ieee.{of_bits}
use Rattle.geometry.proofs.Matrix.identity.Goals as goal

pub returns : goal.returns
unfolding of_bits
returns c = refl
