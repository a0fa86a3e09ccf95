-- `folding::fold_width` meets its contract.
use Rattle.folding.specs.Folding.{folded_width}
use Rattle.geometry.specs.declared.Point.{Point}
use lib.Ieee.{of_bits}
use mathlib.Core.Path.{ap}
use Rattle.folding.proofs.fold_width.Goals as goal

pub returns : goal.returns
unfolding folded_width of_bits
returns c =
    ap (λ (p : Point). p.x) c.transform_delta.ensures
