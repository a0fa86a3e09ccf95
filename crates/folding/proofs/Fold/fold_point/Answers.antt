-- `folding::Fold::fold_point` meets its contract.
use Rattle.folding.proofs.Folds.{point_left, point-moved}
use mathlib.Core.Path.{◌∙◌}
use Rattle.folding.proofs.Fold.fold_point.Goals as goal

pub returns-then-self : goal.returns-then-self
returns-then-self c =
    point_left _ _ _ c.if-self.true

pub returns-else-self : goal.returns-else-self
returns-else-self c =
    c.transform_point.ensures ∙ point-moved _ _ _ c.if-self.false
