-- `folding::transform_stem` meets its contract.
use Rattle.folding.proofs.Folds.{stem_21, stem_20, stem_other}
use lib.Ieee.{of_bits, neg}
use Rattle.folding.proofs.transform_stem.Goals as goal

pub returns-then-s : goal.returns-then-s
unfolding of_bits neg
returns-then-s c =
    stem_21 _ _ _ c.if-s.true c.fold_edge.ensures

pub returns-then-s-2 : goal.returns-then-s-2
unfolding of_bits neg
returns-then-s-2 c =
    stem_20 _ _ _ c.if-s.false c.if-s-2.true c.fold_edge-then-s-2.ensures

pub returns : goal.returns
unfolding of_bits neg
returns c =
    stem_other _ _ _ _ c.if-s.false c.if-s-2.false c.fold_edge-2.ensures c.scale_width.ensures
