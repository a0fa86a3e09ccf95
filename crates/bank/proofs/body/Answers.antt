-- `bank::body` meets its contract. Assumes nothing.
use Rattle.std.proofs.Common.{sym}
use Rattle.bank.specs.Laws.{found_within}
use Rattle.bank.proofs.body.Goals as goal

pub slice_bounds-result-count : goal.slice_bounds-result-count
slice_bounds-result-count c =
    (found_within _ _ (sym c.in-Some.ensures)).0

pub slice_bounds-result-start : goal.slice_bounds-result-start
slice_bounds-result-start c =
    (found_within _ _ (sym c.in-Some.ensures)).0

pub slice_bounds-result-end : goal.slice_bounds-result-end
slice_bounds-result-end c =
    (found_within _ _ (sym c.in-Some.ensures)).1
