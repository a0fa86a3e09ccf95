-- `othersubrs::arguments` meets its contract. Assumes nothing.
use Rattle.othersubrs.specs.Laws.{taken_few, taken-below, taken-above, taken_all}
use lib.Ieee.{of_bits}
use Rattle.othersubrs.proofs.arguments.Goals as goal

pub returns-then-held-lt2 : goal.returns-then-held-lt2
returns-then-held-lt2 c =
    taken_few _ _ c.if-held-lt2.true

pub returns-then-n-left : goal.returns-then-n-left
unfolding of_bits
returns-then-n-left c =
    taken_all _ _ c.if-held-lt2.false c.if-count.true _ c.to_usize-n.ensures c.if-n-left.true

pub returns-else-n-left : goal.returns-else-n-left
unfolding of_bits
returns-else-n-left c =
    taken-above _ _ c.if-held-lt2.false c.if-count.true _ c.to_usize-n.ensures c.if-n-left.false

pub returns-else-count : goal.returns-else-count
unfolding of_bits
returns-else-count c =
    taken-below _ _ c.if-held-lt2.false c.if-count.false
