-- `type1_to_type2::drawing::begin_entry` meets its contract.
use Rattle.type1_to_type2.proofs.Entries.{begins_curve, begins_line, begins_flex, begins_none}
use Rattle.type1_to_type2.proofs.Draws.{takes_few}
use lib.Dec.{lit<}
use borrow.Author.Rules.{rules}
use Rattle.type1_to_type2.proofs.drawing.begin_entry.Goals as goal

pub batch-requires : goal.batch-requires
batch-requires c =
    takes_few _ 46 _ (lit< tt) c.takes_line.ensures

pub batch-requires-in-3 : goal.batch-requires-in-3
batch-requires-in-3 c =
    takes_few _ 42 _ (lit< tt) c.takes_curve.ensures

pub returns-in-2 : goal.returns-in-2
returns-in-2 c =
    begins_line _ _ c.in-2.is c.takes_line.ensures c.batch.ensures

pub returns-in-3 : goal.returns-in-3
returns-in-3 c =
    begins_curve _ _ c.in-3.is c.takes_curve.ensures c.batch-in-3.ensures

pub returns-in-4 : goal.returns-in-4
returns-in-4 c =
    begins_flex _ c.in-4.is c.flush.ensures

pub returns-in_default : goal.returns-in_default
returns-in_default c =
    begins_none c.args.w _ _ (search rules) (search rules) (search rules)
