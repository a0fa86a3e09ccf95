-- `type1_to_type2::drawing::end_entry` meets its contract.
use Rattle.type1_to_type2.proofs.Entries.{ends_flex, ends_none}
use Rattle.type1_to_type2.proofs.Points.{no_nan-bits}
use Rattle.type1_to_type2.proofs.drawing.end_entry.Goals as goal

pub returns-then-kind-ne-FLEX : goal.returns-then-kind-ne-FLEX
returns-then-kind-ne-FLEX c =
    ends_none c.args.w _ _ _ c.if-kind-ne-FLEX.true

pub float_from_bits-height : goal.float_from_bits-height
float_from_bits-height c =
    no_nan-bits _ (c.requires.good c.if-kind-ne-FLEX.false).fine

pub returns : goal.returns
returns c =
    ends_flex _ _ c.if-kind-ne-FLEX.false (c.put_number-a.ensures.puts, (c.put_number-a.ensures.still, c.put_number-a.ensures.v_value)) (c.put_byte-b.ensures.puts, c.put_byte-b.ensures.still) (c.put_byte.ensures.puts, c.put_byte.ensures.still)
