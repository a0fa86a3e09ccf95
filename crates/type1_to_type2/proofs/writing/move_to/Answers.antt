-- `type1_to_type2::writing::move_to` meets its contract.
use mathlib.Core.Path.{refl, ◌∙◌}
use lib.Ieee.Fits.{sub-fits}
use lib.Ieee.{binary64, of_bits}
use Rattle.type1_to_type2.proofs.Draws.{move_drawn, is_hmove, is_vmove, is_rmove, puts_to, in_turn, two_numbers}
use Rattle.type1_to_type2.proofs.writing.move_to.Goals as goal

pub returns-then-dy : goal.returns-then-dy
unfolding of_bits
returns-then-dy c =
    move_drawn _ _ _ _ _ c.quantize-dx.ensures c.quantize-dy.ensures
    (is_hmove _ _ _ c.quantize-dy.ensures (sub-fits binary64 _ _) c.if-dy.true)
    (puts_to c.flush-f.ensures.puts refl) c.flush-f.ensures.waits c.flush-f.ensures.held (in_turn c.put_number-b.ensures.puts c.put_byte.ensures.puts) (c.put_byte.ensures.still.x ∙ c.put_number-b.ensures.still.x) (c.put_byte.ensures.still.y ∙ c.put_number-b.ensures.still.y) (c.put_byte.ensures.still.waits ∙ c.put_number-b.ensures.still.waits) (c.put_byte.ensures.still.held ∙ c.put_number-b.ensures.still.held)

pub returns-then-dx : goal.returns-then-dx
unfolding of_bits
returns-then-dx c =
    move_drawn _ _ _ _ _ c.quantize-dx.ensures c.quantize-dy.ensures
    (is_vmove _ _ _ _ c.quantize-dx.ensures c.quantize-dy.ensures (sub-fits binary64 _ _) (sub-fits binary64 _ _) c.if-dx.true c.if-dy.false)
    (puts_to c.flush-f.ensures.puts refl) c.flush-f.ensures.waits c.flush-f.ensures.held (in_turn c.put_number-b-then-dx.ensures.puts c.put_byte-then-dx.ensures.puts) (c.put_byte-then-dx.ensures.still.x ∙ c.put_number-b-then-dx.ensures.still.x) (c.put_byte-then-dx.ensures.still.y ∙ c.put_number-b-then-dx.ensures.still.y) (c.put_byte-then-dx.ensures.still.waits ∙ c.put_number-b-then-dx.ensures.still.waits) (c.put_byte-then-dx.ensures.still.held ∙ c.put_number-b-then-dx.ensures.still.held)

pub shape_of-out : goal.shape_of-out
shape_of-out c =
    c.put_byte-2.ensures.puts.same ∙ c.put_number-c.ensures.puts.same ∙ c.put_number-b-2.ensures.puts.same ∙ c.flush-f.ensures.puts.same

pub returns : goal.returns
unfolding of_bits
returns c =
    move_drawn _ _ _ _ _ c.quantize-dx.ensures c.quantize-dy.ensures
    (is_rmove _ _ _ _ c.quantize-dx.ensures c.quantize-dy.ensures (sub-fits binary64 _ _) (sub-fits binary64 _ _) c.if-dx.false c.if-dy.false)
    (puts_to c.flush-f.ensures.puts refl) c.flush-f.ensures.waits c.flush-f.ensures.held (two_numbers _ _ _ c.put_number-b-2.ensures.puts c.put_number-c.ensures.puts c.put_byte-2.ensures.puts) (c.put_byte-2.ensures.still.x ∙ c.put_number-c.ensures.still.x ∙ c.put_number-b-2.ensures.still.x) (c.put_byte-2.ensures.still.y ∙ c.put_number-c.ensures.still.y ∙ c.put_number-b-2.ensures.still.y) (c.put_byte-2.ensures.still.waits ∙ c.put_number-c.ensures.still.waits ∙ c.put_number-b-2.ensures.still.waits) (c.put_byte-2.ensures.still.held ∙ c.put_number-c.ensures.still.held ∙ c.put_number-b-2.ensures.still.held)
