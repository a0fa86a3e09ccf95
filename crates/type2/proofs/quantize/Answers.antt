-- `type2::quantize` meets its contract: each arm is an arm of the definition.
use lib.Ieee.{of_bits}
use Rattle.type2.proofs.QuantizeLaws.{quantized-first, quantized-second}
use Rattle.type2.proofs.quantize.Goals as goal

pub returns-then-abs : goal.returns-then-abs
unfolding of_bits
returns-then-abs c = quantized-first _ _ _ c.nearest-r.ensures c.abs.ensures c.if-abs.true

pub returns-else-abs : goal.returns-else-abs
unfolding of_bits
returns-else-abs c = quantized-second _ _ _ _ c.nearest-r.ensures c.abs.ensures c.if-abs.false c.nearest.ensures
