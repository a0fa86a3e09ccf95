-- `type1_to_type2::drawing::read_point` meets its contract.
use Rattle.type1_to_type2.proofs.Points.{no_nan-bits}
use Rattle.type1_to_type2.proofs.drawing.read_point.Goals as goal

pub float_from_bits-x : goal.float_from_bits-x
float_from_bits-x c =
    no_nan-bits _ c.requires.of_point.0.fine

pub float_from_bits-y : goal.float_from_bits-y
float_from_bits-y c =
    no_nan-bits _ c.requires.of_point.1.fine
