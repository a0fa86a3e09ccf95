use Rattle.type1_to_type2.proofs.Coordinates.{pattern_good}
use Rattle.type1_to_type2.proofs.checking.check_point.Goals as goal

pub float_from_bits-x : goal.float_from_bits-x
float_from_bits-x c =
    pattern_good _ c.requires.good.0

pub float_from_bits-y : goal.float_from_bits-y
float_from_bits-y c =
    pattern_good _ c.requires.good.1
