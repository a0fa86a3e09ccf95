-- Laws: `round_away` at numbers, by computing.
use Rattle.std.specs.Prelude.{◌≡◌, true, false, pos, negsuc, refl}
use Rattle.std.specs.Float.{fin}
use Rattle.std.specs.Float.Ieee.{round}
use Rattle.binary64.specs.Rounding.{away, round_away}

-- 2.5, -2.5, -0.3
half_up : round_away (fin false 5 (negsuc 0)) ≡ fin false 3 (pos 0)
unfolding away round
half_up = refl

half_down : round_away (fin true 5 (negsuc 0)) ≡ fin true 3 (pos 0)
unfolding away round
half_down = refl

minus-zero : round_away (fin true 5404319552844595 (negsuc 53)) ≡ fin true 0 (pos 0)
unfolding away round
minus-zero = refl

-- the value below 0.5
under_half : round_away (fin false 9007199254740991 (negsuc 53)) ≡ fin false 0 (pos 0)
unfolding away round
under_half = refl
