-- Definitions: Rust's `f64::round`, `f64::floor` and `f64::abs`. A NaN and an infinity come back as they are, but that `abs` drops the sign. Document 01, "Numbers": "Rounding is half away from zero."; "Forms of the Rust that need another": `round`, `floor`.
-- What `as usize` and `as i64` give is the kit's `to_unsigned 64` and `to_signed 63`, and whether a float is finite its `finite`.
use Rattle.std.specs.Prelude.{suc, ◌+◌, ◌-◌, ◌*◌, ◌/◌, ◌^◌, true, false, pos, negsuc, Float}
use Rattle.std.specs.Float.{nan, inf, fin, Format, binary64}
use Rattle.std.specs.Float.Ieee.{round}

-- x to the nearest whole number, a tie away from zero. With no negative exponent x is whole. Otherwise x is m / 2 ^ (k + 1), and half of one is added before the quotient is cut.
unfoldable pub away : Format → Float → Float
away f nan = nan
away f (inf s) = inf s
away f (fin s m (pos k)) = fin s m (pos k)
away f (fin s m (negsuc k)) = round f s ((2 * m + 2 ^ suc k) / 2 ^ suc (suc k)) 1

-- `f64::round`
abbrev pub round_away : Float → Float
round_away x = away binary64 x

-- the largest whole number that is not above x: the quotient is cut where x is positive, and taken up where it is negative
unfoldable pub floored : Format → Float → Float
floored f nan = nan
floored f (inf s) = inf s
floored f (fin s m (pos k)) = fin s m (pos k)
floored f (fin false m (negsuc k)) = round f false (m / 2 ^ suc k) 1
floored f (fin true m (negsuc k)) = round f true ((m + (2 ^ suc k - 1)) / 2 ^ suc k) 1

-- `f64::floor`
abbrev pub round_down : Float → Float
round_down x = floored binary64 x

-- `f64::abs`
unfoldable pub abs : Float → Float
abs nan = nan
abs (inf s) = inf false
abs (fin s m e) = fin false m e
