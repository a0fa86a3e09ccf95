-- Definitions: `round10`, `transform_point` and `transform_delta` of stet's geometry.rs, which document 01, "What is taken from stet", takes and "Folding" uses. Each operation rounds once, in the Rust's order.
use Rattle.std.specs.Prelude.{pos, false, Float}
use Rattle.std.specs.Float.{fin, binary64}
use Rattle.std.specs.Float.Ieee.{add, mul, div}
use Rattle.binary64.specs.Rounding.{round_away}
use Rattle.geometry.specs.declared.Point.{Point}
use Rattle.geometry.specs.declared.Matrix.{Matrix}

-- 1e10, which is 5 ^ 10 * 2 ^ 10
abbrev pub ten_billion : Float
ten_billion = fin false 9765625 (pos 10)

-- v to 10 decimal places
unfoldable pub rounded10 : Float → Float
rounded10 v = div binary64 (round_away (mul binary64 v ten_billion)) ten_billion

abbrev pub identity : Matrix
identity = record { a = fin false 1 (pos 0); b = fin false 0 (pos 0); c = fin false 0 (pos 0); d = fin false 1 (pos 0); tx = fin false 0 (pos 0); ty = fin false 0 (pos 0) }

-- p * x + q * y, from left to right
abbrev pub combined : Float → Float → Float → Float → Float
combined p x q y = add binary64 (mul binary64 p x) (mul binary64 q y)

unfoldable pub point : Matrix → Float → Float → Point
point m x y = record { x = rounded10 (add binary64 (combined m.a x m.c y) m.tx); y = rounded10 (add binary64 (combined m.b x m.d y) m.ty) }

unfoldable pub delta : Matrix → Float → Float → Point
delta m dx dy = record { x = rounded10 (combined m.a dx m.c dy); y = rounded10 (combined m.b dx m.d dy) }
