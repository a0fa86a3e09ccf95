-- `compare::from_pattern` is safe: `f64::from_bits` is reached only where the pattern, its sign dropped, is at most the infinity's.
use lib.Ieee.Bits.{nan_bits_above}
use borrow.Author.Tests.{le-ltb, lt-ltb}
use mathlib.Core.Path.{sym, ◌∙◌}
use lib.Ieee.{binary64, of_bits, div}
use Rattle.compare.proofs.Alike.{nan_of}
use Rattle.compare.proofs.from_pattern.Goals as goal

pub float_from_bits-result : goal.float_from_bits-result
float_from_bits-result c = rw (nan_bits_above, le-ltb _ _ c.if-bits-gt-INFINITE.false) tt

pub returns-then-bits-gt-INFINITE : goal.returns-then-bits-gt-INFINITE
unfolding of_bits div
returns-then-bits-gt-INFINITE c = sym (nan_of c.args.bits (nan_bits_above binary64 c.args.bits ∙ lt-ltb _ _ c.if-bits-gt-INFINITE.true))
