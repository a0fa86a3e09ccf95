-- `type1_to_type2::declaring::begin_stem` meets its contract.
use native.Mathlib.Omega.{arith}
use lib.Ieee.{of_bits}
use Rattle.type1_to_type2.proofs.StemTables.{next-operator}
use Rattle.type1_to_type2.proofs.declaring.begin_stem.Goals as goal

pub returns : goal.returns
unfolding of_bits
returns c =
    record { then = next-operator _ c.args.s c.if-s-ne0.false c.put_byte.ensures.puts; still = c.put_byte.ensures.still; some = omega arith; few = λ h. omega arith; same = c.put_byte.ensures.puts.same }
