use Rattle.type1.proofs.Numbers.{one_byte}
use lib.Ieee.{of_bits, of_int}
use borrow.Author.Rules.{rules}
use Rattle.type1.proofs.bytes.one_byte.Goals as goal

pub returns : goal.returns
unfolding of_bits of_int
returns c = one_byte c.args.v (search rules)
