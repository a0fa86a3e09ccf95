use native.Mathlib.Omega.{arith}
use lib.Ieee.{of_bits, of_int}
use Rattle.type1.proofs.Numbers.{small, two_above, two_under}
use borrow.Author.Rules.{rules}
use Rattle.type1.proofs.bytes.two_bytes.Goals as goal
use Rattle.type1.proofs.bytes.two_bytes.Goals.{then-v-lt251, else-v-lt251}

pub int_to_float-result : goal.int_to_float-result
int_to_float-result c =
    small _ (elim c.if-v-lt251.branch [ then-v-lt251 w ↦ omega arith | else-v-lt251 w ↦ omega arith ])

pub returns : goal.returns
unfolding of_bits of_int
returns c =
    elim c.if-v-lt251.branch [
      | then-v-lt251 w ↦ two_above _ _ c.args.v c.args.w _ c.wider.ensures c.wider-2.ensures (search rules) (search rules) (search rules) w.if-v-lt251.true w.raised-is
      | else-v-lt251 w ↦ two_under _ _ c.args.v c.args.w _ c.wider.ensures c.wider-2.ensures (search rules) (search rules) (search rules) w.if-v-lt251.false w.raised-is
    ]
