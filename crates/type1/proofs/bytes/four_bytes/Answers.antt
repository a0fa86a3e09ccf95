use native.Mathlib.Omega.{arith}
use Rattle.type1.proofs.Numbers.{small, four_above, four_below}
use borrow.Author.Rules.{rules}
use Rattle.type1.proofs.bytes.four_bytes.Goals as goal

pub int_to_float-result : goal.int_to_float-result
int_to_float-result c = small _ (omega arith)

pub int_to_float-result-else-n-lt2147483648 : goal.int_to_float-result-else-n-lt2147483648
int_to_float-result-else-n-lt2147483648 c = small _ (omega arith)

pub returns-then-n-lt2147483648 : goal.returns-then-n-lt2147483648
returns-then-n-lt2147483648 c = four_above _ _ _ _ _ _ _ _ c.wider.ensures c.wider-2.ensures c.wider-3.ensures c.wider-4.ensures (search rules)

pub returns-else-n-lt2147483648 : goal.returns-else-n-lt2147483648
returns-else-n-lt2147483648 c = four_below _ _ _ _ _ _ _ _ c.wider.ensures c.wider-2.ensures c.wider-3.ensures c.wider-4.ensures (search rules) (omega arith)
