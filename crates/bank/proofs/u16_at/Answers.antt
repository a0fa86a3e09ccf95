-- `bank::u16_at` meets its contract. Assumes nothing.
use Rattle.std.proofs.Common.{arith}
use Rattle.bank.specs.Bank.{be16}
use Rattle.bank.proofs.u16_at.Goals as goal

pub returns : goal.returns
unfolding be16
returns c = (omega (arith, c.from_be_bytes.ensures), omega arith)
