-- `bank::u32_at` meets its contract. Assumes nothing.
use Rattle.std.proofs.Common.{arith, ap, ◌≡◌, ◌+◌, get_or}
use Rattle.bank.specs.Bank.{be16, be32}
use Rattle.bank.proofs.u32_at.Goals as goal

pub returns : goal.returns
unfolding be16 be32
returns c =
    let e : c.args.at + 2 + 1 ≡ c.args.at + 3 = omega arith in
    (omega (arith, c.from_be_bytes.ensures, ap (λ i. get_or c.args.s.now i 0) e), omega arith)
