-- `compare::zero_or` meets its contract.
use mathlib.Core.Path.{sym}
use native.Mathlib.Omega.{arith}
use lib.ListN.{replicate, length-replicate, get_or-replicate, get_or-eq_default}
use lib.Ieee.{of_bits}
use Rattle.binary64.specs.Round.{plus_zero}
use Rattle.compare.proofs.zero_or.Goals as goal

pub returns-then-at-n : goal.returns-then-at-n
unfolding of_bits
returns-then-at-n c =
    sym (get_or-replicate c.args.n c.args.at plus_zero c.args.rest c.if-at-n.true)

pub returns-else-at-n : goal.returns-else-at-n
returns-else-at-n c =
    let e = length-replicate c.args.n plus_zero in
    sym (get_or-eq_default (replicate c.args.n plus_zero) c.args.rest (omega arith))
