-- `type2::put` meets its contract.
use Rattle.std.proofs.Common.{rules}
use native.Mathlib.Omega.{arith}
use Rattle.type2.specs.Put.{copied, too_short}
use Rattle.type2.proofs.put.Goals as goal
use Rattle.type2.proofs.put.Goals.{then-out-at-via-then-out-at, then-out-at-via-else-out-at+then-out-at-2}

pub returns-then-out-at : goal.returns-then-out-at
returns-then-out-at g c = too_short _ _ g.row.N c.args.bytes (search rules) (λ l. elim c.then-out-at.branch [ then-out-at-via-then-out-at w ↦ omega (arith, l) | then-out-at-via-else-out-at+then-out-at-2 w ↦ (let q = w.if-out-at-2.true in omega (arith, q)) ])

pub returns : goal.returns
returns g c = copied _ _ g.row.N _ c.args.bytes _ c.if-out-at.false (let q = c.if-out-at-2.false in omega (arith, q)) (search rules) (omega arith) c.copy_from_slice.ensures.after
