-- `bank::find` meets its contract. Assumes nothing.
use Rattle.std.proofs.Common.{ℕ, ◌+◌, ◌*◌, ◌<◌, ◌≤◌, ◌≡◌, sym, arith, List, length, Some}
use Rattle.bank.specs.Bank.{be32, count, offset, body_start, body_end, found}
use Rattle.bank.specs.Laws.{offset-suc, found_at, found_not}
use Rattle.bank.proofs.find.Goals as goal
use Rattle.bank.proofs.find.Goals.{then-count-n-via-then-count-n, then-count-n-via-else-count-n+then-bank-table, then-to-from-via-then-to-from, then-to-from-via-else-to-from+then-bank-table-2}

at_place :
    (bank : List ℕ) (n t from to : ℕ) → t ≡ count bank → from ≡ offset bank n → to ≡ be32 bank (6 + 4 * n)
    → n < t → from ≤ to → 6 + 4 * t + to ≤ length bank → Some (record { start = 6 + 4 * t + from; end = 6 + 4 * t + to }) ≡ found n bank
at_place bank n t from to ct cf ce below order last =
    let e = offset-suc bank n in
    let p : 6 + 4 * t + from ≡ body_start n bank = omega arith in
    let q : 6 + 4 * t + to ≡ body_end n bank = omega arith in
    rw (p, q) (sym (found_at bank n (record { below = omega arith; order = omega arith; end = omega arith })))

pub returns-then-bank-lt6 : goal.returns-then-bank-lt6
returns-then-bank-lt6 c =
    sym (found_not _ _ (λ w. omega (arith, w.end, c.if-bank-lt6.true)))

pub returns-then-count-n : goal.returns-then-count-n
returns-then-count-n c =
    elim c.then-count-n.branch [
      | then-count-n-via-then-count-n w ↦ sym (found_not _ _ (λ v. omega (arith, v.below, w.if-count-n.true, c.u16_at-count.ensures.0)))
      | then-count-n-via-else-count-n+then-bank-table w ↦ sym (found_not _ _ (λ v. omega (arith, v.end, w.if-bank-table.true, c.u16_at-count.ensures.0)))
    ]

pub returns-then-to-from : goal.returns-then-to-from
returns-then-to-from c =
    let e = offset-suc c.args.bank.now c.args.n in
    elim c.then-to-from.branch [
      | then-to-from-via-then-to-from w ↦ sym (found_not _ _ (λ v. omega (arith, v.order, e, w.if-to-from.true, c.u32_at-from.ensures.0, c.u32_at-to.ensures.0)))
      | then-to-from-via-else-to-from+then-bank-table-2 w ↦ sym (found_not _ _ (λ v. omega (arith, v.end, e, w.if-bank-table-2.true, c.u16_at-count.ensures.0, c.u32_at-to.ensures.0)))
    ]

pub returns : goal.returns
returns c =
    at_place _ _ _ _ _ c.u16_at-count.ensures.0 c.u32_at-from.ensures.0 c.u32_at-to.ensures.0 c.if-count-n.false c.if-to-from.false c.if-bank-table-2.false
