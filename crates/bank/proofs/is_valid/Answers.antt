-- `bank::is_valid` meets its contract. Assumes nothing.
use Rattle.std.proofs.Common.{arith, ◌≡◌, ℕ, zero, suc, ◌+◌, ◌-◌, ◌*◌, ◌<◌, ◌≤◌, Bool, true, false, nat_eq, List, length, refl, sym, ◌∙◌, ap, add-one, le-leb, eq-eqb, true≢false}
use lib.Dec.{leb}
use Rattle.bank.specs.Bank.{be32, count, table_end, offset, rises, rises_from, Valid, valid}
use Rattle.bank.specs.Laws.{both, not_valid, offset-suc}
use Rattle.std.proofs.lemmas.Bool.{leb-true}
use Rattle.bank.proofs.is_valid.Invariants.{Checked}
use Rattle.bank.proofs.is_valid.Goals as goal
use Rattle.bank.proofs.is_valid.Goals.{then-bank-table-via-then-bank-table, then-bank-table-via-else-bank-table+then-u32_at-ne0}

turn :
    (bank : List ℕ) (n before i next : ℕ) → i < n → Checked bank n before i → next ≡ be32 bank (6 + 4 * i) → before ≤ next
    → Checked bank n next (i + 1)
turn bank n before i next h inv e up =
    let o : offset bank i ≤ offset bank (suc i) = omega (arith, offset-suc bank i) in
    (omega arith, rw (add-one i) (e ∙ sym (offset-suc bank i)), rw (add-one i, inv.2, le-leb _ _ o))

ended :
    (bank : List ℕ) (n before i : ℕ) → n ≡ count bank → 6 + 4 * n ≤ length bank → offset bank 0 ≡ 0 → n ≤ i
    → Checked bank n before i → nat_eq before (length bank - (6 + 4 * n)) ≡ valid bank
unfolding valid
ended bank n before i is table first all inv =
    let p : i ≡ count bank = omega arith in
    let q : 6 + 4 * n ≡ table_end bank = omega arith in
    let r : rises bank (count bank) ≡ true = rw p at inv.2 in
    let l : before ≡ offset bank (count bank) = rw p at inv.1 in
    rw (le-leb (table_end bank) (length bank) (omega arith), eq-eqb _ _ first, r, l, q)

-- ---- k offsets after offset i, the first of them at a place
module _ (bank : List ℕ) (n : ℕ) where
  turns : (k before i at : ℕ) → i + k ≤ n → Checked bank n before i → at ≡ 6 + 4 * i → rises_from bank before at k ≡ true → Checked bank n (offset bank (i + k)) (i + k)
  unfolding rises_from
  turns zero before i at h inv e t = let z : i + 0 ≡ i = omega arith in rw z (inv.0, refl, inv.2)
  turns (suc k) before i at h inv e t =
      let p = both (leb before (be32 bank at)) (rises_from bank (be32 bank at) (at + 4) k) t in
      let one = turn bank n before i (be32 bank at) (omega arith) inv (ap (be32 bank) e) (leb-true _ _ p.0) in
      let all = turns k (be32 bank at) (i + 1) (at + 4) (omega arith) one (omega arith) p.1 in
      let z : i + 1 + k ≡ i + suc k = omega arith in
      rw z at all

  -- the last of them was read
  turned : (k before i at j next place : ℕ) (b : Bool) → i + k ≤ n → Checked bank n before i → at ≡ 6 + 4 * i → b ≡ rises_from bank before at k → b ≡ true → j ≡ i + k → next ≡ be32 bank place → place ≡ 2 + 4 * j → Checked bank n next j
  turned k before i at j next place b h inv e eb t ej en ep =
      let all = turns k before i at h inv e (sym eb ∙ t) in
      (omega arith, en ∙ ap (be32 bank) ep, rw ej all.2)

  -- in a valid bank they rise
  all-rise : Valid bank → n ≡ count bank → (k before i at : ℕ) → i + k ≤ n → before ≡ offset bank i → at ≡ 6 + 4 * i → rises_from bank before at k ≡ true
  unfolding rises_from
  all-rise v en zero before i at h eb e = refl
  all-rise v en (suc k) before i at h eb e =
      let o : offset bank (suc i) ≡ be32 bank at = ap (be32 bank) (omega arith) in
      let up : before ≤ be32 bank at = omega (arith, v.rising i (omega (arith, en)), o, eb) in
      let rest = all-rise v en k (be32 bank at) (i + 1) (at + 4) (omega arith) (sym o ∙ ap (offset bank) (sym (add-one i))) (omega arith) in
      rw (le-leb before (be32 bank at) up) rest

  -- so a bank in which they do not is not valid
  refuted : n ≡ count bank → (k before i at : ℕ) (b : Bool) → i + k ≤ n → Checked bank n before i → at ≡ 6 + 4 * i → b ≡ rises_from bank before at k → b ≡ false → false ≡ valid bank
  refuted en k before i at b h inv e eb f = sym (not_valid bank (λ v. true≢false (sym (all-rise v en k before i at h inv.1 e) ∙ sym eb ∙ f)))

pub returns-then-bank-lt6 : goal.returns-then-bank-lt6
returns-then-bank-lt6 c =
    sym (not_valid _ (λ v. omega (arith, v.table, c.if-bank-lt6.true)))

pub returns-then-bank-table : goal.returns-then-bank-table
returns-then-bank-table c =
    elim c.then-bank-table.branch [
      | then-bank-table-via-then-bank-table w ↦ sym (not_valid _ (λ v. omega (arith, v.table, w.if-bank-table.true, c.u16_at-count.ensures.0)))
      | then-bank-table-via-else-bank-table+then-u32_at-ne0 w ↦ sym (not_valid _ (λ v. w.if-u32_at-ne0.true (w.u32_at.ensures.0 ∙ v.first)))
    ]

pub returns-then-not-rise : goal.returns-then-not-rise
returns-then-not-rise c =
    refuted _ _ c.u16_at-count.ensures.0 16 _ _ _ _ (omega arith) c.loop-block.invariant (omega arith) c.rise.ensures c.if-not-rise.true

pub loop-block-preserved : goal.loop-block-preserved
loop-block-preserved c =
    turned _ _ 16 _ _ _ _ _ _ _ (omega arith) c.loop-block.invariant (omega arith) c.rise.ensures c.if-not-rise.false (omega arith) c.u32_at-before.ensures.0 (omega arith)

pub returns-then-not-rise-2 : goal.returns-then-not-rise-2
returns-then-not-rise-2 c =
    refuted _ _ c.u16_at-count.ensures.0 1 _ _ _ _ (omega arith) c.loop-i.invariant refl c.rise-in-loop-i.ensures c.if-not-rise-2.true

pub loop-i-preserved : goal.loop-i-preserved
loop-i-preserved c =
    turned _ _ 1 _ _ _ _ _ _ _ (omega arith) c.loop-i.invariant refl c.rise-in-loop-i.ensures c.if-not-rise-2.false refl c.u32_at-before-in-loop-i.ensures.0 (omega arith)

pub returns : goal.returns
returns c =
    ended _ _ _ _ c.u16_at-count.ensures.0 c.if-bank-table.false (sym c.u32_at.ensures.0 ∙ c.if-u32_at-ne0.false) (omega arith) c.loop-i.invariant
