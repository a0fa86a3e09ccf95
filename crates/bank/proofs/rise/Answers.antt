-- `bank::rise` meets its contract. Assumes nothing.
use Rattle.std.proofs.Common.{◌≡◌, ℕ, suc, ◌+◌, ◌-◌, ◌<◌, ◌≤◌, false, true, sym, ◌∙◌, arith, List, le-leb}
use Rattle.std.proofs.lemmas.Bool.{lt-leb}
use Rattle.bank.specs.Bank.{be32, rises_from}
use Rattle.bank.proofs.rise.Goals as goal

module _ (bank : List ℕ) (last offset at next n m : ℕ) (more : n ≡ suc m) (is : offset ≡ be32 bank at) where
  falls : offset < last → false ≡ rises_from bank last at n
  unfolding rises_from
  falls h = rw (more, ← is, lt-leb last offset h)

  rises : next ≡ at + 4 → last ≤ offset → rises_from bank last at n ≡ rises_from bank offset next m
  unfolding rises_from
  rises e h = rw (more, ← is, le-leb last offset h, e)

none_left : (bank : List ℕ) (last at n : ℕ) → n ≡ 0 → rises_from bank last at n ≡ true
unfolding rises_from
none_left bank last at n e = rw e

pub returns-then-offset-last : goal.returns-then-offset-last
returns-then-offset-last g c =
    falls c.args.bank.now _ _ _ 0 _ (g.row.N - (c.loop-i.i + 1)) (omega arith) c.u32_at-offset.ensures.0 c.if-offset-last.true ∙ sym c.loop-i.invariant

pub loop-i-preserved : goal.loop-i-preserved
loop-i-preserved g c =
    c.loop-i.invariant ∙ rises c.args.bank.now _ _ _ _ _ _ (omega arith) c.u32_at-offset.ensures.0 (omega arith) c.if-offset-last.false

pub returns : goal.returns
returns g c = sym (c.loop-i.invariant ∙ none_left c.args.bank.now _ _ _ (omega arith))
