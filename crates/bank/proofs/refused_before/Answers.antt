-- `bank::refused_before` meets its contract. Assumes nothing.
use Rattle.std.proofs.Common.{ℕ, ◌<◌, ◌≤◌, ◌≡◌, sym, ◌∙◌, true, false, List, le-leb}
use Rattle.std.proofs.lemmas.Bool.{lt-leb}
use Rattle.charstring.specs.Cipher.{max_charstring_bytes}
use Rattle.bank.specs.Bank.{valid}
use Rattle.bank.specs.Call.{refused_before}
use Rattle.bank.proofs.refused_before.Goals as goal

module _ (bank : List ℕ) (size : ℕ) where
  layout : valid bank ≡ false → 2 ≡ refused_before bank size
  unfolding refused_before
  layout e = rw e

  over : valid bank ≡ true → max_charstring_bytes < size → 3 ≡ refused_before bank size
  unfolding refused_before
  over e h = rw (e, lt-leb size max_charstring_bytes h)

  passes : valid bank ≡ true → size ≤ max_charstring_bytes → 0 ≡ refused_before bank size
  unfolding refused_before
  passes e h = rw (e, le-leb size max_charstring_bytes h)

pub returns-then-not-is_valid : goal.returns-then-not-is_valid
returns-then-not-is_valid c =
    layout _ _ (sym c.is_valid.ensures ∙ c.if-not-is_valid.true)

pub returns-then-size-gt-MAX_CHARSTRING_BYTES : goal.returns-then-size-gt-MAX_CHARSTRING_BYTES
returns-then-size-gt-MAX_CHARSTRING_BYTES c =
    over _ _ (sym c.is_valid.ensures ∙ c.if-not-is_valid.false) c.if-size-gt-MAX_CHARSTRING_BYTES.true

pub returns : goal.returns
returns c =
    passes _ _ (sym c.is_valid.ensures ∙ c.if-not-is_valid.false) c.if-size-gt-MAX_CHARSTRING_BYTES.false
