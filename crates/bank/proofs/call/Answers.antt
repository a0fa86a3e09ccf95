-- `bank::call` meets its contract. Assumes nothing.
use Rattle.std.proofs.Common.{ℕ, ◌+◌, ◌-◌, ◌<◌, ◌≤◌, ◌≡◌, sym, ◌∙◌, arith, le-leb, Some, Ok, Err}
use Rattle.std.proofs.lemmas.Bool.{lt-leb}
use Rattle.std.specs.declared.ops.Range.{Range}
use lib.Ieee.{of_bits}
use Rattle.charstring.specs.Cipher.{max_charstring_bytes}
use Rattle.refusal.specs.declared.Refusal.TheVariants.{TooManyBytes}
use Rattle.bank.specs.Call.{counted}
use Rattle.bank.specs.Laws.{found_within, called-below, called_is}
use Rattle.bank.proofs.call.Goals as goal
use Rattle.bank.proofs.call.Goals.{then-ran-gt-MAX_CHARSTRING_BYTES-via-then-ran-gt-MAX_CHARSTRING_BYTES, then-ran-gt-MAX_CHARSTRING_BYTES-via-else-ran-gt-MAX_CHARSTRING_BYTES+then-ran-size}

-- the body's bytes are too many, or pass
module _ (n ran : ℕ) (r : Range ℕ) where
  over : max_charstring_bytes < ran → Err TooManyBytes ≡ counted n ran (Some r)
  over h = rw (lt-leb (ran + (r.end - r.start)) max_charstring_bytes (omega arith))

  large : ran ≤ max_charstring_bytes → max_charstring_bytes - ran < r.end - r.start → Err TooManyBytes ≡ counted n ran (Some r)
  large h k = rw (lt-leb (ran + (r.end - r.start)) max_charstring_bytes (omega arith))

  passes : ran ≤ max_charstring_bytes → r.end - r.start ≤ max_charstring_bytes - ran → Ok (record { index = n; ran = ran + (r.end - r.start) }) ≡ counted n ran (Some r)
  passes h k = rw (le-leb (ran + (r.end - r.start)) max_charstring_bytes (omega arith))

pub returns-in_default : goal.returns-in_default
unfolding of_bits
returns-in_default c =
    sym (called_is _ _ _ c.if-number.true _ c.to_usize-index.ensures _ (sym c.in_default.ensures))

pub overflow_sub-size : goal.overflow_sub-size
overflow_sub-size c = (found_within _ _ (sym c.in-Some.ensures)).0

pub returns-then-ran-gt-MAX_CHARSTRING_BYTES : goal.returns-then-ran-gt-MAX_CHARSTRING_BYTES
unfolding of_bits
returns-then-ran-gt-MAX_CHARSTRING_BYTES c =
    elim c.then-ran-gt-MAX_CHARSTRING_BYTES.branch [
      | then-ran-gt-MAX_CHARSTRING_BYTES-via-then-ran-gt-MAX_CHARSTRING_BYTES w ↦ over _ _ _ w.if-ran-gt-MAX_CHARSTRING_BYTES.true ∙ sym (called_is _ _ _ c.if-number.true _ c.to_usize-index.ensures _ (sym c.in-Some.ensures))
      | then-ran-gt-MAX_CHARSTRING_BYTES-via-else-ran-gt-MAX_CHARSTRING_BYTES+then-ran-size w ↦ large _ _ _ w.if-ran-gt-MAX_CHARSTRING_BYTES.false w.if-ran-size.true ∙ sym (called_is _ _ _ c.if-number.true _ c.to_usize-index.ensures _ (sym c.in-Some.ensures))
    ]

pub returns-then-number : goal.returns-then-number
unfolding of_bits
returns-then-number c =
    passes _ _ _ c.if-ran-gt-MAX_CHARSTRING_BYTES.false c.if-ran-size.false ∙ sym (called_is _ _ _ c.if-number.true _ c.to_usize-index.ensures _ (sym c.in-Some.ensures))

pub returns : goal.returns
unfolding of_bits
returns c =
    sym (called-below _ _ _ c.if-number.false)
