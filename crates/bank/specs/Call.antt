-- Definitions: calling a subroutine. Document 01, "Reading" and "Bytes run"; Adobe Type 1 Font Format, 6.4 (callsubr).
use Rattle.std.specs.Prelude.{ℕ, ◌+◌, ◌-◌, false, cond, List, leb, pos, Float, Option, Some, None, Result, Ok, Err}
use Rattle.std.specs.declared.ops.Range.{Range}
use Rattle.std.specs.Float.{fin}
use Rattle.std.specs.Float.Ieee.{le, to_unsigned}
use Rattle.refusal.specs.declared.Refusal.{Refusal}
use Rattle.refusal.specs.declared.Refusal.TheVariants.{TooManyBytes, NoSuchSubroutine}
use Rattle.charstring.specs.Cipher.{max_charstring_bytes}
use Rattle.bank.specs.declared.Callee.{Callee}
use Rattle.bank.specs.Bank.{valid, found}

-- "depth 10 runs, 11 is refused"
abbrev pub max_depth : ℕ
max_depth = 10

-- the body n that was found: its encrypted bytes are counted, and 1,048,576 pass (3); there may be none (8)
abbrev pub counted : ℕ → ℕ → Option (Range ℕ) → Result Callee Refusal
counted n ran (Some r) = cond (leb (ran + (r.end - r.start)) max_charstring_bytes) (Ok (record { index = n; ran = ran + (r.end - r.start) })) (Err TooManyBytes)
counted n ran None = Err NoSuchSubroutine

-- the body that a subroutine number names, after so many bytes run: the number truncates, and below 0 there is none (8)
unfoldable pub called : List ℕ → Float → ℕ → Result Callee Refusal
called bank v ran = cond (le (fin false 0 (pos 0)) v) (counted (to_unsigned 64 v) ran (found (to_unsigned 64 v) bank)) (Err NoSuchSubroutine)

-- before the first byte of a charstring of so many bytes: the bank breaks its layout (2), then the bytes pass 1,048,576 (3). Document 01, "Numbers the board logs"
unfoldable pub refused_before : List ℕ → ℕ → ℕ
refused_before bank size = cond (valid bank) (cond (leb size max_charstring_bytes) 0 3) 2
