-- Definitions: what callothersubr takes and hands back, when a flex is drawn, and when setcurrentpoint is a move. Document 01, "Reading" and "OtherSubrs"; Adobe Type 1 Font Format, chapters 6 and 8.
use Rattle.std.specs.Prelude.{ℕ, ◌+◌, ◌-◌, Bool, false, not, cond, ◌&&◌, List, reverse, eqb, leb, pos, length, Float, Result, Ok, Err}
use Rattle.std.proofs.Math.Seq.{paste}
use Rattle.std.specs.Float.{fin}
use Rattle.std.specs.Float.Ieee.{le, to_unsigned}
use Rattle.refusal.specs.declared.Refusal.{Refusal}
use Rattle.refusal.specs.declared.Refusal.TheVariants.{MissingOperands}

-- of so many operands held, the upper two are the argument count and the number: "An argument count truncates; below 0, or above the operands left, it is refused with 7"
abbrev pub may_take : ℕ → Float → Bool
may_take held v = leb 2 held && (le (fin false 0 (pos 0)) v && leb (to_unsigned 64 v) (held - 2))

unfoldable pub taken : ℕ → Float → Result ℕ Refusal
taken held v = cond (may_take held v) (Ok (to_unsigned 64 v)) (Err MissingOperands)

-- so many arguments more on a PostScript stack of so many numbers: over 256 is refused with 15
abbrev pub hand_number : ℕ → ℕ → ℕ
hand_number held n = cond (leb (held + n) 256) 0 15

-- "hands its arguments back, the first popped first": they lie on the stack in the other order
unfoldable pub handed_back : List Float → ℕ → List Float → List Float
handed_back args held stack = cond (leb (held + length args) 256) (paste stack held (reverse args) (length args)) stack

-- "0 needs just seven points", of a flex that was started
abbrev pub whole_flex : Bool → ℕ → Bool
whole_flex flexing points = flexing && eqb points 7

-- "setcurrentpoint to another point is a move only if a subpath is open and no flex runs"
abbrev pub is_move : Bool → Bool → Bool
is_move opened flexing = opened && not flexing
