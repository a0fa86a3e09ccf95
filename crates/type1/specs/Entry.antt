-- Definitions: what the entry's parts answer. Document 01, "Type 1 run", "Bytes run", "Numbers the board logs".
use Rattle.std.specs.Prelude.{ℕ, ◌≡◌, Bool, false, List, eqb, length, get_or, replicate, Float}
use Rattle.std.specs.Float.{nan}
use Rattle.bank.specs.Call.{refused_before}
use Rattle.type1.specs.declared.St.{St}
use Rattle.type1.specs.declared.Interpreted.{Interpreted}
use Rattle.outline.specs.Outline.{plus_zero, pick}

-- before the first byte, with so many bytes counted
abbrev pub zero_st : ℕ → St
zero_st n = record { operands = 0; postscript = 0; x = plus_zero; y = plus_zero; opened = false; flexing = false; points = 0; hints = 0; changed = false; last = 0; groups = 0; stems = 0; entries = 0; divided = false; ran = n }

-- what is refused before the first byte, else 0
unfoldable pub start_flow : List ℕ → List ℕ → ℕ
start_flow charstring bank = refused_before bank (length charstring)

-- the number of a flow: 0 where the bytes or the glyph end
abbrev pub number_of : ℕ → ℕ
number_of f = pick (eqb f 2) 0 f

-- a run that is not refused
abbrev pub answer_of : St → List Float → Interpreted
answer_of t cells = record { number = 0; width = get_or cells 16 nan; ran = t.ran; entries = t.entries; stems = t.stems }

-- the arrays before the run
pub record Cleared (o p c e : List Float) (a : List Bool) : Type 0 where
  pub ops : o ≡ replicate 256 plus_zero
  pub ps : p ≡ replicate 256 plus_zero
  pub cells : c ≡ replicate 17 plus_zero
  pub edges : e ≡ replicate 512 plus_zero
  pub across : a ≡ replicate 256 false
