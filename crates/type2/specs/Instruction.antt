-- Definitions: an instruction of a Type 2 program, and its bytes. TN#5177, section 3: the operands, then the operator.
use Rattle.std.specs.Prelude.{ℕ, zero, suc, ◌+◌, ◌*◌, ◌/◌, ◌^◌, Bool, true, false, ◌&&◌, cond, List, [], ◌∷◌, ◌++◌, length, take, drop, replicate, eqb, ℤ}
use Rattle.type2.specs.Number.{zp, zm, number_bytes, in_range}

-- its operands, in whole 1/65536, and the bytes after them: the operator, and a mask's bytes
pub record Instr : Type 0 where
  pub operands : List ℤ
  pub code : List ℕ

abbrev pub instr : List ℤ → List ℕ → Instr
instr l c = record { operands = l; code = c }

unfoldable pub numbers : List ℤ → List ℕ
numbers [] = []
numbers (u ∷ l) = number_bytes u ++ numbers l

unfoldable pub bytes : List Instr → List ℕ
bytes [] = []
bytes (i ∷ is) = numbers i.operands ++ (i.code ++ bytes is)

-- every operand is -32768 to below 32768: document 01, number 13
unfoldable pub fine : List ℤ → Bool
fine [] = true
fine (u ∷ l) = in_range u && fine l

unfoldable pub all_fine : List Instr → Bool
all_fine [] = true
all_fine (i ∷ is) = fine i.operands && all_fine is

-- ---- as in the Rust, a move with a delta of 0 has an operator of its own: hmoveto (22), vmoveto (4), else rmoveto (21)
abbrev pub is_zero : ℤ → Bool
is_zero u = eqb (zp u + zm u) 0

abbrev pub move_instr : ℤ → ℤ → Instr
move_instr a b = cond (is_zero b) (instr (a ∷ []) (22 ∷ [])) (cond (is_zero a) (instr (b ∷ []) (4 ∷ [])) (instr (a ∷ b ∷ []) (21 ∷ [])))

-- ---- a mask's bytes. Document 01, "Stems and masks": "first stem is the highest bit". Bits that no stem has are 0.
abbrev pub bit : Bool → ℕ
bit true = 1
bit false = 0

unfoldable pub value : List Bool → ℕ
value [] = 0
value (b ∷ l) = bit b * 2 ^ length l + value l

-- k bytes: eight bits each, and 0 where the bits have run out
unfoldable pub packed : ℕ → List Bool → List ℕ
packed zero l = []
packed (suc k) l = value (take 8 (l ++ replicate 8 false)) ∷ packed k (drop 8 l)

unfoldable pub mask_bytes : List Bool → List ℕ
mask_bytes l = packed ((length l + 7) / 8) l
