-- Definitions: the numbers of a charstring. Document 01, "Reading"; Adobe Type 1 Font Format, section 6.2.
use Rattle.std.specs.Prelude.{ℕ, ◌+◌, ◌-◌, ◌*◌, cond, List, [], ◌∷◌, ltb, eqb, ℤ, pos, Float}
use Rattle.std.proofs.Math.IntN.{sub_ℕ}
use Rattle.std.specs.Float.{binary64}
use Rattle.std.specs.Float.Ieee.{of_int}
use Rattle.type1.specs.Operator.{Operator, of_byte, of_escape}
use Rattle.outline.specs.Outline.{pick}

-- 32 to 246: v - 139
abbrev pub one_byte : ℕ → ℤ
one_byte v = sub_ℕ v 139

-- 247 to 250: (v - 247) * 256 + w + 108
abbrev pub two_bytes : ℕ → ℕ → ℤ
two_bytes v w = pos ((v - 247) * 256 + w + 108)

-- 251 to 254: -(v - 251) * 256 - w - 108
abbrev pub two_bytes_below : ℕ → ℕ → ℤ
two_bytes_below v w = sub_ℕ 0 ((v - 251) * 256 + w + 108)

-- 255: the four bytes that follow, a two's complement number
abbrev pub four_bytes : ℕ → ℕ → ℕ → ℕ → ℤ
four_bytes a b c d = let n = ((a * 256 + b) * 256 + c) * 256 + d in sub_ℕ n (cond (ltb n 2147483648) 0 4294967296)

-- what stands at a place: a number or an operator, with the bytes after its first that it takes, or what is cut by the end
pub data Token : Type 0 where
  cut : Token
  number : ℕ → ℤ → Token
  operator : ℕ → Operator → Token

abbrev pub token_two : ℕ → List ℕ → Token
token_two v [] = cut
token_two v (w ∷ l) = number 1 (cond (ltb v 251) (two_bytes v w) (two_bytes_below v w))

abbrev pub token_five : List ℕ → Token
token_five [] = cut
token_five (a ∷ []) = cut
token_five (a ∷ b ∷ []) = cut
token_five (a ∷ b ∷ c ∷ []) = cut
token_five (a ∷ b ∷ c ∷ d ∷ l) = number 4 (four_bytes a b c d)

abbrev pub token_escape : List ℕ → Token
token_escape [] = cut
token_escape (e ∷ l) = operator 1 (of_escape e)

-- the byte v, and the bytes l after it
unfoldable pub token : ℕ → List ℕ → Token
token v l =
    pick (ltb v 32) (pick (eqb v 12) (token_escape l) (operator 0 (of_byte v)))
    (pick (ltb v 247) (number 0 (one_byte v))
    (pick (ltb v 255) (token_two v l) (token_five l)))

-- a number as a double
abbrev pub double : ℤ → Float
double z = of_int binary64 z
