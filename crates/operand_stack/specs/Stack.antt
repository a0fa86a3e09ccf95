-- Definitions: the operand stack. Document 01, number 15; document 02, (c): "It refuses with 22 the 25th operand, after 5 for the same number, or 11 for the same `pop`".
use Rattle.std.specs.Prelude.{ℕ, Bool, eqb}
use Rattle.hints.specs.Hints.{at_most}
use Rattle.outline.specs.Outline.{pick}

-- how many operands fit, T1's own 24 in the strict reading
abbrev pub depth_of : Bool → ℕ
depth_of strict = pick strict 24 256

-- what the next one is refused with
abbrev pub overflow_of : Bool → ℕ
overflow_of strict = pick strict 22 15

-- what so many are refused with, or 0
abbrev pub operand_refusal : Bool → ℕ → ℕ
operand_refusal strict = at_most (depth_of strict) (overflow_of strict)

-- a number where something is refused, or 0
abbrev pub number_if : Bool → ℕ → ℕ
number_if refused n = pick refused n 0

-- the first of two, of which each may be 0
abbrev pub first_refusal : ℕ → ℕ → ℕ
first_refusal a b = pick (eqb a 0) b a
