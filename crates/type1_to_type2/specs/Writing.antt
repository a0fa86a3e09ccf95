-- Definitions: writing in byte order. Document 01, "Numbers the board logs": 13 and 18, "writing in byte order", "a number's range before its space".
use Rattle.std.specs.Prelude.{ℕ, ◌-◌, cond, List, [], ◌∷◌, ◌++◌, length, leb, ℤ}
use Rattle.type2.specs.Number.{number_bytes, in_range}
use Rattle.type2.specs.Instruction.{Instr}

pub data Written : Type 0 where
  refused : ℕ → Written
  wrote : List ℕ → Written

abbrev pub then_write : Written → (List ℕ → Written) → Written
then_write (refused n) f = refused n
then_write (wrote b) f = f b

-- bytes, into an output with so much room left, and then the rest
unfoldable pub put : ℕ → List ℕ → (ℕ → Written) → Written
put room b f = cond (leb (length b) room) (then_write (f (room - length b)) (λ c. wrote (b ++ c))) (refused 18)

unfoldable pub put_numbers : List ℤ → ℕ → (ℕ → Written) → Written
put_numbers [] room f = f room
put_numbers (u ∷ l) room f = cond (in_range u) (put room (number_bytes u) (λ left. put_numbers l left f)) (refused 13)

unfoldable pub write : List Instr → ℕ → Written
write [] room = wrote []
write (i ∷ is) room = put_numbers i.operands room (λ left. put left i.code (write is))
