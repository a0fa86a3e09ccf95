-- Definitions: what finishing answers and leaves in the output. Document 01, "Numbers the board logs", "What each entry is held to", a.
use Rattle.std.specs.Prelude.{ℕ, ◌-◌, ◌≡◌, ◌≤◌, List, [], ◌++◌, length, take, drop, replicate, Result, Ok, Err}
use Rattle.refusal.specs.declared.Refusal.{Refusal}
use Rattle.refusal.specs.Refusal.{number_of, number_in}
use Rattle.type1_to_type2.specs.Writing.{Written, refused, wrote}
use Rattle.type1_to_type2.specs.Convert as Convert
use Rattle.type1_to_type2.specs.Convert.{Conversion}

-- the words of finishing's answer: the number, 0 if none, and the charstring's length, 0 on a refusal
pub record Finished : Type 0 where
  pub number : ℕ
  pub len : ℕ

abbrev pub finished_of : Result ℕ Refusal → Finished
finished_of (Ok n) = record { number = 0; len = n }
finished_of (Err r) = record { number = number_of r; len = 0 }

abbrev pub finished_answer : Written → Finished
finished_answer (refused n) = record { number = n; len = 0 }
finished_answer (wrote b) = record { number = 0; len = length b }

-- the charstring, then zeros, in an output of so many bytes
abbrev pub finished_output : ℕ → Written → List ℕ
finished_output room (refused n) = replicate room 0
finished_output room (wrote b) = b ++ replicate (room - length b) 0

-- the bytes that were written: none on a refusal
abbrev pub bytes_of : Written → List ℕ
bytes_of (refused n) = []
bytes_of (wrote b) = b

-- the first bytes of the output are what was written, or it was refused; the output keeps its length
pub record Wrote (room : ℕ) (x : Written) (r : Result ℕ Refusal) (out : List ℕ) : Type 0 where
  pub result : finished_of r ≡ finished_answer x
  pub bytes : (n : ℕ) → r ≡ Ok n → (n ≤ room) × (take n out ≡ bytes_of x)
  pub same : length out ≡ room

-- the part of so many bytes at the front of the output: it is what was written, and after it stand zeros
pub record Front (x : Written) (len : ℕ) (out part : List ℕ) : Type 0 where
  pub bytes : part ≡ bytes_of x
  pub zeros : drop len out ≡ replicate (length out - len) 0

-- ---- what converting wrote
abbrev pub written_by : Conversion → Written
written_by (Convert.refused n) = refused n
written_by (Convert.converted g) = wrote g.program
