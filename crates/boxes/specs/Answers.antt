-- Definitions: what is answered of a program and a window, and its number and words. Document 02, (a): "Its one refusal is 21, for bytes on which the machine faults and for a glyph that draws no point."
use Rattle.std.specs.Prelude.{ℕ, List, [], ◌∷◌, ℤ, pos, Result, Ok, Err}
use Rattle.std.proofs.Math.Option.{Option, none, some}
use Rattle.refusal.specs.declared.Refusal.{Refusal}
use Rattle.refusal.specs.declared.Refusal.TheVariants.{NothingDrawn}
use Rattle.refusal.specs.Refusal.{number_in}
use Rattle.renderer.specs.Machine.{machine}
use Rattle.boxes.specs.Box.{box_of}
use Rattle.boxes.specs.Window.{verdict_of}
use Rattle.boxes.specs.declared.Bounds.{Bounds}
use Rattle.boxes.specs.declared.Verdict.{Verdict}
use Rattle.boxes.specs.declared.Verdict.TheVariants.{Within, Crossing, Outside}
use Rattle.boxes.specs.declared.Boxed.{Boxed}

abbrev pub Answer : Type 0
Answer = Result Boxed Refusal

abbrev pub refused : Answer
refused = Err NothingDrawn

abbrev pub boxed : Bounds → Verdict → Answer
boxed b v = Ok (record { bounds = b; verdict = v })

abbrev pub answer_of : Option Bounds → Bounds → Answer
answer_of none w = refused
answer_of (some b) w = boxed b (verdict_of b w)

-- the answer of a program and a window
abbrev pub answer : List ℕ → Bounds → Answer
answer program w = answer_of (box_of (machine program)) w

-- the number
abbrev pub number_of : Answer → ℕ
number_of a = number_in a

-- least x, least y, greatest x, greatest y
abbrev pub four_words : Bounds → List ℤ
four_words b = b.left ∷ b.bottom ∷ b.right ∷ b.top ∷ []

-- the words of the box; zeros on a refusal
abbrev pub box_words : Answer → List ℤ
box_words (Err r) = pos 0 ∷ pos 0 ∷ pos 0 ∷ pos 0 ∷ []
box_words (Ok a) = four_words a.bounds

-- the word of a verdict: 1 within, 2 crossing, 3 outside
abbrev pub word_of : Verdict → ℕ
word_of Within = 1
word_of Crossing = 2
word_of Outside = 3

-- the word of the answer's verdict; 0 on a refusal
abbrev pub verdict_word : Answer → ℕ
verdict_word (Err r) = 0
verdict_word (Ok a) = word_of a.verdict
