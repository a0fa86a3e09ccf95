-- Definitions: what the C interface reads and writes: how charstrings are read, a matrix of six entries, the words of each answer. Document 01, "Numbers the board logs": "An answer is the number (0 if none), program length, width and count". Document 02, (a): the box, the window and the verdict; (c): the strict reading.
use Rattle.std.specs.Prelude.{ℕ, ◌%◌, ◌≡◌, Result, Ok, Err, List, [], ◌∷◌, ℤ, pos, get_or, eqb, Float}
use Rattle.std.specs.Float.{nan, binary64}
use Rattle.std.specs.Float.Ieee.{to_bits}
use Rattle.refusal.specs.declared.Refusal.{Refusal}
use Rattle.refusal.specs.Refusal as Refusals
use Rattle.geometry.specs.declared.Matrix.{Matrix}
use Rattle.outline.specs.declared.Stem.{Stem}
use Rattle.type1.specs.declared.Reading.{Reading}
use Rattle.type1.specs.Interpret.{Source}
use Rattle.type1_to_type2.specs.declared.Type2Glyph.{Type2Glyph}
use Rattle.type1_to_type2.specs.FinishAnswer.{Finished}
use Rattle.type1_to_type2.specs.Convert.{Rooms, convert, answer}
use Rattle.type1_to_type2.specs.Entry.{ConvertsFrom}
use Rattle.type2.specs.declared.Widths.{Widths}
use Rattle.agreement.specs.Finished.{finished, ConvertsFinished}
use Rattle.widths.specs.Widths.{zero_width}
use Rattle.boxes.specs.declared.Bounds.{Bounds}
use Rattle.boxes.specs.Answers.{Answer, number_of, verdict_word}

-- the reading that a lenIV and a word ask for: strict exactly where bit 0 of the word is set, so where the word is odd. Document 02, (c)
abbrev pub reading_with : ℕ → ℕ → Reading
reading_with len_iv word = record { len_iv = len_iv; strict = eqb (word % 2) 1 }

-- a, b, c, d, tx, ty
abbrev pub matrix_of : List Float → Matrix
matrix_of m = record { a = get_or m 0 nan; b = get_or m 1 nan; c = get_or m 2 nan; d = get_or m 3 nan; tx = get_or m 4 nan; ty = get_or m 5 nan }

abbrev pub widths_of : Float → Float → Widths
widths_of d n = record { default_width_x = d; nominal_width_x = n }

-- number, length, the width's bits, bytes run
abbrev pub glyph_words : Type2Glyph → List ℕ
glyph_words g = g.number ∷ g.len ∷ to_bits binary64 g.width ∷ g.ran ∷ []

-- number, length
abbrev pub finished_words : Finished → List ℕ
finished_words f = f.number ∷ f.len ∷ []

-- number, length
abbrev pub decrypted_words : Result ℕ Refusal → List ℕ
decrypted_words (Ok n) = 0 ∷ n ∷ []
decrypted_words (Err e) = Refusals.number_of e ∷ 0 ∷ []

-- the default width, the nominal width; 0 and 0 on a refusal
abbrev pub pair_of : Result Widths Refusal → List Float
pair_of (Ok w) = w.default_width_x ∷ w.nominal_width_x ∷ []
pair_of (Err e) = zero_width ∷ zero_width ∷ []

-- a window of four words: least x, least y, greatest x, greatest y
abbrev pub window_of : List ℤ → Bounds
window_of w = record { left = get_or w 0 (pos 0); bottom = get_or w 1 (pos 0); right = get_or w 2 (pos 0); top = get_or w 3 (pos 0) }

-- number, verdict
abbrev pub boxed_words : Answer → List ℕ
boxed_words a = number_of a ∷ verdict_word a ∷ []

-- what `cribstork_convert` leaves, of a source that is read so, with so much room: what converting leaves, the number, and the answer's words
pub record BoardConverts (x : Source) (reading : Reading) (m : Matrix) (r : Rooms) (n : ℕ) (stems : List Stem) (commands out words : List ℕ) : Type 0 where
  pub converts : ConvertsFrom x reading m r (answer (convert x reading m r)) stems commands out
  pub number_is : n ≡ (answer (convert x reading m r)).number
  pub words_are : words ≡ glyph_words (answer (convert x reading m r))

-- converting's answer once finished
abbrev pub finished_glyph : Source → Reading → Matrix → Widths → Rooms → ℕ → Type2Glyph
finished_glyph x reading m p r room = answer (finished p room (convert x reading m r))

-- what `cribstork_convert_finished` leaves: what converting and finishing leave, the number, and the answer's words
pub record BoardFinishes (x : Source) (reading : Reading) (m : Matrix) (p : Widths) (r : Rooms) (room : ℕ) (n : ℕ) (stems : List Stem) (commands program out words : List ℕ) : Type 0 where
  pub finishes : ConvertsFinished x reading m p r room (finished_glyph x reading m p r room) stems commands program out
  pub number_is : n ≡ (finished_glyph x reading m p r room).number
  pub words_are : words ≡ glyph_words (finished_glyph x reading m p r room)
