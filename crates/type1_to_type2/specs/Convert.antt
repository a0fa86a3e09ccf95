-- Definitions: converting, from the charstring to the program. Document 01, "A glyph's way to the renderer", "Numbers the board logs": 1, 2, the run's steps, folding, writing.
use Rattle.std.specs.Prelude.{ℕ, ◌-◌, Bool, ◌&&◌, List, ◌++◌, length, replicate, Float}
use Rattle.std.specs.Float.Ieee.Scale.{finite}
use Rattle.geometry.specs.declared.Matrix.{Matrix}
use Rattle.outline.specs.declared.Stem.{Stem}
use Rattle.type1.specs.declared.Reading.{Reading}
use Rattle.outline.specs.Outline.{plus_zero, pick}
use Rattle.type1.specs.State.{State}
use Rattle.type1.specs.Run as Run
use Rattle.type1.specs.Run.{Outcome}
use Rattle.type1.specs.Interpret.{Source, outcome}
use Rattle.type2.specs.Instruction.{Instr}
use Rattle.type1_to_type2.specs.declared.Type2Glyph.{Type2Glyph}
use Rattle.folding.specs.Folding.{finite_matrix, fold_of, folded_list, folded_groups, folded_width, finite_list, finite_groups}
use Rattle.type1_to_type2.specs.Stems.{declared}
use Rattle.type1_to_type2.specs.Emission.{commands, program}
use Rattle.type1_to_type2.specs.Writing as Writing
use Rattle.type1_to_type2.specs.Writing.{Written, write}

-- what converting gives: the program, the advance width and the bytes run
pub record Glyph : Type 0 where
  pub program : List ℕ
  pub width : Float
  pub ran : ℕ

abbrev pub glyph_of : Float → ℕ → List ℕ → Glyph
glyph_of w n b = record { program = b; width = w; ran = n }

-- refused with a number, or converted
pub data Conversion : Type 0 where
  refused : ℕ → Conversion
  converted : Glyph → Conversion

-- document 01, "Numbers the board logs", 14: whether all that is folded of what a run has left is finite
unfoldable pub folds_finite : Matrix → State → Bool
folds_finite m s = finite (folded_width m s.width) && (finite_list (folded_list (fold_of m) s.drawn) && finite_groups (folded_groups (fold_of m) s.groups))

-- the instructions for what a run has left
unfoldable pub instructions : Matrix → State → List Instr
instructions m s = let gs = folded_groups (fold_of m) s.groups in program (declared gs) (commands 0 gs (folded_list (fold_of m) s.drawn))

-- the glyph of the bytes that were written
abbrev pub writes : (List ℕ → Glyph) → Written → Conversion
writes g (Writing.refused k) = refused k
writes g (Writing.wrote b) = converted (g b)

-- folding, all of it before the first byte is written; then writing, into an output with so much room
unfoldable pub folded : Matrix → ℕ → State → Conversion
folded m room s = pick (folds_finite m s) (writes (glyph_of (folded_width m s.width) s.ran) (write (instructions m s) room)) (refused 14)

abbrev pub ended : Matrix → ℕ → Outcome → Conversion
ended m room (Run.going s) = folded m room s
ended m room (Run.returning s) = folded m room s
ended m room (Run.ending s) = folded m room s
ended m room (Run.refused n) = refused n

-- how much the lent stores and the output hold: records, words and bytes
pub record Rooms : Type 0 where
  pub records : ℕ
  pub words : ℕ
  pub bytes : ℕ

abbrev pub rooms_with : ℕ → List ℕ → List ℕ → Rooms
rooms_with records commands out = record { records = records; words = length commands; bytes = length out }

abbrev pub rooms_of : List Stem → List ℕ → List ℕ → Rooms
rooms_of stems = rooms_with (length stems)

unfoldable pub convert : Source → Reading → Matrix → Rooms → Conversion
convert x reading m r = pick (finite_matrix m) (ended m r.bytes (outcome x reading r.records r.words)) (refused 1)

-- ---- "An answer is the number (0 if none), program length, width and count"; "On a refusal all but the number are 0."
abbrev pub answer : Conversion → Type2Glyph
answer (refused n) = record { number = n; len = 0; width = plus_zero; ran = 0 }
answer (converted g) = record { number = 0; len = length g.program; width = g.width; ran = g.ran }

-- "the output's every byte (program, then zeros)", of an output of so many bytes
abbrev pub output : ℕ → Conversion → List ℕ
output room (refused n) = replicate room 0
output room (converted g) = g.program ++ replicate (room - length g.program) 0
