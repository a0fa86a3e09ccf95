-- Definitions: converting and finishing in one call. Document 01, "Finishing", "What each entry is held to"; demand 3.
use Rattle.std.specs.Prelude.{ℕ, ◌≡◌, List, length, replicate, take}
use Rattle.geometry.specs.declared.Matrix.{Matrix}
use Rattle.outline.specs.declared.Stem.{Stem}
use Rattle.type1.specs.declared.Reading.{Reading}
use Rattle.type1.specs.Interpret.{Source}
use Rattle.outline.specs.Outline.{zero_stem}
use Rattle.type1_to_type2.specs.declared.Type2Glyph.{Type2Glyph}
use Rattle.type1_to_type2.specs.Convert.{Glyph, Conversion, refused, converted, writes, Rooms, convert, answer, output}
use Rattle.type1_to_type2.specs.Finish.{finish}
use Rattle.type1_to_type2.specs.Entry.{Answers}
use Rattle.type2.specs.declared.Widths.{Widths}
use Rattle.agreement.specs.Demand3.{Demand3}

-- an answer that is a refusal: all but the number are 0
abbrev pub refusal : ℕ → Type2Glyph
refusal n = answer (refused n)

-- an answer with another length
abbrev pub with_len : ℕ → Type2Glyph → Type2Glyph
with_len n g = record { number = g.number; len = n; width = g.width; ran = g.ran }

-- a glyph with the finished charstring in place of the program
abbrev pub with_program : Glyph → List ℕ → Glyph
with_program g b = record { program = b; width = g.width; ran = g.ran }

abbrev pub finished : Widths → ℕ → Conversion → Conversion
finished p room (refused n) = refused n
finished p room (converted g) = writes (with_program g) (finish g.width g.program p room)

-- what finishing a glyph leaves, for every conversion that it may come from
pub record Finishes (g : Type2Glyph) (p : Widths) (program : List ℕ) (room : ℕ) (r : Type2Glyph) (out : List ℕ) : Type 0 where
  pub of : (x : Conversion) → (x ≡ refused 0 → ⊥) → g ≡ answer x → program ≡ output (length program) x → Answers (finished p room x) room r out

-- the glyph that an answer and an output tell
abbrev pub glyph_in : Type2Glyph → List ℕ → Glyph
glyph_in g out = record { program = take g.len out; width = g.width; ran = g.ran }

-- what the entry leaves, of a source that is read so, with so much room in the stores, the program's among them, and in the output: the answer and the output are the finished conversion's; the stores and the program's bytes are zero; and where the number is 0, demand 3 holds of the glyph
pub record ConvertsFinished (x : Source) (reading : Reading) (m : Matrix) (p : Widths) (r : Rooms) (room : ℕ) (g : Type2Glyph) (stems : List Stem) (commands program out : List ℕ) : Type 0 where
  pub glyph : g ≡ answer (finished p room (convert x reading m r))
  pub bytes : out ≡ output room (finished p room (convert x reading m r))
  pub records : stems ≡ replicate r.records zero_stem
  pub words : commands ≡ replicate r.words 0
  pub wiped : program ≡ replicate r.bytes 0
  pub demand : g.number ≡ 0 → Demand3 x reading m p (glyph_in g out)
