-- Definitions: what the entry and its parts answer and leave. Document 01, "Numbers the board logs", "What each entry is held to", a.
use Rattle.std.specs.Prelude.{ℕ, zero, suc, ◌+◌, ◌≤◌, ◌≡◌, Bool, true, false, ◌&&◌, List, [], eqb, length, replicate, Float, cond, Result, Ok, Err, MatchResult}
use Rattle.refusal.specs.declared.Refusal.{Refusal}
use Rattle.refusal.specs.Refusal.{number_of}
use Rattle.std.specs.Float.Ieee.Scale.{finite}
use Rattle.geometry.specs.declared.Matrix.{Matrix}
use Rattle.outline.specs.declared.Stem.{Stem}
use Rattle.type1.specs.declared.Reading.{Reading}
use Rattle.type1.specs.declared.Interpreted.{Interpreted}
use Rattle.type1.specs.Interpret.{Source}
use Rattle.outline.specs.Outline.{Group, origin, pick, plus_zero, zero_stem}
use Rattle.outline.specs.Store.{word, drawn_in, groups_in}
use Rattle.type1.specs.State.{State, start}
use Rattle.type1_to_type2.specs.declared.Collected.{Collected}
use Rattle.type1_to_type2.specs.declared.Plan.{Plan}
use Rattle.type1_to_type2.specs.declared.Writer.{Writer}
use Rattle.type1_to_type2.specs.declared.Type2Glyph.{Type2Glyph}
use Rattle.folding.specs.Folding.{finite_matrix, folded_width}
use Rattle.type1_to_type2.specs.Stems.{Declared, declared, all_stems}
use Rattle.type1_to_type2.specs.Emission.{Cmd, program}
use Rattle.type1_to_type2.specs.Writing.{write}
use Rattle.type1_to_type2.specs.Convert as Convert
use Rattle.type1_to_type2.specs.Convert.{Conversion, Rooms, folded, convert, answer, output}
use Rattle.type1_to_type2.specs.Table.{table_stems}
use Rattle.type1_to_type2.specs.Collecting.{Collects}
use Rattle.type1_to_type2.specs.Streaming.{resumed_all}
use Rattle.type1_to_type2.specs.Passes.{both, BothTables}

-- how many of the first n entries start a group
unfoldable pub group_count : ℕ → List ℕ → ℕ
group_count zero c = 0
group_count (suc n) c = group_count n c + pick (eqb (word c n 0) 5) 1 0

-- nothing collected yet, of so many groups
abbrev pub none_of : ℕ → Collected
none_of groups = record { finite = true; across = 0; upright = 0; groups = groups }

-- the stems that two tables hold, so many of each, as they are declared
abbrev pub declared_by : Bool → ℕ → ℕ → List Float → List Float → Declared
declared_by masked na nu ta tu = record { across = table_stems true na ta; upright = table_stems false nu tu; masked = masked }

abbrev pub tables : Plan → List Float → List Float → Declared
tables p ta tu = declared_by p.masked p.across p.upright ta tu

-- they are written from the start of an output of so many bytes
abbrev pub Declares : Bool → ℕ → ℕ → List Float → List Float → ℕ → Writer → List ℕ → Type 0
Declares masked na nu ta tu room w out = (cs : List Cmd) → resumed_all masked (both na nu ta tu) w out cs ≡ write (program (declared_by masked na nu ta tu) cs) room

-- what is to be written: the folded width, the stems that are declared, and that these are finite
pub record Planned (c : Collected) (m : Matrix) (width : Float) (p : Plan) : Type 0 where
  pub fine : (finite (folded_width m width) && c.finite) ≡ true
  pub width_is : p.width ≡ folded_width m width
  pub few : p.across + p.upright ≤ 96
  pub stems : (gs : List Group) (ta tu : List Float) → Collects (all_stems gs) c ta tu → c.groups ≡ length gs → declared gs ≡ tables p ta tu
  pub order : (l : List Stem) (ta tu : List Float) → Collects l c ta tu → BothTables p.across p.upright ta tu

-- no stems are declared, and no masks are needed
abbrev pub nothing_planned : Plan
nothing_planned = record { masked = false; across = 0; upright = 0; width = plus_zero }

-- the stems of a plan are written, or its refusal is kept
abbrev pub Opens : Result Plan Refusal → List Float → List Float → ℕ → Writer → List ℕ → Type 0
Opens planned ta tu room w out = MatchResult planned (λ p. Declares p.masked p.across p.upright ta tu room w out) (λ e. w.next ≡ Err e)

-- the run's state, as far as the stores and the answer tell it
abbrev pub left_state : Interpreted → List ℕ → List Stem → State
left_state r c z = record { operands = []; postscript = []; point = origin; bearing = origin; width = r.width; opened = false; flexing = start.flexing; hints = []; changed = false; groups = groups_in r.entries c z; drawn = drawn_in r.entries c; divided = false; ran = r.ran }

-- 1 where an entry of the matrix is not finite, else the run's number
abbrev pub first_number : Matrix → ℕ → ℕ
first_number m n = pick (finite_matrix m) n 1

-- from what a run has left, with the number so far
unfoldable pub from_run : ℕ → Matrix → ℕ → Interpreted → List ℕ → List Stem → Conversion
from_run number m room r c z = pick (eqb number 0) (folded m room (left_state r c z)) (Convert.refused number)

-- a conversion, with whether the folded points are finite
abbrev pub settles : Bool → Conversion → Conversion
settles points (Convert.refused n) = Convert.refused (cond points n 14)
settles points (Convert.converted g) = Convert.converted g

-- an answer in words
abbrev pub told : Result Type2Glyph Refusal → Type2Glyph
told (Ok g) = g
told (Err e) = answer (Convert.refused (number_of e))

-- a result and an output that are a conversion's
pub record Gives (x : Conversion) (room : ℕ) (r : Result Type2Glyph Refusal) (out : List ℕ) : Type 0 where
  pub glyph : told r ≡ answer x
  pub bytes : out ≡ output room x
  pub same : length out ≡ room

-- a refusal that was given early is kept
abbrev pub GivesAfter : Result (Unit {0}) Refusal → Conversion → ℕ → Result Type2Glyph Refusal → List ℕ → Type 0
GivesAfter early x room r out = MatchResult early (λ u. Gives x room r out) (λ e. (r ≡ Err e) × (out ≡ replicate room 0))

-- an answer and an output that are a conversion's
pub record Answers (x : Conversion) (room : ℕ) (g : Type2Glyph) (out : List ℕ) : Type 0 where
  pub glyph : g ≡ answer x
  pub bytes : out ≡ output room x

-- the entry's arrays have their lengths
pub record Lengths (across upright : List Float) (places : List ℕ) : Type 0 where
  pub across_len : length across ≡ 192
  pub upright_len : length upright ≡ 192
  pub places_len : length places ≡ 96

-- what an entry that converts leaves: the answer and the output are a conversion's, every record and every word of the stores is zero
pub record Converts (x : Conversion) (r : Rooms) (g : Type2Glyph) (stems : List Stem) (commands out : List ℕ) : Type 0 where
  -- a refusal's number is not 0
  pub refusal : x ≡ Convert.refused 0 → ⊥
  pub glyph : g ≡ answer x
  pub bytes : out ≡ output r.bytes x
  pub records : stems ≡ replicate r.records zero_stem
  pub words : commands ≡ replicate r.words 0

-- of a source, read so, under a matrix
abbrev pub ConvertsFrom : Source → Reading → Matrix → Rooms → Type2Glyph → List Stem → List ℕ → List ℕ → Type 0
ConvertsFrom x reading m r = Converts (convert x reading m r) r
