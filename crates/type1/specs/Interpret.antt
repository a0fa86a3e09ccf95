-- Definitions: what the entry answers of a whole run, and what it leaves in the lent stores.
-- Document 01, "Type 1 run", "Numbers the board logs", "Bytes run".
use Rattle.std.specs.Prelude.{ℕ, ◌+◌, ◌*◌, ◌≤◌, ◌<◌, ◌≡◌, List, length, replicate}
use Rattle.bank.specs.Bank.{valid}
use Rattle.outline.specs.declared.Stem.{Stem}
use Rattle.type1.specs.declared.Reading.{Reading}
use Rattle.type1.specs.declared.Interpreted.{Interpreted}
use Rattle.outline.specs.Outline.{plus_zero, stem_count, zero_stem}
use Rattle.outline.specs.Store.{entry_words, word, drawn_in, groups_in}
use Rattle.type1.specs.State.{State, start}
use Rattle.type1.specs.Run.{Limits, Outcome, going, returning, ending, refused, check, within, limits_of, font_of, run}
use Rattle.type1.specs.Sound.{Sound}

-- what is read: a charstring, and the bank of its subroutines
pub record Source : Type 0 where
  pub charstring : List ℕ
  pub bank : List ℕ

abbrev pub source_of : List ℕ → List ℕ → Source
source_of charstring bank = record { charstring = charstring; bank = bank }

-- the run of a source, from the first byte
abbrev pub run_of : Limits → Source → Reading → Outcome
run_of lim x reading = run lim (font_of x.bank reading) x.charstring start

-- in stores of so many records and words: 2 where the bank breaks its layout (document 01, "Numbers the board logs"), else as the run ends
unfoldable pub outcome : Source → Reading → ℕ → ℕ → Outcome
outcome x reading records words = check (valid x.bank) 2 (run_of (limits_of reading (within records words)) x reading)

-- a run that is not refused: number 0, the width, the bytes run ("Bytes run": encrypted bytes, each body at each call), and the drawn list and the groups, which stand in the stores
pub record Left (r : Interpreted) (commands : List ℕ) (stems : List Stem) (s : State) : Type 0 where
  pub number : r.number ≡ 0
  pub width : r.width ≡ s.width
  pub ran : r.ran ≡ s.ran
  pub drawn : drawn_in r.entries commands ≡ s.drawn
  pub groups : groups_in r.entries commands stems ≡ s.groups
  -- how many entries and records are used: they are within the stores
  pub entries : r.entries ≡ length s.drawn + length s.groups
  pub records : r.stems ≡ stem_count s.groups
  pub words_within : entry_words * r.entries ≤ length commands
  pub records-within : r.stems ≤ length stems
  -- each group's records lie below those used
  pub below : (k : ℕ) → k < r.entries → word commands k 0 ≡ 5 → word commands k 1 + word commands k 2 ≤ r.stems
  -- every number is a finite double
  pub sound : Sound s

-- a refused run: its number, all else 0
abbrev pub refused_with : ℕ → Interpreted
refused_with n = record { number = n; width = plus_zero; ran = 0; entries = 0; stems = 0 }

-- what the answer and the stores are after a run, by how it ends; the stores of a refused run are zero throughout. No whole run ends by returning
abbrev pub Leaves : Interpreted → List ℕ → List Stem → List ℕ → List Stem → Outcome → Type 0
Leaves r commands' stems' commands stems (going s) = Left r commands' stems' s
Leaves r commands' stems' commands stems (ending s) = Left r commands' stems' s
Leaves r commands' stems' commands stems (returning s) = ⊥
Leaves r commands' stems' commands stems (refused n) = (0 < n) × ((r ≡ refused_with n) × ((commands' ≡ replicate (length commands) 0) × (stems' ≡ replicate (length stems) zero_stem)))
