-- Definitions: what the functions that hold the stem store leave. Document 01, "Forms of the Rust that need another": "the caller lends the stem store as a slice of stem records".
use Rattle.std.specs.Prelude.{ℕ, zero, suc, ◌+◌, ◌*◌, ◌≤◌, ◌<◌, ◌≡◌, Bool, true, false, List, [], ◌++◌, length, take, drop, Float}
use Rattle.folding.specs.declared.Fold.{Fold}
use Rattle.outline.specs.declared.Stem.{Stem}
use Rattle.outline.specs.Store.{entry_words, word, command_in}
use Rattle.type1.specs.Sound.{All, OfCommand}
use Rattle.type1.specs.Memory.{Good}
use Rattle.type1_to_type2.specs.declared.Collected.{Collected}
use Rattle.folding.specs.Folding.{folded_stems}
use Rattle.type1_to_type2.specs.Stems.{mask_of}
use Rattle.type1_to_type2.specs.Emission.{Cmd}
use Rattle.type1_to_type2.specs.Table.{table_stems}
use Rattle.type1_to_type2.specs.Collecting.{Ascending, Collects, Counted, first_of, count_of}
use Rattle.type1_to_type2.specs.Places.{places_from}
use Rattle.type1_to_type2.specs.Streaming.{cmds_in}

-- so many records, from one on
abbrev pub records : ℕ → ℕ → List Stem → List Stem
records first n z = take n (drop first z)

-- folded stems g were collected after those that had been
abbrev pub Gathers : List Stem → Collected → List Float → List Float → Collected → List Float → List Float → Type 0
Gathers g c ta tu r ta' tu' = ((l : List Stem) → Collects l c ta tu → Collects (l ++ g) r ta' tu') × ((r.groups ≡ c.groups) × Counted r)

-- the stems of both tables
abbrev pub both : ℕ → ℕ → List Float → List Float → List Stem
both na nu ta tu = table_stems true na ta ++ table_stems false nu tu

-- the tables are in order, and hold no more than are declared
pub record BothTables (na nu : ℕ) (ta tu : List Float) : Type 0 where
  pub few : na + nu ≤ 96
  pub across : Ascending (table_stems true na ta)
  pub upright : Ascending (table_stems false nu tu)

-- the first k of t are the places of the stems l among those of both tables
abbrev pub Listed : List Stem → ℕ → ℕ → List Float → List Float → ℕ → List ℕ → Type 0
Listed l na nu ta tu k t = take k t ≡ places_from 0 (mask_of l (both na nu ta tu))

-- the places of folded stems g were put among those of the stems before them
abbrev pub ListsMore : List Stem → ℕ → ℕ → List Float → List Float → ℕ → List ℕ → ℕ → List ℕ → Type 0
ListsMore g na nu ta tu k t k' t' = (length t' ≡ length t) × ((k' ≤ 96) × ((l : List Stem) → Listed l na nu ta tu k t → Listed (l ++ g) na nu ta tu k' t'))

-- where masks are needed the first k' of t' are the places of the folded stems g alone
abbrev pub PlacesOf : Bool → List Stem → ℕ → ℕ → List Float → List Float → List ℕ → ℕ → List ℕ → Type 0
PlacesOf masked g na nu ta tu t k' t' = (length t' ≡ length t) × ((k' ≤ 96) × (masked ≡ true → Listed g na nu ta tu k' t'))

-- the folded stems of the group that starts at entry e, none where no group does
unfoldable pub group_at : Fold → List ℕ → List Stem → ℕ → List Stem
group_at fold c z e = folded_stems fold (records (first_of c e) (count_of c e) z)

-- the folded stems of the first e entries' groups
unfoldable pub stems_to : Fold → List ℕ → List Stem → ℕ → List Stem
stems_to fold c z zero = []
stems_to fold c z (suc e) = stems_to fold c z e ++ group_at fold c z e

-- n entries from e on, as commands
unfoldable pub cmds_from : Fold → List ℕ → List Stem → ℕ → ℕ → List Cmd
cmds_from fold c z e zero = []
cmds_from fold c z e (suc n) = cmds_in fold c e (group_at fold c z e) ++ cmds_from fold c z (suc e) n

-- the stores hold so many entries: each group's records are there, and every coordinate is a finite double
pub record Stored (entries : ℕ) (c : List ℕ) (z : List Stem) : Type 0 where
  pub words : entry_words * entries ≤ length c
  pub groups : (e : ℕ) → e < entries → word c e 0 ≡ 5 → word c e 1 + word c e 2 ≤ length z
  pub finite : (e : ℕ) → e < entries → All (OfCommand Good) (command_in c e)
