-- Definitions: stems, entries of a drawn list, and groups. Document 01, "Hints", "Type 1 run", "Forms of the Rust that need another".
use Rattle.std.specs.Prelude.{ℕ, ◌+◌, Bool, true, false, ◌&&◌, ◌||◌, List, [], ◌∷◌, pos, length, Float}
use Rattle.std.specs.Bool.{beq}
use Rattle.std.specs.Float.{fin}
use Rattle.std.specs.Float.Ieee.{eq}
use Rattle.geometry.specs.declared.Point.{Point}
use Rattle.outline.specs.declared.Stem.{Stem}

-- a choice by a test
abbrev pub pick : {A : Type 0} → Bool → A → A → A
pick true a b = a
pick false a b = b

abbrev pub plus_zero : Float
plus_zero = fin false 0 (pos 0)

abbrev pub origin : Point
origin = record { x = plus_zero; y = plus_zero }

-- an entry of the drawn list, and the flex height that goes with a flex
pub data Command : Type 0 where
  move line : Point → Command
  curve : Point → Point → Point → Command
  flex : Point → Point → Point → Point → Point → Point → Float → Command

-- a group keeps its stems and the number of entries listed before it
pub record Group : Type 0 where
  pub stems : List Stem
  pub before : ℕ

-- ---- stems: "Each stem is one record: its direction, its first edge and its width"
abbrev pub stem_of : Bool → Float → Float → Stem
stem_of h p w = record { horizontal = h; pos = p; width = w }

-- the zero record: vertical, 0, 0 (document 01, "Forms of the Rust that need another")
abbrev pub zero_stem : Stem
zero_stem = record { horizontal = false; pos = plus_zero; width = plus_zero }

-- equal as numbers, so that -0 equals 0
abbrev pub same_stem : Stem → Stem → Bool
same_stem s t = beq s.horizontal t.horizontal && (eq s.pos t.pos && eq s.width t.width)

unfoldable pub is_in : List Stem → Stem → Bool
is_in [] s = false
is_in (t ∷ l) s = same_stem t s || is_in l s

-- the same stems in the same order
unfoldable pub same_stems : List Stem → List Stem → Bool
same_stems [] [] = true
same_stems [] (t ∷ m) = false
same_stems (s ∷ l) [] = false
same_stems (s ∷ l) (t ∷ m) = same_stem s t && same_stems l m

unfoldable pub last_is : List Group → List Stem → Bool
last_is [] l = false
last_is (g ∷ []) l = same_stems g.stems l
last_is (g ∷ h ∷ gs) l = last_is (h ∷ gs) l

-- how many stems all groups have
unfoldable pub stem_count : List Group → ℕ
stem_count [] = 0
stem_count (g ∷ gs) = length g.stems + stem_count gs
