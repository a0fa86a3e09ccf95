-- Definitions: the stems in force, in arrays, whether they can be the last group's, when a new group is refused, and which hints are declared. Document 01, "Hints", "Numbers the board logs" and "Stems and masks".
-- Stem i is a place of `across` (whether it is horizontal) and two of `edges` (its first edge and its width).
use Rattle.std.specs.Prelude.{ℕ, zero, suc, ◌+◌, ◌*◌, Bool, false, cond, ◌&&◌, ◌||◌, List, eqb, leb, ltb, get_or, Float}
use Rattle.std.specs.Float.{nan}
use Rattle.outline.specs.declared.Stem.{Stem}
use Rattle.outline.specs.Outline.{same_stem, pick}
use Rattle.outline.specs.Store.{entry_words}

-- the stem in force at a place
abbrev pub stem_at : List Float → List Bool → ℕ → Stem
stem_at e a i = record { horizontal = get_or a i false; pos = get_or e (2 * i) nan; width = get_or e (2 * i + 1) nan }

abbrev pub same_at : List Float → List Bool → ℕ → Stem → Bool
same_at e a i s = same_stem (stem_at e a i) s

-- one of the first n in force equals a stem
unfoldable pub is_among : ℕ → List Float → List Bool → Stem → Bool
is_among zero e a s = false
is_among (suc n) e a s = is_among n e a s || same_at e a n s

-- 256 stems are in force at the most
abbrev pub cut : ℕ → ℕ
cut n = cond (ltb n 256) n 256

-- "A stem equal to one in force is not added": whether there is one among so many
unfoldable pub in_force : ℕ → List Float → List Bool → Stem → Bool
in_force count e a s = is_among (cut count) e a s

-- "unless they are the last group's in the same order": whether changed stems can be, of so many groups, with so many stems in the last one and so many in force; with no group they cannot
unfoldable pub may_be_last : Bool → ℕ → ℕ → ℕ → Bool
may_be_last changed groups last count = changed && (ltb 0 groups && eqb last count)

-- so many at the most; more are refused with the number
abbrev pub at_most : ℕ → ℕ → ℕ → ℕ
at_most most k n = pick (leb n most) 0 k

-- what a new group is refused with, or 0: what the limits of groups, of stem records and of entries answer, in this order ("16 before 17")
abbrev pub group_refusal : ℕ → ℕ → ℕ → ℕ
group_refusal groups stems commands = pick (eqb groups 0) (pick (eqb stems 0) commands stems) groups

-- of a new group of n stems: a 257th group; a stem store of so many records, of which so many are used; a command store of so many words, with so many entries
unfoldable pub refused_group : ℕ → ℕ → ℕ → ℕ → ℕ → ℕ → ℕ
refused_group groups records used n words entries = group_refusal (at_most 256 16 (groups + 1)) (at_most records 16 (used + n)) (at_most words 17 (entry_words * (entries + 1)))

-- ---- Document 01, "Stems and masks", of so many distinct stems of each direction

-- "97 or more drop all hints": there are fewer
abbrev pub are_few : ℕ → ℕ → Bool
are_few across upright = ltb (across + upright) 97

-- "Hints need masks exactly when there are two groups or more and a stem left"
abbrev pub need_masks : ℕ → ℕ → ℕ → Bool
need_masks groups across upright = ltb 0 (across + upright) && ltb 1 groups
