-- `hints::new_group` meets its contract. Assumes nothing.
use Prim.Native.Nat.{ℕ, ◌+◌, ◌-◌, ◌*◌, ◌/◌, ◌≤◌, ◌<◌}
use mathlib.Core.Path.{refl, ap, ap₂}
use mathlib.Core.Bool.{Bool, true, false, ◌&&◌}
use borrow.Author.Tests.{le-leb, lt-leb}
use lib.Dec.{leb}
use Rattle.hints.specs.Hints.{refused_group}
use Rattle.hints.specs.Laws.{group_number_lem}
use native.Mathlib.Omega.{arith}
use mathlib.Core.Path.{◌≡◌, sym, ◌∙◌}
use Rattle.hints.proofs.new_group.Goals as goal
use Rattle.hints.proofs.new_group.Goals.{then-groups-ge-MOST-via-then-groups-ge-MOST, then-groups-ge-MOST-via-else-groups-ge-MOST+then-records-used, then-groups-ge-MOST-via-else-groups-ge-MOST+else-records-used+then-records-used-2}

module _ (groups records used n words entries : ℕ) where
  abbrev entry : Bool
  entry = leb (14 * (entries + 1)) words

  many-groups : 256 ≤ groups → 16 ≡ refused_group groups records used n words entries
  many-groups h = sym (group_number_lem groups records used n words entries false entry (ap (λ (b : Bool). b && leb (used + n) records) (lt-leb (groups + 1) 256 (omega arith))) refl)

  full : records < used + n → 16 ≡ refused_group groups records used n words entries
  full h = sym (group_number_lem groups records used n words entries false entry (ap (λ (b : Bool). leb (groups + 1) 256 && b) (lt-leb (used + n) records h) ∙ none (leb (groups + 1) 256)) refl)
    where
      none : (b : Bool) → (b && false) ≡ false
      none true = refl
      none false = refl

  used-up : records < used → 16 ≡ refused_group groups records used n words entries
  used-up h = full (omega arith)

  no-records : used ≤ records → records - used < n → 16 ≡ refused_group groups records used n words entries
  no-records h k = full (omega arith)

  module _ (g : groups < 256) (u : used ≤ records) (r : n ≤ records - used) where
    fits : (leb (groups + 1) 256 && leb (used + n) records) ≡ true
    fits = ap₂ (λ (x y : Bool). x && y) (le-leb (groups + 1) 256 (omega arith)) (le-leb (used + n) records (omega arith))

    no_words : words / 14 ≤ entries → 17 ≡ refused_group groups records used n words entries
    no_words h = sym (group_number_lem groups records used n words entries true false fits (lt-leb (14 * (entries + 1)) words (omega arith)))

    passes : entries < words / 14 → 0 ≡ refused_group groups records used n words entries
    passes h = sym (group_number_lem groups records used n words entries true true fits (le-leb (14 * (entries + 1)) words (omega arith)))

pub returns-then-groups-ge-MOST : goal.returns-then-groups-ge-MOST
returns-then-groups-ge-MOST c =
    elim c.then-groups-ge-MOST.branch [
      | then-groups-ge-MOST-via-then-groups-ge-MOST w ↦ many-groups _ _ _ _ _ _ w.if-groups-ge-MOST.true
      | then-groups-ge-MOST-via-else-groups-ge-MOST+then-records-used w ↦ used-up _ _ _ _ _ _ w.if-records-used.true
      | then-groups-ge-MOST-via-else-groups-ge-MOST+else-records-used+then-records-used-2 w ↦ no-records _ _ _ _ _ _ w.if-records-used.false w.if-records-used-2.true
    ]

pub returns-then-words-entries : goal.returns-then-words-entries
returns-then-words-entries c =
    no_words _ _ _ _ _ _ c.if-groups-ge-MOST.false c.if-records-used.false c.if-records-used-2.false c.if-words-entries.true

pub returns : goal.returns
returns c =
    passes _ _ _ _ _ _ c.if-groups-ge-MOST.false c.if-records-used.false c.if-records-used-2.false c.if-words-entries.false
