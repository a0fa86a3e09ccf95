-- Definitions: the subroutine bank, a list of bytes. Document 01, "Bank (added)".
-- A bank that ends within its table of contents reads as 0 there, and is too short for its table.
use Rattle.std.specs.Prelude.{ℕ, zero, suc, ◌+◌, ◌-◌, ◌*◌, ◌<◌, ◌≤◌, ◌≡◌, Bool, true, cond, ◌&&◌, List, [], eqb, leb, ltb, length, get_or, take, drop, Option, Some, None}
use Rattle.std.proofs.Math.Option as Math
use Rattle.std.proofs.Math.Option.{none, some}
use Rattle.std.specs.declared.ops.Range.{Range}

-- the numbers of 16 and 32 bits at a place, big-endian
unfoldable pub be16 : List ℕ → ℕ → ℕ
be16 l i = get_or l i 0 * 256 + get_or l (i + 1) 0

unfoldable pub be32 : List ℕ → ℕ → ℕ
be32 l i = be16 l i * 65536 + be16 l (i + 2)

-- how many bodies there are
abbrev pub count : List ℕ → ℕ
count bank = be16 bank 0

-- where the table ends: the count, then one offset more than there are bodies
abbrev pub table_end : List ℕ → ℕ
table_end bank = 2 + 4 * (count bank + 1)

-- offset i, which counts from the table's end
abbrev pub offset : List ℕ → ℕ → ℕ
offset bank i = be32 bank (2 + 4 * i)

-- the layout: the table is whole, the first offset is 0, none is below the one before, the last equals the bytes that follow
pub record Valid (bank : List ℕ) : Type 0 where
  pub table : table_end bank ≤ length bank
  pub first : offset bank 0 ≡ 0
  pub rising : (i : ℕ) → i < count bank → offset bank i ≤ offset bank (suc i)
  pub last : offset bank (count bank) ≡ length bank - table_end bank

-- the same as a test
abbrev pub rises : List ℕ → ℕ → Bool
rises bank zero = true
rises bank (suc i) = rises bank i && leb (offset bank i) (offset bank (suc i))

unfoldable pub valid : List ℕ → Bool
valid bank =
    leb (table_end bank) (length bank)
    && (eqb (offset bank 0) 0
    && (rises bank (count bank) && eqb (offset bank (count bank)) (length bank - table_end bank)))

-- n offsets in a row, the first at a place, do not fall, nor below the one before them
unfoldable pub rises_from : List ℕ → ℕ → ℕ → ℕ → Bool
rises_from bank before at zero = true
rises_from bank before at (suc n) = leb before (be32 bank at) && rises_from bank (be32 bank at) (at + 4) n

-- the bytes from a start to an end
abbrev pub part : ℕ → ℕ → List ℕ → List ℕ
part start end bank = take (end - start) (drop start bank)

-- where body n starts and ends in the bank
abbrev pub body_start : ℕ → List ℕ → ℕ
body_start n bank = table_end bank + offset bank n

abbrev pub body_end : ℕ → List ℕ → ℕ
body_end n bank = table_end bank + offset bank (suc n)

-- body n of a bank that is valid; none where there is no such body
unfoldable pub body : ℕ → List ℕ → Math.Option (List ℕ)
body n bank = cond (ltb n (count bank)) (some (part (body_start n bank) (body_end n bank) bank)) none

-- where body n lies in any list of bytes: its two offsets are in order, and it ends within the bank
pub record Within (n : ℕ) (bank : List ℕ) : Type 0 where
  pub below : n < count bank
  pub order : offset bank n ≤ offset bank (suc n)
  pub end : body_end n bank ≤ length bank

abbrev pub within : ℕ → List ℕ → Bool
within n bank = ltb n (count bank) && (leb (offset bank n) (offset bank (suc n)) && leb (body_end n bank) (length bank))

unfoldable pub found : ℕ → List ℕ → Option (Range ℕ)
found n bank = cond (within n bank) (Some (record { start = body_start n bank; end = body_end n bank })) None

-- the bytes at what was found, as a body and as a list that is empty where nothing was found
abbrev pub body_at : Option (Range ℕ) → List ℕ → Math.Option (List ℕ)
body_at (Some r) bank = some (part r.start r.end bank)
body_at None bank = none

abbrev pub bytes_at : Option (Range ℕ) → List ℕ → List ℕ
bytes_at (Some r) bank = part r.start r.end bank
bytes_at None bank = []
