-- Definitions: the exact value of a double. A finite float is a whole number of units, the unit being the format's smallest value, 2 ^ -low f: 2 ^ -1074 for an `f64`. Document 01, "Type 2 machine": "A double is compared as a whole number times a power of two."
-- A signed number is written as P - M, two naturals: every law about it is then one on ℕ, which `omega` reads.
use Rattle.std.specs.Prelude.{◌≡◌, ℕ, ◌+◌, ◌-◌, ◌*◌, ◌/◌, ◌^◌, ◌≤◌, Bool, false, cond, T, Float}
use Rattle.std.specs.Float.{nan, inf, fin, Format}
use Rattle.std.specs.Float.Ieee.{low, up, down, round}
use Rattle.std.specs.Float.Ieee.Scale.{finite}

-- whether a float's sign is negative: -0 counts
abbrev pub sign : Float → Bool
sign nan = false
sign (inf s) = s
sign (fin s m e) = s

-- the size of a finite float in units
unfoldable pub mag : Format → Float → ℕ
mag f nan = 0
mag f (inf s) = 0
mag f (fin s m e) = m * up e * 2 ^ low f / down e

-- a finite float is pl - mi units, of which one is 0
abbrev pub pl : Format → Float → ℕ
pl f x = cond (sign x) 0 (mag f x)

abbrev pub mi : Format → Float → ℕ
mi f x = cond (sign x) (mag f x) 0

-- |P - M|
abbrev pub dist : ℕ → ℕ → ℕ
dist P M = (P - M) + (M - P)

-- x is a multiple of 2 ^ g units. With g = low f: x is a whole number. With g = 1058, for an `f64`: x is a multiple of 1/65536.
unfoldable pub Multiple : Format → ℕ → Float → Type 0
Multiple f g x = (k : ℕ) × (mag f x ≡ k * 2 ^ g)

abbrev pub Whole : Format → Float → Type 0
Whole f x = Multiple f (low f) x

-- z is P - M units, rounded once
pub record Rounded (f : Format) (z : Float) (P M : ℕ) : Type 0 where
  pub sgn : Bool
  pub amount : ℕ
  pub is : z ≡ round f sgn amount (2 ^ low f)
  pub balance : cond sgn 0 amount + M ≡ cond sgn amount 0 + P

-- z is P - M units exactly
pub record Exactly (f : Format) (z : Float) (P M : ℕ) : Type 0 where
  pub fine : T (finite z)
  pub balance : pl f z + M ≡ mi f z + P

-- z is P - M units, give or take B
pub record Within (f : Format) (z : Float) (P M B : ℕ) : Type 0 where
  pub fine : T (finite z)
  pub over : pl f z + M ≤ mi f z + P + B
  pub under : mi f z + P ≤ pl f z + M + B
