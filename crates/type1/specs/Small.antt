-- Definitions: what the small functions answer, and what is asked of the numbers in the arrays. Document 01, "Type 1 run".
use Rattle.std.specs.Prelude.{ℕ, ◌+◌, ◌*◌, ◌≤◌, ◌<◌, ◌≡◌, Bool, true, false, List, T, eqb, get_or, set, Float}
use Rattle.std.specs.Float.{nan, binary64}
use Rattle.std.specs.Float.Ieee.{to_bits}
use Rattle.std.specs.Float.Ieee.Scale.{finite}
use Rattle.geometry.specs.declared.Point.{Point}
use Rattle.type1.specs.declared.St.{St}
use Rattle.type1.specs.declared.Ran.{Ran}
use Rattle.outline.specs.Outline.{Command, flex, pick}
use Rattle.type1.specs.Memory.{Bounds, Good}

abbrev pub ran_of : St → ℕ → Ran
ran_of t flow = record { st = t; flow = flow }

abbrev pub with_xY : Float → Float → St → St
with_xY x y t = record { operands = t.operands; postscript = t.postscript; x = x; y = y; opened = t.opened; flexing = t.flexing; points = t.points; hints = t.hints; changed = t.changed; last = t.last; groups = t.groups; stems = t.stems; entries = t.entries; divided = t.divided; ran = t.ran }

abbrev pub with_opened : Bool → St → St
with_opened b t = record { operands = t.operands; postscript = t.postscript; x = t.x; y = t.y; opened = b; flexing = t.flexing; points = t.points; hints = t.hints; changed = t.changed; last = t.last; groups = t.groups; stems = t.stems; entries = t.entries; divided = t.divided; ran = t.ran }

abbrev pub opened_ran : Ran → Ran
opened_ran r = pick (eqb r.flow 0) (ran_of (with_opened true r.st) 0) r

-- 9: no subpath is open, and no operand held
abbrev pub closed_ran : St → Ran
closed_ran t = record { st = record { operands = 0; postscript = t.postscript; x = t.x; y = t.y; opened = false; flexing = t.flexing; points = t.points; hints = t.hints; changed = t.changed; last = t.last; groups = t.groups; stems = t.stems; entries = t.entries; divided = t.divided; ran = t.ran }; flow = 0 }

-- the flex of the seven points in an array, the first unused
abbrev pub cell_point : List Float → ℕ → Point
cell_point l i = record { x = get_or l (2 * i) nan; y = get_or l (2 * i + 1) nan }

abbrev pub flex_of : List Float → Float → Command
flex_of l h = flex (cell_point l 1) (cell_point l 2) (cell_point l 3) (cell_point l 4) (cell_point l 5) (cell_point l 6) h

-- a point whose coordinates are finite doubles
abbrev pub GoodPoint : Point → Type 0
GoodPoint p = Good p.x × Good p.y

-- a point's coordinates as two words of the command store
abbrev pub point_put : ℕ → Point → List ℕ → List ℕ
point_put at p c = set (set c at (to_bits binary64 p.x)) (at + 1) (to_bits binary64 p.y)

-- the state after a path command, in bounds
pub record Grown (t u : St) (words room : ℕ) : Type 0 where
  pub bounds : Bounds u words
  pub stems : u.stems ≤ room
  pub hints : u.hints ≡ t.hints
  pub x : u.x ≡ t.x
  pub y : u.y ≡ t.y

-- the state after an entry was listed, or was not
pub record Entered (t u : St) (words : ℕ) : Type 0 where
  pub bounds : Bounds t words → Bounds u words
  pub x : u.x ≡ t.x
  pub y : u.y ≡ t.y

-- what may be written as bits is finite: the point, the operands, the points of a flex
pub record Finite (t : St) (ops cells : List Float) : Type 0 where
  pub x : T (finite t.x)
  pub y : T (finite t.y)
  pub operands : (i : ℕ) → i < t.operands → T (finite (get_or ops i nan))
  pub points : t.flexing ≡ true → t.points < 8 → (i : ℕ) → i < 2 * t.points → Good (get_or cells i nan)

-- a group that was made has room in a stem store of so many records
abbrev pub Space : St → St → ℕ → Type 0
Space t u room = (u.groups ≡ t.groups → ⊥) → t.stems + t.hints ≤ room
