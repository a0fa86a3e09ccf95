-- Definitions: how the code holds the box so far. A coordinate is held as its units of 1/65536 and 2 ^ 61.
use Rattle.std.specs.Prelude.{◌≡◌, ℕ, ◌<◌, min, max, true, List, Option, None, Some}
use Rattle.std.proofs.Math.Option.{Option as OptionOf, none, some}
use Rattle.renderer.specs.Machine.{reach, all_small}
use Rattle.renderer.specs.Reader.{coordinate, held, point_at, is_near, Near}
use Rattle.renderer.specs.declared.path.Position.{Position}
use Rattle.boxes.specs.Box.{box_from}
use Rattle.boxes.specs.declared.Bounds.{Bounds}
use Rattle.boxes.specs.declared.Extent.{Extent}

-- with one point more
abbrev pub extent_with : Option Extent → Position → Extent
extent_with None p = record { left = p.x; bottom = p.y; right = p.x; top = p.y }
extent_with (Some e) p = record { left = min e.left p.x; bottom = min e.bottom p.y; right = max e.right p.x; top = max e.top p.y }

abbrev pub bounds_at : Extent → Bounds
bounds_at e = record { left = coordinate e.left; bottom = coordinate e.bottom; right = coordinate e.right; top = coordinate e.top }

-- an extent of at least one point
pub record Full (b : Bounds) (e : Extent) : Type 0 where
  pub bounds : b ≡ bounds_at e
  pub near_left : Near e.left
  pub near_bottom : Near e.bottom
  pub near_right : Near e.right
  pub near_top : Near e.top

abbrev pub HoldsBox : OptionOf Bounds → Option Extent → Type 0
HoldsBox none None = Unit {0}
HoldsBox none (Some e) = ⊥
HoldsBox (some b) None = ⊥
HoldsBox (some b) (Some e) = Full b e

pub record Limited (e : Extent) : Type 0 where
  pub left : e.left < 4611686018427387904
  pub bottom : e.bottom < 4611686018427387904
  pub right : e.right < 4611686018427387904
  pub top : e.top < 4611686018427387904

-- ---- what `extended` asks and says of the points that deltas go to from p

pub record SmallFrom (d : List ℕ) (p : Position) : Type 0 where
  pub near : is_near p ≡ true
  pub small : all_small (reach (point_at p) (held d)) ≡ true

abbrev pub Extends : List ℕ → Position → Option Extent → Option Extent → Type 0
Extends d p from r = (b : OptionOf Bounds) → HoldsBox b from → HoldsBox (box_from b (reach (point_at p) (held d))) r
