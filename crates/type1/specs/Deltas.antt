-- Definitions: what the operands of moves, lines, curves and stems stand for, by the shape of the operator (document 01, "Type 1 run"; T1, 6.4).
-- `Run.operate` has them operator by operator; that it says the same is shown in `DeltaLaws`.
use Rattle.std.specs.Prelude.{ℕ, ◌-◌, Bool, ◌||◌, List, eqb, leb, length, get_or, Float, Option, Some, None}
use Rattle.std.specs.Float.{nan, binary64}
use Rattle.std.specs.Float.Ieee.{add}
use Rattle.geometry.specs.declared.Point.{Point}
use Rattle.type1.specs.declared.Deltas.{Deltas}
use Rattle.outline.specs.Outline.{plus_zero, pick}
use Rattle.type1.specs.State.{State}
use Rattle.type1.specs.Run.{Limits, Outcome, refused, needs, top, cleared, stem, curve_by, point_at}

-- what a move or a line takes: dx dy (rmoveto, rlineto), dx (hmoveto, hlineto), or dy (vmoveto, vlineto)
pub data Axes : Type 0 where
  both horizontal vertical : Axes

-- by the operator's number
abbrev pub axes_of : ℕ → Axes
axes_of n = pick (eqb n 6 || eqb n 22) horizontal (pick (eqb n 4 || eqb n 7) vertical both)

-- how a curve begins and ends: in any directions (rrcurveto), vertical and then horizontal (vhcurveto), or horizontal and then vertical (hvcurveto)
pub data Tangents : Type 0 where
  any vertical_horizontal horizontal_vertical : Tangents

abbrev pub tangents_of : ℕ → Tangents
tangents_of n = pick (eqb n 30) vertical_horizontal (pick (eqb n 31) horizontal_vertical any)

-- the k-th operand from the top, which is the first
abbrev pub from_top : ℕ → List Float → Float
from_top k l = get_or l (length l - k) nan

-- where there are so many operands
abbrev pub given : {A : Type 0} → ℕ → List Float → A → Option A
given n l d = pick (leb n (length l)) (Some d) None

-- three deltas of which each has a part along x and one along y
abbrev pub deltas_of : Float → Float → Float → Float → Float → Float → Deltas
deltas_of dx1 dy1 dx2 dy2 dx3 dy3 = record { first = point_at dx1 dy1; second = point_at dx2 dy2; third = point_at dx3 dy3 }

unfoldable pub point_delta : Axes → List Float → Option Point
point_delta both l = given 2 l (point_at (from_top 2 l) (from_top 1 l))
point_delta horizontal l = given 1 l (point_at (from_top 1 l) plus_zero)
point_delta vertical l = given 1 l (point_at plus_zero (from_top 1 l))

unfoldable pub curve_deltas : Tangents → List Float → Option Deltas
curve_deltas any l = given 6 l (deltas_of (from_top 6 l) (from_top 5 l) (from_top 4 l) (from_top 3 l) (from_top 2 l) (from_top 1 l))
curve_deltas vertical_horizontal l = given 4 l (deltas_of plus_zero (from_top 4 l) (from_top 3 l) (from_top 2 l) (from_top 1 l) plus_zero)
curve_deltas horizontal_vertical l = given 4 l (deltas_of (from_top 4 l) plus_zero (from_top 3 l) (from_top 2 l) plus_zero (from_top 1 l))

-- what f does by the operands; with too few of them it is refused with 7
abbrev pub by : {A : Type 0} → (A → Outcome) → Option A → Outcome
by f None = refused 7
by f (Some d) = f d

-- a move or a line, as f does it by a delta: the stack is cleared
unfoldable pub by_point : (Limits → Float → Float → State → Outcome) → Axes → Limits → State → Outcome
by_point f a lim s = by (λ d. f lim d.x d.y (cleared s)) (point_delta a s.operands)

-- a curve by its deltas
abbrev pub by_deltas : Limits → Deltas → State → Outcome
by_deltas lim d = curve_by lim d.first.x d.first.y d.second.x d.second.y d.third.x d.third.y

unfoldable pub by_curve : Tangents → Limits → State → Outcome
by_curve a lim s = by (λ d. by_deltas lim d (cleared s)) (curve_deltas a s.operands)

-- hstem and vstem, counted from a side bearing
unfoldable pub stem_from : Bool → Float → Limits → State → Outcome
stem_from h from lim s = needs 2 s (stem lim h (add binary64 from (top 2 s)) (top 1 s) (cleared s))
