-- Definitions: the box of a finished charstring. Document 02, (a): "the least and greatest coordinate of all points it draws, moves and control points included, in units of 1/65536".
use Rattle.std.specs.Prelude.{cond, List, [], ◌∷◌, ◌++◌, ℤ}
use Rattle.std.proofs.Math.Option.{Option, none, some}
use Rattle.std.specs.Int.Signed.{le_z}
use Rattle.renderer.specs.Machine.{Point, Entry, Result, failed, ended}
use Rattle.boxes.specs.declared.Bounds.{Bounds}

abbrev pub lesser : ℤ → ℤ → ℤ
lesser a b = cond (le_z a b) a b

abbrev pub greater : ℤ → ℤ → ℤ
greater a b = cond (le_z a b) b a

-- the box of one point more; before the first point there is no box
abbrev pub grow : Option Bounds → Point → Option Bounds
grow none p = some (record { left = p.x; bottom = p.y; right = p.x; top = p.y })
grow (some b) p = some (record { left = lesser b.left p.x; bottom = lesser b.bottom p.y; right = greater b.right p.x; top = greater b.top p.y })

unfoldable pub box_from : Option Bounds → List Point → Option Bounds
box_from b [] = b
box_from b (p ∷ ps) = box_from (grow b p) ps

-- all points that are drawn, in order. Document 01, "Type 2 machine": "An entry [..] is a kind and the points it goes to, its start not among them."
unfoldable pub points : List (Entry Point) → List Point
points [] = []
points (e ∷ es) = e.points ++ points es

-- none "for bytes on which the machine faults and for a glyph that draws no point"
abbrev pub box_of : Result → Option Bounds
box_of failed = none
box_of (ended s rest) = box_from none (points s.drawn)
