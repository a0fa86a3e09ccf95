-- Definitions: how a box lies to a window. Document 02, (a): "Within means all of the box, touching edges included. Outside means that box and window share no point, crossing is all else."
-- A window whose least is above its greatest has no point, and so shares none.
use Rattle.std.specs.Prelude.{Bool, ◌&&◌, cond, ℤ}
use Rattle.std.specs.Int.Signed.{le_z}
use Rattle.boxes.specs.declared.Bounds.{Bounds}
use Rattle.boxes.specs.declared.Verdict.{Verdict}
use Rattle.boxes.specs.declared.Verdict.TheVariants.{Within, Crossing, Outside}

-- a to b and c to d have a number in common: each of the least is at most each of the greatest
abbrev pub meet : ℤ → ℤ → ℤ → ℤ → Bool
meet a b c d = le_z a b && le_z a d && le_z c b && le_z c d

-- there is a point in both
abbrev pub share : Bounds → Bounds → Bool
share b w = meet b.left b.right w.left w.right && meet b.bottom b.top w.bottom w.top

-- each point of the box b is in the window w
abbrev pub holds_all : Bounds → Bounds → Bool
holds_all w b = le_z w.left b.left && le_z w.bottom b.bottom && le_z b.right w.right && le_z b.top w.top

abbrev pub verdict_of : Bounds → Bounds → Verdict
verdict_of b w = cond (share b w) (cond (holds_all w b) Within Crossing) Outside
