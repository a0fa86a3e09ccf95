-- `type1_to_type2::drawing::draw_points` meets its contract: the points left are written by the turns left.
use Rattle.type1_to_type2.proofs.Points.{PointsLeft}
use Prim.Native.Nat.{◌≤◌, ◌-◌}
use Rattle.type1_to_type2.proofs.drawing.draw_points.Given as goal

abbrev pub invariant-loop-j : goal.invariant-loop-j
invariant-loop-j l = PointsLeft l.fold l.commands l.e l.n l.initial.r l.initial.out l.r l.out l.j
