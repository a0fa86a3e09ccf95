-- `type1_to_type2::drawing::draw_points` meets its contract: the points left are written by the turns left.
use Rattle.type1_to_type2.proofs.Points.{points-first, point_good, point-written, points-written}
use borrow.Author.Rules.{rules}
use native.Mathlib.Omega.{arith}
use Rattle.type1_to_type2.proofs.drawing.draw_points.Goals as goal

pub loop-j-init : goal.loop-j-init
loop-j-init c =
    points-first _ _ _ _ _ _ c.requires.all

pub read_point-p-requires : goal.read_point-p-requires
read_point-p-requires c =
    record { entry_words_in_bounds = (c.requires.entry_words_in_bounds.0, omega (arith, c.requires.entry_words_in_bounds)); of_point = point_good _ _ _ _ _ (omega arith) c.loop-j.invariant }

pub loop-j-preserved : goal.loop-j-preserved
loop-j-preserved c =
    point-written _ _ _ _ _ _ (omega arith) c.loop-j.invariant c.read_point-p.ensures c.put_delta-r.ensures

pub shape_of-out : goal.shape_of-out
shape_of-out c =
    (points-written _ _ _ _ _ (omega arith) c.loop-j.invariant).puts.same

pub returns : goal.returns
returns c =
    points-written _ _ _ _ _ (omega arith) c.loop-j.invariant
