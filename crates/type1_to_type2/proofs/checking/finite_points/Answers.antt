use native.Mathlib.Omega.{arith}
use mathlib.Core.Path.{refl, sym, ◌∙◌}
use mathlib.Core.Bool.{true}
use Rattle.type1_to_type2.proofs.CheckingLaws.{points_none, points_more, points_all, points_false}
use Rattle.type1_to_type2.proofs.checking.finite_points.Goals as goal

pub loop-e-init : goal.loop-e-init
loop-e-init c = points_none _ _

pub check_entry-requires : goal.check_entry-requires
check_entry-requires c =
    record { entry_words_in_bounds = omega (arith, c.requires.0); all = c.requires.1 _ (omega arith) }

pub returns-then-not-check_entry : goal.returns-then-not-check_entry
returns-then-not-check_entry c =
    points_false _ _ c.loop-e.e _ (omega arith) (sym c.check_entry.ensures ∙ c.if-not-check_entry.true)

pub loop-e-preserved : goal.loop-e-preserved
loop-e-preserved c =
    points_more _ _ _ true true true c.loop-e.invariant (sym c.if-not-check_entry.false ∙ c.check_entry.ensures) refl

pub returns : goal.returns
returns c =
    points_all _ _ _ _ _ (omega arith) c.loop-e.invariant
