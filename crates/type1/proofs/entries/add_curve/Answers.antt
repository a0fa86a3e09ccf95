use mathlib.Core.Path.{refl, sym, ◌∙◌}
use Rattle.type1.proofs.PathLaws.{true_of, three_all}
use Rattle.type1.proofs.Drawing.{adds_none, curve_added}
use Rattle.type1.proofs.entries.add_curve.Goals as goal

pub returns-then-not-finite_point : goal.returns-then-not-finite_point
returns-then-not-finite_point c = adds_none _ _ _ _ _ _ refl

pub store_curve-requires : goal.store_curve-requires
store_curve-requires c =
    record { k_in_bounds = c.requires; t = (true_of _ _ c.finite_point.ensures c.if-not-finite_point.false, (true_of _ _ c.finite_point-else-not-finite_point.ensures c.if-not-finite_point-2.false, true_of _ _ c.finite_point-else-not-finite_point-2.ensures c.if-not-finite_point-3.false)) }

pub returns-in-Ok : goal.returns-in-Ok
returns-in-Ok c =
    curve_added _ _ _ _ _ _ _ _ _ _ _ _ _ _ _ _ _ _ (refl, (refl, (refl, (refl, (refl, refl))))) (three_all _ _ _ (sym c.finite_point.ensures ∙ c.if-not-finite_point.false) (sym c.finite_point-else-not-finite_point.ensures ∙ c.if-not-finite_point-2.false) (sym c.finite_point-else-not-finite_point-2.ensures ∙ c.if-not-finite_point-3.false)) c.in-Ok.ensures.stores refl

pub returns-in-Err : goal.returns-in-Err
returns-in-Err c = adds_none _ _ _ _ _ _ (c.in-Err.ensures.stores.full refl).0
