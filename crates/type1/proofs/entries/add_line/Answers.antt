use mathlib.Core.Path.{refl, sym, ◌∙◌}
use lib.Dec.{lit<}
use Rattle.type1.proofs.PathLaws.{true_of}
use Rattle.type1.proofs.Drawing.{adds_none, line_added}
use Rattle.type1.proofs.entries.add_line.Goals as goal

pub returns-then-not-finite_point : goal.returns-then-not-finite_point
returns-then-not-finite_point c = adds_none _ _ _ _ _ _ refl

pub store_point-requires : goal.store_point-requires
store_point-requires c =
    record { k_in_bounds = c.requires; kind_nonzero = (lit< tt, lit< tt); t = true_of _ _ c.finite_point.ensures c.if-not-finite_point.false }

pub returns-in-Ok : goal.returns-in-Ok
returns-in-Ok c =
    line_added _ _ _ _ _ _ _ _ (sym c.finite_point.ensures ∙ c.if-not-finite_point.false) c.in-Ok.ensures.stores refl

pub returns-in-Err : goal.returns-in-Err
returns-in-Err c = adds_none _ _ _ _ _ _ (c.in-Err.ensures.stores.full refl).0
