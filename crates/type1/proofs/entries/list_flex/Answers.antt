use Rattle.type1.proofs.Store.{enters_cells}
use Rattle.type1.specs.Small.{GoodPoint}
use lib.Dec.{lit<}
use mathlib.Core.Path.{sym, subst}
use Rattle.type1.proofs.entries.list_flex.Goals as goal

pub enter_flex-requires : goal.enter_flex-requires
enter_flex-requires c = record { entries_in_bounds = c.requires.entries_in_bounds; good_point = (subst GoodPoint (sym c.collected.ensures) (c.requires.t.1 2 (lit< tt), c.requires.t.1 3 (lit< tt)), (subst GoodPoint (sym c.collected-2.ensures) (c.requires.t.1 4 (lit< tt), c.requires.t.1 5 (lit< tt)), subst GoodPoint (sym c.collected-3.ensures) (c.requires.t.1 6 (lit< tt), c.requires.t.1 7 (lit< tt)))); good_point_2 = (subst GoodPoint (sym c.collected-4.ensures) (c.requires.t.1 8 (lit< tt), c.requires.t.1 9 (lit< tt)), (subst GoodPoint (sym c.collected-5.ensures) (c.requires.t.1 10 (lit< tt), c.requires.t.1 11 (lit< tt)), subst GoodPoint (sym c.collected-6.ensures) (c.requires.t.1 12 (lit< tt), c.requires.t.1 13 (lit< tt)))); t = c.requires.t.0 }

pub returns : goal.returns
returns c =
    record { meets = enters_cells _ _ _ _ _ _ _ _ _ _ _ _ c.collected.ensures c.collected-2.ensures c.collected-3.ensures c.collected-4.ensures c.collected-5.ensures c.collected-6.ensures c.enter_flex.ensures.meets; plain = c.enter_flex.ensures.plain }
