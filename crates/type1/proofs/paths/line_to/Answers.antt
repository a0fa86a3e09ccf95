use lib.Ieee.{binary64, add}
use lib.Dec.{lit<}
use mathlib.Core.Path.{sym, ◌∙◌}
use Rattle.type1.proofs.PathLaws.{lines_infinite, lines_listed, moved_path, moved-bounds, true_of, path_infinite}
use Rattle.type1.proofs.paths.line_to.Goals as goal

pub returns-then-not-finite_point : goal.returns-then-not-finite_point
returns-then-not-finite_point c =
    record { step = lines_infinite _ _ _ _ _ _ _ c.made.ensures (sym c.finite_point.ensures ∙ c.if-not-finite_point.true); path = path_infinite _ _ 13 _ c.made.ensures }

pub list_point-requires : goal.list_point-requires
list_point-requires c =
    record { bounds = (moved-bounds _ _ _ _ _ _ c.at_point.ensures c.requires.bounds c.requires.stems_le_room).0; stems_le_room = (moved-bounds _ _ _ _ _ _ c.at_point.ensures c.requires.bounds c.requires.stems_le_room).1; kind_nonzero = (lit< tt, lit< tt); t = true_of _ _ c.finite_point.ensures c.if-not-finite_point.false }

pub returns : goal.returns
returns c =
    record { step = lines_listed _ _ _ _ c.list_point.result _ _ _ _ _ c.at_point.ensures (sym c.finite_point.ensures ∙ c.if-not-finite_point.false) c.list_point.ensures.step; path = moved_path _ _ (add binary64 c.args.st.x c.args.delta.x) (add binary64 c.args.st.y c.args.delta.y) _ _ c.at_point.ensures c.list_point.ensures.path }
