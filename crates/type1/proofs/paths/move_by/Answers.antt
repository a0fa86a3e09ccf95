use lib.Dec.{lit<}
use mathlib.Core.Path.{sym, ap, ◌∙◌}
use Rattle.type1.proofs.Groups.{space_same}
use Rattle.type1.proofs.PathLaws.{moves_infinite, moves_flexing, moves_listed, moved-bounds, true_of, space_moved, space_opened}
use Rattle.type1.proofs.paths.move_by.Goals as goal

pub returns-then-not-finite_point : goal.returns-then-not-finite_point
returns-then-not-finite_point c =
    record { step = moves_infinite _ _ _ _ _ _ _ c.made.ensures (sym c.finite_point.ensures ∙ c.if-not-finite_point.true); space = space_same c.args.st _ 14 _ c.made.ensures }

pub returns-then-st : goal.returns-then-st
returns-then-st c =
    record { step = moves_flexing _ _ _ _ _ _ _ (c.made-then-st.ensures ∙ ap (λ u. record { st = u; flow = 0 }) c.at_point.ensures) (sym c.finite_point.ensures ∙ c.if-not-finite_point.false) c.if-st.true; space = space_moved c.args.st _ _ _ _ 0 _ c.made-then-st.ensures c.at_point.ensures }

pub list_point-requires : goal.list_point-requires
list_point-requires c =
    record { bounds = (moved-bounds _ _ _ _ _ _ c.at_point-2.ensures c.requires.bounds c.requires.stems_le_room).0; stems_le_room = (moved-bounds _ _ _ _ _ _ c.at_point-2.ensures c.requires.bounds c.requires.stems_le_room).1; kind_nonzero = (lit< tt, lit< tt); t = true_of _ _ c.finite_point.ensures c.if-not-finite_point.false }

pub returns : goal.returns
returns c =
    record { step = moves_listed _ c.args.st _ c.list_point.result _ _ _ _ _ _ c.at_point-2.ensures (sym c.finite_point.ensures ∙ c.if-not-finite_point.false) c.if-st.false c.list_point.ensures.step c.opened.ensures; space = space_opened c.args.st _ c.list_point.result _ _ _ _ c.at_point-2.ensures c.opened.ensures c.list_point.ensures.path }
