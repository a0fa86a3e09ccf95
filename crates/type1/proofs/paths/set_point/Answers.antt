use Rattle.othersubrs.specs.OtherSubrs.{is_move}
use Rattle.type1.proofs.PathLaws.{sets_same, sets_silent, sets_listed, moved-bounds, moved_path, space_of, space_moved, both_true, both_false}
use lib.Dec.{lit<}
use mathlib.Core.Logic.{inl, inr, ◌⊎◌}
use mathlib.Core.Bool.{true, false}
use lib.Ieee.{eq}
use mathlib.Core.Path.{sym, ap, ◌∙◌, ◌≡◌}
use Rattle.type1.proofs.paths.set_point.Goals as goal
use Rattle.type1.proofs.paths.set_point.Goals.{else-p-st-via-then-p-st+else-p-st-2, else-p-st-via-else-p-st}

pub list_point-requires : goal.list_point-requires
list_point-requires c =
    record { bounds = (moved-bounds _ _ _ _ _ _ c.at_point-s.ensures c.requires.bounds c.requires.stems_le_room).0; stems_le_room = (moved-bounds _ _ _ _ _ _ c.at_point-s.ensures c.requires.bounds c.requires.stems_le_room).1; kind_nonzero = (lit< tt, lit< tt); t = c.requires.t }

pub returns-then-p-st-2-clause-step : goal.returns-then-p-st-2-clause-step
returns-then-p-st-2-clause-step c = sets_same _ _ _ _ _ _ _ c.made.ensures (both_true _ _ c.if-p-st.true c.if-p-st-2.true)

pub returns-then-is_move : goal.returns-then-is_move
returns-then-is_move c =
    record { step = sets_listed c.args.st _ _ _ _ _ _ _ _ c.at_point-s.ensures (both_false _ _ (let z : ((eq c.args.p.x c.args.st.x ≡ true) × (eq c.args.p.y c.args.st.y ≡ false)) ⊎ (eq c.args.p.x c.args.st.x ≡ false) = elim c.else-p-st.branch [ else-p-st-via-then-p-st+else-p-st-2 w ↦ inl (w.if-p-st.true, w.if-p-st-2.false) | else-p-st-via-else-p-st w ↦ inr w.if-p-st.false ] in z)) (sym (ap (λ u. is_move u.opened u.flexing) c.at_point-s.ensures) ∙ sym c.is_move.ensures ∙ c.if-is_move.true) c.list_point.ensures.step; space = space_of c.args.st _ _ (moved_path c.args.st _ _ _ _ _ c.at_point-s.ensures c.list_point.ensures.path) }

pub returns : goal.returns
returns c =
    record { step = sets_silent c.args.st _ _ _ _ _ _ (c.made-2.ensures ∙ ap (λ u. record { st = u; flow = 0 }) c.at_point-s.ensures) (both_false _ _ (let z : ((eq c.args.p.x c.args.st.x ≡ true) × (eq c.args.p.y c.args.st.y ≡ false)) ⊎ (eq c.args.p.x c.args.st.x ≡ false) = elim c.else-p-st.branch [ else-p-st-via-then-p-st+else-p-st-2 w ↦ inl (w.if-p-st.true, w.if-p-st-2.false) | else-p-st-via-else-p-st w ↦ inr w.if-p-st.false ] in z)) (sym (ap (λ u. is_move u.opened u.flexing) c.at_point-s.ensures) ∙ sym c.is_move.ensures ∙ c.if-is_move.false); space = space_moved c.args.st _ _ _ _ 0 _ c.made-2.ensures c.at_point-s.ensures }
