use mathlib.Core.Path.{refl, sym, ◌∙◌}
use Rattle.type1.proofs.PathLaws.{curves_infinite, curves_listed, lists_stop, lists_on, moved-bounds, moved_path, path_infinite, path_enter, true_of, curve_after, one_false, three_all}
use Rattle.std.proofs.Common.{true≢false}
use Rattle.type1.proofs.paths.curve_to.Goals as goal
use Rattle.type1.proofs.paths.curve_to.Goals.{then-not-finite_point-via-then-not-finite_point, then-not-finite_point-via-else-not-finite_point+then-not-finite_point-2, then-not-finite_point-via-else-not-finite_point+else-not-finite_point-2+then-not-finite_point-3}

pub returns-then-not-finite_point : goal.returns-then-not-finite_point
returns-then-not-finite_point c = record {
  step = curves_infinite c.args.st _ _ _ _ _ _ _ _ _ _ _ _ (refl, (refl, (refl, (refl, (refl, refl))))) _ _ _ _ c.made.ensures (one_false _ _ _ (λ x y z. elim c.then-not-finite_point.branch [
    | then-not-finite_point-via-then-not-finite_point w ↦ true≢false (sym x ∙ sym c.finite_point.ensures ∙ w.if-not-finite_point.true)
    | then-not-finite_point-via-else-not-finite_point+then-not-finite_point-2 w ↦ true≢false (sym y ∙ sym w.finite_point-else-not-finite_point.ensures ∙ w.if-not-finite_point-2.true)
    | then-not-finite_point-via-else-not-finite_point+else-not-finite_point-2+then-not-finite_point-3 w ↦ true≢false (sym z ∙ sym w.finite_point-else-not-finite_point-2.ensures ∙ w.if-not-finite_point-3.true)
  ]));
  path = path_infinite _ _ 13 _ c.made.ensures;
}

pub commit-c-requires : goal.commit-c-requires
commit-c-requires c =
    let both = moved-bounds _ _ _ _ _ _ c.at_point.ensures c.requires.bounds c.requires.stems_le_room in record { bounds = both.0; stems_le_room = both.1 }

pub returns-then-c-ne0 : goal.returns-then-c-ne0
returns-then-c-ne0 c = record {
  step = curves_listed c.args.st _ _ _ _ _ _ _ _ _ _ _ _ (refl, (refl, (refl, (refl, (refl, refl))))) _ _ _ _ _ _ c.at_point.ensures (three_all _ _ _ (sym c.finite_point.ensures
      ∙ c.if-not-finite_point.false) (sym c.finite_point-else-not-finite_point.ensures
      ∙ c.if-not-finite_point-2.false) (sym c.finite_point-else-not-finite_point-2.ensures
      ∙ c.if-not-finite_point-3.false)) (lists_stop _ _ _ _ _ _ _ c.commit-c.ensures.step c.if-c-ne0.true);
  path = moved_path c.args.st _ _ _ _ _ c.at_point.ensures c.commit-c.ensures.path;
}

pub enter_curve-requires : goal.enter_curve-requires
enter_curve-requires c =
    record { entries_in_bounds = curve_after _ _ _ _ _ c.commit-c.ensures.grown c.cmds-1.given; t = (true_of _ _ c.finite_point.ensures c.if-not-finite_point.false, (true_of _ _ c.finite_point-else-not-finite_point.ensures c.if-not-finite_point-2.false, true_of _ _ c.finite_point-else-not-finite_point-2.ensures c.if-not-finite_point-3.false)) }

pub returns : goal.returns
returns c = record {
  step = curves_listed c.args.st _ _ _ _ _ _ _ _ _ _ _ _ (refl, (refl, (refl, (refl, (refl, refl))))) _ _ _ _ _ _ c.at_point.ensures (three_all _ _ _ (sym c.finite_point.ensures
      ∙ c.if-not-finite_point.false) (sym c.finite_point-else-not-finite_point.ensures
      ∙ c.if-not-finite_point-2.false) (sym c.finite_point-else-not-finite_point-2.ensures
      ∙ c.if-not-finite_point-3.false)) (lists_on _ _ c.commit-c.result _ _ _ _ _ _ c.commit-c.ensures.step c.if-c-ne0.false
      c.cmds-1.given c.enter_curve.ensures.meets
      c.enter_curve.ensures.plain);
  path = moved_path c.args.st _ _ _ _ _ c.at_point.ensures (path_enter _ c.commit-c.result _ _ c.commit-c.ensures.path
      c.if-c-ne0.false c.enter_curve.ensures.plain);
}
