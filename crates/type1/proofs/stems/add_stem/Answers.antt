use Rattle.type1.proofs.Hints.{add_infinite, add_same, add_full, add_new, in_bounds, one_more}
use mathlib.Core.Path.{sym, ◌∙◌}
use Rattle.type1.proofs.stems.add_stem.Goals as goal

pub returns-then-not-is_finite : goal.returns-then-not-is_finite
returns-then-not-is_finite c =
    record { meets = λ m s room words H. add_infinite _ _ s H room words _ _ _ _ c.made.ensures (sym c.is_finite.ensures ∙ c.if-not-is_finite.true); hints_bound = in_bounds _ _ 14 c.made.ensures c.requires }

pub returns-then-in_force : goal.returns-then-in_force
returns-then-in_force c =
    record { meets = λ m s room words H. add_same _ _ s H room words _ _ _ (sym c.is_finite.ensures ∙ c.if-not-is_finite.false) _ c.made-then-in_force.ensures (sym c.in_force.ensures ∙ c.if-in_force.true); hints_bound = in_bounds _ _ 0 c.made-then-in_force.ensures c.requires }

pub returns-then-n-eq256 : goal.returns-then-n-eq256
returns-then-n-eq256 c =
    record { meets = λ m s room words H. add_full _ _ s H room words _ _ _ (sym c.is_finite.ensures ∙ c.if-not-is_finite.false) _ c.made-then-n-eq256.ensures (sym c.in_force.ensures ∙ c.if-in_force.false) c.if-n-eq256.true; hints_bound = in_bounds _ _ 16 c.made-then-n-eq256.ensures c.requires }

pub returns : goal.returns
returns c =
    record { meets = λ m s room words H. add_new _ _ s H room words _ _ _ (sym c.is_finite.ensures ∙ c.if-not-is_finite.false) _ c.made-2.ensures (sym c.in_force.ensures ∙ c.if-in_force.false) c.if-n-eq256.false; hints_bound = one_more c.args.st _ c.made-2.ensures c.requires c.if-n-eq256.false }
