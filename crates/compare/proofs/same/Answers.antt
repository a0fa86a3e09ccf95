-- `compare::same` meets its contract: it tells whether both are one value.
use mathlib.Core.Path.{sym, ap, subst, ◌∙◌}
use mathlib.Core.Bool.{not, true≢false}
use borrow.Author.Tests.{not-true, not-false}
use lib.Dec.{T}
use lib.Ieee.{Float, binary64, fits, of_bits, eq, ne}
use lib.Ieee.Compare.{differs_from_itself}
use Rattle.compare.proofs.Alike.{zeros, zero_alike, nonzero}
use Rattle.compare.proofs.same.Goals as goal

pub returns-then-x : goal.returns-then-x
unfolding of_bits ne
returns-then-x c =
    (λ _. nonzero c.args.x c.args.y (let z : T (fits binary64 c.args.x) = subst T (sym c.well_formed.0.1) tt in z) (let z : T (fits binary64 c.args.y) = subst T (sym c.well_formed.1.0.1) tt in z) c.if-x-y.true (not-true _ c.if-x.true), λ _. subst T (sym c.if-x.true) tt)

pub returns-else-x : goal.returns-else-x
unfolding of_bits ne
returns-else-x c =
    (zeros c.args.x c.args.y (let z : T (fits binary64 c.args.x) = subst T (sym c.well_formed.0.1) tt in z) (let z : T (fits binary64 c.args.y) = subst T (sym c.well_formed.1.0.1) tt in z) c.if-x-y.true (not-false _ c.if-x.false), zero_alike c.args.x c.args.y (let z : T (fits binary64 c.args.x) = subst T (sym c.well_formed.0.1) tt in z) (not-false _ c.if-x.false))

pub returns-then-x-2 : goal.returns-then-x-2
unfolding ne
returns-then-x-2 c =
    let n = subst T (sym c.if-x-2.true) tt in
    (λ h. differs_from_itself c.args.x n ∙ sym (differs_from_itself c.args.y h), λ p. subst (λ (y : Float). T (not (eq y y))) p n)

pub returns-else-x-2 : goal.returns-else-x-2
unfolding ne
returns-else-x-2 c =
    (λ h. absurd (subst T c.if-x-2.false h), λ p. absurd (true≢false (sym (not-false _ c.if-x-2.false) ∙ ap (eq c.args.x) p ∙ c.if-x-y.false)))
