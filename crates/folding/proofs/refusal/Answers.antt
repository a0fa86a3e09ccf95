use mathlib.Core.Bool.{Bool, cond}
use mathlib.Core.Path.{sym, ap, ◌∙◌}
use borrow.Author.Tests.{eq-eqb, ne_eqb}
use Rattle.folding.specs.Folding.{refusal}
use Rattle.folding.proofs.refusal.Goals as goal

pub returns-then-before-ne0 : goal.returns-then-before-ne0
unfolding refusal
returns-then-before-ne0 c =
    sym (ap (λ (b : Bool). cond b (cond c.args.finite c.args.written 14) c.args.before) (ne_eqb c.args.before 0 c.if-before-ne0.true))

pub returns-then-finite : goal.returns-then-finite
unfolding refusal
returns-then-finite c =
    sym (ap (λ (b : Bool). cond b (cond c.args.finite c.args.written 14) c.args.before) (eq-eqb c.args.before 0 c.if-before-ne0.false) ∙ ap (λ (b : Bool). cond b c.args.written 14) c.if-finite.true)

pub returns-else-finite : goal.returns-else-finite
unfolding refusal
returns-else-finite c =
    sym (ap (λ (b : Bool). cond b (cond c.args.finite c.args.written 14) c.args.before) (eq-eqb c.args.before 0 c.if-before-ne0.false) ∙ ap (λ (b : Bool). cond b c.args.written 14) c.if-finite.false)
