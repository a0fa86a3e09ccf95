-- `hints::in_force` meets its contract. Assumes nothing.
use Rattle.std.proofs.Common.{refl, sym, ◌∙◌, arith}
use Rattle.hints.specs.Hints.{is_among}
use Rattle.hints.specs.Laws.{among_more, force_at, force_none, cut_min}
use Rattle.hints.proofs.in_force.Goals as goal

pub loop-i-init : goal.loop-i-init
unfolding is_among
loop-i-init c = refl

pub returns-then-same_stem : goal.returns-then-same_stem
returns-then-same_stem c =
    force_at _ _ _ _ _ (c.min-i-end.ensures ∙ cut_min _) _ c.loop-i-test.true (sym c.same_stem.ensures ∙ c.if-same_stem.true)

pub loop-i-preserved : goal.loop-i-preserved
loop-i-preserved c =
    among_more _ _ _ _ c.loop-i.invariant (sym c.same_stem.ensures ∙ c.if-same_stem.false)

pub returns : goal.returns
returns c = force_none _ _ _ _ _ (c.min-i-end.ensures ∙ cut_min _) _ (omega arith) (omega arith) c.loop-i.invariant
