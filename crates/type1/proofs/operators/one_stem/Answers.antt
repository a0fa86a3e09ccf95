use mathlib.Core.Path.{ap, sym, subst, ◌∙◌, refl}
use Prim.Native.Nat.{◌≤◌}
use native.Mathlib.Omega.{arith}
use Rattle.type1.specs.Run.{within}
use Rattle.type1.specs.Memory.{with_ops}
use Rattle.type1.specs.Deltas.{stem_from}
use Rattle.type1.specs.declared.St.{St}
use Rattle.type1.proofs.Steps.{stem_is}
use Rattle.type1.proofs.Stacks.{too_few, enough, from_cleared, groups-kept}
use Rattle.type1.proofs.operators.one_stem.Goals as goal

pub returns-then-n-lt2 : goal.returns-then-n-lt2
unfolding stem_from
returns-then-n-lt2 c = record { hinted = λ m s room words H. too_few _ _ s H 2 _ _ c.made.ensures c.if-n-lt2.true; groups_value = groups-kept _ _ 7 c.made.ensures }

pub add_stem-requires : goal.add_stem-requires
add_stem-requires c = subst (λ (u : St). u.hints ≤ 256) (sym c.cleared.ensures) c.requires.1

pub returns : goal.returns
unfolding stem_from
returns c = record {
  hinted = λ m s room words H. enough _ _ s H 2 _ _ _ _ c.if-n-lt2.false (stem_is _ _ s H (within room words) _ 1 _ _ _ refl (omega arith) c.if-n-lt2.false)
      (c.add_stem.ensures.meets (with_ops c.args.ops.now m) _ room words (from_cleared _ _ _ s H c.cleared.ensures));
  groups_value = c.add_stem.ensures.hints_bound.1 ∙ ap (λ (u : St). u.groups) c.cleared.ensures;
}
