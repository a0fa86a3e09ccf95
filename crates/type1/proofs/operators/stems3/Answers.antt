use mathlib.Core.Path.{ap, sym, subst, ◌∙◌}
use Prim.Native.Nat.{◌≤◌}
use native.Mathlib.Omega.{arith}
use Rattle.type1.specs.Run.{stems3}
use Rattle.type1.specs.Memory.{with_ops}
use Rattle.type1.specs.declared.St.{St}
use Rattle.type1.proofs.Steps.{first_stops, second_stops, all_three}
use Rattle.type1.proofs.Stacks.{too_few, from_cleared, groups-kept}
use Rattle.type1.proofs.operators.stems3.Goals as goal

pub returns-then-n-lt6 : goal.returns-then-n-lt6
unfolding stems3
returns-then-n-lt6 c =
    record { hinted = λ m s room words H. too_few _ _ s H 6 _ _ c.made.ensures c.if-n-lt6.true; groups_value = groups-kept _ _ 7 c.made.ensures }

pub add_stem-a-requires : goal.add_stem-a-requires
add_stem-a-requires c =
    subst (λ (u : St). u.hints ≤ 256) (sym c.cleared.ensures) c.requires.1

pub returns-then-a-ne0 : goal.returns-then-a-ne0
returns-then-a-ne0 c =
    record { hinted = λ m s room words H. first_stops _ _ s H _ _ _ c.if-n-lt6.false _ _ (c.add_stem-a.ensures.meets (with_ops c.args.ops.now m) _ room words (from_cleared _ _ _ s H c.cleared.ensures)) c.if-a-ne0.true; groups_value = c.add_stem-a.ensures.hints_bound.1 ∙ ap (λ (u : St). u.groups) c.cleared.ensures }

pub returns-then-b-ne0 : goal.returns-then-b-ne0
returns-then-b-ne0 c = record {
  hinted = λ m s room words H. second_stops _ _ s H _ _ _ c.if-n-lt6.false _ _ _ _ (c.add_stem-a.ensures.meets (with_ops c.args.ops.now m) _ room words (from_cleared _ _ _ s H c.cleared.ensures))
      c.if-a-ne0.false (λ v K. c.add_stem-b.ensures.meets (with_ops c.args.ops.now m) v room words K) c.if-b-ne0.true;
  groups_value = c.add_stem-b.ensures.hints_bound.1
      ∙ c.add_stem-a.ensures.hints_bound.1 ∙ ap (λ (u : St). u.groups) c.cleared.ensures;
}

pub overflow_sub-w : goal.overflow_sub-w
overflow_sub-w c =
    omega (arith, c.if-n-lt6.false, c.requires.0)

pub offset_bounds-ops-n-5 : goal.offset_bounds-ops-n-5
offset_bounds-ops-n-5 c =
    omega (arith, c.if-n-lt6.false, c.requires.0)

pub bounds-ops-n-5 : goal.bounds-ops-n-5
bounds-ops-n-5 c =
    omega (arith, c.if-n-lt6.false, c.requires.0)

pub overflow_sub-w-2 : goal.overflow_sub-w-2
overflow_sub-w-2 c =
    omega (arith, c.if-n-lt6.false, c.requires.0)

pub offset_bounds-ops-n-6 : goal.offset_bounds-ops-n-6
offset_bounds-ops-n-6 c =
    omega (arith, c.if-n-lt6.false, c.requires.0)

pub bounds-ops-n-6 : goal.bounds-ops-n-6
bounds-ops-n-6 c =
    omega (arith, c.if-n-lt6.false, c.requires.0)

pub returns : goal.returns
returns c = record {
  hinted = λ m s room words H. all_three _ _ s H _ _ _ c.if-n-lt6.false _ _ _ _ _ _ (c.add_stem-a.ensures.meets (with_ops c.args.ops.now m) _ room words (from_cleared _ _ _ s H c.cleared.ensures))
      c.if-a-ne0.false
      (λ v K. c.add_stem-b.ensures.meets (with_ops c.args.ops.now m) v room words K) c.if-b-ne0.false
      (λ v K. c.add_stem.ensures.meets (with_ops c.args.ops.now m) v room words K);
  groups_value = c.add_stem.ensures.hints_bound.1 ∙ c.add_stem-b.ensures.hints_bound.1
      ∙ c.add_stem-a.ensures.hints_bound.1 ∙ ap (λ (u : St). u.groups) c.cleared.ensures;
}
