use Rattle.othersubrs.specs.Laws.{taken_told}
use mathlib.Core.Path.{ap, ◌∙◌}
use Rattle.type1.specs.Small.{ran_of}
use native.Mathlib.Omega.{arith}
use lib.Ieee.{of_bits}
use Rattle.type1.specs.declared.Ran.{Ran}
use Rattle.type1.proofs.Stacks.{fewer_bounds}
use Rattle.type1.proofs.OtherSubrs.{others-none, others_refused, others_flex, others-begin, others-collect, others_hints, others_unknown, height_none, height_first}
use Rattle.type1.proofs.subroutines.callothersubr.Goals as goal

pub returns-then-n-lt2 : goal.returns-then-n-lt2
returns-then-n-lt2 c =
    record { meets = others-none _ _ _ _ _ _ _ _ _ _ _ c.made.ensures c.if-n-lt2.true; space = λ n. absurd (n (ap (λ (q : Ran). q.st.groups) c.made.ensures)) }

pub returns-in-Err : goal.returns-in-Err
returns-in-Err c =
    record { meets = others_refused _ _ _ _ _ _ _ _ c.if-n-lt2.false _ _ _ _ c.in-Err.ensures (c.made-in-Err.ensures ∙ ap (ran_of c.args.st) c.number.ensures); space = λ n. absurd (n (ap (λ (q : Ran). q.st.groups) c.made-in-Err.ensures)) }

pub overflow_sub-from : goal.overflow_sub-from
overflow_sub-from c =
    (taken_told _ _ _ c.in-Ok.ensures).2

pub end_flex-requires : goal.end_flex-requires
unfolding of_bits
end_flex-requires c =
    record { bounds = fewer_bounds c.args.st _ _ c.requires.bounds (omega (arith, (taken_told _ _ _ c.in-Ok.ensures).2)); stems_le_room = c.requires.stems_le_room; t = (tt, c.requires.finite.points) }

pub returns-then-m-eq0 : goal.returns-then-m-eq0
unfolding of_bits
returns-then-m-eq0 c = record {
  meets = others_flex _ _ _ _ _ _ _ _ c.if-n-lt2.false (taken_told _ _ _ c.in-Ok.ensures).0 _ (taken_told _ _ _ c.in-Ok.ensures).1 (taken_told _ _ _ c.in-Ok.ensures).2 _ c.to_i64-number.ensures c.to_i64-number.type_inv _ _ _ c.if-number-eq0.true (λ o b. height_none _ _ _ c.if-m-eq0.true) c.end_flex.ensures.meets;
  space = c.end_flex.ensures.space;
}

pub end_flex-requires-then-number-eq0 : goal.end_flex-requires-then-number-eq0
end_flex-requires-then-number-eq0 c =
    record { bounds = fewer_bounds c.args.st _ _ c.requires.bounds (omega (arith, (taken_told _ _ _ c.in-Ok.ensures).2)); stems_le_room = c.requires.stems_le_room; t = (c.requires.finite.operands _ (omega (arith, c.if-n-lt2.false)), c.requires.finite.points) }

pub returns-then-number-eq0 : goal.returns-then-number-eq0
unfolding of_bits
returns-then-number-eq0 c = record {
  meets = others_flex _ _ _ _ _ _ _ _ c.if-n-lt2.false (taken_told _ _ _ c.in-Ok.ensures).0 _ (taken_told _ _ _ c.in-Ok.ensures).1 (taken_told _ _ _ c.in-Ok.ensures).2 _ c.to_i64-number.ensures c.to_i64-number.type_inv _ _ _ c.if-number-eq0.true
      (λ o b. height_first _ _ _ c.if-m-eq0.false (taken_told _ _ _ c.in-Ok.ensures).2 (omega arith)) c.end_flex-then-number-eq0.ensures.meets;
  space = c.end_flex-then-number-eq0.ensures.space;
}

pub returns-then-number-eq1 : goal.returns-then-number-eq1
unfolding of_bits
returns-then-number-eq1 c =
    record { meets = others-begin _ _ _ _ _ _ _ _ c.if-n-lt2.false (taken_told _ _ _ c.in-Ok.ensures).0 _ (taken_told _ _ _ c.in-Ok.ensures).1 (taken_told _ _ _ c.in-Ok.ensures).2 _ c.to_i64-number.ensures c.to_i64-number.type_inv c.if-number-eq0.false c.made-then-number-eq1.ensures c.if-number-eq1.true; space = λ n. absurd (n (ap (λ (q : Ran). q.st.groups) c.made-then-number-eq1.ensures)) }

pub returns-then-number-eq2 : goal.returns-then-number-eq2
unfolding of_bits
returns-then-number-eq2 c = record {
  meets = others-collect _ _ _ _ _ _ _ _ c.if-n-lt2.false (taken_told _ _ _ c.in-Ok.ensures).0 _ (taken_told _ _ _ c.in-Ok.ensures).1 (taken_told _ _ _ c.in-Ok.ensures).2 _ c.to_i64-number.ensures c.to_i64-number.type_inv c.if-number-eq0.false c.if-number-eq1.false _ c.if-number-eq2.true c.collect.ensures.groups_value c.collect.ensures.meets;
  space = λ n. absurd (n c.collect.ensures.groups_value);
}

pub returns-then-number-eq3 : goal.returns-then-number-eq3
unfolding of_bits
returns-then-number-eq3 c = record {
  meets = others_hints _ _ _ _ _ _ _ _ c.if-n-lt2.false (taken_told _ _ _ c.in-Ok.ensures).0 _ (taken_told _ _ _ c.in-Ok.ensures).1 (taken_told _ _ _ c.in-Ok.ensures).2 _ c.to_i64-number.ensures
      c.to_i64-number.type_inv c.if-number-eq0.false c.if-number-eq1.false c.if-number-eq2.false _ c.if-number-eq3.true c.hand_back.ensures.groups_value c.hand_back.ensures.meets;
  space = λ n. absurd (n c.hand_back.ensures.groups_value);
}

pub returns : goal.returns
unfolding of_bits
returns c = record {
  meets = others_unknown _ _ _ _ _ _ _ _ c.if-n-lt2.false (taken_told _ _ _ c.in-Ok.ensures).0 _ (taken_told _ _ _ c.in-Ok.ensures).1 (taken_told _ _ _ c.in-Ok.ensures).2 _ c.to_i64-number.ensures
      c.to_i64-number.type_inv c.if-number-eq0.false c.if-number-eq1.false c.if-number-eq2.false _ c.if-number-eq3.false c.hand_back-2.ensures.groups_value c.hand_back-2.ensures.meets;
  space = λ n. absurd (n c.hand_back-2.ensures.groups_value);
}
