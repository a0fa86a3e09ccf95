-- `type1::operators::pop` meets its contract.
use mathlib.Core.Path.{◌∙◌}
use native.Mathlib.Omega.{arith}
use lib.Dec.{eqb}
use Rattle.operand_stack.specs.Laws.{number_first, number_refused, refused_by, room_left, some_left}
use Rattle.type1.proofs.Stacks.{pop_refused, pop_done, groups-kept}
use Rattle.type1.proofs.operators.pop.Goals as goal

pub returns-then-f-ne0 : goal.returns-then-f-ne0
returns-then-f-ne0 c =
    record { meets = λ m s room words H. pop_refused _ _ s H c.args.reading room words _ _ (refused_by _ _ _ _ _ (c.flow_of-f.ensures ∙ number_first _ _ _ c.first.ensures) (number_refused _ _ _ c.refuse_if-none.ensures.refused c.refuse_if-none.ensures.free) c.room-over.ensures) c.if-f-ne0.true c.made.ensures; groups_value = groups-kept _ _ _ c.made.ensures }

pub overflow_sub-ops : goal.overflow_sub-ops
overflow_sub-ops c = some_left _ 11 _ _ (λ z. let y : ⊥ = omega (arith, z) in y) (refused_by _ _ _ _ _ (c.flow_of-f.ensures ∙ number_first _ _ _ c.first.ensures) (number_refused _ _ _ c.refuse_if-none.ensures.refused c.refuse_if-none.ensures.free) c.room-over.ensures) c.if-f-ne0.false

pub bounds-ops-n : goal.bounds-ops-n
bounds-ops-n c = room_left c.args.reading.strict c.args.st.operands 11 _ (eqb c.args.st.postscript 0) (λ z. let y : ⊥ = omega (arith, z) in y) (refused_by _ _ _ _ _ (c.flow_of-f.ensures ∙ number_first _ _ _ c.first.ensures) (number_refused _ _ _ c.refuse_if-none.ensures.refused c.refuse_if-none.ensures.free) c.room-over.ensures) c.if-f-ne0.false

pub overflow_sub-s : goal.overflow_sub-s
overflow_sub-s c = some_left _ 11 _ _ (λ z. let y : ⊥ = omega (arith, z) in y) (refused_by _ _ _ _ _ (c.flow_of-f.ensures ∙ number_first _ _ _ c.first.ensures) (number_refused _ _ _ c.refuse_if-none.ensures.refused c.refuse_if-none.ensures.free) c.room-over.ensures) c.if-f-ne0.false

pub returns : goal.returns
returns c =
    record { meets = λ m s room words H. pop_done _ _ s H c.args.reading room words _ _ (refused_by _ _ _ _ _ (c.flow_of-f.ensures ∙ number_first _ _ _ c.first.ensures) (number_refused _ _ _ c.refuse_if-none.ensures.refused c.refuse_if-none.ensures.free) c.room-over.ensures) c.if-f-ne0.false c.made-2.ensures; groups_value = groups-kept _ _ 0 c.made-2.ensures }
