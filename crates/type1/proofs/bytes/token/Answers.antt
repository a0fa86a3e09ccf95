-- `type1::bytes::token` meets its contract.
use native.Mathlib.Omega.{arith}
use mathlib.Core.Path.{refl, ◌∙◌}
use borrow.Author.Rules.{rules}
use Rattle.type1.proofs.ByteLaws.{begins, quick_is, at_operator, listed, closed, at_refused, pushed, at_end}
use Rattle.operand_stack.specs.Laws.{number_first, number_refused, refused_by, room_left}
use Rattle.type1.proofs.bytes.token.Goals as goal

pub loop-i-init : goal.loop-i-init
loop-i-init c =
    begins _ _ _ _ _ _ _ _ (omega arith) c.requires.0 c.requires.1.0 c.requires.1.1

pub loop-i-preserved-then-v-eq-CLOSEPATH_BYTE : goal.loop-i-preserved-then-v-eq-CLOSEPATH_BYTE
loop-i-preserved-then-v-eq-CLOSEPATH_BYTE c =
    closed _ _ _ _ _ _ _ _ _ _ _ _ _ _ _ _ _ c.loop-i.invariant _ _ _ (search rules) refl c.byte_of-v.ensures c.next_key-key.ensures c.if-v-eq-CLOSEPATH_BYTE.true

pub operator_at-requires : goal.operator_at-requires
operator_at-requires c =
    (c.if-v-lt32.true, omega arith)

pub returns-then-not-is_quick : goal.returns-then-not-is_quick
returns-then-not-is_quick c =
    at_operator _ _ _ _ _ _ _ _ _ _ _ _ _ _ _ _ _ c.loop-i.invariant _ _ _ (search rules) refl c.byte_of-v.ensures c.next_key-k.ensures _ _ _ refl c.place.ensures c.operator_at.ensures

pub draw-requires : goal.draw-requires
draw-requires c =
    (c.loop-i.invariant.few, c.loop-i.invariant.space)

pub operator_at-requires-in_default : goal.operator_at-requires-in_default
operator_at-requires-in_default c =
    (c.if-v-lt32.true, omega arith)

pub shape_of-cmds-in_default : goal.shape_of-cmds-in_default
shape_of-cmds-in_default c =
    c.in_default.ensures.same ∙ c.loop-i.invariant.whole

pub returns-in_default : goal.returns-in_default
returns-in_default c =
    at_operator _ _ _ _ _ _ _ _ _ _ _ _ _ _ _ _ _ c.loop-i.invariant _ _ _ (search rules) refl c.byte_of-v.ensures c.next_key-k.ensures _ _ _ c.in_default.ensures.none c.place-in_default.ensures c.operator_at-in_default.ensures

pub overflow_add-entries : goal.overflow_add-entries
overflow_add-entries c =
    omega (arith, c.in-Some.ensures.space)

pub loop-i-preserved-else-v-eq-CLOSEPATH_BYTE : goal.loop-i-preserved-else-v-eq-CLOSEPATH_BYTE
loop-i-preserved-else-v-eq-CLOSEPATH_BYTE c =
    listed _ _ _ _ _ _ _ _ _ _ _ _ _ _ _ _ _ c.loop-i.invariant _ _ _ (search rules) refl c.byte_of-v.ensures
    c.next_key-k.ensures _ _ (quick_is c.args.st.changed _ _ c.is_quick.ensures c.if-not-is_quick.false).0 (quick_is c.args.st.changed _ _ c.is_quick.ensures c.if-not-is_quick.false).1
    c.if-v-lt32.true c.in-Some.ensures

pub number_at-w-requires : goal.number_at-w-requires
number_at-w-requires c =
    (c.if-v-lt32.false, omega arith)

pub shape_of-cmds-then-f-ne0 : goal.shape_of-cmds-then-f-ne0
shape_of-cmds-then-f-ne0 c =
    c.loop-i.invariant.whole

pub returns-then-f-ne0 : goal.returns-then-f-ne0
returns-then-f-ne0 c =
    at_refused _ _ _ _ _ _ _ _ _ _ _ _ _ _ _ _ _ c.loop-i.invariant _ _ _ (search rules) refl c.byte_of-v.ensures c.next_key-k-else-v-lt32.ensures _ c.number_at-w.ensures _ _ _ (refused_by _ _ _ _ _ (c.flow_of-f.ensures ∙ number_first _ _ _ c.first.ensures) (number_refused _ _ _ c.refuse_if-cut.ensures.refused c.refuse_if-cut.ensures.free) c.room-over.ensures) c.if-f-ne0.true c.place-then-f-ne0.ensures c.found.ensures

pub bounds-ops-n : goal.bounds-ops-n
bounds-ops-n c =
    room_left c.args.reading.strict _ 5 _ c.number_at-w.result.cut (λ z. let y : ⊥ = omega (arith, z) in y) (refused_by _ _ _ _ _ (c.flow_of-f.ensures ∙ number_first _ _ _ c.first.ensures) (number_refused _ _ _ c.refuse_if-cut.ensures.refused c.refuse_if-cut.ensures.free) c.room-over.ensures) c.if-f-ne0.false

pub overflow_add-n : goal.overflow_add-n
overflow_add-n c =
    omega (arith, c.loop-i.invariant.few)

pub loop-i-smaller : goal.loop-i-smaller
loop-i-smaller c =
    omega (arith, c.number_at-w.ensures.on.0, c.number_at-w.ensures.on.1)

pub loop-i-preserved : goal.loop-i-preserved
loop-i-preserved c =
    pushed _ _ _ _ _ _ _ _ _ _ _ _ _ _ _ _ _ c.loop-i.invariant _ _ _ (search rules) refl c.byte_of-v.ensures c.next_key-k-else-v-lt32.ensures _ c.number_at-w.ensures _ (refused_by _ _ _ _ _ (c.flow_of-f.ensures ∙ number_first _ _ _ c.first.ensures) (number_refused _ _ _ c.refuse_if-cut.ensures.refused c.refuse_if-cut.ensures.free) c.room-over.ensures) c.if-f-ne0.false (omega arith)

pub returns : goal.returns
returns c =
    at_end _ _ _ _ _ _ _ _ _ _ _ _ _ _ _ _ _ c.loop-i.invariant _ _ (search rules) c.requires.0 c.place-2.ensures c.found-2.ensures
