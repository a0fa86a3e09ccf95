-- `renderer::numbers::operands` meets its contract.
use Rattle.std.proofs.Common.{sym, ◌∙◌}
use Rattle.renderer.proofs.OperatorLaws.{going_first, at_end, at_operator, cut-number, full_number, more_number}
use Rattle.renderer.proofs.numbers.operands.Goals as goal

pub loop-b-init : goal.loop-b-init
loop-b-init c =
    going_first _ _ _ c.told-ops

pub returns-then-not-starts_number : goal.returns-then-not-starts_number
returns-then-not-starts_number c =
    let h = c.in-Some.ensures.lookup in
    at_operator c.loop-b.invariant _ h.3.0 (h.3.1 0) (sym c.starts_number.ensures ∙ c.if-not-starts_number.true)

pub returns-in_err-number : goal.returns-in_err-number
returns-in_err-number c =
    let h = c.in-Some.ensures.lookup in
    rw c.from_residual.ensures (cut-number c.loop-b.invariant _ h.3.0 (h.3.1 0) (sym c.starts_number.ensures ∙ c.if-not-starts_number.false) c.in_err-number.ensures)

pub returns-then-count-ge-MOST : goal.returns-then-count-ge-MOST
returns-then-count-ge-MOST c =
    let h = c.in-Some.ensures.lookup in
    full_number c.loop-b.invariant _ h.3.0 (h.3.1 0) (sym c.starts_number.ensures ∙ c.if-not-starts_number.false) c.if-count-ge-MOST.true

pub loop-b-preserved : goal.loop-b-preserved
loop-b-preserved c =
    let h = c.in-Some.ensures.lookup in
    more_number c.loop-b.invariant _ h.3.0 (h.3.1 0) (sym c.starts_number.ensures ∙ c.if-not-starts_number.false) _ c.in_ok-number.ensures c.if-count-ge-MOST.false

pub returns : goal.returns
returns c =
    at_end c.loop-b.invariant c.in_default.ensures.lookup.3
