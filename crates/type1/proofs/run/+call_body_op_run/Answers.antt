-- The cycle of calls {call_body, op, run}: each step is the run's, by `CycleLaws`.
use Rattle.std.proofs.Common.{List, length, refl, sym, ap, ◌∙◌, subst, arith}
use Rattle.type1.proofs.Tests.{differ, agree, equal, bytes}
use Rattle.std.proofs.lemmas.Bool.{le-ltb}
use Rattle.outline.specs.declared.Stem.{Stem}
use Rattle.type1.specs.Memory.{kept}
use Rattle.type1.specs.Small.{ran_of}
use Rattle.type1.specs.Cycle.{mem_of, op_d, MeetsFrom}
use Rattle.type1.proofs.Groups.{found_told}
use Rattle.type1.proofs.CycleLaws.{finite_of, kept_same, kept_new, plained, call_refused, too_deep, ready_call, called, starts, ended, ready_token, token_stopped, op_stopped, op_went}
use Rattle.type1.proofs.run.+call_body_op_run.Goals as goal

pub call_body-returns-in-Err : goal.call_body-returns-in-Err
call_body-returns-in-Err t c =
    call_refused c.args.bank.now c.args.reading c.args.levels 10 c.args.st (mem_of c.args.ops.now c.args.ps.now c.args.cells.now c.args.edges.now c.args.across.now c.args.cmds.now c.args.stems.now) tt _ (λ s K. c.in-Err.ensures (mem_of c.args.ops.now c.args.ps.now c.args.cells.now c.args.edges.now c.args.across.now c.args.cmds.now c.args.stems.now) s c.args.reading K) _ _ (c.made.ensures ∙ ap (ran_of c.args.st) c.number.ensures)

pub call_body-returns-then-levels-eq0 : goal.call_body-returns-then-levels-eq0
call_body-returns-then-levels-eq0 t c =
    too_deep c.args.bank.now c.args.reading c.args.levels 10 c.args.st (mem_of c.args.ops.now c.args.ps.now c.args.cells.now c.args.edges.now c.args.across.now c.args.cmds.now c.args.stems.now) tt _ (λ s K. c.in-Ok.ensures (mem_of c.args.ops.now c.args.ps.now c.args.cells.now c.args.edges.now c.args.across.now c.args.cmds.now c.args.stems.now) s c.args.reading K) _ c.made-then-levels-eq0.ensures (equal _ _ c.if-levels-eq0.true)

pub call_body-run-requires : goal.call_body-run-requires
call_body-run-requires t c =
    (omega arith, (omega arith, (c.requires.1.0, ready_call c.args.bank.now c.args.reading c.args.levels 10 c.args.st (mem_of c.args.ops.now c.args.ps.now c.args.cells.now c.args.edges.now c.args.across.now c.args.cmds.now c.args.stems.now) tt _ (λ s K. c.in-Ok.ensures (mem_of c.args.ops.now c.args.ps.now c.args.cells.now c.args.edges.now c.args.across.now c.args.cmds.now c.args.stems.now) s c.args.reading K) (bytes _ c.type_inv.bank) c.requires.1.1)))

pub call_body-returns : goal.call_body-returns
call_body-returns t c =
    called c.args.bank.now c.args.reading c.args.levels 10 c.args.st (mem_of c.args.ops.now c.args.ps.now c.args.cells.now c.args.edges.now c.args.across.now c.args.cmds.now c.args.stems.now) tt _ (λ s K. c.in-Ok.ensures (mem_of c.args.ops.now c.args.ps.now c.args.cells.now c.args.edges.now c.args.across.now c.args.cmds.now c.args.stems.now) s c.args.reading K) _ c.body.ensures (differ _ _ c.if-levels-eq0.false) _ _ c.run.ensures

pub op-call_body-requires : goal.op-call_body-requires
op-call_body-requires t c = (omega arith, c.requires)

pub op-plain-r-requires-clause-finite : goal.op-plain-r-requires-clause-finite
op-plain-r-requires-clause-finite t c = finite_of c.args.st (mem_of c.args.ops.now c.args.ps.now c.args.cells.now c.args.edges.now c.args.across.now c.args.cmds.now c.args.stems.now) c.requires.1.1

pub op-returns-then-r-st : goal.op-returns-then-r-st
op-returns-then-r-st t c =
    subst (λ (z : List Stem). MeetsFrom c.plain-r.result (mem_of c.plain-r.new.ops c.plain-r.new.ps c.plain-r.new.cells c.plain-r.new.edges c.plain-r.new.across c.plain-r.new.cmds z) (op_d c.args.bank.now c.args.reading c.args.levels c.args.op c.args.st (mem_of c.args.ops.now c.args.ps.now c.args.cells.now c.args.edges.now c.args.across.now c.args.cmds.now c.args.stems.now)))
    (kept_new c.args.st c.plain-r.result.st c.plain-r.new.edges c.plain-r.new.across c.args.stems.now (differ _ _ c.if-r-st.true) ∙ sym c.keep_group.ensures)
    (plained c.args.bank.now c.args.reading c.args.levels c.args.op c.args.st (mem_of c.args.ops.now c.args.ps.now c.args.cells.now c.args.edges.now c.args.across.now c.args.cmds.now c.args.stems.now) (differ _ _ c.if-op-eq-CALLSUBR.false) (length c.args.stems.now) refl c.plain-r.result (mem_of c.plain-r.new.ops c.plain-r.new.ps c.plain-r.new.cells c.plain-r.new.edges c.plain-r.new.across c.plain-r.new.cmds (kept c.args.st c.plain-r.result.st c.plain-r.new.edges c.plain-r.new.across c.args.stems.now))
    (λ s K. c.plain-r.ensures.meets (mem_of c.args.ops.now c.args.ps.now c.args.cells.now c.args.edges.now c.args.across.now c.args.cmds.now c.args.stems.now) s refl (found_told c.args.st (mem_of c.args.ops.now c.args.ps.now c.args.cells.now c.args.edges.now c.args.across.now c.args.cmds.now c.args.stems.now) s K c.is_last-same.result c.is_last-same.ensures) K))

pub op-returns-else-r-st : goal.op-returns-else-r-st
op-returns-else-r-st t c =
    subst (λ (z : List Stem). MeetsFrom c.plain-r.result (mem_of c.plain-r.new.ops c.plain-r.new.ps c.plain-r.new.cells c.plain-r.new.edges c.plain-r.new.across c.plain-r.new.cmds z) (op_d c.args.bank.now c.args.reading c.args.levels c.args.op c.args.st (mem_of c.args.ops.now c.args.ps.now c.args.cells.now c.args.edges.now c.args.across.now c.args.cmds.now c.args.stems.now)))
    (kept_same c.args.st c.plain-r.result.st c.plain-r.new.edges c.plain-r.new.across c.args.stems.now (agree _ _ c.if-r-st.false))
    (plained c.args.bank.now c.args.reading c.args.levels c.args.op c.args.st (mem_of c.args.ops.now c.args.ps.now c.args.cells.now c.args.edges.now c.args.across.now c.args.cmds.now c.args.stems.now) (differ _ _ c.if-op-eq-CALLSUBR.false) (length c.args.stems.now) refl c.plain-r.result (mem_of c.plain-r.new.ops c.plain-r.new.ps c.plain-r.new.cells c.plain-r.new.edges c.plain-r.new.across c.plain-r.new.cmds (kept c.args.st c.plain-r.result.st c.plain-r.new.edges c.plain-r.new.across c.args.stems.now))
    (λ s K. c.plain-r.ensures.meets (mem_of c.args.ops.now c.args.ps.now c.args.cells.now c.args.edges.now c.args.across.now c.args.cmds.now c.args.stems.now) s refl (found_told c.args.st (mem_of c.args.ops.now c.args.ps.now c.args.cells.now c.args.edges.now c.args.across.now c.args.cmds.now c.args.stems.now) s K c.is_last-same.result c.is_last-same.ensures) K))

pub run-loop-i-init : goal.run-loop-i-init
run-loop-i-init t c =
    record { cmds_kept = refl; stems_kept = refl; onward = starts c.args.bank.now c.args.reading c.args.levels c.args.code.now c.new-b.result.encrypted c.args.st (mem_of c.args.ops.now c.args.ps.now c.args.cells.now c.args.edges.now c.args.across.now c.args.cmds.now c.args.stems.now) _ _ c.new-b.ensures c.requires.1.1 }

pub run-token-t-requires : goal.run-token-t-requires
run-token-t-requires t c =
    let b = c.loop-i.invariant.onward.ready.fit.bounds in (c.loop-i-test.true, (b.operands, b.entries))

pub run-returns-then-g-ne0 : goal.run-returns-then-g-ne0
run-returns-then-g-ne0 t c =
    token_stopped c.args.bank.now c.args.reading c.args.levels c.args.code.now c.new-b.result.encrypted c.args.st (mem_of c.args.ops.now c.args.ps.now c.args.cells.now c.args.edges.now c.args.across.now c.args.cmds.now c.args.stems.now) c.loop-i.i c.loop-i.key c.loop-i.s (mem_of c.loop-i.ops c.loop-i.ps c.loop-i.cells c.loop-i.edges c.loop-i.across c.loop-i.cmds c.loop-i.stems) c.loop-i.invariant.onward c.loop-i.invariant.stems_kept c.loop-i.invariant.cmds_kept c.token-t.result c.token-t.new.ops c.token-t.new.cmds c.token-t.ensures (differ _ _ c.if-g-ne0.true) _ c.stopped.ensures

pub run-op-r-requires : goal.run-op-r-requires
run-op-r-requires t c =
    (omega arith, (c.requires.0, (c.requires.1.0, ready_token c.args.bank.now c.args.reading c.args.levels c.args.code.now c.new-b.result.encrypted c.args.st (mem_of c.args.ops.now c.args.ps.now c.args.cells.now c.args.edges.now c.args.across.now c.args.cmds.now c.args.stems.now) c.loop-i.i c.loop-i.key c.loop-i.s (mem_of c.loop-i.ops c.loop-i.ps c.loop-i.cells c.loop-i.edges c.loop-i.across c.loop-i.cmds c.loop-i.stems) c.loop-i.invariant.onward c.loop-i.invariant.stems_kept c.loop-i.invariant.cmds_kept c.token-t.result c.token-t.new.ops c.token-t.new.cmds c.token-t.ensures (bytes _ c.type_inv.code))))

pub run-returns-then-f-ne0 : goal.run-returns-then-f-ne0
run-returns-then-f-ne0 t c =
    op_stopped c.args.bank.now c.args.reading c.args.levels c.args.code.now c.new-b.result.encrypted c.args.st (mem_of c.args.ops.now c.args.ps.now c.args.cells.now c.args.edges.now c.args.across.now c.args.cmds.now c.args.stems.now) c.loop-i.i c.loop-i.key c.loop-i.s (mem_of c.loop-i.ops c.loop-i.ps c.loop-i.cells c.loop-i.edges c.loop-i.across c.loop-i.cmds c.loop-i.stems) c.loop-i.invariant.onward c.loop-i.invariant.stems_kept c.loop-i.invariant.cmds_kept c.token-t.result c.token-t.new.ops c.token-t.new.cmds c.token-t.ensures (agree _ _ c.if-g-ne0.false) c.op-r.result _ (mem_of c.op-r.new.ops c.op-r.new.ps c.op-r.new.cells c.op-r.new.edges c.op-r.new.across c.op-r.new.cmds c.op-r.new.stems) c.op-r.ensures (differ _ _ c.if-f-ne0.true) c.stopped-then-f-ne0.ensures

pub run-loop-i-preserved : goal.run-loop-i-preserved
run-loop-i-preserved t c =
    record { cmds_kept = omega arith; stems_kept = omega arith; onward = op_went c.args.bank.now c.args.reading c.args.levels c.args.code.now c.new-b.result.encrypted c.args.st (mem_of c.args.ops.now c.args.ps.now c.args.cells.now c.args.edges.now c.args.across.now c.args.cmds.now c.args.stems.now) c.loop-i.i c.loop-i.key c.loop-i.s (mem_of c.loop-i.ops c.loop-i.ps c.loop-i.cells c.loop-i.edges c.loop-i.across c.loop-i.cmds c.loop-i.stems) c.loop-i.invariant.onward c.loop-i.invariant.stems_kept c.loop-i.invariant.cmds_kept c.token-t.result c.token-t.new.ops c.token-t.new.cmds c.token-t.ensures (agree _ _ c.if-g-ne0.false) (bytes _ c.type_inv.bank) (ready_token c.args.bank.now c.args.reading c.args.levels c.args.code.now c.new-b.result.encrypted c.args.st (mem_of c.args.ops.now c.args.ps.now c.args.cells.now c.args.edges.now c.args.across.now c.args.cmds.now c.args.stems.now) c.loop-i.i c.loop-i.key c.loop-i.s (mem_of c.loop-i.ops c.loop-i.ps c.loop-i.cells c.loop-i.edges c.loop-i.across c.loop-i.cmds c.loop-i.stems) c.loop-i.invariant.onward c.loop-i.invariant.stems_kept c.loop-i.invariant.cmds_kept c.token-t.result c.token-t.new.ops c.token-t.new.cmds c.token-t.ensures (bytes _ c.type_inv.code)) c.op-r.result (mem_of c.op-r.new.ops c.op-r.new.ps c.op-r.new.cells c.op-r.new.edges c.op-r.new.across c.op-r.new.cmds c.op-r.new.stems) c.op-r.ensures (agree _ _ c.if-f-ne0.false) }

pub run-returns : goal.run-returns
run-returns t c =
    ended c.args.bank.now c.args.reading c.args.levels c.args.code.now c.new-b.result.encrypted c.args.st (mem_of c.args.ops.now c.args.ps.now c.args.cells.now c.args.edges.now c.args.across.now c.args.cmds.now c.args.stems.now) c.loop-i.i c.loop-i.key c.loop-i.s (mem_of c.loop-i.ops c.loop-i.ps c.loop-i.cells c.loop-i.edges c.loop-i.across c.loop-i.cmds c.loop-i.stems) c.loop-i.invariant.onward (le-ltb _ _ c.loop-i-test.false) _ c.made.ensures
