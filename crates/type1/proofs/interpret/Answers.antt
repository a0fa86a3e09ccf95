-- `type1::interpret` meets its contract: what a whole run leaves, by `EntryLaws`.
use mathlib.Core.Path.{ap, ◌∙◌, subst}
use Prim.Native.Nat.{ℕ}
use native.Mathlib.Omega.{arith}
use lib.ListN.{replicate}
use Rattle.outline.specs.Outline.{zero_stem}
use Rattle.type1.specs.Cycle.{mem_of, run_d, MeetsFrom}
use Rattle.type1.proofs.Tests.{differ, agree, bytes}
use Rattle.type1.proofs.EntryLaws.{refused_first, valid-start, ready_start, refused_later, ran_through}
use Rattle.type1.proofs.interpret.Goals as goal

pub returns-then-f-ne0 : goal.returns-then-f-ne0
returns-then-f-ne0 c =
    refused_first c.args.charstring.now c.args.bank.now c.args.reading c.start_run-b.result c.start_run-b.ensures c.args.commands.now c.args.stems.now (differ _ _ c.if-f-ne0.true) _ _ _ c.refused.ensures c.wipe_words.ensures c.wipe.ensures

pub run-r-requires : goal.run-r-requires
run-r-requires c = (omega arith, (valid-start c.args.charstring.now c.args.bank.now c.args.reading c.start_run-b.result c.start_run-b.ensures c.args.commands.now c.args.stems.now c.args.ops.now c.args.ps.now c.args.cells.now c.args.edges.now c.args.across.now c.requires (agree _ _ c.if-f-ne0.false), ready_start c.args.charstring.now c.args.bank.now c.args.reading c.start_run-b.result c.start_run-b.ensures c.args.commands.now c.args.stems.now c.args.ops.now c.args.ps.now c.args.cells.now c.args.edges.now c.args.across.now c.requires (agree _ _ c.if-f-ne0.false)))

pub returns-then-g-ne0 : goal.returns-then-g-ne0
returns-then-g-ne0 c =
    refused_later c.args.charstring.now c.args.bank.now c.args.reading c.start_run-b.result c.start_run-b.ensures c.args.commands.now c.args.stems.now c.args.ops.now c.args.ps.now c.args.cells.now c.args.edges.now c.args.across.now c.requires (agree _ _ c.if-f-ne0.false) c.run-r.result (mem_of c.run-r.new.ops c.run-r.new.ps c.run-r.new.cells c.run-r.new.edges c.run-r.new.across c.run-r.new.cmds c.run-r.new.stems) (subst (λ (n : ℕ). MeetsFrom c.run-r.result (mem_of c.run-r.new.ops c.run-r.new.ps c.run-r.new.cells c.run-r.new.edges c.run-r.new.across c.run-r.new.cmds c.run-r.new.stems) (run_d c.args.bank.now c.args.reading n c.args.charstring.now c.start_run-b.result.st (mem_of c.args.ops.now c.args.ps.now c.args.cells.now c.args.edges.now c.args.across.now c.args.commands.now c.args.stems.now))) c.deepest.ensures c.run-r.ensures) _ c.number_of-g.ensures (differ _ _ c.if-g-ne0.true) _ _ _ c.refused-then-g-ne0.ensures (c.wipe_words-then-g-ne0.ensures ∙ ap (λ (n : ℕ). replicate n 0) c.run-r.auto.cmds) (c.wipe-then-g-ne0.ensures ∙ ap (λ (n : ℕ). replicate n zero_stem) c.run-r.auto.stems)

pub returns : goal.returns
returns c =
    ran_through c.args.charstring.now c.args.bank.now c.args.reading c.start_run-b.result c.start_run-b.ensures c.args.commands.now c.args.stems.now c.args.ops.now c.args.ps.now c.args.cells.now c.args.edges.now c.args.across.now c.requires (agree _ _ c.if-f-ne0.false) c.run-r.result (mem_of c.run-r.new.ops c.run-r.new.ps c.run-r.new.cells c.run-r.new.edges c.run-r.new.across c.run-r.new.cmds c.run-r.new.stems) (subst (λ (n : ℕ). MeetsFrom c.run-r.result (mem_of c.run-r.new.ops c.run-r.new.ps c.run-r.new.cells c.run-r.new.edges c.run-r.new.across c.run-r.new.cmds c.run-r.new.stems) (run_d c.args.bank.now c.args.reading n c.args.charstring.now c.start_run-b.result.st (mem_of c.args.ops.now c.args.ps.now c.args.cells.now c.args.edges.now c.args.across.now c.args.commands.now c.args.stems.now))) c.deepest.ensures c.run-r.ensures) _ c.number_of-g.ensures (bytes _ c.type_inv.charstring) (bytes _ c.type_inv.bank) (agree _ _ c.if-g-ne0.false) _ c.answer.ensures
