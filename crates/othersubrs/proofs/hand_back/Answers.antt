-- `othersubrs::hand_back` meets its contract. Assumes nothing.
use Rattle.std.proofs.Common.{◌+◌, ◌-◌, length, get_or, set, sym, ap, ◌∙◌, arith}
use mathlib.Core.List.{List, reverse}
use Rattle.std.proofs.Math.Seq.{paste, paste-zero}
use lib.Ieee.{Float, nan}
use Rattle.othersubrs.specs.Laws.{handed-none, handed_more, handed_all}
use Rattle.othersubrs.proofs.hand_back.Goals as goal
use Rattle.othersubrs.proofs.hand_back.Goals.{then-most-held-via-then-most-held, then-most-held-via-else-most-held+then-most-held-2}

pub returns-then-most-held-clause-stack_after : goal.returns-then-most-held-clause-stack_after
returns-then-most-held-clause-stack_after c =
    elim c.then-most-held.branch [
      | then-most-held-via-then-most-held w ↦ handed-none c.args.args.now _ _ (omega (arith, w.if-most-held.true))
      | then-most-held-via-else-most-held+then-most-held-2 w ↦ handed-none c.args.args.now _ _ (omega (arith, w.if-most-held-2.true))
    ]

pub loop-i-init : goal.loop-i-init
loop-i-init c = paste-zero c.args.stack.now c.args.held (reverse c.args.args.now)

pub loop-i-preserved : goal.loop-i-preserved
loop-i-preserved c =
    ap (λ (x : List Float). set x (c.args.held + c.loop-i.i) (get_or c.args.args.now (length c.args.args.now - 1 - c.loop-i.i) nan)) c.loop-i.invariant
    ∙ handed_more c.args.args.now c.args.stack.now c.args.held c.loop-i.i (omega arith) (omega arith)

pub returns-clause-stack_after : goal.returns-clause-stack_after
returns-clause-stack_after c =
    c.loop-i.invariant ∙ ap (paste c.args.stack.now c.args.held (reverse c.args.args.now)) (omega arith) ∙ sym (handed_all c.args.args.now c.args.stack.now c.args.held (omega arith))
