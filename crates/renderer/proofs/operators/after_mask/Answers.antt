-- `renderer::operators::after_mask` meets its contract.
use Rattle.std.proofs.Common.{◌≡◌, ◌+◌, ◌/◌, refl, ◌∙◌, arith}
use Rattle.renderer.proofs.MaskLaws.{mask-cut, mask-none, mask_tested}
use Rattle.renderer.proofs.operators.after_mask.Goals as goal

pub returns-then-program-at : goal.returns-then-program-at
returns-then-program-at c =
    mask-cut _ _ _ c.requires.1 (omega arith)

pub returns-then-stems-eq0 : goal.returns-then-stems-eq0
returns-then-stems-eq0 c =
    mask-none _ _ _ c.requires.1 c.if-stems-eq0.true

pub returns : goal.returns
returns c =
    let e : c.div_ceil-k.result ≡ (c.args.stems + 7) / 8 = omega arith in
    c.then_some.ensures ∙ rw e (mask_tested c.args.program.now c.args.at c.args.stems c.requires.1 c.if-stems-eq0.false (omega arith) _ refl (c.type_inv.program _).fits)
