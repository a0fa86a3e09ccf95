-- `type1::stems::keep_group` meets its contract.
use mathlib.Core.Path.{refl, sym, ◌∙◌}
use native.Mathlib.Omega.{arith}
use Rattle.outline.specs.Outline.{zero_stem}
use Rattle.type1.specs.Memory.{stems_at}
use Rattle.type1.proofs.Stored.{stored_one, first_stems, length-stems_at}
use Rattle.type1.proofs.stems.keep_group.Goals as goal

pub loop-i-preserved : goal.loop-i-preserved
loop-i-preserved c =
    let n = length-stems_at 0 c.args.n c.args.edges.now c.args.across.now in
    stored_one c.args.stems.now zero_stem c.args.used (stems_at 0 c.args.n c.args.edges.now c.args.across.now) c.loop-i.i _ c.loop-i.stems _ c.stem_at.result (omega arith) (omega (arith, n)) refl c.loop-i.invariant (c.stem_at.ensures ∙ sym (first_stems c.args.n c.args.edges.now c.args.across.now c.loop-i.i c.loop-i-test.true)) refl
