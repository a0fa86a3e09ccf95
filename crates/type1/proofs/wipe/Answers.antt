-- `type1::wipe` meets its contract.
use mathlib.Core.Path.{refl, sym}
use native.Mathlib.Omega.{arith}
use lib.Ieee.{of_bits}
use lib.ListN.{length, replicate, length-replicate, get_or-replicate}
use Rattle.outline.specs.Outline.{zero_stem}
use Rattle.type1.proofs.Stored.{stored_one}
use Rattle.type1.proofs.wipe.Goals as goal

pub loop-stem-preserved : goal.loop-stem-preserved
unfolding of_bits
loop-stem-preserved c =
    let n = length c.args.stems.now in
    let i = c.loop-stem.stem-index in
    stored_one c.args.stems.now zero_stem 0 (replicate n zero_stem) i i c.loop-stem.stems _ zero_stem (omega arith) (omega (arith, length-replicate n zero_stem)) (omega arith) c.loop-stem.invariant (sym (get_or-replicate n i zero_stem zero_stem (omega arith))) refl
