-- `boxes::extended` meets its contract.
use Rattle.std.proofs.Common.{◌<◌, ◌/◌, length, ◌∙◌, arith}
use Rattle.renderer.proofs.PathLaws.{pair_is}
use Rattle.boxes.proofs.ExtentLaws.{grows_first, grown_done, grows_more}
use Rattle.boxes.proofs.extended.Goals as goal

pub loop-dx-init : goal.loop-dx-init
loop-dx-init c =
    grows_first _ _ _ c.requires

pub loop-dx-preserved : goal.loop-dx-preserved
loop-dx-preserved c =
    let h : c.loop-dx.dx-index < length c.args.deltas.now / 2 = omega (arith, c.as_chunks.ensures.front_len) in
    let a = pair_is c.args.deltas.now c.loop-dx.dx-index c.as_chunks.ensures.front h in
    rw c.grown.ensures (grows_more c.loop-dx.invariant h (c.from.ensures ∙ a.0) (c.from-in-loop-dx.ensures ∙ a.1))

pub returns : goal.returns
returns c =
    grown_done c.loop-dx.invariant (let l = c.as_chunks.ensures.front_len in omega arith)
