-- `renderer::path::Position::follow` meets its contract.
use Rattle.std.proofs.Common.{◌<◌, ◌/◌, length, arith}
use Rattle.renderer.proofs.PathLaws.{walks_first, pair_is, done, far, walks_more}
use Rattle.renderer.proofs.path.Position.follow.Goals as goal

pub loop-dx-init : goal.loop-dx-init
loop-dx-init c =
    walks_first _ _ c.requires

pub returns-in_err-to : goal.returns-in_err-to
returns-in_err-to c =
    let h : c.loop-dx.dx-index < length c.args.deltas.now / 2 = omega (arith, c.as_chunks.ensures.front_len) in
    let a = pair_is c.args.deltas.now c.loop-dx.dx-index c.as_chunks.ensures.front h in
    rw c.from_residual.ensures (far c.loop-dx.invariant h a.0 a.1 c.in_err-to.ensures)

pub loop-dx-preserved : goal.loop-dx-preserved
loop-dx-preserved c =
    let h : c.loop-dx.dx-index < length c.args.deltas.now / 2 = omega (arith, c.as_chunks.ensures.front_len) in
    let a = pair_is c.args.deltas.now c.loop-dx.dx-index c.as_chunks.ensures.front h in
    walks_more c.loop-dx.invariant h a.0 a.1 _ c.in_ok-to.ensures

pub returns : goal.returns
returns c =
    done c.loop-dx.invariant (let l = c.as_chunks.ensures.front_len in omega arith)
