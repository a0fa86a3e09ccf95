-- `renderer::path::Position::follow` meets its contract.
use Rattle.renderer.proofs.PathLaws.{Walks}
use Rattle.renderer.proofs.path.Position.follow.Given as goal

abbrev pub invariant-loop-dx : goal.invariant-loop-dx
invariant-loop-dx l = Walks l.fn.self l.deltas l.to l.dx-index
