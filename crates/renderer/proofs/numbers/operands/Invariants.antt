-- `renderer::numbers::operands` meets its contract.
use Rattle.std.proofs.Common.{length, ◌-◌}
use Rattle.renderer.proofs.OperatorLaws.{Going}
use Rattle.renderer.proofs.numbers.operands.Given as goal

abbrev pub invariant-loop-b : goal.invariant-loop-b
invariant-loop-b l = Going l.program l.from l.ops l.at l.count

abbrev pub decreases-loop-b : goal.decreases-loop-b
decreases-loop-b l = length l.program - l.at
