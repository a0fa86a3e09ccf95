-- `type1::bytes::token` meets its contract.
use Prim.Native.Nat.{◌-◌}
use lib.ListN.{length}
use Rattle.type1.proofs.ByteLaws.{Going}
use Rattle.type1.proofs.bytes.token.Given as goal

abbrev pub invariant-loop-i : goal.invariant-loop-i
invariant-loop-i l =
    Going l.reading l.code l.from l.start l.encrypted l.st l.initial.ops l.initial.cmds l.ops l.cmds l.i l.key l.n l.x l.y l.entries l.opened

abbrev pub decreases-loop-i : goal.decreases-loop-i
decreases-loop-i l =
    length l.code - l.i
