-- `type1::stems::all_same` meets its contract: the records before i are the stems in force, in the same order.
use mathlib.Core.Path.{◌≡◌}
use mathlib.Core.Bool.{true}
use lib.ListN.{take, drop}
use Rattle.outline.specs.Outline.{same_stems}
use Rattle.type1.specs.Memory.{stems_at}
use Rattle.type1.proofs.stems.all_same.Given as goal

abbrev pub invariant-loop-i : goal.invariant-loop-i
invariant-loop-i l = same_stems (take l.i (drop l.first l.stems)) (stems_at 0 l.i l.edges l.across) ≡ true
