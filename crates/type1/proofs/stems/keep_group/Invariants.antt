-- `type1::stems::keep_group` meets its contract: i of the stems in force are stored.
use mathlib.Core.Path.{◌≡◌}
use lib.Seq.{paste}
use Rattle.type1.specs.Memory.{stems_at}
use Rattle.type1.proofs.stems.keep_group.Given as goal

abbrev pub invariant-loop-i : goal.invariant-loop-i
invariant-loop-i l = l.stems ≡ paste l.initial.stems l.used (stems_at 0 l.n l.edges l.across) l.i
