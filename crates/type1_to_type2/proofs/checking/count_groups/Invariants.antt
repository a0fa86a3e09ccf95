use Prim.Native.Nat.{◌≤◌}
use mathlib.Core.Path.{◌≡◌}
use Rattle.type1_to_type2.specs.Entry.{group_count}
use Rattle.type1_to_type2.proofs.checking.count_groups.Given as goal

abbrev pub invariant-loop-e : goal.invariant-loop-e
invariant-loop-e l =
    (l.groups ≡ group_count l.e l.commands) × (l.groups ≤ l.e)
