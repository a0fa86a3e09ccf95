-- `compare::is_cleared` meets its contract: below i the doubles are n zeros, then rest.
use mathlib.Core.Path.{◌≡◌}
use Prim.Native.Nat.{ℕ, ◌<◌}
use lib.ListN.{get_or, replicate}
use lib.Ieee.{nan}
use Rattle.binary64.specs.Round.{plus_zero}
use Rattle.compare.proofs.is_cleared.Given as goal

abbrev pub invariant-loop-i : goal.invariant-loop-i
invariant-loop-i l = (k : ℕ) → k < l.i → get_or l.xs k nan ≡ get_or (replicate l.n plus_zero) k l.rest
