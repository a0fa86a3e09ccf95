-- `type1_to_type2::writing::write_mask` meets its contract.
use Rattle.type1_to_type2.specs.Writing.{Written, put}
use Rattle.type1_to_type2.specs.Streaming.{resumed, Still}
use Rattle.type1_to_type2.specs.Places.{places_from, LeftFrom}
use Rattle.type2.specs.Instruction.{mask_bytes}
use lib.ListN.{length, take, drop}
use Prim.Native.Nat.{ℕ, ◌-◌}
use mathlib.Core.List.{List}
use mathlib.Core.Bool.{Bool}
use mathlib.Core.Path.{◌≡◌}
use Rattle.type1_to_type2.proofs.writing.write_mask.Given as goal

abbrev pub invariant-loop-i : goal.invariant-loop-i
invariant-loop-i l =
    ((b : List Bool) → length b ≡ l.n → take l.k l.places ≡ places_from 0 b → LeftFrom l.i l.j (take l.k l.places) b × ((f : ℕ → Written) → resumed l.r.next l.out (λ left. put left (mask_bytes (drop l.i b)) f) ≡ resumed l.initial.r.next l.initial.out (λ left. put left (mask_bytes b) f)))
    × (Still l.initial.r l.r × (length l.out ≡ length l.initial.out))

abbrev pub decreases-loop-i : goal.decreases-loop-i
decreases-loop-i l = l.n - l.i
