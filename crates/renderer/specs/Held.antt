-- Definitions: a step that clears the operands, and one that holds at most 48. The laws are in proofs/HeldLaws.antt.
use Rattle.std.specs.Prelude.{◌≡◌, ◌≤◌, [], length}
use Rattle.renderer.specs.Machine.{Step, fault, stop, on}

-- no operands are left where the step goes on or ends
abbrev pub Clears : Step → Type 0
Clears fault = Unit {0}
Clears (stop s) = s.ops ≡ []
Clears (on m s) = s.ops ≡ []

-- at most 48 operands where the step is no fault
abbrev pub Holds48 : Step → Type 0
Holds48 fault = Unit {0}
Holds48 (stop s) = length s.ops ≤ 48
Holds48 (on m s) = length s.ops ≤ 48
