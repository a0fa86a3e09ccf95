-- `othersubrs::hand_back` meets its contract. Assumes nothing.
use Rattle.std.proofs.Common.{◌≡◌}
use mathlib.Core.List.{reverse}
use Rattle.std.proofs.Math.Seq.{paste}
use Rattle.othersubrs.proofs.hand_back.Given as goal

-- i of the arguments are on the stack
abbrev pub invariant-loop-i : goal.invariant-loop-i
invariant-loop-i l = l.stack ≡ paste l.initial.stack l.held (reverse l.args) l.i
