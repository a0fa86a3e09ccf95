-- `charstring::copy` meets its contract: i bytes are copied.
use Rattle.std.proofs.Common.{◌≡◌, ◌++◌, length, take, drop}
use Rattle.charstring.proofs.copy.Given as goal

abbrev pub invariant-loop-i : goal.invariant-loop-i
invariant-loop-i l = record {
  same_length : length l.to ≡ length l.initial.to;
  front : take l.i l.to ++ drop l.i l.from ≡ l.from;
}
