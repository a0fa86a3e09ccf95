-- `charstring::copy_plain` meets its contract: i plain bytes are written, and the key is that of the others.
use Rattle.std.proofs.Common.{◌≡◌, ◌++◌, length, take, drop}
use Rattle.charstring.specs.Cipher.{decrypt}
use Rattle.charstring.proofs.copy_plain.Given as goal

abbrev pub invariant-loop-i : goal.invariant-loop-i
invariant-loop-i l = record {
  same_length : length l.out ≡ length l.initial.out;
  front : take l.i l.out ++ decrypt l.key (drop l.i l.bytes) ≡ decrypt l.fn.start l.bytes;
  behind : drop l.i l.out ≡ drop l.i l.initial.out;
}
