-- `charstring::key_past` meets its contract: the key is that after the bytes before c.
use Rattle.std.proofs.Common.{◌≡◌, take}
use Rattle.charstring.specs.Cipher.{start_key, key_after}
use Rattle.charstring.proofs.key_past.Given as goal

abbrev pub invariant-loop-c : goal.invariant-loop-c
invariant-loop-c l = l.key ≡ key_after start_key (take l.c-index l.bytes)
