-- `charstring::plain_byte` meets its contract. Assumes nothing.
use Rattle.std.proofs.Common.{refl}
use Rattle.charstring.specs.Cipher.{plain_byte}
use Rattle.charstring.proofs.plain_byte.Goals as goal

pub returns : goal.returns
unfolding plain_byte
returns c = refl
