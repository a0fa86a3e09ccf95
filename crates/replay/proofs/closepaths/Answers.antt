-- `replay::closepaths` has the length that it says.
use Prim.Native.Nat.{ℕ}
use mathlib.Core.Path.{◌≡◌, sym}
use lib.ListN.{length, replicate, length-replicate}
use Rattle.replay.proofs.closepaths.Goals as goal

filled : (n b : ℕ) → n ≡ length (replicate n b)
filled n b = sym (length-replicate n b)

pub returns : goal.returns
returns c = filled 1048577 9
