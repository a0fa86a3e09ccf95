-- `replay::stem_store` meets its contract.
use mathlib.Core.Path.{refl}
use lib.Ieee.{of_bits}
use Rattle.replay.proofs.stem_store.Goals as goal

pub returns : goal.returns
unfolding of_bits
returns c = refl
