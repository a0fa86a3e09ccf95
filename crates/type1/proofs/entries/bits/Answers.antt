use mathlib.Core.Path.{refl, sym, subst}
use lib.Dec.{T}
use Rattle.type1.proofs.Store.{no_nan}
use Rattle.type1.proofs.entries.bits.Goals as goal

pub float_to_bits-result : goal.float_to_bits-result
float_to_bits-result c = no_nan _ c.requires

pub returns : goal.returns
returns c = (refl, subst T (sym c.well_formed.0.1) tt)
