-- `type1_to_type2::writing::put_number` meets its contract.
use mathlib.Core.Path.{refl, sym, ap, ap₂, ◌∙◌, subst}
use native.Mathlib.Omega.{arith}
use lib.Dec.{T}
use lib.Ieee.{binary64, fits}
use lib.ListN.{length, length-set}
use borrow.Author.Rules.{rules}
use Rattle.type2.proofs.Fixed.{units-quantized}
use Rattle.type1_to_type2.proofs.Writes.{stays_refused, not_before, pushed}
use Rattle.type1_to_type2.proofs.writing.put_number.Goals as goal

pub returns-in_default : goal.returns-in_default
returns-in_default c =
    record { puts = record { then = λ f. stays_refused _ _ _ _ c.in_default.is; same = refl }; still = record { x = refl; y = refl; waits = refl; held = refl }; v_value = units-quantized _ (let z : T (fits binary64 c.args.v) = subst T (sym c.well_formed.0.1) tt in z) }

pub returns : goal.returns
returns c =
    record { puts = record { then = λ f. not_before _ _ _ _ c.in-Ok.is (pushed _ _ _ _ _ f c.push_number.ensures); same = search rules }; still = record { x = refl; y = refl; waits = refl; held = refl }; v_value = units-quantized _ (let z : T (fits binary64 c.args.v) = subst T (sym c.well_formed.0.1) tt in z) }
