-- `type2::push_delta` meets its contract: a whole number between -108 and 108 is one byte, and `push_far` pushes the others.
use mathlib.Core.Path.{◌≡◌, sym, ◌∙◌, subst}
use mathlib.Core.Bool.{true}
use lib.Dec.{T}
use lib.Ieee.{binary64, fits, of_bits, neg, lt, eq, add, sub}
use Rattle.type2.specs.Whole.{middle}
use Rattle.type2.proofs.Casts.{byte_top, byte_bottom, short_cast, short-value, short-pushed}
use Rattle.type2.proofs.push_delta.Goals as goal

pub float_to_int-v : goal.float_to_int-v
unfolding of_bits neg
float_to_int-v c = let w = (let z : let v = c.args.v in T (fits binary64 v) × (lt v byte_top ≡ true) × (lt byte_bottom v ≡ true) × (eq (sub binary64 (add binary64 v middle) middle) v ≡ true) = (subst T (sym c.well_formed.1.1.0.1) tt, c.if-v-2.true, c.if-v.true, c.if-v-3.true) in z) in short_cast _ w.0 w.1 w.2 w.3

pub returns-then-v-3 : goal.returns-then-v-3
unfolding of_bits neg
returns-then-v-3 c =
    let w = (let z : let v = c.args.v in T (fits binary64 v) × (lt v byte_top ≡ true) × (lt byte_bottom v ≡ true) × (eq (sub binary64 (add binary64 v middle) middle) v ≡ true) = (subst T (sym c.well_formed.1.1.0.1) tt, c.if-v-2.true, c.if-v.true, c.if-v-3.true) in z) in
    record { out_after = c.put.ensures ∙ short-pushed _ w.0 w.1 w.2 w.3 _ _; value_value = short-value _ w.0 w.1 w.2 w.3 }
