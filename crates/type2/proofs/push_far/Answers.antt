-- `type2::push_far` meets its contract: its two tests are the range, and the casts count a whole number from -65536 and the rounded number from -2 ^ 32.
use mathlib.Core.Path.{◌≡◌, sym, ap, ap₂, ◌∙◌, subst}
use mathlib.Core.Bool.{Bool, true, false, ◌&&◌}
use lib.Dec.{T}
use lib.Ieee.{Float, binary64, fits, of_bits, neg, lt, eq, add, sub, in_unsigned, to_unsigned}
use Rattle.binary64.specs.Scaling.{two}
use Rattle.type2.specs.Number.{units, in_range}
use Rattle.type2.proofs.Fixed.{top, bottom, range_tests}
use Rattle.type2.specs.Whole.{middle}
use Rattle.type2.proofs.Casts.{above, raised_by, bounds, whole-bounds, accepted, refused, delta-value, whole-value, whole_cast}
use Rattle.type2.proofs.push_far.Goals as goal
use Rattle.type2.proofs.push_far.Goals.{else-v-via-then-v+else-v-2, else-v-via-else-v}

-- both tests hold
in_range_lem : (v : Float) → T (fits binary64 v) → lt v top ≡ true → lt bottom v ≡ true → T (in_range (units v))
in_range_lem v a t b = subst T (sym (range_tests v a ∙ ap₂ ◌&&◌ t b)) tt

pub float_to_int-v : goal.float_to_int-v
unfolding of_bits neg
float_to_int-v c = let w = (let z : let v = c.args.v in T (fits binary64 v) × T (in_range (units v)) × (eq (sub binary64 (add binary64 v middle) middle) v ≡ true) = ((let z : T (fits binary64 c.args.v) = subst T (sym c.well_formed.1.1.0.1) tt in z), in_range_lem c.args.v (let z : T (fits binary64 c.args.v) = subst T (sym c.well_formed.1.1.0.1) tt in z) c.if-v.true c.if-v-2.true, c.if-v-3.true) in z) in (whole_cast _ w.0 w.1 w.2).0

pub push_whole-requires : goal.push_whole-requires
unfolding of_bits neg
push_whole-requires c = let w = (let z : let v = c.args.v in T (fits binary64 v) × T (in_range (units v)) × (eq (sub binary64 (add binary64 v middle) middle) v ≡ true) = ((let z : T (fits binary64 c.args.v) = subst T (sym c.well_formed.1.1.0.1) tt in z), in_range_lem c.args.v (let z : T (fits binary64 c.args.v) = subst T (sym c.well_formed.1.1.0.1) tt in z) c.if-v.true c.if-v-2.true, c.if-v-3.true) in z) in whole-bounds _ _ w.1 (whole_cast _ w.0 w.1 w.2).1

pub returns-then-v-3 : goal.returns-then-v-3
unfolding of_bits neg
returns-then-v-3 c =
    let w = (let z : let v = c.args.v in T (fits binary64 v) × T (in_range (units v)) × (eq (sub binary64 (add binary64 v middle) middle) v ≡ true) = ((let z : T (fits binary64 c.args.v) = subst T (sym c.well_formed.1.1.0.1) tt in z), in_range_lem c.args.v (let z : T (fits binary64 c.args.v) = subst T (sym c.well_formed.1.1.0.1) tt in z) c.if-v.true c.if-v-2.true, c.if-v-3.true) in z) in
    record { out_after = c.push_whole.ensures ∙ accepted _ _ _ _ w.1 (whole_cast _ w.0 w.1 w.2).1; value_value = whole-value _ w.0 w.1 w.2 }

pub float_to_int-n : goal.float_to_int-n
unfolding of_bits neg
float_to_int-n c = (let z : let v = c.args.v in let n = c.nearest-n.result in T (in_range (units v)) × T (in_unsigned binary64 64 (add binary64 n (two 32))) × (to_unsigned 64 (add binary64 n (two 32)) ≡ above (units v)) = let r = in_range_lem c.args.v (let z : T (fits binary64 c.args.v) = subst T (sym c.well_formed.1.1.0.1) tt in z) c.if-v.true c.if-v-2.true in let t = raised_by c.args.v c.nearest-n.result (let z : T (fits binary64 c.args.v) = subst T (sym c.well_formed.1.1.0.1) tt in z) r c.nearest-n.ensures in (r, t.0, t.1) in z).1

pub push_units-requires : goal.push_units-requires
unfolding of_bits neg
push_units-requires c = let t = (let z : let v = c.args.v in let n = c.nearest-n.result in T (in_range (units v)) × T (in_unsigned binary64 64 (add binary64 n (two 32))) × (to_unsigned 64 (add binary64 n (two 32)) ≡ above (units v)) = let r = in_range_lem c.args.v (let z : T (fits binary64 c.args.v) = subst T (sym c.well_formed.1.1.0.1) tt in z) c.if-v.true c.if-v-2.true in let t = raised_by c.args.v c.nearest-n.result (let z : T (fits binary64 c.args.v) = subst T (sym c.well_formed.1.1.0.1) tt in z) r c.nearest-n.ensures in (r, t.0, t.1) in z) in bounds _ _ t.0 t.2

pub returns-then-v-2 : goal.returns-then-v-2
unfolding of_bits neg
returns-then-v-2 c =
    let t = (let z : let v = c.args.v in let n = c.nearest-n.result in T (in_range (units v)) × T (in_unsigned binary64 64 (add binary64 n (two 32))) × (to_unsigned 64 (add binary64 n (two 32)) ≡ above (units v)) = let r = in_range_lem c.args.v (let z : T (fits binary64 c.args.v) = subst T (sym c.well_formed.1.1.0.1) tt in z) c.if-v.true c.if-v-2.true in let t = raised_by c.args.v c.nearest-n.result (let z : T (fits binary64 c.args.v) = subst T (sym c.well_formed.1.1.0.1) tt in z) r c.nearest-n.ensures in (r, t.0, t.1) in z) in
    record { out_after = c.push_units.ensures ∙ accepted _ _ _ _ t.0 t.2; value_value = delta-value _ _ (let z : T (fits binary64 c.args.v) = subst T (sym c.well_formed.1.1.0.1) tt in z) t.0 c.nearest-n.ensures }

pub returns : goal.returns
unfolding of_bits neg
returns c =
    let v = c.args.v in
    record { out_after = refused c.args.out.now c.args.at v (range_tests v (let z : T (fits binary64 c.args.v) = subst T (sym c.well_formed.1.1.0.1) tt in z) ∙ (let both : lt v top && lt bottom v ≡ false = elim c.else-v.branch [ else-v-via-then-v+else-v-2 w ↦ ap₂ ◌&&◌ w.if-v.true w.if-v-2.false | else-v-via-else-v w ↦ ap (λ (b : Bool). b && lt bottom v) w.if-v.false ] in both)); value_value = c.quantize.ensures }
