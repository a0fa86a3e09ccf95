-- Laws: a double in whole units of 1/65536. Rounding first changes nothing, a rounded double is its units exactly, and what lies out of range.
use Rattle.std.specs.Prelude.{◌≡◌, ℕ, zero, suc, ◌+◌, ◌*◌, ◌^◌, ◌≤◌, ◌<◌, Bool, true, false, ◌&&◌, cond, ℤ, pos, negsuc, neg_ℤ, T, ltb, Float}
use Rattle.std.proofs.Math.Path.{refl}
use Rattle.std.proofs.Common.{sym, ap, ap₂, ◌∙◌, subst, lt_of_not-le, mul-le-mul_right, suc-mul, arith, ltb→lt, lt→ltb, lit<, pow_pos}
use Rattle.std.specs.Float.{nan, inf, fin, Format, binary64}
use Rattle.std.specs.Float.Ieee.{sub, add, neg, mul, div, lt, fits}
use Rattle.std.specs.Float.Ieee.Scale.{finite}
use Rattle.binary64.specs.Value.{sign, mag, Multiple}
use Rattle.binary64.specs.Rounding.{away, abs}
use Rattle.binary64.specs.Units.{bool_iff}
use Rattle.binary64.specs.Tests.{lt→balance, balance→lt}
use Rattle.binary64.specs.Away.{up_half, up_half_lo, up_half_hi}
use Rattle.type2.specs.Number.{zp, zm, quantized, units, in_range, Is}
use Rattle.type2.specs.Signed.{same}
use Rattle.type2.specs.Whole.{whole-count}
use Rattle.type2.proofs.QuantizeLaws.{quantized_nearest}

abbrev F : Format
F = binary64

-- a finite double's size in units of 1/65536, rounded
abbrev pub count : Float → ℕ
count v = up_half (2 ^ 1058) (mag F v)

signed_parts : (s : Bool) (n : ℕ) → (zp (cond s (neg_ℤ (pos n)) (pos n)) ≡ cond s 0 n) × (zm (cond s (neg_ℤ (pos n)) (pos n)) ≡ cond s n 0)
signed_parts true zero = (refl, refl)
signed_parts true (suc n) = (refl, refl)
signed_parts false n = (refl, refl)

pub units_parts : (v : Float) → T (finite v) → (zp (units v) ≡ cond (sign v) 0 (count v)) × (zm (units v) ≡ cond (sign v) (count v) 0)
unfolding units
units_parts nan b = absurd b
units_parts (inf s) b = absurd b
units_parts (fin s m e) b = signed_parts s (count (fin s m e))

-- ---- ROUNDED FIRST OR NOT, the units are the same
pub units-quantized : (v : Float) → T (fits F v) → units (quantized v) ≡ units v
units-quantized nan a = unfold units quantized abs away sub add neg mul div lt in refl
units-quantized (inf true) a = unfold units quantized abs away sub add neg mul div lt in refl
units-quantized (inf false) a = unfold units quantized abs away sub add neg mul div lt in refl
units-quantized (fin s m e) a =
    let v = fin s m e in
    let h = quantized_nearest v a tt in
    let c : count (quantized v) ≡ count v = ap (up_half (2 ^ 1058)) h.size ∙ whole-count (count v) (2 ^ 1058) (pow_pos 1058) in
    let x = units_parts (quantized v) h.fine in
    let y = units_parts v tt in
    let p : zp (units (quantized v)) ≡ zp (units v) = x.0 ∙ ap₂ (λ (s : Bool) (n : ℕ). cond s 0 n) h.signs c ∙ sym y.0 in
    let q : zm (units (quantized v)) ≡ zm (units v) = x.1 ∙ ap₂ (λ (s : Bool) (n : ℕ). cond s n 0) h.signs c ∙ sym y.1 in
    same (units (quantized v)) (units v) (omega arith)

-- ---- A ROUNDED DOUBLE IS ITS UNITS, exactly
pub units_is : (v : Float) → T (fits F v) → T (finite v) → Multiple F 1058 v → Is (units v) v
unfolding Multiple
units_is v a b (k, e) =
    let x = units_parts v b in
    let c : count v ≡ k = ap (up_half (2 ^ 1058)) e ∙ whole-count k (2 ^ 1058) (pow_pos 1058) in
    record {
      fit = a;
      fine = b;
      plus = (split (sign v) (mag F v) k (2 ^ 1058) e).0 ∙ ap (λ (n : ℕ). n * 2 ^ 1058) (sym (x.0 ∙ ap (λ (n : ℕ). cond (sign v) 0 n) c));
      minus = (split (sign v) (mag F v) k (2 ^ 1058) e).1 ∙ ap (λ (n : ℕ). n * 2 ^ 1058) (sym (x.1 ∙ ap (λ (n : ℕ). cond (sign v) n 0) c));
    }
  where
    split : (s : Bool) (m k W : ℕ) → m ≡ k * W → (cond s 0 m ≡ cond s 0 k * W) × (cond s m 0 ≡ cond s k 0 * W)
    split true m k W e = (omega arith, e)
    split false m k W e = (e, omega arith)

pub is_multiple : (u : ℤ) (v : Float) → Is u v → Multiple F 1058 v
unfolding Multiple
is_multiple u v i = (zp u + zm u, both (sign v) (mag F v) (zp u) (zm u) (2 ^ 1058) i.plus i.minus)
  where
    both : (s : Bool) (m p n w : ℕ) → cond s 0 m ≡ p * w → cond s m 0 ≡ n * w → m ≡ (p + n) * w
    both true m p n w h k = omega arith
    both false m p n w h k = omega arith

-- ---- WHAT IS OUT OF RANGE: two tests on the double itself decide, at half a unit below -32768 and half a unit below 32768
abbrev pub top : Float
top = fin false 4294967295 (negsuc 16)

abbrev pub bottom : Float
bottom = fin true 4294967297 (negsuc 16)

lit_fits : T (fits F top) × T (fits F bottom)
unfolding fits
lit_fits = (tt, tt)

lit_mag : (mag F top ≡ 4294967295 * 2 ^ 1057) × (mag F bottom ≡ 4294967297 * 2 ^ 1057)
unfolding mag
lit_mag = (refl, refl)

pub count-below : (K W A : ℕ) → 0 < W → A * 2 + W < K * W * 2 → up_half W A < K
count-below K W A p h = lt_of_not-le (λ (g : K ≤ up_half W A). let l = mul-le-mul_right W g in let m = up_half_lo W A p in let z : ⊥ = omega arith in z)

pub below-count : (K W A : ℕ) → 0 < W → up_half W A < K → A * 2 + W < K * W * 2
below-count K W A p h =
    let l : suc (up_half W A) * W ≤ K * W = mul-le-mul_right W h in
    let m = up_half_hi W A p in
    let e = suc-mul (up_half W A) W in
    omega arith

top_test : (v : Float) → T (fits F v) → T (finite v) → lt v top ≡ ltb (zp (units v)) 2147483648
top_test v a b =
    subst (λ (n : ℕ). lt v top ≡ ltb n 2147483648) (sym (units_parts v b).0)
    (bool_iff (lt v top) (ltb (cond (sign v) 0 (count v)) 2147483648)
    (λ t. lt→ltb (cond (sign v) 0 (count v)) 2147483648 (fwd (sign v) (mag F v) (2 ^ 1057) (2 ^ 1058) (mag F top) lit_mag.0 refl (pow_pos 1057) (lt→balance F v top a b lit_fits.0 tt t)))
    (λ t. balance→lt F v top a b lit_fits.0 tt (back (sign v) (mag F v) (2 ^ 1057) (2 ^ 1058) (mag F top) lit_mag.0 refl (pow_pos 1057) (ltb→lt (cond (sign v) 0 (count v)) 2147483648 t))))
  where
    fwd : (s : Bool) (A H W c : ℕ) → c ≡ 4294967295 * H → W ≡ H * 2 → 0 < H → cond s 0 A + 0 < cond s A 0 + c → cond s 0 (up_half W A) < 2147483648
    fwd true A H W c e w p h = lit< tt
    fwd false A H W c e w p h = count-below 2147483648 W A (omega arith) (omega arith)

    back : (s : Bool) (A H W c : ℕ) → c ≡ 4294967295 * H → W ≡ H * 2 → 0 < H → cond s 0 (up_half W A) < 2147483648 → cond s 0 A + 0 < cond s A 0 + c
    back true A H W c e w p h = omega arith
    back false A H W c e w p h = let l = below-count 2147483648 W A (omega arith) h in omega arith

bottom_test : (v : Float) → T (fits F v) → T (finite v) → lt bottom v ≡ ltb (zm (units v)) 2147483649
bottom_test v a b =
    subst (λ (n : ℕ). lt bottom v ≡ ltb n 2147483649) (sym (units_parts v b).1)
    (bool_iff (lt bottom v) (ltb (cond (sign v) (count v) 0) 2147483649)
    (λ t. lt→ltb (cond (sign v) (count v) 0) 2147483649 (fwd (sign v) (mag F v) (2 ^ 1057) (2 ^ 1058) (mag F bottom) lit_mag.1 refl (pow_pos 1057) (lt→balance F bottom v lit_fits.1 tt a b t)))
    (λ t. balance→lt F bottom v lit_fits.1 tt a b (back (sign v) (mag F v) (2 ^ 1057) (2 ^ 1058) (mag F bottom) lit_mag.1 refl (pow_pos 1057) (ltb→lt (cond (sign v) (count v) 0) 2147483649 t))))
  where
    fwd : (s : Bool) (A H W c : ℕ) → c ≡ 4294967297 * H → W ≡ H * 2 → 0 < H → 0 + cond s A 0 < c + cond s 0 A → cond s (up_half W A) 0 < 2147483649
    fwd true A H W c e w p h = count-below 2147483649 W A (omega arith) (omega arith)
    fwd false A H W c e w p h = lit< tt

    back : (s : Bool) (A H W c : ℕ) → c ≡ 4294967297 * H → W ≡ H * 2 → 0 < H → cond s (up_half W A) 0 < 2147483649 → 0 + cond s A 0 < c + cond s 0 A
    back true A H W c e w p h = let l = below-count 2147483649 W A (omega arith) h in omega arith
    back false A H W c e w p h = omega arith

pub range_tests : (v : Float) → T (fits F v) → in_range (units v) ≡ (lt v top && lt bottom v)
range_tests nan a = unfold units lt in refl
range_tests (inf true) a = unfold units lt in refl
range_tests (inf false) a = unfold units lt in refl
range_tests (fin s m e) a = ap₂ ◌&&◌ (sym (top_test (fin s m e) a tt)) (sym (bottom_test (fin s m e) a tt))
