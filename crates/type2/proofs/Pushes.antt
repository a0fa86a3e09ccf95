-- Laws: what a push says of the double that it was given.
use Rattle.std.specs.Prelude.{◌≡◌, ◌⊎◌, ℕ, ◌+◌, ◌*◌, ◌^◌, ◌≤◌, ◌<◌, Bool, true, false, not, ◌&&◌, cond, List, length, ℤ, pos, T, leb, ltb, Float}
use Rattle.std.proofs.Math.Path.{refl}
use Rattle.std.proofs.Common.{sym, ap, ap₂, ◌∙◌, subst, inl, inr, lt_of_mul-lt-mul_right, mul-lt-mul_of_pos_right, mul-le-mul_right, arith, true≢false, ltb→lt, lt→ltb, nltb→le, lit<, pow_pos}
use Rattle.std.proofs.Math.Dec.{not_T}
use Rattle.std.specs.Float.{nan, inf, fin, Format, binary64}
use Rattle.std.specs.Float.Ieee.{sub, add, neg, mul, div, lt, fits}
use Rattle.std.specs.Float.Ieee.Scale.{finite}
use Rattle.binary64.specs.Value.{mag, pl, mi}
use Rattle.binary64.specs.Rounding.{away, abs}
use Rattle.binary64.specs.Units.{bool_iff}
use Rattle.binary64.specs.Scaling.{two}
use Rattle.binary64.specs.Tests.{lt→balance, balance→lt}
use Rattle.type2.specs.Number.{zp, zm, quantized, units, Nearest, Is, in_range, number_bytes, Push, gave, put, push_number}
use Rattle.type2.specs.Bools.{choose}
use Rattle.type2.specs.Signed.{one_sided}
use Rattle.type2.proofs.QuantizeLaws.{quantized_nearest, quantized-fits, multiple}
use Rattle.type2.proofs.Fixed.{units-quantized, units_is}
use Rattle.type2.proofs.Casts.{in_range-finite}

abbrev F : Format
F = binary64

-- ---- ROUNDED FIRST OR NOT, a push is the same
pub push-quantized : (out : List ℕ) (at : ℕ) (v : Float) → T (fits F v) → push_number out at (quantized v) ≡ push_number out at v
unfolding push_number
push-quantized out at v a = rw (units-quantized v a)

-- ---- THE NUMBER WRITTEN is the rounded double exactly, and `ReadBack.reads_back` says that its bytes read back as it
pub rounded_is : (v : Float) → T (fits F v) → T (finite v) → Is (units v) (quantized v)
rounded_is v a b =
    let h = quantized_nearest v a b in
    subst (λ (u : ℤ). Is u (quantized v)) (units-quantized v a) (units_is (quantized v) (quantized-fits v a) h.fine (multiple F 1058 v (quantized v) h))

pub written_is : (v : Float) → T (fits F v) → T (in_range (units v)) → Is (units v) (quantized v)
written_is v a r = rounded_is v a (in_range-finite v r)

-- the same, said of the rounded double's units
pub quantized-written : (v : Float) → T (fits F v) → T (in_range (units (quantized v))) → Is (units (quantized v)) (quantized v) × Nearest F 1058 v (quantized v) × T (finite v)
quantized-written v a r =
    let e = units-quantized v a in
    let b = in_range-finite v (subst (λ (u : ℤ). T (in_range u)) e r) in
    (subst (λ (u : ℤ). Is u (quantized v)) (sym e) (rounded_is v a b), quantized_nearest v a b, b)

-- ---- 13 IS EXACTLY THAT: the rounded double is not -32768 to below 32768. A NaN is neither, and an infinity is one of the two.
abbrev pub lowest : Float
lowest = fin true 1 (pos 15)

lit_fits : T (fits F (two 15)) × T (fits F lowest)
unfolding fits
lit_fits = (tt, tt)

lit_mag : (mag F (two 15) ≡ 2147483648 * 2 ^ 1058) × (mag F lowest ≡ 2147483648 * 2 ^ 1058)
unfolding mag
lit_mag = (refl, refl)

under_top : (u : ℤ) (v : Float) → Is u v → lt v (two 15) ≡ ltb (zp u) 2147483648
under_top u v i =
    bool_iff (lt v (two 15)) (ltb (zp u) 2147483648)
    (λ t. lt→ltb (zp u) 2147483648 (fwd (zp u) (zm u) (2 ^ 1058) (pl F v) (mi F v) (mag F (two 15)) i.plus i.minus lit_mag.0 (one_sided u) (lt→balance F v (two 15) i.fit i.fine lit_fits.0 tt t)))
    (λ t. balance→lt F v (two 15) i.fit i.fine lit_fits.0 tt (back (zp u) (2 ^ 1058) (pl F v) (mi F v) (mag F (two 15)) (pow_pos 1058) i.plus lit_mag.0 (ltb→lt (zp u) 2147483648 t)))
  where
    fwd : (p n w a b c : ℕ) → a ≡ p * w → b ≡ n * w → c ≡ 2147483648 * w → (p ≡ 0) ⊎ (n ≡ 0) → a + 0 < b + c → p < 2147483648
    fwd p n w a b c h k l (inl z) g = omega arith
    fwd p n w a b c h k l (inr z) g = lt_of_mul-lt-mul_right w (let e : b ≡ 0 = k ∙ ap (λ (x : ℕ). x * w) z ∙ (let q : 0 * w ≡ 0 = omega arith in q) in let r : p * w < 2147483648 * w = omega arith in r)

    back : (p w a b c : ℕ) → 0 < w → a ≡ p * w → c ≡ 2147483648 * w → p < 2147483648 → a + 0 < b + c
    back p w a b c pw h l g = let r : p * w < 2147483648 * w = mul-lt-mul_of_pos_right g pw in omega arith

not_under_bottom : (u : ℤ) (v : Float) → Is u v → not (lt v lowest) ≡ ltb (zm u) 2147483649
not_under_bottom u v i =
    ap not
    (bool_iff (lt v lowest) (not (ltb (zm u) 2147483649))
    (λ t. not_T (ltb (zm u) 2147483649) (λ s. fwd (zm u) (2 ^ 1058) (pl F v) (mi F v) (mag F lowest) i.minus lit_mag.1 (lt→balance F v lowest i.fit i.fine lit_fits.1 tt t) (ltb→lt (zm u) 2147483649 s)))
    (λ t. balance→lt F v lowest i.fit i.fine lit_fits.1 tt (back (zp u) (zm u) (2 ^ 1058) (pl F v) (mi F v) (mag F lowest) (pow_pos 1058) i.plus i.minus lit_mag.1 (one_sided u) (nltb→le (zm u) 2147483649 t))))
    ∙ twice (ltb (zm u) 2147483649)
  where
    fwd : (n w a b c : ℕ) → b ≡ n * w → c ≡ 2147483648 * w → a + c < b + 0 → n < 2147483649 → ⊥
    fwd n w a b c k l g m = let r : n * w ≤ 2147483648 * w = mul-le-mul_right w (let q : n ≤ 2147483648 = omega arith in q) in omega arith

    back : (p n w a b c : ℕ) → 0 < w → a ≡ p * w → b ≡ n * w → c ≡ 2147483648 * w → (p ≡ 0) ⊎ (n ≡ 0) → 2147483649 ≤ n → a + c < b + 0
    back p n w a b c pw h k l (inl z) g = let e : a ≡ 0 = h ∙ ap (λ (x : ℕ). x * w) z ∙ (let q : 0 * w ≡ 0 = omega arith in q) in let r : 2147483649 * w ≤ n * w = mul-le-mul_right w g in omega arith
    back p n w a b c pw h k l (inr z) g = absurd (let q : ⊥ = omega arith in q)

    twice : (b : Bool) → not (not b) ≡ b
    twice true = refl
    twice false = refl

pub range-rounded : (v : Float) → T (fits F v) → in_range (units v) ≡ (lt (quantized v) (two 15) && not (lt (quantized v) lowest))
range-rounded nan a = unfold units quantized abs away sub add neg mul div lt in refl
range-rounded (inf true) a = unfold units quantized abs away sub add neg mul div lt in refl
range-rounded (inf false) a = unfold units quantized abs away sub add neg mul div lt in refl
range-rounded (fin s m e) a =
    let v = fin s m e in
    let i = rounded_is v a tt in
    ap₂ ◌&&◌ (sym (under_top (units v) (quantized v) i)) (sym (not_under_bottom (units v) (quantized v) i))

-- a push's number is 0, 13 or 18
pub push-number_few : (out : List ℕ) (at : ℕ) (v : Float) → (push_number out at v).number < 19
unfolding push_number put
push-number_few out at v =
    choose (in_range (units v)) (λ (p : Push). p.number < 19) _ _ (λ t. choose (leb (at + length (number_bytes (units v))) (length out)) (λ (p : Push). p.number < 19) _ _ (λ u. lit< tt) (λ u. lit< tt)) (λ t. lit< tt)

pub refused_13 : (out : List ℕ) (at : ℕ) (v : Float) → ((push_number out at v).number ≡ 13 → in_range (units v) ≡ false) × (in_range (units v) ≡ false → push_number out at v ≡ gave 13 0 out)
unfolding push_number put
refused_13 out at v = go (in_range (units v))
  where
    put_not_13 : (out : List ℕ) (at : ℕ) (bs : List ℕ) → (put out at bs).number ≡ 13 → ⊥
    put_not_13 out at bs = choose (leb (at + length bs) (length out)) (λ (p : Push). p.number ≡ 13 → ⊥) _ _ (λ t e. let z : ⊥ = omega arith in z) (λ t e. let z : ⊥ = omega arith in z)

    go : (b : Bool) → ((cond b (put out at (number_bytes (units v))) (gave 13 0 out)).number ≡ 13 → b ≡ false) × (b ≡ false → cond b (put out at (number_bytes (units v))) (gave 13 0 out) ≡ gave 13 0 out)
    go true = (λ e. absurd (put_not_13 out at (number_bytes (units v)) e), λ e. absurd (true≢false e))
    go false = (λ e. refl, λ e. refl)
