-- Laws: what the arms of `to_usize` and `to_i64` return, and how far a truncated number lies from its argument.
use Rattle.std.specs.Prelude.{◌≡◌, ℕ, ◌+◌, ◌-◌, ◌*◌, ◌/◌, ◌^◌, ◌<◌, ◌≤◌, min, Bool, true, false, not, ◌&&◌, ◌||◌, T, ltb, ℤ, pos, neg_ℤ, ◌==◌, ◌≢◌, nat_lt, refl, Float}
use Rattle.std.proofs.Common.{sym, ap, ◌∙◌, subst, le_trans, le_of_eq, lt_of_le_of_lt, div-lt_iff_lt-mul, mul-one, one-mul, mul-pos, add_comm, le-div_iff_mul-le, div-mul-le_self, arith, true≢false, nltb→le, pow_pos}
use Rattle.std.proofs.Math.Nat.{lt-div-mul-add}
use Rattle.std.specs.Bool.{beq}
use Rattle.std.proofs.Math.Dec.{eqb_refl}
use Rattle.std.specs.Float.{nan, inf, fin, Format}
use Rattle.std.specs.Float.Ieee.{low, fits, up, down, lt, le, eq, to_unsigned, to_signed}
use Rattle.std.specs.Float.Ieee.Bits.{is_true}
use Rattle.std.specs.Float.Ieee.Fits.{down_pos}
use Rattle.std.specs.Float.Ieee.Nearest.{div_same}
use Rattle.std.specs.Float.Ieee.Scale.{finite}
use Rattle.binary64.specs.Value.{sign, mag}
use Rattle.binary64.specs.Units.{own}

-- 2 ^ w and above, and -1 and below
capped : (a c : ℕ) → c ≤ a → c - 1 ≡ min a (c - 1)
capped a c h = omega arith

reaches : (m c : ℕ) (e : ℤ) → nat_lt (m * up e * 1) (1 * c * down e) ≡ false → c ≤ m * up e / down e
reaches m c e h =
    (le-div_iff_mul-le (down_pos e)).1
    (le_trans (le_of_eq (ap (λ (z : ℕ). z * down e) (sym (one-mul c)))) (le_trans (nltb→le (m * up e * 1) (1 * c * down e) (subst (λ (b : Bool). T (not b)) (sym h) tt)) (le_of_eq (mul-one (m * up e)))))

positive_sum : (a b : ℕ) → 0 < b → nat_lt 0 (a + b) ≢ false
positive_sum a b P h = let l = nltb→le 0 (a + b) (subst (λ (c : Bool). T (not c)) (sym h) tt) in omega arith

one_pos : (w : ℕ) (e : ℤ) → 0 < 1 * 2 ^ w * down e
one_pos w e = subst (λ (z : ℕ). 0 < z * down e) (sym (one-mul (2 ^ w))) (mul-pos (pow_pos w) (down_pos e))

pub above_unsigned : (w : ℕ) (x : Float) → lt (fin true 1 (pos 0)) x ≡ true → lt x (fin false 1 (pos w)) ≡ false → 2 ^ w - 1 ≡ to_unsigned w x
unfolding lt to_unsigned
above_unsigned w nan h k = absurd (true≢false (sym h))
above_unsigned w (inf true) h k = absurd (true≢false (sym h))
above_unsigned w (inf false) h k = refl
above_unsigned w (fin true m e) h k = absurd (positive_sum (m * up e * 1) (1 * 2 ^ w * down e) (one_pos w e) k)
above_unsigned w (fin false m e) h k = capped (m * up e / down e) (2 ^ w) (reaches m (2 ^ w) e k)

pub below_unsigned : (w : ℕ) (x : Float) → lt (fin true 1 (pos 0)) x ≡ false → 0 ≡ to_unsigned w x
unfolding lt to_unsigned
below_unsigned w nan h = refl
below_unsigned w (inf true) h = refl
below_unsigned w (inf false) h = absurd (true≢false h)
below_unsigned w (fin true m e) h = refl
below_unsigned w (fin false m e) h = absurd (positive_sum (m * up e * 1) (1 * 1 * down e) (one_pos 0 e) (ap (λ (z : ℕ). ltb 0 z) (add_comm (m * up e * 1) (1 * 1 * down e)) ∙ h))

-- ---- from 2 ^ h on, below -2 ^ h, and no number
first-false : (p q : Bool) → (p || q) ≡ false → p ≡ false
first-false true q h = h
first-false false q h = refl

pub above_signed : (h : ℕ) (x : Float) → le (fin true 1 (pos h)) x ≡ true → lt x (fin false 1 (pos h)) ≡ false → pos (2 ^ h - 1) ≡ to_signed h x
unfolding le lt eq to_signed
above_signed h nan g k = absurd (true≢false (sym g))
above_signed h (inf true) g k = absurd (true≢false (sym g))
above_signed h (inf false) g k = refl
above_signed h (fin true m e) g k = absurd (positive_sum (m * up e * 1) (1 * 2 ^ h * down e) (one_pos h e) k)
above_signed h (fin false m e) g k = ap pos (capped (m * up e / down e) (2 ^ h) (reaches m (2 ^ h) e k))

pub below_signed : (h : ℕ) (x : Float) → le (fin true 1 (pos h)) x ≡ false → eq x x ≡ true → neg_ℤ (pos (2 ^ h)) ≡ to_signed h x
unfolding le lt eq to_signed
below_signed h nan g k = absurd (true≢false (sym k))
below_signed h (inf true) g k = refl
below_signed h (inf false) g k = absurd (true≢false g)
below_signed h (fin false m e) g k =
    absurd (positive_sum (m * up e * 1) (1 * 2 ^ h * down e) (one_pos h e) (ap (λ (z : ℕ). ltb 0 z) (add_comm (m * up e * 1) (1 * 2 ^ h * down e)) ∙ first-false (nat_lt 0 (1 * 2 ^ h * down e + m * up e * 1)) (1 * 2 ^ h * down e == m * up e * 1 && (false || 1 * 2 ^ h * down e == 0)) g))
below_signed h (fin true m e) g k =
    ap (λ (z : ℕ). neg_ℤ (pos z)) (least (m * up e / down e) (2 ^ h) (reaches m (2 ^ h) e (first-false (nat_lt (m * up e * 1) (1 * 2 ^ h * down e)) (1 * 2 ^ h * down e == m * up e * 1 && (true || 1 * 2 ^ h * down e == 0)) g)))
  where
    least : (a c : ℕ) → c ≤ a → c ≡ min a c
    least a c l = omega arith

pub no_number : (h : ℕ) (x : Float) → eq x x ≡ false → pos 0 ≡ to_signed h x
unfolding eq to_signed
no_number h nan g = refl
no_number h (inf true) g = absurd (true≢false g)
no_number h (inf false) g = absurd (true≢false g)
no_number h (fin s m e) g = absurd (true≢false (sym (same s (m * up e * down e == m * up e * down e) (m * up e * down e == 0) (is_true (m * up e * down e == m * up e * down e) (eqb_refl (m * up e * down e)))) ∙ g))
  where
    same : (s b c : Bool) → b ≡ true → (b && (beq s s || c)) ≡ true
    same true b c k = ap (λ (d : Bool). d && true) k
    same false b c k = ap (λ (d : Bool). d && true) k

-- ---- in range, a truncated number is the size in units cut to whole numbers, so less than one below the argument's size
pub cut-units : (f : Format) (s : Bool) (m : ℕ) (e : ℤ) → T (fits f (fin s m e)) → m * up e / down e ≡ mag f (fin s m e) / 2 ^ low f
cut-units f s m e a = div_same (m * up e) (down e) (mag f (fin s m e)) (2 ^ low f) (down_pos e) (pow_pos (low f)) (own f (fin s m e) a tt).1

pub unsigned_near : (f : Format) (w : ℕ) (x : Float) → T (fits f x) → T (finite x) → sign x ≡ false → mag f x < 2 ^ w * 2 ^ low f → (to_unsigned w x * 2 ^ low f ≤ mag f x) × (mag f x < to_unsigned w x * 2 ^ low f + 2 ^ low f)
unfolding to_unsigned
unsigned_near f w nan a b s h = absurd b
unsigned_near f w (inf t) a b s h = absurd b
unsigned_near f w (fin true m e) a b s h = absurd (true≢false s)
unsigned_near f w (fin false m e) a b s h =
    let A = mag f (fin false m e) in
    let L = 2 ^ low f in
    let u : A / L ≡ to_unsigned w (fin false m e) = sym (uncapped (m * up e / down e) (2 ^ w) (lt_of_le_of_lt (le_of_eq (cut-units f false m e a)) ((div-lt_iff_lt-mul (pow_pos (low f))).1 h)) ∙ cut-units f false m e a) in
    (subst (λ (n : ℕ). n * L ≤ A) u (div-mul-le_self A L), subst (λ (n : ℕ). A < n * L + L) u (lt-div-mul-add (pow_pos (low f))))
  where
    uncapped : (a c : ℕ) → a < c → min a (c - 1) ≡ a
    uncapped a c l = omega arith
