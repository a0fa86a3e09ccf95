-- Laws: a product with a power of two, and a quotient by one, are exact; a value of a format is told by its sign and its units.
use Rattle.std.specs.Prelude.{◌≡◌, ℕ, ◌+◌, ◌-◌, ◌*◌, ◌^◌, ◌<◌, ◌≤◌, Bool, true, false, not, T, pos, from_bits, nat_le, refl, Float}
use Rattle.std.proofs.Common.{sym, ap, ap₂, ◌∙◌, subst, le_trans, le_of_eq, lt_of_le_of_lt, mul-one, one-mul, mul_assoc, mul_right_comm, mul-pos, le-mul_of_pos_right, sub-add_cancel, arith, leb→le, pow-add, pow_pos}
use Rattle.std.proofs.Math.Nat.{eq_of_mul-eq-mul_right, mul-mul-mul_comm}
use Rattle.std.proofs.Math.Dec.{nleb→lt}
use Rattle.std.specs.Float.{nan, inf, fin, Format}
use Rattle.std.specs.Float.Ieee.{prec, low, up, down, unlike, round, mul, div, fits, to_bits}
use Rattle.std.specs.Float.Ieee.Bits.{of_bits-to_bits}
use Rattle.std.specs.Float.Ieee.Fits.{down_pos}
use Rattle.std.specs.Float.Ieee.Exact.{HasValue}
use Rattle.std.specs.Float.Ieee.Scale.{finite, overflow, round_same}
use Rattle.binary64.specs.Value.{sign, mag}
use Rattle.binary64.specs.Units.{own, digits}
use Rattle.binary64.specs.Sums.{exact_round}

-- 2 ^ t: 65536.0 is `two 16`
abbrev pub two : ℕ → Float
two t = fin false 1 (pos t)

unlike_false : (s : Bool) → unlike s false ≡ s
unlike_false true = refl
unlike_false false = refl

pub mul_two : (f : Format) (x : Float) (s : Bool) (a t : ℕ) → HasValue x s a (2 ^ low f) → mul f x (two t) ≡ round f s (a * 2 ^ t) (2 ^ low f)
unfolding mul
mul_two f nan s a t h = absurd h
mul_two f (inf u) s a t h = absurd h
mul_two f (fin u m e) s a t h =
    let L = 2 ^ low f in
    ap (λ (b : Bool). round f b (m * up e * (1 * 2 ^ t)) (down e * 1)) (unlike_false u ∙ h.0)
    ∙ round_same f s (m * up e * (1 * 2 ^ t)) (down e * 1) (a * 2 ^ t) L (mul-pos (down_pos e) (pow_pos 0)) (pow_pos (low f))
    (ap (λ (k : ℕ). m * up e * k * L) (one-mul (2 ^ t)) ∙ mul_right_comm (m * up e) (2 ^ t) L ∙ ap (λ (k : ℕ). k * 2 ^ t) h.1 ∙ mul_right_comm a (down e) (2 ^ t) ∙ ap (λ (k : ℕ). a * 2 ^ t * k) (sym (mul-one (down e))))

pub div_two : (f : Format) (x : Float) (s : Bool) (a b t : ℕ) → HasValue x s a (2 ^ low f) → a ≡ b * 2 ^ t → div f x (two t) ≡ round f s b (2 ^ low f)
unfolding div
div_two f nan s a b t h e = absurd h
div_two f (inf u) s a b t h e = absurd h
div_two f (fin u m e) s a b t h p =
    let L = 2 ^ low f in
    ap (λ (c : Bool). round f c (m * up e * 1) (1 * 2 ^ t * down e)) (unlike_false u ∙ h.0)
    ∙ round_same f s (m * up e * 1) (1 * 2 ^ t * down e) b L (mul-pos (mul-pos (pow_pos 0) (pow_pos t)) (down_pos e)) (pow_pos (low f))
    (ap (λ (k : ℕ). k * L) (mul-one (m * up e)) ∙ h.1 ∙ ap (λ (k : ℕ). k * down e) p ∙ mul_assoc b (2 ^ t) (down e) ∙ ap (λ (k : ℕ). b * (k * down e)) (sym (one-mul (2 ^ t))))

-- ---- times and divided by a power of two
pub mul_exact : (f : Format) (x : Float) (t : ℕ) → T (fits f x) → T (finite x) → mag f x * 2 ^ t < overflow f → HasValue (mul f x (two t)) (sign x) (mag f x * 2 ^ t) (2 ^ low f)
mul_exact f x t a b o =
    let (q, j, few, e) = digits f x a in
    subst (λ (z : Float). HasValue z (sign x) (mag f x * 2 ^ t) (2 ^ low f)) (sym (mul_two f x (sign x) (mag f x) t (own f x a b)))
    (exact_round f (sign x) (mag f x * 2 ^ t) q (j + t) (ap (λ (k : ℕ). k * 2 ^ t) e ∙ mul_assoc q (2 ^ j) (2 ^ t) ∙ ap (λ (k : ℕ). q * k) (sym (pow-add 2 j t))) few o)

-- where q * 2 ^ j is b * 2 ^ t, b has no more digits than q
fewer : (f : Format) (q j b t : ℕ) → q < 2 ^ prec f → q * 2 ^ j ≡ b * 2 ^ t → (r : ℕ) × (i : ℕ) × (r < 2 ^ prec f) × (b ≡ r * 2 ^ i)
fewer f q j b t few e = go (nat_le t j) (leb→le t j) (nleb→lt t j)
  where
    go : (c : Bool) → (T c → t ≤ j) → (T (not c) → j < t) → (r : ℕ) × (i : ℕ) × (r < 2 ^ prec f) × (b ≡ r * 2 ^ i)
    go true h k = (
      q,
      j - t,
      few,
      eq_of_mul-eq-mul_right (2 ^ t) (pow_pos t) b (q * 2 ^ (j - t)) (sym e ∙ ap (λ (z : ℕ). q * 2 ^ z) (sym (sub-add_cancel (h tt))) ∙ ap (λ (z : ℕ). q * z) (pow-add 2 (j - t) t) ∙ sym (mul_assoc q (2 ^ (j - t)) (2 ^ t))),
    )
    go false h k =
        let l : j ≤ t = (let g = k tt in omega arith) in
        let d : q ≡ b * 2 ^ (t - j) = eq_of_mul-eq-mul_right (2 ^ j) (pow_pos j) q (b * 2 ^ (t - j)) (e ∙ ap (λ (z : ℕ). b * 2 ^ z) (sym (sub-add_cancel l)) ∙ ap (λ (z : ℕ). b * z) (pow-add 2 (t - j) j) ∙ sym (mul_assoc b (2 ^ (t - j)) (2 ^ j))) in
        (b, 0, lt_of_le_of_lt (le_trans (le-mul_of_pos_right b (pow_pos (t - j))) (le_of_eq (sym d))) few, sym (mul-one b))

pub div_exact : (f : Format) (x : Float) (b t : ℕ) → T (fits f x) → T (finite x) → mag f x ≡ b * 2 ^ t → b < overflow f → HasValue (div f x (two t)) (sign x) b (2 ^ low f)
div_exact f x b t a c p o =
    let (q, j, few, e) = digits f x a in
    let (r, i, few', e') = fewer f q j b t few (sym e ∙ p) in
    subst (λ (z : Float). HasValue z (sign x) b (2 ^ low f)) (sym (div_two f x (sign x) (mag f x) b t (own f x a c) p)) (exact_round f (sign x) b r i e' few' o)

-- ---- two values of a format with the same sign and size are one
bits_of : (f : Format) (x y : Float) → T (finite x) → T (finite y) → sign x ≡ sign y → mag f x ≡ mag f y → to_bits f x ≡ to_bits f y
unfolding to_bits mag
bits_of f nan y a b p q = absurd a
bits_of f (inf s) y a b p q = absurd a
bits_of f (fin s m e) nan a b p q = absurd b
bits_of f (fin s m e) (inf t) a b p q = absurd b
bits_of f (fin s m e) (fin t n d) a b p q = cc

pub unique : (f : Format) (x y : Float) → T (fits f x) → T (fits f y) → T (finite x) → T (finite y) → sign x ≡ sign y → mag f x ≡ mag f y → x ≡ y
unique f x y a b c d p q = sym (of_bits-to_bits f x a) ∙ ap (λ (k : ℕ). from_bits f k) (bits_of f x y c d p q) ∙ of_bits-to_bits f y b

-- ---- any product: the exact product of the units, in units of the unit's square, rounded once
pub mul-units : (f : Format) (x y : Float) (s t : Bool) (a b : ℕ) → HasValue x s a (2 ^ low f) → HasValue y t b (2 ^ low f) → mul f x y ≡ round f (unlike s t) (a * b) (2 ^ low f * 2 ^ low f)
unfolding mul
mul-units f nan y s t a b h k = absurd h
mul-units f (inf u) y s t a b h k = absurd h
mul-units f (fin u m e) nan s t a b h k = absurd k
mul-units f (fin u m e) (inf v) s t a b h k = absurd k
mul-units f (fin u m e) (fin v n d) s t a b h k =
    let L = 2 ^ low f in
    ap₂ (λ (p q : Bool). round f (unlike p q) (m * up e * (n * up d)) (down e * down d)) h.0 k.0
    ∙ round_same f (unlike s t) (m * up e * (n * up d)) (down e * down d) (a * b) (L * L) (mul-pos (down_pos e) (down_pos d)) (mul-pos (pow_pos (low f)) (pow_pos (low f)))
    (mul-mul-mul_comm (m * up e) (n * up d) L L ∙ ap₂ ◌*◌ h.1 k.1 ∙ mul-mul-mul_comm a (down e) b (down d))
