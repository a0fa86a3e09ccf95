-- Laws: the exact value of a finite float in units. What fits a format has few digits; a value is unique; and a sum of two floats is that of their units, rounded once.
use Rattle.std.specs.Prelude.{◌≡◌, ℕ, zero, suc, ◌+◌, ◌-◌, ◌*◌, ◌/◌, ◌%◌, ◌^◌, ◌<◌, ◌≤◌, Bool, true, false, ◌&&◌, T, ltb, ℤ, pos, negsuc, nat_eq, nat_le, nat_lt, refl, Float}
use Rattle.std.proofs.Common.{sym, ap, ap₂, ◌∙◌, le_trans, le_of_eq, le_of_suc-le-suc, lt_of_not-le, not-le_of_lt, zero-mul, mul-one, mul_comm, mul_assoc, mul_right_comm, mul-pos, mul-div_cancel, mul-le-mul_right, le_of_mul-le-mul_right, add-mul, arith, ltb→lt, lt→ltb, leb→le, pow-add, pow_pos}
use Rattle.std.proofs.Math.Nat.{mul-sub}
use Rattle.std.proofs.Math.Pow.{pow-lt}
use Rattle.std.specs.Float.{nan, inf, fin, Format}
use Rattle.std.specs.Float.Ieee.{prec, emax, low, up, down, round, sum, add, fits}
use Rattle.std.specs.Float.Ieee.Fits.{down_pos, and_l, and_r}
use Rattle.std.specs.Float.Ieee.Exact.{HasValue}
use Rattle.std.specs.Float.Ieee.Scale.{round_same, finite}
use Rattle.binary64.specs.Value.{sign, mag}

-- ---- a float that fits: q * 2 ^ j units, q with no more digits than the format has

pub record Shape (f : Format) (m : ℕ) (e : ℤ) : Type 0 where
  pub j : ℕ
  pub few : m < 2 ^ prec f
  pub eq : m * up e * 2 ^ low f ≡ m * 2 ^ j * down e

pow_inj_le : (i l : ℕ) → 2 ^ i ≤ 2 ^ l → i ≤ l
pow_inj_le i l h = le_of_suc-le-suc (lt_of_not-le (λ (g : suc l ≤ i). not-le_of_lt (pow-lt g) h))

shape_suc : (f : Format) (m : ℕ) (e : ℤ) → m < 2 ^ prec f → down e ≤ 2 ^ low f → Shape f m e
shape_suc f m (pos k) a b = record { j = k + low f; few = a; eq = mul_assoc m (2 ^ k) (2 ^ low f) ∙ ap (λ (x : ℕ). m * x) (sym (pow-add 2 k (low f))) ∙ sym (mul-one (m * 2 ^ (k + low f))) }
shape_suc f m (negsuc k) a b =
    let h : suc k ≤ low f = pow_inj_le (suc k) (low f) b in
    let e : low f - suc k + suc k ≡ low f = omega arith in
    record {
      j = low f - suc k;
      few = a;
      eq = ap (λ (x : ℕ). x * 2 ^ low f) (mul-one m) ∙ ap (λ (x : ℕ). m * 2 ^ x) (sym e) ∙ ap (λ (x : ℕ). m * x) (pow-add 2 (low f - suc k) (suc k)) ∙ sym (mul_assoc m (2 ^ (low f - suc k)) (2 ^ suc k));
    }

pub shape : (f : Format) (s : Bool) (m : ℕ) (e : ℤ) → T (fits f (fin s m e)) → Shape f m e
unfolding fits
shape f s zero e t = record { j = 0; few = pow_pos (prec f); eq = ap (λ (x : ℕ). x * 2 ^ low f) (zero-mul (up e)) ∙ zero-mul (2 ^ low f) ∙ sym (zero-mul (down e)) ∙ ap (λ (x : ℕ). x * down e) (sym (zero-mul 1)) }
shape f s (suc m) e t =
    let a = nat_eq (suc m % 2) 1 in
    let b = ltb (suc m) (2 ^ prec f) in
    let c = nat_le (down e) (2 ^ low f) in
    let d = ltb (suc m * up e) (2 ^ suc (emax f) * down e) in
    shape_suc f (suc m) e (ltb→lt (suc m) (2 ^ prec f) (and_r a b (and_l (a && b) c (and_l (a && b && c) d t)))) (leb→le (down e) (2 ^ low f) (and_r (a && b) c (and_l (a && b && c) d t)))

mag_shape : (f : Format) (s : Bool) (m : ℕ) (e : ℤ) (h : Shape f m e) → mag f (fin s m e) ≡ m * 2 ^ h.j
unfolding mag
mag_shape f s m e h = ap (λ (x : ℕ). x / down e) h.eq ∙ mul-div_cancel (m * 2 ^ h.j) (down_pos e)

-- x has its own sign and `mag` for its value
pub own : (f : Format) (x : Float) → T (fits f x) → T (finite x) → HasValue x (sign x) (mag f x) (2 ^ low f)
own f nan t u = absurd u
own f (inf s) t u = absurd u
own f (fin s m e) t u =
    let h = shape f s m e t in
    (refl, h.eq ∙ ap (λ (x : ℕ). x * down e) (sym (mag_shape f s m e h)))

-- a value is unique
pub mag_of : (f : Format) (x : Float) (s : Bool) (n : ℕ) → HasValue x s n (2 ^ low f) → mag f x ≡ n
unfolding mag
mag_of f nan s n h = absurd h
mag_of f (inf t) s n h = absurd h
mag_of f (fin t m e) s n h = ap (λ (x : ℕ). x / down e) h.1 ∙ mul-div_cancel n (down_pos e)

pub sign_of : (x : Float) (s : Bool) (a c : ℕ) → HasValue x s a c → sign x ≡ s
sign_of nan s a c h = absurd h
sign_of (inf t) s a c h = absurd h
sign_of (fin t m e) s a c h = h.0

pub finite_of : (x : Float) (s : Bool) (a c : ℕ) → HasValue x s a c → T (finite x)
finite_of nan s a c h = absurd h
finite_of (inf t) s a c h = absurd h
finite_of (fin t m e) s a c h = tt

-- q * 2 ^ j units
pub digits : (f : Format) (x : Float) → T (fits f x) → (q : ℕ) × (j : ℕ) × (q < 2 ^ prec f) × (mag f x ≡ q * 2 ^ j)
unfolding mag
digits f nan t = (0, 0, pow_pos (prec f), refl)
digits f (inf s) t = (0, 0, pow_pos (prec f), refl)
digits f (fin s m e) t = let h = shape f s m e t in (m, h.j, h.few, mag_shape f s m e h)

-- ---- `sum` sees only the values

pub bool_iff : (p q : Bool) → (T p → T q) → (T q → T p) → p ≡ q
bool_iff true true f g = refl
bool_iff true false f g = absurd (f tt)
bool_iff false true f g = absurd (g tt)
bool_iff false false f g = refl

-- a / c < b / c, with a / c = A / L and b / c = B / L
pub lt_same : (a b c A B L : ℕ) → 0 < L → a * L ≡ A * c → b * L ≡ B * c → A ≤ B → a ≤ b
lt_same a b c A B L P p q h = le_of_mul-le-mul_right (le_trans (le_of_eq p) (le_trans (mul-le-mul_right c h) (le_of_eq (sym q)))) P

pub ltb_same : (a b c A B L : ℕ) → 0 < c → 0 < L → a * L ≡ A * c → b * L ≡ B * c → nat_lt a b ≡ nat_lt A B
ltb_same a b c A B L C P p q =
    bool_iff (nat_lt a b) (nat_lt A B)
    (λ t. lt→ltb A B (lt_of_not-le (λ (g : B ≤ A). not-le_of_lt (ltb→lt a b t) (lt_same b a c B A L P q p g))))
    (λ t. lt→ltb a b (lt_of_not-le (λ (g : b ≤ a). not-le_of_lt (ltb→lt A B t) (lt_same B A L b a c C (sym q) (sym p) g))))

pub sum_same : (f : Format) (s t : Bool) (a b c A B L : ℕ) → 0 < c → 0 < L → a * L ≡ A * c → b * L ≡ B * c → sum f s a t b c ≡ sum f s A t B L
unfolding sum
sum_same f s t a b c A B L C P p q =
    let e1 : ltb a b ≡ ltb A B = ltb_same a b c A B L C P p q in
    let e2 : ltb b a ≡ ltb B A = ltb_same b a c B A L C P q p in
    let r1 : round f s (a + b) c ≡ round f s (A + B) L = round_same f s (a + b) c (A + B) L C P (add-mul a b L ∙ ap₂ ◌+◌ p q ∙ sym (add-mul A B c)) in
    let r2 : round f t (b - a) c ≡ round f t (B - A) L = round_same f t (b - a) c (B - A) L C P (sub-mul b a L ∙ ap₂ ◌-◌ q p ∙ sym (sub-mul B A c)) in
    let r3 : round f (s && nat_lt B A) (a - b) c ≡ round f (s && nat_lt B A) (A - B) L = round_same f (s && nat_lt B A) (a - b) c (A - B) L C P (sub-mul a b L ∙ ap₂ ◌-◌ p q ∙ sym (sub-mul A B c)) in
    cc
  where
    sub-mul : (x y z : ℕ) → (x - y) * z ≡ x * z - y * z
    sub-mul x y z = mul_comm (x - y) z ∙ mul-sub z x y ∙ ap₂ ◌-◌ (mul_comm z x) (mul_comm z y)

-- ---- The sum of two finite floats is their exact sum in units, rounded once.
pub add-units : (f : Format) (x y : Float) (s t : Bool) (a b : ℕ) → HasValue x s a (2 ^ low f) → HasValue y t b (2 ^ low f) → add f x y ≡ sum f s a t b (2 ^ low f)
unfolding add
add-units f nan y s t a b h k = absurd h
add-units f (inf u) y s t a b h k = absurd h
add-units f (fin u m e) nan s t a b h k = absurd k
add-units f (fin u m e) (inf v) s t a b h k = absurd k
add-units f (fin u m e) (fin v n d) s t a b h k =
    let L = 2 ^ low f in
    let p : m * up e * down d * L ≡ a * (down e * down d) = mul_right_comm (m * up e) (down d) L ∙ ap (λ (x : ℕ). x * down d) h.1 ∙ mul_assoc a (down e) (down d) in
    let q : n * up d * down e * L ≡ b * (down e * down d) = mul_right_comm (n * up d) (down e) L ∙ ap (λ (x : ℕ). x * down e) k.1 ∙ mul_assoc b (down d) (down e) ∙ ap (λ (x : ℕ). b * x) (mul_comm (down d) (down e)) in
    sum_same f u v (m * up e * down d) (n * up d * down e) (down e * down d) a b L (mul-pos (down_pos e) (down_pos d)) (pow_pos (low f)) p q
    ∙ ap₂ (λ (x y : Bool). sum f x a y b L) h.0 k.0
