-- Laws: `+` and `-` of two finite floats, as a balance of natural numbers of units. They are the exact ones, rounded once; and exact where the exact one has few digits.
use Rattle.std.specs.Prelude.{◌≡◌, ℕ, suc, ◌+◌, ◌-◌, ◌*◌, ◌^◌, ◌<◌, ◌≤◌, Bool, true, false, cond, not, ◌&&◌, T, nat_lt, refl, Float}
use Rattle.std.proofs.Common.{sym, ap, ap₂, ◌∙◌, subst, le_of_eq, lt_of_lt_of_le, mul_comm, add-mul, zero-mul, lt_of_mul-lt-mul_right, arith, true≢false, ltb→lt, nltb→le, lit≤, pow-add, pow_pos, pow_mono}
use Rattle.std.proofs.Math.Nat.{mul-sub}
use Rattle.std.specs.Float.{nan, inf, fin, Format, binary64}
use Rattle.std.specs.Float.Ieee.{prec, emax, low, round, neg, sum, add, sub, fits}
use Rattle.std.specs.Float.Ieee.Fits.{neg-fits}
use Rattle.std.specs.Float.Ieee.Exact.{HasValue, round_exact}
use Rattle.std.specs.Float.Ieee.Scale.{finite, overflow}
use Rattle.binary64.specs.Value.{sign, mag, pl, mi, dist, Multiple, Rounded, Exactly}
use Rattle.binary64.specs.Units.{own, mag_of, sign_of, finite_of, add-units}

unlike_signs : (f : Format) (s t : Bool) (a b L : ℕ) → L ≡ 2 ^ low f → (z : Float)
    → (p q : Bool) → (T p → a < b) → (T (not p) → b ≤ a) → (T (not q) → a ≤ b)
    → z ≡ cond p (round f t (b - a) L) (round f (s && q) (a - b) L)
    → (s ≡ not t) → Rounded f z (cond s 0 a + cond t 0 b) (cond s a 0 + cond t b 0)
unlike_signs f true true a b L e z p q x y w h n = absurd (true≢false n)
unlike_signs f false false a b L e z p q x y w h n = absurd (true≢false (sym n))
unlike_signs f true false a b L e z true q x y w h n = let l = x tt in record { sgn = false; amount = b - a; is = h ∙ ap (λ (c : ℕ). round f false (b - a) c) e; balance = omega arith }
unlike_signs f true false a b L e z false true x y w h n = let l = y tt in record { sgn = true; amount = a - b; is = h ∙ ap (λ (c : ℕ). round f true (a - b) c) e; balance = omega arith }
unlike_signs f true false a b L e z false false x y w h n = let l = y tt in let m = w tt in record { sgn = false; amount = a - b; is = h ∙ ap (λ (c : ℕ). round f false (a - b) c) e; balance = omega arith }
unlike_signs f false true a b L e z true q x y w h n = let l = x tt in record { sgn = true; amount = b - a; is = h ∙ ap (λ (c : ℕ). round f true (b - a) c) e; balance = omega arith }
unlike_signs f false true a b L e z false true x y w h n = let l = y tt in record { sgn = false; amount = a - b; is = h ∙ ap (λ (c : ℕ). round f false (a - b) c) e; balance = omega arith }
unlike_signs f false true a b L e z false false x y w h n = let l = y tt in record { sgn = false; amount = a - b; is = h ∙ ap (λ (c : ℕ). round f false (a - b) c) e; balance = omega arith }

pub sum-rounded : (f : Format) (s t : Bool) (a b : ℕ) → Rounded f (sum f s a t b (2 ^ low f)) (cond s 0 a + cond t 0 b) (cond s a 0 + cond t b 0)
unfolding sum
sum-rounded f true true a b = record { sgn = true; amount = a + b; is = refl; balance = omega arith }
sum-rounded f false false a b = record { sgn = false; amount = a + b; is = refl; balance = omega arith }
sum-rounded f true false a b = unlike_signs f true false a b (2 ^ low f) refl (sum f true a false b (2 ^ low f)) (nat_lt a b) (nat_lt b a) (ltb→lt a b) (nltb→le a b) (nltb→le b a) refl refl
sum-rounded f false true a b = unlike_signs f false true a b (2 ^ low f) refl (sum f false a true b (2 ^ low f)) (nat_lt a b) (nat_lt b a) (ltb→lt a b) (nltb→le a b) (nltb→le b a) refl refl

-- ---- of any two finite values of the format
pub add-rounded : (f : Format) (x y : Float) → T (fits f x) → T (finite x) → T (fits f y) → T (finite y) → Rounded f (add f x y) (pl f x + pl f y) (mi f x + mi f y)
add-rounded f x y a b c d =
    subst (λ (z : Float). Rounded f z (pl f x + pl f y) (mi f x + mi f y)) (sym (add-units f x y (sign x) (sign y) (mag f x) (mag f y) (own f x a b) (own f y c d)))
    (sum-rounded f (sign x) (sign y) (mag f x) (mag f y))

neg_sign : (x : Float) → T (finite x) → sign (neg x) ≡ not (sign x)
unfolding neg
neg_sign nan u = absurd u
neg_sign (inf s) u = absurd u
neg_sign (fin s m e) u = refl

neg_mag : (f : Format) (x : Float) → mag f (neg x) ≡ mag f x
unfolding neg mag
neg_mag f nan = refl
neg_mag f (inf s) = refl
neg_mag f (fin s m e) = refl

pub neg_finite : (x : Float) → T (finite x) → T (finite (neg x))
unfolding neg
neg_finite nan u = u
neg_finite (inf s) u = u
neg_finite (fin s m e) u = tt

flip : (s : Bool) (a : ℕ) → (cond (not s) 0 a ≡ cond s a 0) × (cond (not s) a 0 ≡ cond s 0 a)
flip true a = (refl, refl)
flip false a = (refl, refl)

pub pl_neg : (f : Format) (x : Float) → T (finite x) → pl f (neg x) ≡ mi f x
pl_neg f x u = ap₂ (λ (s : Bool) (a : ℕ). cond s 0 a) (neg_sign x u) (neg_mag f x) ∙ (flip (sign x) (mag f x)).0

pub mi_neg : (f : Format) (x : Float) → T (finite x) → mi f (neg x) ≡ pl f x
mi_neg f x u = ap₂ (λ (s : Bool) (a : ℕ). cond s a 0) (neg_sign x u) (neg_mag f x) ∙ (flip (sign x) (mag f x)).1

pub sub-rounded : (f : Format) (x y : Float) → T (fits f x) → T (finite x) → T (fits f y) → T (finite y) → Rounded f (sub f x y) (pl f x + mi f y) (mi f x + pl f y)
unfolding sub
sub-rounded f x y a b c d =
    subst (λ (k : ℕ). Rounded f (add f x (neg y)) (pl f x + k) (mi f x + pl f y)) (pl_neg f y d)
    (subst (λ (k : ℕ). Rounded f (add f x (neg y)) (pl f x + pl f (neg y)) (mi f x + k)) (mi_neg f y d)
    (add-rounded f x (neg y) a b (neg-fits f y c) (neg_finite y d)))

-- ---- z is P - M units exactly
pub amount_is : (s : Bool) (n P M : ℕ) → cond s 0 n + M ≡ cond s n 0 + P → n ≡ dist P M
amount_is true n P M h = omega arith
amount_is false n P M h = omega arith

value_balance : (f : Format) (z : Float) (s : Bool) (n P M : ℕ) → HasValue z s n (2 ^ low f) → cond s 0 n + M ≡ cond s n 0 + P → Exactly f z P M
value_balance f z s n P M v h = record {
  fine = finite_of z s n (2 ^ low f) v;
  balance = ap₂ (λ (t : Bool) (k : ℕ). cond t 0 k + M) (sign_of z s n (2 ^ low f) v) (mag_of f z s n v) ∙ h ∙ sym (ap₂ (λ (t : Bool) (k : ℕ). cond t k 0 + P) (sign_of z s n (2 ^ low f) v) (mag_of f z s n v));
}

pub exact_round : (f : Format) (s : Bool) (n q j : ℕ) → n ≡ q * 2 ^ j → q < 2 ^ prec f → n < overflow f → HasValue (round f s n (2 ^ low f)) s n (2 ^ low f)
exact_round f s n q j e h o = round_exact f s n (2 ^ low f) q j (pow_pos (low f)) h (subst (λ (k : ℕ). k < overflow f) e o) (ap (λ (k : ℕ). k * 2 ^ low f) e)

pub exactly : {f : Format} {z : Float} {P M : ℕ} → Rounded f z P M → (q j : ℕ) → dist P M ≡ q * 2 ^ j → q < 2 ^ prec f → dist P M < overflow f → Exactly f z P M
exactly {f} {z} {P} {M} r q j e h o =
    let a : r.amount ≡ dist P M = amount_is r.sgn r.amount P M r.balance in
    value_balance f z r.sgn r.amount P M
    (subst (λ (x : Float). HasValue x r.sgn r.amount (2 ^ low f)) (sym r.is) (exact_round f r.sgn r.amount q j (a ∙ e) h (subst (λ (k : ℕ). k < overflow f) (sym a) o)))
    r.balance

-- ---- two finite values that are multiples of 2 ^ g units, whose sum is below 2 ^ (prec + g) units: the sum is exact
cond-mul : (s : Bool) (a k u : ℕ) → a ≡ k * u → (cond s 0 a ≡ cond s 0 k * u) × (cond s a 0 ≡ cond s k 0 * u)
cond-mul true a k u h = (sym (zero-mul u), h)
cond-mul false a k u h = (h, sym (zero-mul u))

pub sub-mul : (x y z : ℕ) → (x - y) * z ≡ x * z - y * z
sub-mul x y z = mul_comm (x - y) z ∙ mul-sub z x y ∙ ap₂ ◌-◌ (mul_comm z x) (mul_comm z y)

pub dist-mul : (a b u : ℕ) → dist (a * u) (b * u) ≡ dist a b * u
dist-mul a b u = ap₂ ◌+◌ (sym (sub-mul a b u)) (sym (sub-mul b a u)) ∙ sym (add-mul (a - b) (b - a) u)

-- the sum of two multiples, and their difference, is a multiple
multiples_dist : (A B C D P M u : ℕ) → P ≡ A * u + B * u → M ≡ C * u + D * u → dist P M ≡ dist (A + B) (C + D) * u
multiples_dist A B C D P M u p m = ap₂ dist (p ∙ sym (add-mul A B u)) (m ∙ sym (add-mul C D u)) ∙ dist-mul (A + B) (C + D) u

pub add-dist : (f : Format) (g : ℕ) (x y : Float) → Multiple f g x → Multiple f g y → (k : ℕ) × (dist (pl f x + pl f y) (mi f x + mi f y) ≡ k * 2 ^ g)
unfolding Multiple
add-dist f g x y (i, p) (j, q) =
    let u = 2 ^ g in
    let X = cond-mul (sign x) (mag f x) i u p in
    let Y = cond-mul (sign y) (mag f y) j u q in
    let A = cond (sign x) 0 i in let B = cond (sign y) 0 j in let C = cond (sign x) i 0 in let D = cond (sign y) j 0 in
    (dist (A + B) (C + D), multiples_dist A B C D (pl f x + pl f y) (mi f x + mi f y) u (ap₂ ◌+◌ X.0 Y.0) (ap₂ ◌+◌ X.1 Y.1))

pub sub-dist : (f : Format) (g : ℕ) (x y : Float) → Multiple f g x → Multiple f g y → (k : ℕ) × (dist (pl f x + mi f y) (mi f x + pl f y) ≡ k * 2 ^ g)
unfolding Multiple
sub-dist f g x y (i, p) (j, q) =
    let u = 2 ^ g in
    let X = cond-mul (sign x) (mag f x) i u p in
    let Y = cond-mul (sign y) (mag f y) j u q in
    let A = cond (sign x) 0 i in let B = cond (sign y) j 0 in let C = cond (sign x) i 0 in let D = cond (sign y) 0 j in
    (dist (A + B) (C + D), multiples_dist A B C D (pl f x + mi f y) (mi f x + pl f y) u (ap₂ ◌+◌ X.0 Y.1) (ap₂ ◌+◌ X.1 Y.0))

-- and it is exact where it is below 2 ^ (prec + g) units
exact_multiple : {f : Format} {z : Float} {P M : ℕ} → Rounded f z P M → (g k : ℕ) → dist P M ≡ k * 2 ^ g → dist P M < 2 ^ (prec f + g) → prec f + g ≤ low f + suc (emax f) → Exactly f z P M
exact_multiple {f} {z} {P} {M} r g k e h o =
    exactly r k g e (lt_of_mul-lt-mul_right (2 ^ g) (lt_of_lt_of_le (subst (λ (n : ℕ). n < 2 ^ (prec f + g)) e h) (le_of_eq (pow-add 2 (prec f) g)))) (lt_of_lt_of_le h (pow_mono o))

pub add_multiples : (f : Format) (g : ℕ) (x y : Float) → T (fits f x) → T (finite x) → T (fits f y) → T (finite y) → Multiple f g x → Multiple f g y
    → dist (pl f x + pl f y) (mi f x + mi f y) < 2 ^ (prec f + g) → prec f + g ≤ low f + suc (emax f)
    → Exactly f (add f x y) (pl f x + pl f y) (mi f x + mi f y)
add_multiples f g x y a b c d p q h o = let (k, e) = add-dist f g x y p q in exact_multiple (add-rounded f x y a b c d) g k e h o

pub sub_multiples : (f : Format) (g : ℕ) (x y : Float) → T (fits f x) → T (finite x) → T (fits f y) → T (finite y) → Multiple f g x → Multiple f g y
    → dist (pl f x + mi f y) (mi f x + pl f y) < 2 ^ (prec f + g) → prec f + g ≤ low f + suc (emax f)
    → Exactly f (sub f x y) (pl f x + mi f y) (mi f x + pl f y)
sub_multiples f g x y a b c d p q h o = let (k, e) = sub-dist f g x y p q in exact_multiple (sub-rounded f x y a b c d) g k e h o

-- for an `f64`: multiples of 2 ^ -16, which is 2 ^ 1058 units, with a sum below 2 ^ 37, which is 2 ^ 1111 units
pub add_sixteenths : (x y : Float) → T (fits binary64 x) → T (finite x) → T (fits binary64 y) → T (finite y) → Multiple binary64 1058 x → Multiple binary64 1058 y
    → dist (pl binary64 x + pl binary64 y) (mi binary64 x + mi binary64 y) < 2 ^ 1111
    → Exactly binary64 (add binary64 x y) (pl binary64 x + pl binary64 y) (mi binary64 x + mi binary64 y)
add_sixteenths x y a b c d p q h = add_multiples binary64 1058 x y a b c d p q h (lit≤ tt)

pub sub_sixteenths : (x y : Float) → T (fits binary64 x) → T (finite x) → T (fits binary64 y) → T (finite y) → Multiple binary64 1058 x → Multiple binary64 1058 y
    → dist (pl binary64 x + mi binary64 y) (mi binary64 x + pl binary64 y) < 2 ^ 1111
    → Exactly binary64 (sub binary64 x y) (pl binary64 x + mi binary64 y) (mi binary64 x + pl binary64 y)
sub_sixteenths x y a b c d p q h = sub_multiples binary64 1058 x y a b c d p q h (lit≤ tt)
