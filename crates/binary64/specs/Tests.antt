-- Laws: a comparison of two finite floats is that of their units; what a rounded result's sign is.
use Rattle.std.specs.Prelude.{◌≡◌, ℕ, zero, suc, ◌+◌, ◌-◌, ◌*◌, ◌/◌, ◌^◌, ◌<◌, ◌≤◌, Bool, true, false, cond, not, ◌&&◌, ◌||◌, T, ◌==◌, nat_lt, refl, Float}
use Rattle.std.proofs.Common.{sym, ap, ap₂, ◌∙◌, subst, le_of_eq, le_antisymm, mul_comm, mul_assoc, mul_right_comm, mul-pos, zero-mul, add-mul, arith, eqb→eq, ltb→lt, lt→ltb, nltb→le, pow_pos}
use Rattle.std.specs.Bool.{beq}
use Rattle.std.specs.Float.{nan, inf, fin, Format}
use Rattle.std.specs.Float.Ieee.{prec, emax, low, up, down, size, odd, units, round, sum, add, sub, neg, lt, eq, below, level, fits}
use Rattle.std.specs.Float.Ieee.Fits.{down_pos, eq→eqb, round_is, and_l}
use Rattle.std.specs.Float.Ieee.Exact.{HasValue}
use Rattle.std.specs.Float.Ieee.Nearest.{closest}
use Rattle.std.specs.Float.Ieee.Scale.{finite}
use Rattle.binary64.specs.Value.{sign, mag, pl, mi}
use Rattle.binary64.specs.Units.{own, bool_iff, lt_same, ltb_same, add-units}

eqb_same : (a b c A B L : ℕ) → 0 < c → 0 < L → a * L ≡ A * c → b * L ≡ B * c → (a == b) ≡ (A == B)
eqb_same a b c A B L C P p q =
    bool_iff (a == b) (A == B)
    (λ t. let e = eqb→eq a b t in eq→eqb (le_antisymm (lt_same A B L a b c C (sym p) (sym q) (le_of_eq e)) (lt_same B A L b a c C (sym q) (sym p) (le_of_eq (sym e)))))
    (λ t. let e = eqb→eq A B t in eq→eqb (le_antisymm (lt_same a b c A B L P p q (le_of_eq e)) (lt_same b a c B A L P q p (le_of_eq (sym e)))))

-- a / c is A / L
cross : (m n d e a L : ℕ) → m * L ≡ a * e → m * d * L ≡ a * (e * d)
cross m n d e a L h = mul_right_comm m d L ∙ ap (λ (x : ℕ). x * d) h ∙ mul_assoc a e d

below_same : (s t : Bool) (a b c A B L : ℕ) → 0 < c → 0 < L → a * L ≡ A * c → b * L ≡ B * c → below s a t b ≡ below s A t B
below_same false false a b c A B L C P p q = ltb_same a b c A B L C P p q
below_same false true a b c A B L C P p q = refl
below_same true false a b c A B L C P p q = ltb_same 0 (a + b) c 0 (A + B) L C P (zero-mul L ∙ sym (zero-mul c)) (add-mul a b L ∙ ap₂ ◌+◌ p q ∙ sym (add-mul A B c))
below_same true true a b c A B L C P p q = ltb_same b a c B A L C P q p

level_same : (s t : Bool) (a b c A B L : ℕ) → 0 < c → 0 < L → a * L ≡ A * c → b * L ≡ B * c → level s a t b ≡ level s A t B
level_same s t a b c A B L C P p q = ap₂ (λ (x y : Bool). x && (beq s t || y)) (eqb_same a b c A B L C P p q) (eqb_same a 0 c A 0 L C P p (zero-mul L ∙ sym (zero-mul c)))

pub lt-units : (f : Format) (x y : Float) (s t : Bool) (a b : ℕ) → HasValue x s a (2 ^ low f) → HasValue y t b (2 ^ low f) → lt x y ≡ below s a t b
unfolding lt
lt-units f nan y s t a b h k = absurd h
lt-units f (inf u) y s t a b h k = absurd h
lt-units f (fin u m e) nan s t a b h k = absurd k
lt-units f (fin u m e) (inf v) s t a b h k = absurd k
lt-units f (fin u m e) (fin v n d) s t a b h k =
    let L = 2 ^ low f in
    below_same u v (m * up e * down d) (n * up d * down e) (down e * down d) a b L (mul-pos (down_pos e) (down_pos d)) (pow_pos (low f)) (cross (m * up e) 0 (down d) (down e) a L h.1)
    (cross (n * up d) 0 (down e) (down d) b L k.1 ∙ ap (λ (x : ℕ). b * x) (mul_comm (down d) (down e)))
    ∙ ap₂ (λ (x y : Bool). below x a y b) h.0 k.0

pub eq-units : (f : Format) (x y : Float) (s t : Bool) (a b : ℕ) → HasValue x s a (2 ^ low f) → HasValue y t b (2 ^ low f) → eq x y ≡ level s a t b
unfolding eq
eq-units f nan y s t a b h k = absurd h
eq-units f (inf u) y s t a b h k = absurd h
eq-units f (fin u m e) nan s t a b h k = absurd k
eq-units f (fin u m e) (inf v) s t a b h k = absurd k
eq-units f (fin u m e) (fin v n d) s t a b h k =
    let L = 2 ^ low f in
    level_same u v (m * up e * down d) (n * up d * down e) (down e * down d) a b L (mul-pos (down_pos e) (down_pos d)) (pow_pos (low f)) (cross (m * up e) 0 (down d) (down e) a L h.1)
    (cross (n * up d) 0 (down e) (down d) b L k.1 ∙ ap (λ (x : ℕ). b * x) (mul_comm (down d) (down e)))
    ∙ ap₂ (λ (x y : Bool). level x a y b) h.0 k.0

-- ---- signs
flip_odd : (f : Format) (s : Bool) (q k : ℕ) → neg (odd (suc (prec f)) s q k (low f)) ≡ odd (suc (prec f)) (not s) q k (low f)
unfolding neg odd
flip_odd f s zero k = refl
flip_odd f s (suc q) k = refl

flip_cond : (f : Format) (s b : Bool) (q k : ℕ) → neg (cond b (odd (suc (prec f)) s q k (low f)) (inf s)) ≡ cond b (odd (suc (prec f)) (not s) q k (low f)) (inf (not s))
unfolding neg
flip_cond f s true q k = flip_odd f s q k
flip_cond f s false q k = refl

flip_units : (f : Format) (s : Bool) (q k : ℕ) → neg (units f s q k) ≡ units f (not s) q k
unfolding units
flip_units f s q k = flip_cond f s (nat_lt (q * 2 ^ k) (2 ^ (low f + suc (emax f)))) q k

pub neg_round : (f : Format) (s : Bool) (a c : ℕ) → neg (round f s a c) ≡ round f (not s) a c
neg_round f s a c =
    let k = size (a * 2 ^ low f / c) - prec f in
    ap neg (round_is f s a c) ∙ flip_units f s (closest (a * 2 ^ low f) (c * 2 ^ k)) k ∙ sym (round_is f (not s) a c)

-- ---- x - y of two values that are not negative
minus_ge : (f : Format) (a b L : ℕ) → b ≤ a → sum f false a true b L ≡ round f false (a - b) L
unfolding sum
minus_ge f a b L h = go (nat_lt a b) (ltb→lt a b)
  where
    go : (t : Bool) → (T t → a < b) → cond t (round f true (b - a) L) (round f false (a - b) L) ≡ round f false (a - b) L
    go true k = absurd (let l = k tt in let z : ⊥ = omega arith in z)
    go false k = refl

minus-lt : (f : Format) (a b L : ℕ) → a < b → sum f false a true b L ≡ round f true (b - a) L
unfolding sum
minus-lt f a b L h = go (nat_lt a b) (nltb→le a b)
  where
    go : (t : Bool) → (T (not t) → b ≤ a) → cond t (round f true (b - a) L) (round f false (a - b) L) ≡ round f true (b - a) L
    go false k = absurd (let l = k tt in let z : ⊥ = omega arith in z)
    go true k = refl

neg_value : (y : Float) (b c : ℕ) → HasValue y false b c → HasValue (neg y) true b c
unfolding neg
neg_value nan b c h = absurd h
neg_value (inf s) b c h = absurd h
neg_value (fin s m e) b c h = (ap not h.0, h.1)

pub plus : (f : Format) (x y : Float) (a b : ℕ) → HasValue x false a (2 ^ low f) → HasValue y false b (2 ^ low f) → add f x y ≡ round f false (a + b) (2 ^ low f)
unfolding sum
plus f x y a b h k = add-units f x y false false a b h k

pub minus-above : (f : Format) (x y : Float) (a b : ℕ) → HasValue x false a (2 ^ low f) → HasValue y false b (2 ^ low f) → b ≤ a → sub f x y ≡ round f false (a - b) (2 ^ low f)
unfolding sub
minus-above f x y a b h k l = add-units f x (neg y) false true a b h (neg_value y b (2 ^ low f) k) ∙ minus_ge f a b (2 ^ low f) l

pub minus-below : (f : Format) (x y : Float) (a b : ℕ) → HasValue x false a (2 ^ low f) → HasValue y false b (2 ^ low f) → a < b → sub f x y ≡ round f true (b - a) (2 ^ low f)
unfolding sub
minus-below f x y a b h k l = add-units f x (neg y) false true a b h (neg_value y b (2 ^ low f) k) ∙ minus-lt f a b (2 ^ low f) l

-- ---- the order as a balance: x < y where pl x + mi y < mi x + pl y
below_balance : (s t : Bool) (a b : ℕ) → (T (below s a t b) → cond s 0 a + cond t b 0 < cond s a 0 + cond t 0 b) × (cond s 0 a + cond t b 0 < cond s a 0 + cond t 0 b → T (below s a t b))
below_balance false false a b = ((λ h. let l = ltb→lt a b h in let z : a + 0 < 0 + b = omega arith in z), (λ h. lt→ltb a b (let z : a < b = omega arith in z)))
below_balance false true a b = ((λ h. absurd h), (λ h. let z : ⊥ = omega arith in z))
below_balance true false a b = ((λ h. let l = ltb→lt 0 (a + b) h in let z : 0 + 0 < a + b = omega arith in z), (λ h. lt→ltb 0 (a + b) (let z : 0 < a + b = omega arith in z)))
below_balance true true a b = ((λ h. let l = ltb→lt b a h in let z : 0 + b < a + 0 = omega arith in z), (λ h. lt→ltb b a (let z : b < a = omega arith in z)))

pub lt→balance : (f : Format) (x y : Float) → T (fits f x) → T (finite x) → T (fits f y) → T (finite y) → T (lt x y) → pl f x + mi f y < mi f x + pl f y
lt→balance f x y a b c d t = (below_balance (sign x) (sign y) (mag f x) (mag f y)).0 (subst T (lt-units f x y (sign x) (sign y) (mag f x) (mag f y) (own f x a b) (own f y c d)) t)

pub balance→lt : (f : Format) (x y : Float) → T (fits f x) → T (finite x) → T (fits f y) → T (finite y) → pl f x + mi f y < mi f x + pl f y → T (lt x y)
balance→lt f x y a b c d h = subst T (sym (lt-units f x y (sign x) (sign y) (mag f x) (mag f y) (own f x a b) (own f y c d))) ((below_balance (sign x) (sign y) (mag f x) (mag f y)).1 h)

-- ---- finite: between the infinities
pub below_top : (x : Float) → lt x (inf false) ≡ true → lt (inf true) x ≡ finite x
unfolding lt
below_top nan h = refl
below_top (inf true) h = refl
below_top (inf false) h = sym h
below_top (fin s m e) h = refl

pub not_below-top : (x : Float) → lt x (inf false) ≡ false → false ≡ finite x
unfolding lt
not_below-top nan h = refl
not_below-top (inf s) h = refl
not_below-top (fin s m e) h = sym h

-- ---- equality as a balance: x = y where pl x + mi y = mi x + pl y, so -0 equals 0
level_balance : (s t : Bool) (a b : ℕ) → (T (level s a t b) → cond s 0 a + cond t b 0 ≡ cond s a 0 + cond t 0 b) × (cond s 0 a + cond t b 0 ≡ cond s a 0 + cond t 0 b → T (level s a t b))
level_balance s t a b = (forth s t, back s t)
  where
    pair : (p q : Bool) → T p → T q → T (p && q)
    pair true q x y = y
    pair false q x y = elim x [ ]

    right : (p q : Bool) → T q → T (p || q)
    right true q y = tt
    right false q y = y

    zero_or : (p q : Bool) → (T p → a ≡ b) → (T q → a ≡ 0) → T (p && q) → (a ≡ b) × (a ≡ 0)
    zero_or true true x y u = (x tt, y tt)
    zero_or false q x y u = elim u [ ]
    zero_or true false x y u = elim u [ ]

    both : T (a == b && (false || a == 0)) → (a ≡ b) × (a ≡ 0)
    both u = zero_or (a == b) (a == 0) (eqb→eq a b) (eqb→eq a 0) u

    same : T (a == b && (true || a == 0)) → a ≡ b
    same u = eqb→eq a b (and_l (a == b) true u)

    forth : (s t : Bool) → T (level s a t b) → cond s 0 a + cond t b 0 ≡ cond s a 0 + cond t 0 b
    forth true true u = let e = same u in omega arith
    forth false false u = let e = same u in omega arith
    forth true false u = let e = both u in omega (arith, e.0, e.1)
    forth false true u = let e = both u in omega (arith, e.0, e.1)

    back : (s t : Bool) → cond s 0 a + cond t b 0 ≡ cond s a 0 + cond t 0 b → T (level s a t b)
    back true true h = pair (a == b) (true || a == 0) (eq→eqb (let z : a ≡ b = omega arith in z)) tt
    back false false h = pair (a == b) (true || a == 0) (eq→eqb (let z : a ≡ b = omega arith in z)) tt
    back true false h = pair (a == b) (false || a == 0) (eq→eqb (let z : a ≡ b = omega arith in z)) (right false (a == 0) (eq→eqb (let z : a ≡ 0 = omega arith in z)))
    back false true h = pair (a == b) (false || a == 0) (eq→eqb (let z : a ≡ b = omega arith in z)) (right false (a == 0) (eq→eqb (let z : a ≡ 0 = omega arith in z)))

pub eq→balance : (f : Format) (x y : Float) → T (fits f x) → T (finite x) → T (fits f y) → T (finite y) → T (eq x y) → pl f x + mi f y ≡ mi f x + pl f y
eq→balance f x y a b c d t = (level_balance (sign x) (sign y) (mag f x) (mag f y)).0 (subst T (eq-units f x y (sign x) (sign y) (mag f x) (mag f y) (own f x a b) (own f y c d)) t)

pub balance→eq : (f : Format) (x y : Float) → T (fits f x) → T (finite x) → T (fits f y) → T (finite y) → pl f x + mi f y ≡ mi f x + pl f y → T (eq x y)
balance→eq f x y a b c d h = subst T (sym (eq-units f x y (sign x) (sign y) (mag f x) (mag f y) (own f x a b) (own f y c d))) ((level_balance (sign x) (sign y) (mag f x) (mag f y)).1 h)
