-- Laws: `floored` in units, how far it lies from its argument, and what the arms of `floor` return.
use Rattle.std.specs.Prelude.{◌≡◌, ℕ, zero, suc, ◌+◌, ◌-◌, ◌*◌, ◌/◌, ◌^◌, ◌<◌, ◌≤◌, Bool, true, false, cond, not, ◌&&◌, T, pos, negsuc, ◌≢◌, nat_lt, refl, Float}
use Rattle.std.proofs.Common.{sym, ap, ◌∙◌, subst, le_trans, le_of_eq, lt_of_lt_of_le, lt_of_le_of_lt, mul-one, one-mul, mul_comm, mul-le-mul_right, le-mul_of_pos_right, lt_of_mul-lt-mul_right, le_of_mul-le-mul_right, div-mul-le_self, div-le_self, mul-lt-mul_of_pos_right, le_of_lt, le_of_suc-le-suc, zero-mul, arith, true≢false, ltb→lt, nltb→le, lit≤, pow_pos, pow_mono, shl_lt}
use Rattle.std.proofs.Math.Nat.{lt-div-mul-add, div-eq_of_lt-le}
use Rattle.std.specs.Float.{nan, inf, fin, Format, binary64}
use Rattle.std.specs.Float.Ieee.{prec, emax, low, round, neg, sum, sub, lt, below, fits}
use Rattle.std.specs.Float.Ieee.Fits.{round-fits, sub-fits}
use Rattle.std.specs.Float.Ieee.Exact.{HasValue}
use Rattle.std.specs.Float.Ieee.Back.{round_whole}
use Rattle.std.specs.Float.Ieee.Nearest.{div_same}
use Rattle.std.specs.Float.Ieee.Scale.{finite}
use Rattle.binary64.specs.Value.{sign, mag, pl, mi}
use Rattle.binary64.specs.Rounding.{away, floored, round_away, round_down}
use Rattle.binary64.specs.Units.{own, shape, mag_of, sign_of, finite_of, add-units}
use Rattle.binary64.specs.Sums.{exact_round}
use Rattle.binary64.specs.Scaling.{two, unique}
use Rattle.binary64.specs.Tests.{lt-units, minus-above}
use Rattle.binary64.specs.Away.{up_half, up_half_lo, up_half_hi, in_units, away-value, away-fits}

-- ---- A / L cut down, or taken up where the number is negative
abbrev pub whole_down : Bool → ℕ → ℕ → ℕ
whole_down s L A = cond s ((A + (L - 1)) / L) (A / L)

-- the one N with N ≤ A / L < N + 1, or with N - 1 < A / L ≤ N
down_is : (L A N : ℕ) → N * L ≤ A → A < N * L + L → A / L ≡ N
down_is L A N h k = div-eq_of_lt-le L h (omega arith)

up_is : (L A N : ℕ) → 0 < L → N * L < A + L → A ≤ N * L → (A + (L - 1)) / L ≡ N
up_is L A N P h k = down_is L (A + (L - 1)) N (omega arith) (omega arith)

up_lo : (p m : ℕ) → 0 < p → (m + (p - 1)) / p * p < m + p
up_lo p m P = let h = div-mul-le_self (m + (p - 1)) p in omega arith

up_hi : (p m : ℕ) → 0 < p → m ≤ (m + (p - 1)) / p * p
up_hi p m P = let h = lt-div-mul-add {a = m + (p - 1)} P in omega arith

-- m / p is A / L
same_up : (p m L A : ℕ) → 0 < p → 0 < L → m * L ≡ A * p → (m + (p - 1)) / p ≡ (A + (L - 1)) / L
same_up p m L A P Q e =
    let N = (m + (p - 1)) / p in
    sym (up_is L A N Q (lt_of_mul-lt-mul_right p (lower N (mul-lt-mul_of_pos_right (up_lo p m P) Q))) (le_of_mul-le-mul_right (upper N (mul-le-mul_right L (up_hi p m P))) P))
  where
    lower : (N : ℕ) → N * p * L < (m + p) * L → N * L * p < (A + L) * p
    lower N h = omega arith

    upper : (N : ℕ) → m * L ≤ N * p * L → A * p ≤ N * L * p
    upper N h = omega arith

-- ---- `floored` in units
up_small : (m p : ℕ) → 0 < p → (m + (p - 1)) / p ≤ m
up_small m p P = le_of_suc-le-suc (lt_of_mul-lt-mul_right p (go ((m + (p - 1)) / p) (up_lo p m P) (le-mul_of_pos_right m P)))
  where
    go : (N : ℕ) → N * p < m + p → m ≤ m * p → N * p < suc m * p
    go N h k = omega arith

pub floored-value : (f : Format) (x : Float) → T (fits f x) → T (finite x) → HasValue (floored f x) (sign x) (whole_down (sign x) (2 ^ low f) (mag f x) * 2 ^ low f) (2 ^ low f)
unfolding floored
floored-value f nan a b = absurd b
floored-value f (inf s) a b = absurd b
floored-value f (fin s m (pos k)) a b =
    let L = 2 ^ low f in
    let B = m * 2 ^ k in
    let x = fin s m (pos k) in
    let e : mag f x ≡ B * L = sym (mul-one (mag f x)) ∙ sym (own f x a b).1 in
    (refl, ap (λ (z : ℕ). z * L) (sym (ap (λ (z : ℕ). whole_down s L z) e ∙ both s B L (pow_pos (low f)))) ∙ sym (mul-one (whole_down s L (mag f x) * L)))
  where
    both : (s : Bool) (B L : ℕ) → 0 < L → whole_down s L (B * L) ≡ B
    both true B L P = up_is L (B * L) B P (omega arith) (omega arith)
    both false B L P = down_is L (B * L) B (omega arith) (omega arith)
floored-value f (fin false m (negsuc k)) a b =
    let L = 2 ^ low f in
    let x = fin false m (negsuc k) in
    let p = 2 ^ suc k in
    let e : m * L ≡ mag f x * p = ap (λ (z : ℕ). z * L) (sym (mul-one m)) ∙ (own f x a b).1 in
    subst (λ (n : ℕ). HasValue (round f false (m / p) 1) false (n * L) L) (div_same m p (mag f x) L (pow_pos (suc k)) (pow_pos (low f)) e)
    (in_units (round f false (m / p) 1) false (m / p) L (round_whole f false (m / p) (le_trans (div-le_self m p) (le_of_lt (shape f false m (negsuc k) a).few))))
floored-value f (fin true m (negsuc k)) a b =
    let L = 2 ^ low f in
    let x = fin true m (negsuc k) in
    let p = 2 ^ suc k in
    let N = (m + (p - 1)) / p in
    let e : m * L ≡ mag f x * p = ap (λ (z : ℕ). z * L) (sym (mul-one m)) ∙ (own f x a b).1 in
    subst (λ (n : ℕ). HasValue (round f true N 1) true (n * L) L) (same_up p m L (mag f x) (pow_pos (suc k)) (pow_pos (low f)) e)
    (in_units (round f true N 1) true N L (round_whole f true N (le_trans (up_small m p (pow_pos (suc k))) (le_of_lt (shape f true m (negsuc k) a).few))))

pub floored-fits : (f : Format) (x : Float) → T (fits f x) → T (fits f (floored f x))
unfolding floored
floored-fits f nan a = a
floored-fits f (inf s) a = a
floored-fits f (fin s m (pos k)) a = a
floored-fits f (fin false m (negsuc k)) a = round-fits f false (m / 2 ^ suc k) 1
floored-fits f (fin true m (negsuc k)) a = round-fits f true ((m + (2 ^ suc k - 1)) / 2 ^ suc k) 1

pub floored-finite : (f : Format) (x : Float) → T (fits f x) → T (finite x) → T (finite (floored f x))
floored-finite f x a b = finite_of (floored f x) (sign x) (whole_down (sign x) (2 ^ low f) (mag f x) * 2 ^ low f) (2 ^ low f) (floored-value f x a b)

-- ---- `floored f x` is not above x, and less than one, 2 ^ low f units, below it
pub floor_near : (f : Format) (x : Float) → T (fits f x) → T (finite x)
    → (pl f (floored f x) + mi f x ≤ mi f (floored f x) + pl f x) × (pl f x + mi f (floored f x) < mi f x + pl f (floored f x) + 2 ^ low f)
floor_near f x a b =
    let L = 2 ^ low f in
    let v = floored-value f x a b in
    let s = sign x in
    let n = whole_down s L (mag f x) * L in
    subst (λ (t : Bool). Near t (mag f (floored f x))) (sym (sign_of (floored f x) s n L v))
    (subst (λ (k : ℕ). Near s k) (sym (mag_of f (floored f x) s n v)) (go s (mag f x) L (pow_pos (low f))))
  where
    Near : Bool → ℕ → Type 0
    Near t k = (cond t 0 k + mi f x ≤ cond t k 0 + pl f x) × (pl f x + cond t k 0 < mi f x + cond t 0 k + 2 ^ low f)

    go : (s : Bool) (A L : ℕ) → 0 < L → (cond s 0 (whole_down s L A * L) + cond s A 0 ≤ cond s (whole_down s L A * L) 0 + cond s 0 A) × (cond s 0 A + cond s (whole_down s L A * L) 0 < cond s A 0 + cond s 0 (whole_down s L A * L) + L)
    go true A L P = let h = up_lo L A P in let k = up_hi L A P in (omega arith, omega arith)
    go false A L P = let h = div-mul-le_self A L in let k = lt-div-mul-add {a = A} P in (omega arith, omega arith)

-- ---- what the arms of `floor` return
is_floored : (f : Format) (x z : Float) (N : ℕ) → T (fits f x) → T (finite x) → T (fits f z) → HasValue z (sign x) (N * 2 ^ low f) (2 ^ low f) → whole_down (sign x) (2 ^ low f) (mag f x) ≡ N → z ≡ floored f x
is_floored f x z N a b c v e =
    let L = 2 ^ low f in
    let w = floored-value f x a b in
    let n = whole_down (sign x) L (mag f x) * L in
    unique f z (floored f x) c (floored-fits f x a) (finite_of z (sign x) (N * L) L v) (floored-finite f x a b)
    (sign_of z (sign x) (N * L) L v ∙ sym (sign_of (floored f x) (sign x) n L w))
    (mag_of f z (sign x) (N * L) v ∙ ap (λ (k : ℕ). k * L) (sym e) ∙ sym (mag_of f (floored f x) (sign x) n w))

below_same : (s : Bool) (a b : ℕ) → below s a s b ≡ cond s (nat_lt b a) (nat_lt a b)
below_same true a b = refl
below_same false a b = refl

-- the test of the code
test_is : (f : Format) (x : Float) → T (fits f x) → T (finite x) → lt x (away f x) ≡ cond (sign x) (nat_lt (up_half (2 ^ low f) (mag f x) * 2 ^ low f) (mag f x)) (nat_lt (mag f x) (up_half (2 ^ low f) (mag f x) * 2 ^ low f))
test_is f x a b =
    let n = up_half (2 ^ low f) (mag f x) * 2 ^ low f in
    lt-units f x (away f x) (sign x) (sign x) (mag f x) n (own f x a b) (away-value f x a b) ∙ below_same (sign x) (mag f x) n

pub floor_kept : (f : Format) (x : Float) → T (fits f x) → lt x (away f x) ≡ false → away f x ≡ floored f x
unfolding away floored
floor_kept f nan a t = refl
floor_kept f (inf s) a t = refl
floor_kept f (fin s m e) a t =
    let x = fin s m e in
    let L = 2 ^ low f in
    let A = mag f x in
    let N = up_half L A in
    is_floored f x (away f x) N a tt (away-fits f x a) (away-value f x a tt)
    (go s A L (pow_pos (low f)) (up_half_lo L A (pow_pos (low f))) (up_half_hi L A (pow_pos (low f))) (sym (test_is f x a tt) ∙ t))
  where
    go : (s : Bool) (A L : ℕ) → 0 < L → up_half L A * L * 2 ≤ A * 2 + L → A * 2 < up_half L A * L * 2 + L → cond s (nat_lt (up_half L A * L) A) (nat_lt A (up_half L A * L)) ≡ false → whole_down s L A ≡ up_half L A
    go true A L P lo hi h = let k = nltb→le (up_half L A * L) A (subst (λ (c : Bool). T (not c)) (sym h) tt) in up_is L A (up_half L A) P (omega arith) k
    go false A L P lo hi h = let k = nltb→le A (up_half L A * L) (subst (λ (c : Bool). T (not c)) (sym h) tt) in down_is L A (up_half L A) k (omega arith)

-- r - 1 for a whole r: exact, where the result has few digits
one_value : (f : Format) → HasValue (two 0) false (2 ^ low f) (2 ^ low f)
one_value f = (refl, ap (λ (z : ℕ). z * 2 ^ low f) (one-mul 1) ∙ mul_comm 1 (2 ^ low f))

exact_whole : (f : Format) (s : Bool) (n N : ℕ) → prec f + low f ≤ low f + suc (emax f) → n ≡ N * 2 ^ low f → N < 2 ^ prec f → HasValue (round f s n (2 ^ low f)) s (N * 2 ^ low f) (2 ^ low f)
exact_whole f s n N room e few =
    subst (λ (z : ℕ). HasValue (round f s z (2 ^ low f)) s (N * 2 ^ low f) (2 ^ low f)) (sym e)
    (exact_round f s (N * 2 ^ low f) N (low f) refl few (lt_of_lt_of_le (shl_lt (prec f) (low f) few) (pow_mono room)))

less_above : (f : Format) (r : Float) (N : ℕ) → prec f + low f ≤ low f + suc (emax f) → HasValue r false (suc N * 2 ^ low f) (2 ^ low f) → N < 2 ^ prec f → HasValue (sub f r (two 0)) false (N * 2 ^ low f) (2 ^ low f)
less_above f r N room v few =
    let L = 2 ^ low f in
    subst (λ (z : Float). HasValue z false (N * L) L) (sym (minus-above f r (two 0) (suc N * L) L v (one_value f) (ge N L)))
    (exact_whole f false (suc N * L - L) N room (off N L) few)
  where
    ge : (N L : ℕ) → L ≤ suc N * L
    ge N L = omega arith

    off : (N L : ℕ) → suc N * L - L ≡ N * L
    off N L = omega arith

less_below : (f : Format) (r : Float) (N : ℕ) → prec f + low f ≤ low f + suc (emax f) → HasValue r true (N * 2 ^ low f) (2 ^ low f) → suc N < 2 ^ prec f → HasValue (sub f r (two 0)) true (suc N * 2 ^ low f) (2 ^ low f)
unfolding sub sum neg
less_below f r N room v few =
    let L = 2 ^ low f in
    subst (λ (z : Float). HasValue z true (suc N * L) L) (sym (add-units f r (neg (two 0)) true true (N * L) L v (refl, (one_value f).1)))
    (exact_whole f true (N * L + L) (suc N) room (more N L) few)
  where
    more : (N L : ℕ) → N * L + L ≡ suc N * L
    more N L = omega arith

-- with a negative exponent the number of units is at most the significand's
size_bound : (f : Format) (s : Bool) (m k : ℕ) → T (fits f (fin s m (negsuc k))) → mag f (fin s m (negsuc k)) ≤ m * 2 ^ low f
size_bound f s m k a =
    let A = mag f (fin s m (negsuc k)) in
    le_trans (le-mul_of_pos_right A (pow_pos (suc k))) (le_of_eq (sym (own f (fin s m (negsuc k)) a tt).1 ∙ ap (λ (z : ℕ). z * 2 ^ low f) (mul-one m)))

pub floor_less : (f : Format) (x : Float) → prec f + low f ≤ low f + suc (emax f) → T (fits f x) → lt x (away f x) ≡ true → sub f (away f x) (two 0) ≡ floored f x
unfolding away lt
floor_less f nan room a t = absurd (true≢false (sym t))
floor_less f (inf s) room a t = absurd (true≢false (sym t ∙ never s))
  where
    never : (s : Bool) → (s && not s) ≡ false
    never true = refl
    never false = refl
floor_less f (fin s m (pos k)) room a t = let x = fin s m (pos k) in absurd (never (mag f x) (below_same s (mag f x) (mag f x)) (sym (lt-units f x x s s (mag f x) (mag f x) (own f x a tt) (own f x a tt)) ∙ t))
  where
    same : (s : Bool) (b : Bool) → cond s b b ≡ b
    same true b = refl
    same false b = refl

    never : (A : ℕ) → below s A s A ≡ cond s (nat_lt A A) (nat_lt A A) → below s A s A ≢ true
    never A e h = let l = ltb→lt A A (subst T (sym h ∙ e ∙ same s (nat_lt A A)) tt) in omega arith
floor_less f (fin false m (negsuc k)) room a t =
    let x = fin false m (negsuc k) in
    let L = 2 ^ low f in
    let A = mag f x in
    go (up_half L A) (up_half_lo L A (pow_pos (low f))) (ltb→lt A (up_half L A * L) (subst T (sym t ∙ test_is f x a tt) tt)) (away-value f x a tt) (size_bound f false m k a)
  where
    less : (A N L : ℕ) → suc N * L * 2 ≤ A * 2 + L → N * L ≤ A
    less A N L h = omega arith

    next : (A N L : ℕ) → A < suc N * L → A < N * L + L
    next A N L h = omega arith

    go : (N : ℕ) → N * 2 ^ low f * 2 ≤ mag f (fin false m (negsuc k)) * 2 + 2 ^ low f → mag f (fin false m (negsuc k)) < N * 2 ^ low f → HasValue (away f (fin false m (negsuc k))) false (N * 2 ^ low f) (2 ^ low f) → mag f (fin false m (negsuc k)) ≤ m * 2 ^ low f
        → sub f (away f (fin false m (negsuc k))) (two 0) ≡ floored f (fin false m (negsuc k))
    go zero lo l v g = absurd (let z : mag f (fin false m (negsuc k)) < 0 = lt_of_lt_of_le l (le_of_eq (zero-mul (2 ^ low f))) in let y : ⊥ = omega arith in y)
    go (suc N) lo l v g =
        let x = fin false m (negsuc k) in
        let L = 2 ^ low f in
        let n = less (mag f x) N L lo in
        let r = away f x in
        is_floored f x (sub f r (two 0)) N a tt (sub-fits f r (two 0)) (less_above f r N room v (lt_of_le_of_lt (le_of_mul-le-mul_right (le_trans n g) (pow_pos (low f))) (shape f false m (negsuc k) a).few))
        (down_is L (mag f x) N n (next (mag f x) N L l))
floor_less f (fin true m (negsuc k)) room a t =
    let x = fin true m (negsuc k) in
    let L = 2 ^ low f in
    let A = mag f x in
    let N = up_half L A in
    let r = away f x in
    let l : N * L < A = ltb→lt (N * L) A (subst T (sym t ∙ test_is f x a tt) tt) in
    is_floored f x (sub f r (two 0)) (suc N) a tt (sub-fits f r (two 0))
    (less_below f r N room (away-value f x a tt) (lt_of_le_of_lt (lt_of_mul-lt-mul_right L (lt_of_lt_of_le l (size_bound f true m k a))) (shape f true m (negsuc k) a).few))
    (up_is L A (suc N) (pow_pos (low f)) (above A N L l) (under A N L (pow_pos (low f)) (up_half_hi L A (pow_pos (low f)))))
  where
    above : (A N L : ℕ) → N * L < A → suc N * L < A + L
    above A N L h = omega arith

    under : (A N L : ℕ) → 0 < L → A * 2 < N * L * 2 + L → A ≤ suc N * L
    under A N L P h = omega arith

-- for an `f64`, with what the call of `round` gave
pub floor_taken : (x r : Float) → T (fits binary64 x) → r ≡ round_away x → lt x r ≡ true → sub binary64 r (two 0) ≡ round_down x
floor_taken x r a e t = ap (λ (z : Float). sub binary64 z (two 0)) e ∙ floor_less binary64 x (lit≤ tt) a (ap (λ (z : Float). lt x z) (sym e) ∙ t)

pub floor_left : (x r : Float) → T (fits binary64 x) → r ≡ round_away x → lt x r ≡ false → r ≡ round_down x
floor_left x r a e t = e ∙ floor_kept binary64 x a (ap (λ (z : Float). lt x z) (sym e) ∙ t)
