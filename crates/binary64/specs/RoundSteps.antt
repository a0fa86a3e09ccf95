-- Laws: the float operations of `round` compute `away`. Adding 2 ^ (prec - 1) and taking it off again leaves the nearest whole number, a tie to the even one, and the difference from x says whether it was a tie that went down.
use Rattle.std.specs.Prelude.{◌≡◌, ℕ, zero, suc, ◌+◌, ◌-◌, ◌*◌, ◌/◌, ◌%◌, ◌^◌, ◌<◌, ◌≤◌, Bool, true, false, not, ◌&&◌, ◌||◌, T, pos, negsuc, ◌==◌, nat_le, nat_lt, refl, Float}
use Rattle.std.proofs.Common.{sym, ap, ap₂, ◌∙◌, subst, le_trans, le_of_eq, le_of_lt, lt_of_lt_of_le, lt_of_le_of_lt, lt_of_not-le, not-le_of_lt, mul-one, one-mul, mul_comm, mul_assoc, mul-le-mul_right, mul-lt-mul_of_pos_right, lt_of_mul-lt-mul_right, le_of_mul-le-mul_right, zero-mul, sub-add_cancel, suc-mul, sub-le, lt-suc_self, mul-le-mul_left, arith, true≢false, leb→le, ltb→lt, lt→ltb, eqb→eq, pow-add, pow_pos, pow_mono, shl_lt}
use Prim.Native.Nat.{zero-le, suc-le-suc, compare, Ordering}
use Rattle.std.proofs.Math.Nat.{add-mul-div_right, add-mul-mod_self_right, pow-succ', le-suc, le_step}
use Rattle.std.proofs.Math.Dec.{nleb→lt}
use Rattle.std.proofs.Math.Pow.{pow-lt}
use Rattle.std.specs.Float.{nan, inf, fin, Format}
use Rattle.std.specs.Float.Ieee.{prec, emax, low, size, nearest, round, add, sub, eq, lt, fits}
use Rattle.std.specs.Float.Ieee.Digits.{size-lt, size-le}
use Rattle.std.specs.Float.Ieee.Fits.{add-fits, sub-fits, eq→eqb}
use Rattle.std.specs.Float.Ieee.Bits.{is_true}
use Rattle.std.proofs.Math.Arith.{lt_of_le-ne}
use Rattle.std.specs.Float.Ieee.Exact.{HasValue}
use Rattle.std.specs.Float.Ieee.Nearest.{closest}
use Rattle.std.specs.Float.Ieee.Scale.{finite, overflow}
use Rattle.binary64.specs.Units.{bool_iff, own, digits, shape, mag_of, sign_of, finite_of}
use Rattle.binary64.specs.Value.{sign, mag, dist}
use Rattle.binary64.specs.Sums.{dist-mul, exact_round}
use Rattle.binary64.specs.Distance.{closest_near, gap, rnd, round_rnd}
use Rattle.binary64.specs.Scaling.{two, unique}
use Rattle.binary64.specs.Tests.{lt-units, eq-units, plus, minus-above, minus-below}
use Rattle.binary64.specs.Rounding.{away}
use Rattle.binary64.specs.Away.{up_half, up_half_is, away-fits, away-finite, away-sign, away-mag}

-- ---- nearest whole numbers
shift_nearest : (q c : ℕ) (o : Ordering) → nearest (q + 2 * c) o ≡ nearest q o + 2 * c
shift_nearest q c Ordering.lt = refl
shift_nearest q c Ordering.eq = omega arith
shift_nearest q c Ordering.gt = omega arith

closest_shift : (a c u : ℕ) → 0 < u → closest (a + 2 * c * u) u ≡ closest a u + 2 * c
closest_shift a c u U =
    ap₂ (λ (q r : ℕ). nearest q (compare (r * 2) u)) (add-mul-div_right a (2 * c) U) (add-mul-mod_self_right a (2 * c) u)
    ∙ shift_nearest (a / u) c (compare (a % u * 2) u)

-- ---- R is a whole number next to A / L, where A has few digits: the difference has no more digits
split_le : (f : Format) (q j R : ℕ) → q < 2 ^ prec f → j ≤ low f → dist (q * 2 ^ j) (R * 2 ^ low f) ≤ q * 2 ^ j → (r : ℕ) × (i : ℕ) × (r < 2 ^ prec f) × (dist (q * 2 ^ j) (R * 2 ^ low f) ≡ r * 2 ^ i)
split_le f q j R few l h =
    let w = R * 2 ^ (low f - j) in
    let e : R * 2 ^ low f ≡ w * 2 ^ j = ap (λ (z : ℕ). R * 2 ^ z) (sym (sub-add_cancel l)) ∙ ap (λ (z : ℕ). R * z) (pow-add 2 (low f - j) j) ∙ sym (mul_assoc R (2 ^ (low f - j)) (2 ^ j)) in
    let d : dist (q * 2 ^ j) (R * 2 ^ low f) ≡ dist q w * 2 ^ j = ap (λ (z : ℕ). dist (q * 2 ^ j) z) e ∙ dist-mul q w (2 ^ j) in
    (dist q w, j, lt_of_le_of_lt (le_of_mul-le-mul_right (le_trans (le_of_eq (sym d)) h) (pow_pos j)) few, d)

split_ge : (f : Format) (q j R : ℕ) → low f ≤ j → dist (q * 2 ^ j) (R * 2 ^ low f) * 2 ≤ 2 ^ low f → dist (q * 2 ^ j) (R * 2 ^ low f) ≡ 0
split_ge f q j R l h =
    let L = 2 ^ low f in
    let B = q * 2 ^ (j - low f) in
    let e : q * 2 ^ j ≡ B * L = ap (λ (z : ℕ). q * 2 ^ z) (sym (sub-add_cancel l)) ∙ ap (λ (z : ℕ). q * z) (pow-add 2 (j - low f) (low f)) ∙ sym (mul_assoc q (2 ^ (j - low f)) L) in
    let d : dist (q * 2 ^ j) (R * L) ≡ dist B R * L = ap (λ (z : ℕ). dist z (R * L)) e ∙ dist-mul B R L in
    d ∙ none (dist B R) L (pow_pos (low f)) (subst (λ (z : ℕ). z * 2 ≤ L) d h)
  where
    none : (b L : ℕ) → 0 < L → b * L * 2 ≤ L → b * L ≡ 0
    none zero L P h = zero-mul L
    none (suc b) L P h = absurd (let z : ⊥ = omega arith in z)

near_le : (A n L R : ℕ) → n ≡ R * L → n * 2 ≤ A * 2 + L → A * 2 ≤ n * 2 + L → dist A n ≤ A
near_le A n L zero e h k = let z : n ≡ 0 = e ∙ zero-mul L in omega arith
near_le A n L (suc R) e h k = let z : n ≡ R * L + L = e ∙ suc-mul R L in omega arith

pub near_digits : (f : Format) (q j R : ℕ) → q < 2 ^ prec f → R * 2 ^ low f * 2 ≤ q * 2 ^ j * 2 + 2 ^ low f → q * 2 ^ j * 2 ≤ R * 2 ^ low f * 2 + 2 ^ low f
    → (r : ℕ) × (i : ℕ) × (r < 2 ^ prec f) × (dist (q * 2 ^ j) (R * 2 ^ low f) ≡ r * 2 ^ i)
near_digits f q j R few h k = go (nat_le j (low f)) (leb→le j (low f)) (nleb→lt j (low f))
  where
    half : (A n L : ℕ) → n * 2 ≤ A * 2 + L → A * 2 ≤ n * 2 + L → dist A n * 2 ≤ L
    half A n L h k = omega arith

    go : (c : Bool) → (T c → j ≤ low f) → (T (not c) → low f < j) → (r : ℕ) × (i : ℕ) × (r < 2 ^ prec f) × (dist (q * 2 ^ j) (R * 2 ^ low f) ≡ r * 2 ^ i)
    go true l g = split_le f q j R few (l tt) (near_le (q * 2 ^ j) (R * 2 ^ low f) (2 ^ low f) R refl h k)
    go false l g = (0, 0, pow_pos (prec f), split_ge f q j R (le_of_lt (g tt)) (half (q * 2 ^ j) (R * 2 ^ low f) (2 ^ low f) h k))

-- ---- x - r, exactly: x is not negative, and r is a whole number next to it
pub record Apart (f : Format) (d : Float) (A n : ℕ) : Type 0 where
  pub above : n ≤ A → HasValue d false (A - n) (2 ^ low f)
  pub below : A < n → HasValue d true (n - A) (2 ^ low f)

dist_ge : (A n : ℕ) → n ≤ A → dist A n ≡ A - n
dist_ge A n h = omega arith

dist-lt : (A n : ℕ) → A < n → dist A n ≡ n - A
dist-lt A n h = omega arith

pub apart : (f : Format) (x r : Float) (R : ℕ) → T (fits f x) → T (finite x) → sign x ≡ false → HasValue r false (R * 2 ^ low f) (2 ^ low f)
    → R * 2 ^ low f * 2 ≤ mag f x * 2 + 2 ^ low f → mag f x * 2 ≤ R * 2 ^ low f * 2 + 2 ^ low f → mag f x < overflow f → R * 2 ^ low f < overflow f
    → Apart f (sub f x r) (mag f x) (R * 2 ^ low f)
apart f x r R a b sg v h k o o' =
    let L = 2 ^ low f in
    let A = mag f x in
    let n = R * L in
    let u : HasValue x false A L = subst (λ (s : Bool). HasValue x s A L) sg (own f x a b) in
    let (q, j, few, e) = digits f x a in
    let (t, i, few', e') = near_digits f q j R few (subst (λ (z : ℕ). n * 2 ≤ z * 2 + L) e h) (subst (λ (z : ℕ). z * 2 ≤ n * 2 + L) e k) in
    let d : dist A n ≡ t * 2 ^ i = ap (λ (z : ℕ). dist z n) e ∙ e' in
    record {
      above = (λ (g : n ≤ A). subst (λ (z : Float). HasValue z false (A - n) L) (sym (minus-above f x r A n u v g)) (exact_round f false (A - n) t i (sym (dist_ge A n g) ∙ d) few' (lt_of_le_of_lt (sub-le A n) o)));
      below = (λ (g : A < n). subst (λ (z : Float). HasValue z true (n - A) L) (sym (minus-below f x r A n u v g)) (exact_round f true (n - A) t i (sym (dist-lt A n g) ∙ d) few' (lt_of_le_of_lt (sub-le n A) o')));
    }

-- ---- adding 2 ^ (prec - 1): h is prec - 2
size_gt : (n j : ℕ) → 2 ^ j ≤ n → j < size n
size_gt n j h = lt_of_not-le (λ (g : size n ≤ j). not-le_of_lt (lt_of_lt_of_le (size-lt n) (pow_mono g)) h)

-- the gap there is one whole
gap_is : (f : Format) (h A : ℕ) → prec f ≡ suc (suc h) → A < 2 ^ suc h * 2 ^ low f → gap f (A + 2 ^ suc h * 2 ^ low f) ≡ low f
gap_is f h A ph a =
    let L = 2 ^ low f in
    let P = 2 ^ suc h in
    let n = A + P * L in
    let e : 2 ^ (suc (suc h) + low f) ≡ 2 * (P * L) = pow-add 2 (suc (suc h)) (low f) ∙ ap (λ (z : ℕ). z * L) (pow-succ' 2 (suc h)) ∙ mul_assoc 2 P L in
    let hi : size n ≤ suc (suc h) + low f = size-le n (suc (suc h) + low f) (subst (λ (z : ℕ). n < z) (sym e) (twice A (P * L) a)) in
    let lo : suc h + low f < size n = size_gt n (suc h + low f) (le_trans (le_of_eq (pow-add 2 (suc h) (low f))) (more A (P * L))) in
    done (size n) (prec f) (low f) h ph hi lo
  where
    twice : (A p : ℕ) → A < p → A + p < 2 * p
    twice A p l = omega arith

    more : (A p : ℕ) → p ≤ A + p
    more A p = omega arith

    done : (z p l h : ℕ) → p ≡ suc (suc h) → z ≤ suc (suc h) + l → suc h + l < z → z - p ≡ l
    done z p l h e a b = omega arith

closest_le : (A L P : ℕ) → 0 < L → A < P * L → closest A L ≤ P
closest_le A L P pos-L h =
    let k : closest A L * 2 * L < suc (2 * P) * L = go (closest A L) (closest_near A L pos-L).0 in
    let l : closest A L * 2 < suc (2 * P) = lt_of_mul-lt-mul_right L k in
    omega arith
  where
    go : (r : ℕ) → r * L * 2 ≤ A * 2 + L → r * 2 * L < suc (2 * P) * L
    go r g = omega arith

-- the sums of the code, for the constant C = 2 ^ (prec - 1)
pub added : (f : Format) (h : ℕ) (x : Float) (A : ℕ) → prec f ≡ suc (suc h) → prec f + low f < low f + suc (emax f) → HasValue x false A (2 ^ low f) → A < 2 ^ suc h * 2 ^ low f
    → HasValue (add f x (two (suc h))) false ((closest A (2 ^ low f) + 2 ^ suc h) * 2 ^ low f) (2 ^ low f)
added f h x A ph room v a =
    let L = 2 ^ low f in
    let P = 2 ^ suc h in
    let R = closest A L in
    let n = A + P * L in
    let c : HasValue (two (suc h)) false (P * L) L = (refl, ap (λ (z : ℕ). z * L) (one-mul P) ∙ sym (mul-one (P * L))) in
    let e : rnd f n ≡ (R + P) * L =
    ap (λ (z : ℕ). closest n (2 ^ z) * 2 ^ z) (gap_is f h A ph a)
    ∙ ap (λ (z : ℕ). closest (A + z * L) L * L) (pow-succ' 2 h)
    ∙ ap (λ (z : ℕ). z * L) (closest_shift A (2 ^ h) L (pow_pos (low f)) ∙ ap (λ (z : ℕ). R + z) (sym (pow-succ' 2 h))) in
    let le : (R + P) * L ≤ 2 ^ (prec f + low f) = le_trans (mul-le-mul_right L (le_trans (add-le R P (closest_le A L P (pow_pos (low f)) a)) (le_of_eq (sym (ap (λ (z : ℕ). 2 ^ z) ph ∙ pow-succ' 2 (suc h)))))) (le_of_eq (sym (pow-add 2 (prec f) (low f)))) in
    subst (λ (z : Float). HasValue z false ((R + P) * L) L) (sym (plus f x (two (suc h)) A (P * L) v c))
    (subst (λ (z : ℕ). HasValue (round f false n L) false z L) e (round_rnd f false n (subst (λ (z : ℕ). z < overflow f) (sym e) (lt_of_le_of_lt le (pow-lt room)))))
  where
    add-le : (R P : ℕ) → R ≤ P → R + P ≤ 2 * P
    add-le R P l = omega arith

pub taken : (f : Format) (h : ℕ) (y : Float) (R : ℕ) → prec f ≡ suc (suc h) → prec f + low f < low f + suc (emax f) → R ≤ 2 ^ suc h
    → HasValue y false ((R + 2 ^ suc h) * 2 ^ low f) (2 ^ low f) → HasValue (sub f y (two (suc h))) false (R * 2 ^ low f) (2 ^ low f)
taken f h y R ph room l v =
    let L = 2 ^ low f in
    let P = 2 ^ suc h in
    let c : HasValue (two (suc h)) false (P * L) L = (refl, ap (λ (z : ℕ). z * L) (one-mul P) ∙ sym (mul-one (P * L))) in
    let few : R < 2 ^ prec f = lt_of_le_of_lt l (subst (λ (z : ℕ). P < 2 ^ z) (sym ph) (pow-lt (lt-suc_self (suc h)))) in
    subst (λ (z : Float). HasValue z false (R * L) L) (sym (minus-above f y (two (suc h)) ((R + P) * L) (P * L) v c (ge R P L) ∙ ap (λ (z : ℕ). round f false z L) (off R P L)))
    (exact_round f false (R * L) R (low f) refl few (lt_of_lt_of_le (shl_lt (prec f) (low f) few) (pow_mono (le_of_lt room))))
  where
    ge : (R P L : ℕ) → P * L ≤ (R + P) * L
    ge R P L = omega arith

    off : (R P L : ℕ) → (R + P) * L - P * L ≡ R * L
    off R P L = omega arith

-- 0.5, where L is 2 * H
abbrev pub half : Float
half = fin false 1 (negsuc 0)

and-true : (b c : Bool) → (b && (true || c)) ≡ b
and-true true c = refl
and-true false c = refl

never : (a H : ℕ) → 0 < H → (a == H && (false || a == 0)) ≡ false
never a H P = go (a == H) (a == 0) (eqb→eq a H) (eqb→eq a 0)
  where
    go : (x y : Bool) → (T x → a ≡ H) → (T y → a ≡ 0) → (x && (false || y)) ≡ false
    go true true p q = let e = p tt in let g = q tt in absurd (let z : ⊥ = omega arith in z)
    go true false p q = refl
    go false y p q = refl

-- the test of the code: x - r is 0.5 exactly where x is a tie that went down
pub tie : (f : Format) (l : ℕ) (d : Float) (A n : ℕ) → low f ≡ suc l → Apart f d A n → eq d half ≡ (A * 2 == n * 2 + 2 ^ low f)
tie f l d A n e p = go (nat_le n A) (leb→le n A) (nleb→lt n A)
  where
    H : ℕ
    H = 2 ^ l

    hl : 2 ^ low f ≡ 2 * H
    hl = ap (λ (z : ℕ). 2 ^ z) e ∙ pow-succ' 2 l

    hp : 0 < H
    hp = pow_pos l

    hv : HasValue half false H (2 ^ low f)
    hv = (refl, one-mul (2 ^ low f) ∙ hl ∙ mul_comm 2 H)

    same : (A n H L : ℕ) → n ≤ A → L ≡ 2 * H → (A - n == H) ≡ (A * 2 == n * 2 + L)
    same A n H L g k = bool_iff (A - n == H) (A * 2 == n * 2 + L) (λ t. let w = eqb→eq (A - n) H t in eq→eqb (let z : A * 2 ≡ n * 2 + L = omega arith in z)) (λ t. let w = eqb→eq (A * 2) (n * 2 + L) t in eq→eqb (let z : A - n ≡ H = omega arith in z))

    other : (A n L : ℕ) → A < n → false ≡ (A * 2 == n * 2 + L)
    other A n L g = bool_iff false (A * 2 == n * 2 + L) (λ t. absurd t) (λ t. let w = eqb→eq (A * 2) (n * 2 + L) t in let z : ⊥ = omega arith in z)

    go : (c : Bool) → (T c → n ≤ A) → (T (not c) → A < n) → eq d half ≡ (A * 2 == n * 2 + 2 ^ low f)
    go true g k = eq-units f d half false false (A - n) H (p.above (g tt)) hv ∙ and-true (A - n == H) (A - n == 0) ∙ same A n H (2 ^ low f) (g tt) hl
    go false g k = eq-units f d half true false (n - A) H (p.below (k tt)) hv ∙ never (n - A) H hp ∙ other A n (2 ^ low f) (k tt)

-- ---- the code's result for 0 ≤ x < 2 ^ (prec - 1)
module _ (f : Format) (h l : ℕ) (ph : prec f ≡ suc (suc h)) (pl : low f ≡ suc l) (room : prec f + low f < low f + suc (emax f)) (x : Float) (a : T (fits f x)) (b : T (finite x)) (sg : sign x ≡ false) (small : mag f x < 2 ^ suc h * 2 ^ low f) where
  r_value : HasValue (sub f (add f x (two (suc h))) (two (suc h))) false (closest (mag f x) (2 ^ low f) * 2 ^ low f) (2 ^ low f)
  r_value =
      let A = mag f x in
      taken f h (add f x (two (suc h))) (closest A (2 ^ low f)) ph room (closest_le A (2 ^ low f) (2 ^ suc h) (pow_pos (low f)) small)
      (added f h x A ph room (subst (λ (s : Bool). HasValue x s A (2 ^ low f)) sg (own f x a b)) small)

  whole_below : (R : ℕ) → R ≤ suc (2 ^ suc h) → (R < 2 ^ prec f) × (R * 2 ^ low f < overflow f)
  whole_below R k =
      let e : 2 ^ prec f ≡ 2 * (2 * 2 ^ h) = ap (λ (z : ℕ). 2 ^ z) ph ∙ pow-succ' 2 (suc h) ∙ ap (λ (z : ℕ). 2 * z) (pow-succ' 2 h) in
      let few : R < 2 ^ prec f = two_more R (2 ^ h) (2 ^ suc h) (2 ^ prec f) (pow_pos h) (pow-succ' 2 h) e k in
      (few, lt_of_lt_of_le (shl_lt (prec f) (low f) few) (pow_mono (le_of_lt room)))
    where
      two_more : (R q P B : ℕ) → 0 < q → P ≡ 2 * q → B ≡ 2 * (2 * q) → R ≤ suc P → R < B
      two_more R q P B g e e' k = omega arith

  r_apart : Apart f (sub f x (sub f (add f x (two (suc h))) (two (suc h)))) (mag f x) (closest (mag f x) (2 ^ low f) * 2 ^ low f)
  r_apart =
      let A = mag f x in
      let L = 2 ^ low f in
      let R = closest A L in
      let n = closest_near A L (pow_pos (low f)) in
      let le : R ≤ 2 ^ suc h = closest_le A L (2 ^ suc h) (pow_pos (low f)) small in
      apart f x (sub f (add f x (two (suc h))) (two (suc h))) R a b sg r_value n.0 n.1
      (lt_of_lt_of_le small (le_of_lt (whole_below (2 ^ suc h) (le-suc (2 ^ suc h))).1)) (whole_below R (le_step le)).1

  is_away : (z : Float) (N : ℕ) → T (fits f z) → HasValue z false (N * 2 ^ low f) (2 ^ low f) → up_half (2 ^ low f) (mag f x) ≡ N → z ≡ away f x
  is_away z N c v e =
      unique f z (away f x) c (away-fits f x a) (finite_of z false (N * 2 ^ low f) (2 ^ low f) v) (away-finite f x a b)
      (sign_of z false (N * 2 ^ low f) (2 ^ low f) v ∙ sym (away-sign f x a b ∙ sg))
      (mag_of f z false (N * 2 ^ low f) v ∙ sym (away-mag f x a b ∙ ap (λ (k : ℕ). k * 2 ^ low f) e))

  pub kept_nearest : eq (sub f x (sub f (add f x (two (suc h))) (two (suc h)))) half ≡ false → sub f (add f x (two (suc h))) (two (suc h)) ≡ away f x
  kept_nearest t =
      let A = mag f x in
      let L = 2 ^ low f in
      let R = closest A L in
      let n = closest_near A L (pow_pos (low f)) in
      is_away (sub f (add f x (two (suc h))) (two (suc h))) R (sub-fits f (add f x (two (suc h))) (two (suc h))) r_value
      (up_half_is L A R n.0 (lt_of_le-ne n.1 (λ (e : A * 2 ≡ R * L * 2 + L). true≢false (sym (is_true (A * 2 == R * L * 2 + L) (eq→eqb e)) ∙ sym (tie f l (sub f x (sub f (add f x (two (suc h))) (two (suc h)))) A (R * L) pl r_apart) ∙ t))))

  pub one_more : eq (sub f x (sub f (add f x (two (suc h))) (two (suc h)))) half ≡ true → add f (sub f (add f x (two (suc h))) (two (suc h))) (two 0) ≡ away f x
  one_more t =
      let A = mag f x in
      let L = 2 ^ low f in
      let R = closest A L in
      let r = sub f (add f x (two (suc h))) (two (suc h)) in
      let e : A * 2 ≡ R * L * 2 + L = eqb→eq (A * 2) (R * L * 2 + L) (subst T (sym t ∙ tie f l (sub f x r) A (R * L) pl r_apart) tt) in
      let le : R ≤ 2 ^ suc h = closest_le A L (2 ^ suc h) (pow_pos (low f)) small in
      let w = whole_below (suc R) (suc-le-suc le) in
      let one : HasValue (two 0) false L L = (refl, ap (λ (z : ℕ). z * L) (one-mul 1) ∙ mul_comm 1 L) in
      let v : HasValue (add f r (two 0)) false (suc R * L) L =
      subst (λ (z : Float). HasValue z false (suc R * L) L) (sym (plus f r (two 0) (R * L) L r_value one ∙ ap (λ (z : ℕ). round f false z L) (sym (suc-mul R L))))
      (exact_round f false (suc R * L) (suc R) (low f) refl w.0 w.1) in
      is_away (add f r (two 0)) (suc R) (add-fits f r (two 0)) v (up_half_is L A (suc R) (lo A R L e) (hi A R L (pow_pos (low f)) e))
    where
      lo : (A R L : ℕ) → A * 2 ≡ R * L * 2 + L → suc R * L * 2 ≤ A * 2 + L
      lo A R L e = omega arith

      hi : (A R L : ℕ) → 0 < L → A * 2 ≡ R * L * 2 + L → A * 2 < suc R * L * 2 + L
      hi A R L p e = omega arith

-- ---- the tests around it
two_value : (f : Format) (t : ℕ) → HasValue (two t) false (2 ^ t * 2 ^ low f) (2 ^ low f)
two_value f t = (refl, ap (λ (z : ℕ). z * 2 ^ low f) (one-mul (2 ^ t)) ∙ sym (mul-one (2 ^ t * 2 ^ low f)))

-- below 2 ^ t: finite, and below it in units
pub under_two : (f : Format) (t : ℕ) (x : Float) → T (fits f x) → sign x ≡ false → lt x (two t) ≡ true → T (finite x) × (mag f x < 2 ^ t * 2 ^ low f)
unfolding lt
under_two f t nan a s h = absurd (true≢false (sym h))
under_two f t (inf true) a s h = absurd (true≢false s)
under_two f t (inf false) a s h = absurd (true≢false (sym h))
under_two f t (fin true m e) a s h = absurd (true≢false s)
under_two f t (fin false m e) a s h =
    let x = fin false m e in
    (tt, ltb→lt (mag f x) (2 ^ t * 2 ^ low f) (subst T (sym h ∙ lt-units f x (two t) false false (mag f x) (2 ^ t * 2 ^ low f) (own f x a tt) (two_value f t)) tt))

-- from 2 ^ (prec - 1) on every value is whole
pub above_two : (f : Format) (h : ℕ) (x : Float) → prec f ≡ suc (suc h) → T (fits f x) → sign x ≡ false → lt x (two (suc h)) ≡ false → x ≡ away f x
unfolding away
above_two f h nan ph a s t = refl
above_two f h (inf u) ph a s t = refl
above_two f h (fin u m (pos k)) ph a s t = refl
above_two f h (fin true m (negsuc k)) ph a s t = absurd (true≢false s)
above_two f h (fin false m (negsuc k)) ph a s t =
    let x = fin false m (negsuc k) in
    let A = mag f x in
    let L = 2 ^ low f in
    let P = 2 ^ suc h in
    let p = 2 ^ suc k in
    let e : m * L ≡ A * p = ap (λ (z : ℕ). z * L) (sym (mul-one m)) ∙ (own f x a tt).1 in
    let m-lt : m * L < 2 ^ prec f * L = mul-lt-mul_of_pos_right (shape f false m (negsuc k) a).few (pow_pos (low f)) in
    let B-is : 2 ^ prec f * L ≡ 2 * (P * L) = ap (λ (z : ℕ). z * L) (ap (λ (z : ℕ). 2 ^ z) ph ∙ pow-succ' 2 (suc h)) ∙ mul_assoc 2 P L in
    let A-le : A * 2 ≤ A * p = mul-le-mul_left A (pow_mono (suc-le-suc (zero-le {n = k}))) in
    let bad : A < P * L = go A (P * L) (m * L) (2 ^ prec f * L) (A * p) e m-lt B-is A-le in
    absurd (true≢false (sym (is_true (nat_lt A (P * L)) (lt→ltb A (P * L) bad)) ∙ sym (lt-units f x (two (suc h)) false false A (P * L) (own f x a tt) (two_value f (suc h))) ∙ t))
  where
    go : (A p m B q : ℕ) → m ≡ q → m < B → B ≡ 2 * p → A * 2 ≤ q → A < p
    go A p m B q e g i k = omega arith
