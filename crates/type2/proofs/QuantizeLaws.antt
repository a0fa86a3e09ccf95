-- Laws: `quantized` is the nearest multiple of 1/65536, within half of that, and leaves such a multiple as it is; one rounding gives it.
use Rattle.std.specs.Prelude.{◌≡◌, refl, Bool, true, false, cond, pos, negsuc, T, Float}
use Rattle.std.proofs.Common.{sym, ap, ap₂, ◌∙◌, subst, le_of_eq, lt_of_lt_of_le, lt_of_le_of_lt, zero-mul, add-mul, mul_assoc, mul_right_comm, mul_comm, lt_of_mul-lt-mul_right, le_of_mul-le-mul_right, le-mul_of_pos_right, mul-le-mul_right, div-le_self, ltb→lt, lit<, lit≤, pow-add, pow_pos}
use Prim.Native.Nat.{ℕ, zero, suc, ◌+◌, ◌*◌, ◌^◌, ◌≤◌, ◌<◌}
use Rattle.std.proofs.Math.Nat.{le_trans}
use native.Mathlib.Omega.{arith}
use Rattle.std.specs.Float.{nan, inf, fin, Format, binary64}
use Rattle.std.specs.Float.Ieee.{low, sub, mul, div, lt, fits}
use Rattle.std.specs.Float.Ieee.Fits.{mul-fits, sub-fits, div-fits, cond-fits}
use Rattle.std.specs.Float.Ieee.Exact.{HasValue}
use Rattle.std.specs.Float.Ieee.Scale.{finite, overflow}
use Rattle.binary64.specs.Value.{sign, mag, pl, mi, dist, Multiple}
use Rattle.binary64.specs.Rounding.{away, round_away, abs}
use Rattle.binary64.specs.Units.{shape, digits, mag_of, sign_of, finite_of}
use Rattle.binary64.specs.Sums.{dist-mul, exactly, sub-rounded, amount_is}
use Rattle.binary64.specs.Scaling.{two, unique, mul_exact, div_exact}
use Rattle.binary64.specs.Tests.{lt-units}
use Rattle.binary64.specs.Away.{up_half, up_half_lo, up_half_hi, up_half_is, away-value, away-fits, away-finite, away-sign, away-mag}
use Rattle.binary64.specs.RoundSteps.{near_digits}
use Rattle.binary64.specs.Abs.{abs-value}
use Rattle.type2.specs.Number.{nano, quantized, Nearest}
use Rattle.type2.specs.Bools.{is_lt}

abbrev F : Format
F = binary64

-- ---- x - r for a whole r next to x, of x's sign: exact
signed_dist : (s : Bool) (A n : ℕ) → dist (cond s 0 A + cond s n 0) (cond s A 0 + cond s 0 n) ≡ dist A n
signed_dist true A n = omega arith
signed_dist false A n = omega arith

pub apart_mag : (f : Format) (x r : Float) (R : ℕ) → T (fits f x) → T (finite x) → T (fits f r) → T (finite r) → sign r ≡ sign x → mag f r ≡ R * 2 ^ low f
    → R * 2 ^ low f * 2 ≤ mag f x * 2 + 2 ^ low f → mag f x * 2 ≤ R * 2 ^ low f * 2 + 2 ^ low f → 2 ^ low f < overflow f
    → T (finite (sub f x r)) × (mag f (sub f x r) ≡ dist (mag f x) (mag f r))
apart_mag f x r R a b c d sg m h k o =
    let L = 2 ^ low f in
    let A = mag f x in
    let n = R * L in
    let (q, j, few, e) = digits f x a in
    let (t, i, few', e') = near_digits f q j R few (subst (λ (z : ℕ). n * 2 ≤ z * 2 + L) e h) (subst (λ (z : ℕ). z * 2 ≤ n * 2 + L) e k) in
    let D : dist (pl f x + mi f r) (mi f x + pl f r) ≡ dist A n = ap₂ (λ (s : Bool) (z : ℕ). dist (pl f x + cond s z 0) (mi f x + cond s 0 z)) sg m ∙ signed_dist (sign x) A n in
    let E = exactly (sub-rounded f x r a b c d) t i (D ∙ ap (λ (z : ℕ). dist z n) e ∙ e') few' (lt_of_le_of_lt (le_trans (le_of_eq D) (short A n L h k)) o) in
    (E.fine, amount_is (sign (sub f x r)) (mag f (sub f x r)) (pl f x + mi f r) (mi f x + pl f r) E.balance ∙ D ∙ ap (λ (z : ℕ). dist A z) (sym m))
  where
    short : (A n L : ℕ) → n * 2 ≤ A * 2 + L → A * 2 ≤ n * 2 + L → dist A n ≤ L
    short A n L h k = omega arith

-- ---- the two arms, for any format with low = w + t: the nearest multiple of 2 ^ w units, which is 2 ^ -t
pub near : (f : Format) (w : ℕ) (v z : Float) → Nearest f w v z → dist (mag f z) (mag f v) * 2 ≤ 2 ^ w
near f w v z h = subst (λ (k : ℕ). dist k (mag f v) * 2 ≤ 2 ^ w) (sym h.size) (tidy (up_half (2 ^ w) (mag f v) * 2 ^ w) (mag f v) (2 ^ w) (up_half_lo (2 ^ w) (mag f v) (pow_pos w)) (up_half_hi (2 ^ w) (mag f v) (pow_pos w)))
  where
    tidy : (n A W : ℕ) → n * 2 ≤ A * 2 + W → A * 2 < n * 2 + W → dist n A * 2 ≤ W
    tidy n A W h k = omega arith

pub multiple : (f : Format) (w : ℕ) (v z : Float) → Nearest f w v z → Multiple f w z
unfolding Multiple
multiple f w v z h = (up_half (2 ^ w) (mag f v), h.size)

-- v is within `tiny` of a whole number, and tiny is at most half of 2 ^ w units
pub first_arm : (f : Format) (w t : ℕ) (tiny : Float) (U : ℕ) (v : Float) → low f ≡ w + t → T (fits f v) → T (finite v) → 2 ^ low f < overflow f → HasValue tiny false U (2 ^ low f) → U * 2 ≤ 2 ^ w
    → lt (abs (sub f v (away f v))) tiny ≡ true → Nearest f w v (away f v)
first_arm f w t tiny U v lw a b o u small test =
    let L = 2 ^ low f in
    let A = mag f v in
    let r = away f v in
    let N = up_half L A in
    let fr = away-fits f v a in
    let br = away-finite f v a b in
    let d = sub f v r in
    let p = apart_mag f v r N a b fr br (away-sign f v a b) (away-mag f v a b) (up_half_lo L A (pow_pos (low f))) (weak (up_half_hi L A (pow_pos (low f)))) o in
    let l : mag f d < U = ltb→lt (mag f d) U (subst T (sym test ∙ lt-units f (abs d) tiny false false (mag f d) U (abs-value f d (sub-fits f v r) p.0) u) tt) in
    let m : mag f r ≡ N * 2 ^ t * 2 ^ w = away-mag f v a b ∙ ap (λ (k : ℕ). N * k) (ap (λ (k : ℕ). 2 ^ k) lw ∙ pow-add 2 w t ∙ mul_comm (2 ^ w) (2 ^ t)) ∙ sym (mul_assoc N (2 ^ t) (2 ^ w)) in
    let e : up_half (2 ^ w) A ≡ N * 2 ^ t = up_half_is (2 ^ w) A (N * 2 ^ t) (below A (mag f r) (N * 2 ^ t * 2 ^ w) (mag f d) U (2 ^ w) m p.1 l small) (above A (mag f r) (N * 2 ^ t * 2 ^ w) (mag f d) U (2 ^ w) m p.1 l small) in
    record { fine = br; signs = away-sign f v a b; size = m ∙ ap (λ (k : ℕ). k * 2 ^ w) (sym e) }
  where
    weak : {m n : ℕ} → m < n → m ≤ n
    weak {m} {n} h = omega arith

    below : (A r n d U W : ℕ) → r ≡ n → d ≡ dist A r → d < U → U * 2 ≤ W → n * 2 ≤ A * 2 + W
    below A r n d U W q e l k = omega arith

    above : (A r n d U W : ℕ) → r ≡ n → d ≡ dist A r → d < U → U * 2 ≤ W → A * 2 < n * 2 + W
    above A r n d U W q e l k = omega arith

-- v * 2 ^ t, rounded to a whole number: as many ones as v has multiples of 2 ^ w units
pub scaled : (f : Format) (w t : ℕ) (v : Float) → low f ≡ w + t → T (fits f v) → T (finite v) → mag f v * 2 ^ t < overflow f
    → HasValue (away f (mul f v (two t))) (sign v) (up_half (2 ^ w) (mag f v) * 2 ^ low f) (2 ^ low f)
scaled f w t v lw a b o =
    let L = 2 ^ low f in
    let A = mag f v in
    let S = 2 ^ t in
    let W = 2 ^ w in
    let y = mul f v (two t) in
    let fy = mul-fits f v (two t) in
    let vy = mul_exact f v t a b o in
    let by = finite_of y (sign v) (A * S) L vy in
    let my : mag f y ≡ A * S = mag_of f y (sign v) (A * S) vy in
    let N = up_half L (mag f y) in
    let e : L ≡ W * S = ap (λ (k : ℕ). 2 ^ k) lw ∙ pow-add 2 w t in
    let en : N * L * 2 ≡ N * W * 2 * S = ap (λ (k : ℕ). N * k * 2) e ∙ ap (λ (k : ℕ). k * 2) (sym (mul_assoc N W S)) ∙ mul_right_comm (N * W) S 2 in
    let ea : mag f y * 2 ≡ A * 2 * S = ap (λ (k : ℕ). k * 2) my ∙ mul_right_comm A S 2 in
    let lo : N * W * 2 ≤ A * 2 + W = le_of_mul-le-mul_right (le_trans (le_of_eq (sym en)) (le_trans (up_half_lo L (mag f y) (pow_pos (low f))) (le_of_eq (ap₂ ◌+◌ ea e ∙ sym (add-mul (A * 2) W S))))) (pow_pos t) in
    let hi : A * 2 < N * W * 2 + W = lt_of_mul-lt-mul_right S (lt_of_le_of_lt (le_of_eq (sym ea)) (lt_of_lt_of_le (up_half_hi L (mag f y) (pow_pos (low f))) (le_of_eq (ap₂ ◌+◌ en e ∙ sym (add-mul (N * W * 2) W S))))) in
    subst (λ (n : ℕ). HasValue (away f y) (sign v) (n * L) L) (sym (up_half_is W A N lo hi)) (subst (λ (s : Bool). HasValue (away f y) s (N * L) L) (sign_of y (sign v) (A * S) L vy) (away-value f y fy by))

-- and that divided by 2 ^ t
pub second_arm : (f : Format) (w t : ℕ) (v : Float) → low f ≡ w + t → T (fits f v) → T (finite v) → mag f v * 2 ^ t + 2 ^ low f < overflow f → Nearest f w v (div f (away f (mul f v (two t))) (two t))
second_arm f w t v lw a b o =
    let L = 2 ^ low f in
    let A = mag f v in
    let W = 2 ^ w in
    let z = away f (mul f v (two t)) in
    let N = up_half W A in
    let e : L ≡ W * 2 ^ t = ap (λ (k : ℕ). 2 ^ k) lw ∙ pow-add 2 w t in
    let h = scaled f w t v lw a b (less (A * 2 ^ t) L (overflow f) o) in
    let mz : mag f z ≡ N * W * 2 ^ t = mag_of f z (sign v) (N * L) h ∙ ap (λ (k : ℕ). N * k) e ∙ sym (mul_assoc N W (2 ^ t)) in
    let l : N * W < overflow f = bound (N * W) A (A * 2 ^ t) W L (overflow f) (up_half_lo W A (pow_pos w)) (le-mul_of_pos_right A (pow_pos t)) (le_trans (le-mul_of_pos_right W (pow_pos t)) (le_of_eq (sym e))) o in
    let vz = div_exact f z (N * W) t (away-fits f (mul f v (two t)) (mul-fits f v (two t))) (finite_of z (sign v) (N * L) L h) mz l in
    let q = div f z (two t) in
    record { fine = finite_of q (sign z) (N * W) L vz; signs = sign_of q (sign z) (N * W) L vz ∙ sign_of z (sign v) (N * L) L h; size = mag_of f q (sign z) (N * W) vz }
  where
    less : (x y o : ℕ) → x + y < o → x < o
    less x y o h = omega arith

    bound : (n A B W L o : ℕ) → n * 2 ≤ A * 2 + W → A ≤ B → W ≤ L → B + L < o → n < o
    bound n A B W L o h k l g = omega arith

nano-value : HasValue nano false (4835703278458517 * 2 ^ 992) (2 ^ low F)
nano-value = (refl, refl)

grid_arm : (v : Float) → T (fits F v) → T (finite v) → mag F v ≤ 2 ^ 2080 → Nearest F 1058 v (div F (round_away (mul F v (two 16))) (two 16))
grid_arm v a b h = second_arm F 1058 16 v refl a b (room (mag F v * 2 ^ 16) (2 ^ 1074) (2 ^ 2080 * 2 ^ 16) (overflow F) (mul-le-mul_right (2 ^ 16) h) (lit< tt))
  where
    room : (x y m o : ℕ) → x ≤ m → m + y < o → x + y < o
    room x y m o g k = omega arith

bounded : (v : Float) → T (fits F v) → T (finite v) → mag F v ≤ 2 ^ 2080 → Nearest F 1058 v (quantized v)
unfolding quantized
bounded v a b h = go (lt (abs (sub F v (round_away v))) nano) refl
  where
    go : (c : Bool) → lt (abs (sub F v (round_away v))) nano ≡ c → Nearest F 1058 v (cond c (round_away v) (div F (round_away (mul F v (two 16))) (two 16)))
    go true e = first_arm F 1058 16 nano (4835703278458517 * 2 ^ 992) v refl a b (lit< tt) nano-value (lit≤ tt) e
    go false e = grid_arm v a b h

-- a whole number less itself is 0, so the first arm takes it
self_sub : (x : Float) → T (fits F x) → T (finite x) → T (finite (sub F x x)) × (mag F (sub F x x) ≡ 0)
self_sub x a b =
    let z : dist (pl F x + mi F x) (mi F x + pl F x) ≡ 0 = flat (pl F x) (mi F x) in
    let E = exactly (sub-rounded F x x a b a b) 0 0 (z ∙ sym (zero-mul 1)) (lit< tt) (le_trans (le_of_eq (ap suc z)) (lit≤ tt)) in
    (E.fine, amount_is (sign (sub F x x)) (mag F (sub F x x)) (pl F x + mi F x) (mi F x + pl F x) E.balance ∙ z)
  where
    flat : (p m : ℕ) → dist (p + m) (m + p) ≡ 0
    flat p m = omega arith

whole_test : (x : Float) → T (fits F x) → T (finite x) → lt (abs (sub F x x)) nano ≡ true
whole_test x a b =
    let w = self_sub x a b in
    let d = sub F x x in
    lt-units F (abs d) nano false false (mag F d) (4835703278458517 * 2 ^ 992) (abs-value F d (sub-fits F x x) w.0) nano-value
    ∙ is_lt (mag F d) (4835703278458517 * 2 ^ 992) (le_trans (le_of_eq (ap suc w.1)) (lit≤ tt))

whole_arm : (s : Bool) (m k : ℕ) → T (fits F (fin s m (pos k))) → quantized (fin s m (pos k)) ≡ away F (fin s m (pos k))
unfolding quantized away
whole_arm s m k a = ap (λ (c : Bool). cond c (fin s m (pos k)) (div F (round_away (mul F (fin s m (pos k)) (two 16))) (two 16))) (whole_test (fin s m (pos k)) a tt)

whole_nearest : (s : Bool) (m k : ℕ) → T (fits F (fin s m (pos k))) → Nearest F 1058 (fin s m (pos k)) (quantized (fin s m (pos k)))
whole_nearest s m k a =
    subst (Nearest F 1058 (fin s m (pos k))) (sym (whole_arm s m k a))
    (first_arm F 1058 16 nano (4835703278458517 * 2 ^ 992) (fin s m (pos k)) refl a tt (lit< tt) nano-value (lit≤ tt) (unfold away in whole_test (fin s m (pos k)) a tt))

-- ---- THE STATED DISTANCE: of every finite double, `quantized` is the nearest multiple of 1/65536, a tie away from zero
pub quantized_nearest : (v : Float) → T (fits F v) → T (finite v) → Nearest F 1058 v (quantized v)
quantized_nearest nan a b = absurd b
quantized_nearest (inf s) a b = absurd b
quantized_nearest (fin s m (pos k)) a b = whole_nearest s m k a
quantized_nearest (fin s m (negsuc k)) a b = bounded (fin s m (negsuc k)) a b (le_trans (fraction m k (shape F s m (negsuc k) a).few) (lit≤ tt))
  where
    fraction : (m k : ℕ) → m < 2 ^ 53 → mag F (fin s m (negsuc k)) ≤ 2 ^ 53 * 2 ^ 1074
    fraction m k h = unfold mag in le_trans (div-le_self (m * 1 * 2 ^ 1074) (2 ^ suc k)) (mul-le-mul_right (2 ^ 1074) (let z : m * 1 ≤ 2 ^ 53 = omega arith in z))

-- so it is within 1/131072: 2 ^ 1058 units are 1/65536
pub quantized_near : (v : Float) → T (fits F v) → T (finite v) → dist (mag F (quantized v)) (mag F v) * 2 ≤ 2 ^ 1058
quantized_near v a b = near F 1058 v (quantized v) (quantized_nearest v a b)

-- ---- the arms of `quantize`, with what its calls gave
pub quantized-first : (v r a : Float) → r ≡ round_away v → a ≡ abs (sub binary64 v r) → lt a nano ≡ true → r ≡ quantized v
unfolding quantized
quantized-first v r a p q t =
    let e : lt (abs (sub binary64 v (round_away v))) nano ≡ true = ap (λ (z : Float). lt (abs (sub binary64 v z)) nano) (sym p) ∙ ap (λ (z : Float). lt z nano) (sym q) ∙ t in
    p ∙ sym (ap (λ (c : Bool). cond c (round_away v) (div binary64 (round_away (mul binary64 v (two 16))) (two 16))) e)

pub quantized-second : (v r a y : Float) → r ≡ round_away v → a ≡ abs (sub binary64 v r) → lt a nano ≡ false → y ≡ round_away (mul binary64 v (two 16)) → div binary64 y (two 16) ≡ quantized v
unfolding quantized
quantized-second v r a y p q t h =
    let e : lt (abs (sub binary64 v (round_away v))) nano ≡ false = ap (λ (z : Float). lt (abs (sub binary64 v z)) nano) (sym p) ∙ ap (λ (z : Float). lt z nano) (sym q) ∙ t in
    ap (λ (z : Float). div binary64 z (two 16)) h ∙ sym (ap (λ (c : Bool). cond c (round_away v) (div binary64 (round_away (mul binary64 v (two 16))) (two 16))) e)

pub quantized-fits : (v : Float) → T (fits binary64 v) → T (fits binary64 (quantized v))
unfolding quantized
quantized-fits v a =
    cond-fits binary64 (lt (abs (sub binary64 v (round_away v))) nano) (round_away v) (div binary64 (round_away (mul binary64 v (two 16))) (two 16)) (away-fits binary64 v a) (div-fits binary64 (round_away (mul binary64 v (two 16))) (two 16))

-- ---- ONE ROUNDING IS ENOUGH: up to 2 ^ 1006, v * 65536 rounded gives what either arm gives, a zero's sign too
pub rounded_once : (v : Float) → T (fits F v) → T (finite v) → mag F v ≤ 2 ^ 2080 → div F (round_away (mul F v (two 16))) (two 16) ≡ quantized v
rounded_once v a b h =
    let y = round_away (mul F v (two 16)) in
    let p = grid_arm v a b h in
    let q = quantized_nearest v a b in
    unique F (div F y (two 16)) (quantized v) (div-fits F y (two 16)) (quantized-fits v a) p.fine q.fine (p.signs ∙ sym q.signs) (p.size ∙ sym q.size)

-- ---- a multiple of 1/65536 comes back as it is, so `quantized` twice is `quantized` once
same_multiple : (i k u : ℕ) → 0 < u → dist (i * u) (k * u) * 2 ≤ u → i * u ≡ k * u
same_multiple i k u U h = done (dist i k) refl (subst (λ (z : ℕ). z * 2 ≤ u) (dist-mul i k u) h)
  where
    done : (d : ℕ) → dist i k ≡ d → dist i k * u * 2 ≤ u → i * u ≡ k * u
    done zero e g = ap (λ (z : ℕ). z * u) (let z : i ≡ k = omega arith in z)
    done (suc d) e g = let l : suc d * u * 2 ≤ u = subst (λ (z : ℕ). z * u * 2 ≤ u) e g in absurd (let z : ⊥ = omega arith in z)

nearest_fixed : (f : Format) (w : ℕ) (v z : Float) → T (fits f v) → T (finite v) → T (fits f z) → Multiple f w v → Nearest f w v z → z ≡ v
unfolding Multiple
nearest_fixed f w v z a b c (k, e) h =
    let i = up_half (2 ^ w) (mag f v) in
    unique f z v c a h.fine b h.signs
    (h.size ∙ same_multiple i k (2 ^ w) (pow_pos w) (subst (λ (x : ℕ). dist (i * 2 ^ w) x * 2 ≤ 2 ^ w) e (subst (λ (x : ℕ). dist x (mag f v) * 2 ≤ 2 ^ w) h.size (near f w v z h))) ∙ sym e)

pub quantized-fixed : (v : Float) → T (fits F v) → T (finite v) → Multiple F 1058 v → quantized v ≡ v
quantized-fixed v a b m = nearest_fixed F 1058 v (quantized v) a b (quantized-fits v a) m (quantized_nearest v a b)

pub quantized_twice : (v : Float) → T (fits F v) → T (finite v) → quantized (quantized v) ≡ quantized v
quantized_twice v a b = let c = quantized_nearest v a b in quantized-fixed (quantized v) (quantized-fits v a) c.fine (multiple F 1058 v (quantized v) c)
