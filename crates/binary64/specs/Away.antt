-- Laws: `away` in units, and how far it lies from its argument: half of one at the most.
use Rattle.std.specs.Prelude.{◌≡◌, ℕ, suc, ◌+◌, ◌*◌, ◌/◌, ◌^◌, ◌<◌, ◌≤◌, Bool, T, pos, negsuc, refl, Float}
use Rattle.std.proofs.Common.{sym, ap, ◌∙◌, subst, zero-lt-suc, mul-one, mul_right_comm, mul-pos, le-mul_of_pos_right, div-lt_iff_lt-mul, div-mul-le_self, arith, pow_pos}
use Rattle.std.proofs.Math.Nat.{div-eq_of_lt-le, lt-div-mul-add, pow-succ'}
use Rattle.std.specs.Float.{nan, inf, fin, Format}
use Rattle.std.specs.Float.Ieee.{prec, low, up, down, round, fits}
use Rattle.std.specs.Float.Ieee.Fits.{round-fits}
use Rattle.std.specs.Float.Ieee.Exact.{HasValue}
use Rattle.std.specs.Float.Ieee.Back.{round_whole}
use Rattle.std.specs.Float.Ieee.Nearest.{div_same}
use Rattle.std.specs.Float.Ieee.Scale.{finite}
use Rattle.binary64.specs.Value.{sign, mag, dist}
use Rattle.binary64.specs.Units.{own, shape, mag_of, sign_of, finite_of}
use Rattle.binary64.specs.Rounding.{away}

-- ---- the same on units: A / L to the nearest whole number, a tie up
abbrev pub up_half : ℕ → ℕ → ℕ
up_half L A = (2 * A + L) / (2 * L)

pub up_half_lo : (L A : ℕ) → 0 < L → up_half L A * L * 2 ≤ A * 2 + L
up_half_lo L A P = let N = up_half L A in let h : N * (2 * L) ≤ 2 * A + L = div-mul-le_self (2 * A + L) (2 * L) in tidy N L A h
  where
    tidy : (N L A : ℕ) → N * (2 * L) ≤ 2 * A + L → N * L * 2 ≤ A * 2 + L
    tidy N L A h = omega arith

pub up_half_hi : (L A : ℕ) → 0 < L → A * 2 < up_half L A * L * 2 + L
up_half_hi L A P = tidy (up_half L A) L A (lt-div-mul-add (mul-pos (zero-lt-suc 1) P))
  where
    tidy : (N L A : ℕ) → 2 * A + L < N * (2 * L) + 2 * L → A * 2 < N * L * 2 + L
    tidy N L A h = omega arith

-- the one N with N - 1/2 ≤ A / L < N + 1/2
pub up_half_is : (L A N : ℕ) → N * L * 2 ≤ A * 2 + L → A * 2 < N * L * 2 + L → up_half L A ≡ N
up_half_is L A N h k = div-eq_of_lt-le (2 * L) (omega arith) (omega arith)

-- ---- what `away` is in units
pub in_units : (x : Float) (s : Bool) (n L : ℕ) → HasValue x s n 1 → HasValue x s (n * L) L
in_units nan s n L h = absurd h
in_units (inf t) s n L h = absurd h
in_units (fin t m e) s n L h = (h.0, ap (λ (k : ℕ). k * L) (sym (mul-one (m * up e)) ∙ h.1) ∙ mul_right_comm n (down e) L)

same_cut : (m p A L p2 : ℕ) → m * 1 * L ≡ A * p → p2 ≡ 2 * p → (2 * m + p) * (2 * L) ≡ (2 * A + L) * p2
same_cut m p A L p2 h e = go m p A L (ap (λ (k : ℕ). k * L) (sym (mul-one m)) ∙ h) ∙ ap (λ (k : ℕ). (2 * A + L) * k) (sym e)
  where
    go : (m p A L : ℕ) → m * L ≡ A * p → (2 * m + p) * (2 * L) ≡ (2 * A + L) * (2 * p)
    go m p A L h = omega arith

small_cut : (m p p2 B : ℕ) → 0 < p → p2 ≡ 2 * p → m < B → (2 * m + p) / p2 ≤ B
small_cut m p p2 B P e h =
    let k : (2 * m + p) / p2 < suc (suc m) = (div-lt_iff_lt-mul (subst (λ (z : ℕ). 0 < z) (sym e) (mul-pos (zero-lt-suc 1) P))).1 (subst (λ (z : ℕ). 2 * m + p < suc (suc m) * z) (sym e) (go (le-mul_of_pos_right m P))) in
    omega arith
  where
    go : m ≤ m * p → 2 * m + p < suc (suc m) * (2 * p)
    go l = omega arith

pub away-value : (f : Format) (x : Float) → T (fits f x) → T (finite x) → HasValue (away f x) (sign x) (up_half (2 ^ low f) (mag f x) * 2 ^ low f) (2 ^ low f)
unfolding away
away-value f nan a b = absurd b
away-value f (inf s) a b = absurd b
away-value f (fin s m (pos k)) a b =
    let L = 2 ^ low f in
    let B = m * 2 ^ k in
    let v = own f (fin s m (pos k)) a b in
    let e : mag f (fin s m (pos k)) ≡ B * L = sym (mul-one (mag f (fin s m (pos k)))) ∙ sym v.1 in
    (refl, sym e ∙ sym (ap (λ (z : ℕ). z * L) (ap (λ (z : ℕ). up_half L z) e ∙ up_half_is L (B * L) B (lo B L) (hi B L (pow_pos (low f)))) ∙ sym e) ∙ sym (mul-one (up_half L (mag f (fin s m (pos k))) * L)))
  where
    lo : (B L : ℕ) → B * L * 2 ≤ B * L * 2 + L
    lo B L = omega arith

    hi : (B L : ℕ) → 0 < L → B * L * 2 < B * L * 2 + L
    hi B L h = omega arith
away-value f (fin s m (negsuc k)) a b =
    let L = 2 ^ low f in
    let A = mag f (fin s m (negsuc k)) in
    let p = 2 ^ suc k in
    let p2 = 2 ^ suc (suc k) in
    let N = (2 * m + p) / p2 in
    let e : N ≡ up_half L A = div_same (2 * m + p) p2 (2 * A + L) (2 * L) (pow_pos (suc (suc k))) (mul-pos (zero-lt-suc 1) (pow_pos (low f))) (same_cut m p A L p2 (own f (fin s m (negsuc k)) a b).1 (pow-succ' 2 (suc k))) in
    subst (λ (n : ℕ). HasValue (round f s N 1) s (n * L) L) e
    (in_units (round f s N 1) s N L (round_whole f s N (small_cut m p p2 (2 ^ prec f) (pow_pos (suc k)) (pow-succ' 2 (suc k)) (shape f s m (negsuc k) a).few)))

pub away-fits : (f : Format) (x : Float) → T (fits f x) → T (fits f (away f x))
unfolding away
away-fits f nan a = a
away-fits f (inf s) a = a
away-fits f (fin s m (pos k)) a = a
away-fits f (fin s m (negsuc k)) a = round-fits f s ((2 * m + 2 ^ suc k) / 2 ^ suc (suc k)) 1

pub away-finite : (f : Format) (x : Float) → T (fits f x) → T (finite x) → T (finite (away f x))
away-finite f x a b = finite_of (away f x) (sign x) (up_half (2 ^ low f) (mag f x) * 2 ^ low f) (2 ^ low f) (away-value f x a b)

pub away-sign : (f : Format) (x : Float) → T (fits f x) → T (finite x) → sign (away f x) ≡ sign x
away-sign f x a b = sign_of (away f x) (sign x) (up_half (2 ^ low f) (mag f x) * 2 ^ low f) (2 ^ low f) (away-value f x a b)

pub away-mag : (f : Format) (x : Float) → T (fits f x) → T (finite x) → mag f (away f x) ≡ up_half (2 ^ low f) (mag f x) * 2 ^ low f
away-mag f x a b = mag_of f (away f x) (sign x) (up_half (2 ^ low f) (mag f x) * 2 ^ low f) (away-value f x a b)

-- ---- `away f x` is within a half of x, which is 2 ^ low / 2 units, and has x's sign
pub away_near : (f : Format) (x : Float) → T (fits f x) → T (finite x) → dist (mag f (away f x)) (mag f x) * 2 ≤ 2 ^ low f
away_near f x a b =
    let L = 2 ^ low f in
    let A = mag f x in
    subst (λ (n : ℕ). dist n A * 2 ≤ L) (sym (away-mag f x a b)) (go (up_half L A * L) A L (up_half_lo L A (pow_pos (low f))) (up_half_hi L A (pow_pos (low f))))
  where
    go : (n A L : ℕ) → n * 2 ≤ A * 2 + L → A * 2 < n * 2 + L → dist n A * 2 ≤ L
    go n A L h k = omega arith
