-- Laws: a rounded sum or difference of multiples of 2 ^ g units is such a multiple, however large. So whole doubles add up to whole doubles.
use Rattle.std.specs.Prelude.{◌≡◌, ℕ, suc, ◌-◌, ◌*◌, ◌^◌, ◌<◌, ◌≤◌, Bool, true, false, cond, not, T, nat_le, nat_lt, refl, Float}
use Rattle.std.proofs.Common.{sym, ap, ap₂, ◌∙◌, subst, le_of_lt, mul_assoc, mul-div_cancel, sub-add_cancel, arith, leb→le, ltb→lt, pow-add, pow_pos}
use Prim.Native.Nat.{compare, Ordering}
use Rattle.std.proofs.Math.Nat.{mul-mod_left}
use Rattle.std.proofs.Math.Dec.{nleb→lt}
use Rattle.std.specs.Float.{inf, Format}
use Rattle.std.specs.Float.Ieee.{prec, low, units, odd, nearest, round, add, sub, fits}
use Rattle.std.specs.Float.Ieee.Nearest.{closest}
use Rattle.std.specs.Float.Ieee.Scale.{finite, overflow}
use Rattle.binary64.specs.Value.{mag, dist, Multiple, Whole, Rounded}
use Rattle.binary64.specs.Units.{mag_of}
use Rattle.binary64.specs.Sums.{amount_is, add-rounded, sub-rounded, add-dist, sub-dist}
use Rattle.binary64.specs.Distance.{Cmp, cmp, gap, rnd, round_units, round_rnd}

-- ---- a multiple of u is closest to itself
closest_multiple : (c u : ℕ) → 0 < u → closest (c * u) u ≡ c
closest_multiple c u P =
    ap₂ (λ (q r : ℕ). nearest q (compare (r * 2) u)) (mul-div_cancel c P) (mul-mod_left c u)
    ∙ go (compare (0 * 2) u) (cmp (0 * 2) u)
  where
    go : (o : Ordering) → Cmp o (0 * 2) u → nearest c o ≡ c
    go Ordering.lt h = refl
    go Ordering.eq h = absurd (let z : ⊥ = omega arith in z)
    go Ordering.gt h = absurd (let z : ⊥ = omega arith in z)

split_pow : (i j : ℕ) → i ≤ j → 2 ^ j ≡ 2 ^ (j - i) * 2 ^ i
split_pow i j h = ap (λ (z : ℕ). 2 ^ z) (sym (sub-add_cancel h)) ∙ pow-add 2 (j - i) i

-- ---- rounding keeps a multiple of 2 ^ g units one: it drops no digit of it, or leaves a multiple of more
pub rnd_multiple : (f : Format) (n g k : ℕ) → n ≡ k * 2 ^ g → (i : ℕ) × (rnd f n ≡ i * 2 ^ g)
rnd_multiple f n g k e = go (nat_le (gap f n) g) (leb→le (gap f n) g) (nleb→lt (gap f n) g)
  where
    go : (b : Bool) → (T b → gap f n ≤ g) → (T (not b) → g < gap f n) → (i : ℕ) × (rnd f n ≡ i * 2 ^ g)
    go true l m =
        let j = gap f n in
        let c = k * 2 ^ (g - j) in
        let d : n ≡ c * 2 ^ j = e ∙ ap (λ (z : ℕ). k * z) (split_pow j g (l tt)) ∙ sym (mul_assoc k (2 ^ (g - j)) (2 ^ j)) in
        (k, ap (λ (z : ℕ). z * 2 ^ j) (ap (λ (z : ℕ). closest z (2 ^ j)) d ∙ closest_multiple c (2 ^ j) (pow_pos j)) ∙ sym d ∙ e)
    go false l m =
        let j = gap f n in
        let q = closest n (2 ^ j) in
        (q * 2 ^ (j - g), ap (λ (z : ℕ). q * z) (split_pow g j (le_of_lt (m tt))) ∙ sym (mul_assoc q (2 ^ (j - g)) (2 ^ g)))

-- ---- what is finite did not overflow
pub round_below : (f : Format) (s : Bool) (a : ℕ) → T (finite (round f s a (2 ^ low f))) → rnd f a < overflow f
unfolding units
round_below f s a t = go (nat_lt (rnd f a) (overflow f)) (ltb→lt (rnd f a) (overflow f)) (subst (λ (z : Float). T (finite z)) (round_units f s a) t)
  where
    go : (b : Bool) → (T b → rnd f a < overflow f) → T (finite (cond b (odd (suc (prec f)) s (closest a (2 ^ gap f a)) (gap f a) (low f)) (inf s))) → rnd f a < overflow f
    go true h u = h tt
    go false h u = absurd u

-- ---- a rounded multiple of 2 ^ g is one
pub rounded_multiple : {f : Format} {z : Float} {P M : ℕ} → Rounded f z P M → T (finite z) → (g k : ℕ) → dist P M ≡ k * 2 ^ g → Multiple f g z
unfolding Multiple
rounded_multiple {f} {z} {P} {M} r t g k e =
    let n = r.amount in
    let (i, d) = rnd_multiple f n g k (amount_is r.sgn n P M r.balance ∙ e) in
    let v = round_rnd f r.sgn n (round_below f r.sgn n (subst (λ (x : Float). T (finite x)) r.is t)) in
    (i, ap (λ (x : Float). mag f x) r.is ∙ mag_of f (round f r.sgn n (2 ^ low f)) r.sgn (rnd f n) v ∙ d)

pub add_multiple : (f : Format) (g : ℕ) (x y : Float) → T (fits f x) → T (finite x) → T (fits f y) → T (finite y) → Multiple f g x → Multiple f g y → T (finite (add f x y)) → Multiple f g (add f x y)
add_multiple f g x y a b c d p q t = let (k, e) = add-dist f g x y p q in rounded_multiple (add-rounded f x y a b c d) t g k e

pub sub_multiple : (f : Format) (g : ℕ) (x y : Float) → T (fits f x) → T (finite x) → T (fits f y) → T (finite y) → Multiple f g x → Multiple f g y → T (finite (sub f x y)) → Multiple f g (sub f x y)
sub_multiple f g x y a b c d p q t = let (k, e) = sub-dist f g x y p q in rounded_multiple (sub-rounded f x y a b c d) t g k e

-- whole doubles, as document 01's "Type 1 run" adds them
pub add-whole : (f : Format) (x y : Float) → T (fits f x) → T (finite x) → T (fits f y) → T (finite y) → Whole f x → Whole f y → T (finite (add f x y)) → Whole f (add f x y)
add-whole f x y a b c d p q t = add_multiple f (low f) x y a b c d p q t
