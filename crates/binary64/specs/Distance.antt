-- Laws: how far a rounded sum or difference lies from the exact one.
use Rattle.std.specs.Prelude.{◌≡◌, ℕ, zero, suc, ◌+◌, ◌-◌, ◌*◌, ◌/◌, ◌%◌, ◌^◌, ◌<◌, ◌≤◌, Bool, true, false, cond, not, T, ◌==◌, Float}
use Rattle.std.proofs.Common.{sym, ap, ap₂, ◌∙◌, subst, le_trans, le_of_eq, lt_of_lt_of_le, mul_assoc, mul-pos, mul-div_cancel, div-add-mod', mod-lt, add-suc, zero-lt-suc, arith, leb→le, eqb→eq, lit≤, pow_pos, pow_mono}
use Prim.Native.Nat.{compare, Ordering}
use Rattle.std.proofs.Math.Nat.{pow-succ'}
use Rattle.std.proofs.Math.Dec.{is_le, compare_is_eq, nleb→lt, eqb_refl}
use Rattle.std.proofs.Math.Arith.{lt_of_le-ne}
use Rattle.std.specs.Float.{Format, binary64}
use Rattle.std.specs.Float.Ieee.{prec, emax, low, size, units, nearest, round, sub, fits}
use Rattle.std.specs.Float.Ieee.Digits.{size-le}
use Rattle.std.specs.Float.Ieee.Fits.{core, round_is}
use Rattle.std.specs.Float.Ieee.Exact.{HasValue, units_val}
use Rattle.std.specs.Float.Ieee.Nearest.{closest, closest_same}
use Rattle.std.specs.Float.Ieee.Scale.{finite, overflow}
use Rattle.binary64.specs.Value.{sign, mag, pl, mi, dist, Rounded, Within}
use Rattle.binary64.specs.Units.{mag_of, sign_of, finite_of}
use Rattle.binary64.specs.Sums.{amount_is, sub-rounded}

-- ---- how far `round` goes

abbrev pub Cmp : Ordering → ℕ → ℕ → Type 0
Cmp Ordering.lt a b = a < b
Cmp Ordering.eq a b = a ≡ b
Cmp Ordering.gt a b = b < a

pub cmp : (a b : ℕ) → Cmp (compare a b) a b
cmp a b = go (compare a b) (leb→le a b) (nleb→lt a b) (eqb→eq a b) (λ (e : a ≡ b). subst (λ (x : ℕ). T (a == x)) e (eqb_refl a))
  where
    go : (o : Ordering) → (T (is_le o) → a ≤ b) → (T (not (is_le o)) → b < a) → (T (compare_is_eq o) → a ≡ b) → (a ≡ b → T (compare_is_eq o)) → Cmp o a b
    go Ordering.lt h k e n = lt_of_le-ne (h tt) n
    go Ordering.eq h k e n = e tt
    go Ordering.gt h k e n = k tt

nearest_near : (q r u : ℕ) (o : Ordering) → Cmp o (r * 2) u → r < u → (nearest q o * u * 2 ≤ (q * u + r) * 2 + u) × ((q * u + r) * 2 ≤ nearest q o * u * 2 + u)
nearest_near q r u Ordering.lt c h = (omega arith, omega arith)
nearest_near q r u Ordering.eq c h = go (q % 2) (mod-lt q (zero-lt-suc 1))
  where
    go : (t : ℕ) → t < 2 → ((q + t) * u * 2 ≤ (q * u + r) * 2 + u) × ((q * u + r) * 2 ≤ (q + t) * u * 2 + u)
    go zero l = (omega arith, omega arith)
    go (suc zero) l = (omega arith, omega arith)
    go (suc (suc t)) l = absurd (let z : ⊥ = omega arith in z)
nearest_near q r u Ordering.gt c h = (omega arith, omega arith)

pub closest_near : (a u : ℕ) → 0 < u → (closest a u * u * 2 ≤ a * 2 + u) × (a * 2 ≤ closest a u * u * 2 + u)
closest_near a u U =
    let h = nearest_near (a / u) (a % u) u (compare (a % u * 2) u) (cmp (a % u * 2) u) (mod-lt a U) in
    let e : a / u * u + a % u ≡ a = div-add-mod' a u in
    (subst (λ (k : ℕ). closest a u * u * 2 ≤ k * 2 + u) e h.0, subst (λ (k : ℕ). k * 2 ≤ closest a u * u * 2 + u) e h.1)

-- how many digits of a units `round` drops, and what it makes of them
abbrev pub gap : Format → ℕ → ℕ
gap f a = size a - prec f

abbrev pub rnd : Format → ℕ → ℕ
rnd f a = closest a (2 ^ gap f a) * 2 ^ gap f a

pub round_units : (f : Format) (s : Bool) (a : ℕ) → round f s a (2 ^ low f) ≡ units f s (closest a (2 ^ gap f a)) (gap f a)
round_units f s a =
    let L = 2 ^ low f in
    let k = gap f a in
    round_is f s a L
    ∙ ap (λ (z : ℕ). core f s (a * L) L (size z - prec f)) (mul-div_cancel a (pow_pos (low f)))
    ∙ ap (λ (z : ℕ). units f s z k) (closest_same (a * L) (L * 2 ^ k) a (2 ^ k) (mul-pos (pow_pos (low f)) (pow_pos k)) (pow_pos k) (mul_assoc a L (2 ^ k)))

pub round_rnd : (f : Format) (s : Bool) (a : ℕ) → rnd f a < overflow f → HasValue (round f s a (2 ^ low f)) s (rnd f a) (2 ^ low f)
round_rnd f s a h = subst (λ (x : Float). HasValue x s (rnd f a) (2 ^ low f)) (sym (round_units f s a)) (units_val f s (closest a (2 ^ gap f a)) (gap f a) h)

spare : (z p l : ℕ) → z ≤ p + l → z - p ≤ l
spare z p l h = omega arith

widen : (x a u w : ℕ) → (x * 2 ≤ a * 2 + u) × (a * 2 ≤ x * 2 + u) → u ≤ w → (x * 2 ≤ a * 2 + w) × (a * 2 ≤ x * 2 + w)
widen x a u w h l = (omega (arith, h.0), omega (arith, h.1))

pub rnd_near : (f : Format) (a j : ℕ) → a < 2 ^ (prec f + j) → (rnd f a * 2 ≤ a * 2 + 2 ^ j) × (a * 2 ≤ rnd f a * 2 + 2 ^ j)
rnd_near f a j h =
    let k = gap f a in
    let l : k ≤ j = spare (size a) (prec f) j (size-le a (prec f + j) h) in
    widen (rnd f a) a (2 ^ k) (2 ^ j) (closest_near a (2 ^ k) (pow_pos k)) (pow_mono l)

value-within : (f : Format) (z : Float) (s : Bool) (n a P M B : ℕ) → HasValue z s n (2 ^ low f) → n ≤ a + B → a ≤ n + B → cond s 0 a + M ≡ cond s a 0 + P → Within f z P M B
value-within f z s n a P M B v h k e = record {
  fine = finite_of z s n (2 ^ low f) v;
  over = le_trans (le_of_eq (ap₂ (λ (t : Bool) (i : ℕ). cond t 0 i + M) es em)) (le_trans (hi s e) (le_of_eq (sym (ap₂ (λ (t : Bool) (i : ℕ). cond t i 0 + P + B) es em))));
  under = le_trans (le_of_eq (ap₂ (λ (t : Bool) (i : ℕ). cond t i 0 + P) es em)) (le_trans (lo s e) (le_of_eq (sym (ap₂ (λ (t : Bool) (i : ℕ). cond t 0 i + M + B) es em))));
}
  where
    es : sign z ≡ s
    es = sign_of z s n (2 ^ low f) v

    em : mag f z ≡ n
    em = mag_of f z s n v

    hi : (t : Bool) → cond t 0 a + M ≡ cond t a 0 + P → cond t 0 n + M ≤ cond t n 0 + P + B
    hi true g = omega arith
    hi false g = omega arith

    lo : (t : Bool) → cond t 0 a + M ≡ cond t a 0 + P → cond t n 0 + P ≤ cond t 0 n + M + B
    lo true g = omega arith
    lo false g = omega arith

-- a sum below 2 ^ (prec + 1 + i) units is off by 2 ^ i units at most
pub within : {f : Format} {z : Float} {P M : ℕ} → Rounded f z P M → (i : ℕ) → dist P M < 2 ^ (prec f + suc i) → prec f + suc (suc i) ≤ low f + suc (emax f) → Within f z P M (2 ^ i)
within {f} {z} {P} {M} r i h o =
    let n = r.amount in
    let a : n ≡ dist P M = amount_is r.sgn n P M r.balance in
    let w = rnd_near f n (suc i) (subst (λ (k : ℕ). k < 2 ^ (prec f + suc i)) (sym a) h) in
    let d : 2 ^ suc i ≡ 2 * 2 ^ i = pow-succ' 2 i in
    let hi : rnd f n ≤ n + 2 ^ i = halve (rnd f n) n (2 ^ suc i) (2 ^ i) d w.0 in
    let lo : n ≤ rnd f n + 2 ^ i = halve n (rnd f n) (2 ^ suc i) (2 ^ i) d w.1 in
    let b1 : n < 2 ^ (prec f + suc i) = subst (λ (k : ℕ). k < 2 ^ (prec f + suc i)) (sym a) h in
    let b2 : 2 ^ i ≤ 2 ^ (prec f + suc i) = pow_mono (reach (prec f) i) in
    let b3 : 2 ^ (prec f + suc (suc i)) ≡ 2 * 2 ^ (prec f + suc i) = ap (λ (k : ℕ). 2 ^ k) (add-suc (prec f) (suc i)) ∙ pow-succ' 2 (prec f + suc i) in
    let b4 : rnd f n < 2 ^ (prec f + suc (suc i)) = top (rnd f n) n (2 ^ i) (2 ^ (prec f + suc i)) (2 ^ (prec f + suc (suc i))) hi b1 b2 b3 in
    value-within f z r.sgn (rnd f n) n P M (2 ^ i) (subst (λ (x : Float). HasValue x r.sgn (rnd f n) (2 ^ low f)) (sym r.is) (round_rnd f r.sgn n (lt_of_lt_of_le b4 (pow_mono o)))) hi lo r.balance
  where
    halve : (x y u v : ℕ) → u ≡ 2 * v → x * 2 ≤ y * 2 + u → x ≤ y + v
    halve x y u v e l = omega arith

    reach : (p k : ℕ) → k ≤ p + suc k
    reach p k = omega arith

    top : (x y b t w : ℕ) → x ≤ y + b → y < t → b ≤ t → w ≡ 2 * t → x < w
    top x y b t w h k l e = omega arith

-- for an `f64`: where x - y is below 2 ^ 16, 2 ^ 1090 units, the float x - y is off by 2 ^ -38 at most, 2 ^ 1036 units
pub sub_near : (x y : Float) → T (fits binary64 x) → T (finite x) → T (fits binary64 y) → T (finite y)
    → dist (pl binary64 x + mi binary64 y) (mi binary64 x + pl binary64 y) < 2 ^ 1090
    → Within binary64 (sub binary64 x y) (pl binary64 x + mi binary64 y) (mi binary64 x + pl binary64 y) (2 ^ 1036)
sub_near x y a b c d h = within (sub-rounded binary64 x y a b c d) 1036 h (lit≤ tt)
