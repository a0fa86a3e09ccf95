-- Laws: below 2 ^ 51 the sum with 1.5 * 2 ^ 52 gives back a whole number within a half of v, and v itself only where v is whole; rounding leaves a whole number as it is.
use Rattle.std.specs.Prelude.{◌≡◌, refl, ℕ, zero, suc, ◌+◌, ◌-◌, ◌*◌, ◌^◌, ◌≤◌, ◌<◌, Bool, true, ◌||◌, cond, ℤ, pos, negsuc, Float}
use Rattle.std.proofs.Math.Path.{sym, ap₂, subst}
use Rattle.std.proofs.Common.{ap, ◌∙◌, ⊎_elim, le_trans, le_of_eq, le_of_suc-le-suc, lt_of_le_of_lt, lt_of_lt_of_le, eq-or-lt_of_le, lt_of_not-le, mul-le-mul_right, lt_of_mul-lt-mul_right, mul-lt-mul_of_pos_right, mul_assoc, true≢false, lit<, lit≤, pow-add, pow_pos, pow_mono}
use native.Mathlib.Omega.{arith}
use Rattle.std.proofs.Math.Bool.{false}
use Rattle.std.specs.Bool.{beq}
use Rattle.std.proofs.Math.Dec.{T, eqb, eqb→eq}
use Rattle.std.specs.Float.{nan, inf, fin, Format, binary64}
use Rattle.std.specs.Float.Ieee.{low, size, round, add, sub, eq, lt, fits}
use Rattle.std.specs.Float.Ieee.Digits.{size-lt}
use Rattle.std.specs.Float.Ieee.Nearest.{closest}
use Rattle.std.specs.Float.Ieee.Fits.{and_l, add-fits, sub-fits}
use Rattle.std.specs.Float.Ieee.Exact.{HasValue}
use Rattle.std.specs.Float.Ieee.Scale.{finite}
use Rattle.binary64.specs.Value.{sign, mag, pl, mi, dist, Multiple}
use Rattle.binary64.specs.Rounding.{away, round_away}
use Rattle.binary64.specs.Units.{own, mag_of, sign_of, finite_of}
use Rattle.binary64.specs.Sums.{dist-mul, add-rounded, sub-rounded, exact_round, sub_multiples, amount_is}
use Rattle.binary64.specs.Distance.{gap, rnd, round_rnd, rnd_near}
use Rattle.binary64.specs.Scaling.{two, unique}
use Rattle.binary64.specs.Tests.{eq-units, balance→eq, lt→balance}
use Rattle.binary64.specs.Away.{up_half, up_half_is, away-fits, away-finite, away-sign, away-mag}
use Rattle.type2.specs.Bools.{yes}

abbrev F : Format
F = binary64

-- ---- rounding leaves a whole number as it is
pub whole-count : (k W : ℕ) → 0 < W → up_half W (k * W) ≡ k
whole-count k W p = up_half_is W (k * W) k (omega arith) (omega arith)

pub whole-kept : (f : Format) (v : Float) (k : ℕ) → T (fits f v) → T (finite v) → mag f v ≡ k * 2 ^ low f → v ≡ away f v
whole-kept f v k a b e =
    let L = 2 ^ low f in
    let u : up_half L (mag f v) ≡ k = ap (up_half L) e ∙ whole-count k L (pow_pos (low f)) in
    unique f v (away f v) a (away-fits f v a) b (away-finite f v a b) (sym (away-sign f v a b)) (e ∙ ap (λ (n : ℕ). n * L) (sym u) ∙ sym (away-mag f v a b))

-- ---- a sum of at least 2 ^ 52 is rounded to a whole number
pub rounded-whole : (n : ℕ) → 2 ^ 1126 ≤ n → (k : ℕ) × (rnd F n ≡ k * 2 ^ 1074)
rounded-whole n h =
    let s : 1126 < size n = lt_of_not-le (λ (k : size n ≤ 1126). clash (le_trans (pow_mono k) h) (size-lt n)) in
    let g = gap F n in
    let c = closest n (2 ^ g) in
    let e : 2 ^ g ≡ 2 ^ (g - 1074) * 2 ^ 1074 = ap (λ (x : ℕ). 2 ^ x) (split (size n) s) ∙ pow-add 2 (g - 1074) 1074 in
    (c * 2 ^ (g - 1074), ap (λ (x : ℕ). c * x) e ∙ sym (mul_assoc c (2 ^ (g - 1074)) (2 ^ 1074)))
  where
    clash : {x y : ℕ} → x ≤ y → y < x → ⊥
    clash {x} {y} h k = omega arith

    split : (n : ℕ) → 1126 < n → n - 53 ≡ n - 53 - 1074 + 1074
    split n h = omega arith

-- 1.5 * 2 ^ 52, and -2 ^ 51
abbrev pub middle : Float
middle = fin false 3 (pos 51)

abbrev pub below : Float
below = fin true 1 (pos 51)

lit_fits : T (fits F middle) × T (fits F (two 51)) × T (fits F below)
unfolding fits
lit_fits = (tt, tt, tt)

lit_mag : (mag F middle ≡ 3 * 2 ^ 51 * 2 ^ 1074) × (mag F (two 51) ≡ 2 ^ 51 * 2 ^ 1074) × (mag F below ≡ 2 ^ 51 * 2 ^ 1074)
unfolding mag
lit_mag = (refl, refl, refl)

-- 0.5, -0.5
abbrev pub half : Float
half = fin false 1 (negsuc 0)

abbrev pub minus_half : Float
minus_half = fin true 1 (negsuc 0)

abbrev pub plus_zero : Float
plus_zero = fin false 0 (pos 0)

half-fits : T (fits F half) × T (fits F minus_half)
unfolding fits
half-fits = (tt, tt)

half-mag : (mag F half ≡ 2 ^ 1073) × (mag F minus_half ≡ 2 ^ 1073)
unfolding mag
half-mag = (refl, refl)

zero_is : T (fits F plus_zero) × (mag F plus_zero ≡ 0)
unfolding fits mag
zero_is = (tt, refl)

-- ---- the test
module _ (v : Float) (a : T (fits F v)) (b : T (finite v)) (under : mag F v < 2 ^ 51 * 2 ^ 1074) where
  -- v + 1.5 * 2 ^ 52 lies between 2 ^ 52 and 2 ^ 53, so it is whole, and within a half
  sum-whole : (k : ℕ) × HasValue (add F v middle) false (k * 2 ^ 1074) (2 ^ low F) × (k ≤ 2 ^ 53) × ((k * 2 ^ 1074 + mi F v) * 2 ≤ (pl F v + mag F middle) * 2 + 2 ^ 1074) × ((pl F v + mag F middle) * 2 ≤ (k * 2 ^ 1074 + mi F v) * 2 + 2 ^ 1074)
  sum-whole =
      let r = add-rounded F v middle a b lit_fits.0 tt in
      let n = r.amount in
      let t = go r.sgn n (sign v) (mag F v) (mag F middle) (2 ^ 51 * 2 ^ 1074) (lit_mag.0 ∙ mul_assoc 3 (2 ^ 51) (2 ^ 1074)) under r.balance in
      let w = rounded-whole n (le_trans (lit≤ tt) t.1) in
      let d = rnd_near F n 1074 (lt_of_lt_of_le t.2 (lit≤ tt)) in
      let l : rnd F n < 2 ^ 1127 + 2 ^ 1074 = near (rnd F n) n (4 * (2 ^ 51 * 2 ^ 1074)) (2 ^ 1127) (2 ^ 1074) (lit≤ tt) (pow_pos 1074) t.2 d.0 in
      let c = close (rnd F n) (w.0 * 2 ^ 1074) n (2 ^ 1074) (pl F v) (mi F v) (mag F middle) w.1 t.3 d.0 d.1 in
      (w.0, subst (λ (s : Bool). HasValue (add F v middle) s (w.0 * 2 ^ 1074) (2 ^ low F)) t.0 (subst (λ (x : ℕ). HasValue (add F v middle) r.sgn x (2 ^ low F)) w.1 (subst (λ (x : Float). HasValue x r.sgn (rnd F n) (2 ^ low F)) (sym r.is) (round_rnd F r.sgn n (lt_of_lt_of_le l (lit≤ tt))))), at_most w.0 (2 ^ 53) (2 ^ 1074) (lt_of_lt_of_le (subst (λ (x : ℕ). x < 2 ^ 1127 + 2 ^ 1074) w.1 l) (lit≤ tt)), c.0, c.1)
    where
      at_most : (k n L : ℕ) → k * L < suc n * L → k ≤ n
      at_most k n L h = le_of_suc-le-suc (lt_of_mul-lt-mul_right L h)

      near : (r n q t l : ℕ) → q ≤ t → 0 < l → n < q → r * 2 ≤ n * 2 + l → r < t + l
      near r n q t l h p k g = omega arith

      close : (r x n l p m c : ℕ) → r ≡ x → n + m ≡ p + c → r * 2 ≤ n * 2 + l → n * 2 ≤ r * 2 + l → ((x + m) * 2 ≤ (p + c) * 2 + l) × ((p + c) * 2 ≤ (x + m) * 2 + l)
      close r x n l p m c e f g h = (omega arith, omega arith)

      go : (s : Bool) (n : ℕ) (t : Bool) (m c Q : ℕ) → c ≡ 3 * Q → m < Q → cond s 0 n + (cond t m 0 + 0) ≡ cond s n 0 + (cond t 0 m + c) → (s ≡ false) × (2 * Q ≤ n) × (n < 4 * Q) × (n + cond t m 0 ≡ cond t 0 m + c)
      go true n true m c Q e h b = absurd (let z : ⊥ = omega arith in z)
      go true n false m c Q e h b = absurd (let z : ⊥ = omega arith in z)
      go false n true m c Q e h b = (refl, omega arith, omega arith, omega arith)
      go false n false m c Q e h b = (refl, omega arith, omega arith, omega arith)

  -- what comes back from it
  abbrev pub back : Float
  back = sub F (add F v middle) middle

  back_fits : T (fits F back)
  back_fits = sub-fits F (add F v middle) middle

  back_whole : T (finite back) × (j : ℕ) × (mag F back ≡ j * 2 ^ 1074) × ((pl F back + mi F v) * 2 ≤ (mi F back + pl F v) * 2 + 2 ^ 1074) × ((mi F back + pl F v) * 2 ≤ (pl F back + mi F v) * 2 + 2 ^ 1074)
  unfolding Multiple
  back_whole =
      let (k, h, l, lo, hi) = sum-whole in
      let s = add F v middle in
      let L = 2 ^ 1074 in
      let fs = add-fits F v middle in
      let bs = finite_of s false (k * L) (2 ^ low F) h in
      let ms : mag F s ≡ k * L = mag_of F s false (k * L) h in
      let gs : sign s ≡ false = sign_of s false (k * L) (2 ^ low F) h in
      let D : dist (pl F s + mi F middle) (mi F s + pl F middle) ≡ dist k (3 * 2 ^ 51) * L = ap₂ (λ (b : Bool) (x : ℕ). dist (cond b 0 x + 0) (cond b x 0 + mag F middle)) gs ms ∙ ap₂ dist (zero_right (k * L)) (zero_left (mag F middle) ∙ lit_mag.0) ∙ dist-mul k (3 * 2 ^ 51) L in
      let E = sub_multiples F 1074 s middle fs bs lit_fits.0 tt (k, ms) (3 * 2 ^ 51, lit_mag.0) (lt_of_le_of_lt (le_of_eq D) (few k l)) (lit≤ tt) in
      let q = close (sign s) (mag F s) (k * L) L (pl F back) (mi F back) (mag F middle) (pl F v) (mi F v) gs ms E.balance lo hi in
      (E.fine, dist k (3 * 2 ^ 51), amount_is (sign back) (mag F back) (pl F s + mi F middle) (mi F s + pl F middle) E.balance ∙ D, q.0, q.1)
    where
      zero_right : (x : ℕ) → x + 0 ≡ x
      zero_right x = omega arith

      zero_left : (x : ℕ) → 0 + x ≡ x
      zero_left x = omega arith

      few : (k : ℕ) → k ≤ 2 ^ 53 → dist k (3 * 2 ^ 51) * 2 ^ 1074 < 2 ^ 1127
      few k l = lt_of_lt_of_le (mul-lt-mul_of_pos_right (small k l) (pow_pos 1074)) (lit≤ tt)
        where
          small : (k : ℕ) → k ≤ 2 ^ 53 → dist k (3 * 2 ^ 51) < 2 ^ 53
          small k l = omega arith

      close : (s : Bool) (n x l y z c p m : ℕ) → s ≡ false → n ≡ x → y + (cond s n 0 + c) ≡ z + (cond s 0 n + 0) → (x + m) * 2 ≤ (p + c) * 2 + l → (p + c) * 2 ≤ (x + m) * 2 + l → ((y + m) * 2 ≤ (z + p) * 2 + l) × ((z + p) * 2 ≤ (y + m) * 2 + l)
      close true n x l y z c p m e f g h k = absurd (true≢false e)
      close false n x l y z c p m e f g h k = (omega arith, omega arith)

  pub is_whole : eq back v ≡ true → Multiple F 1074 v
  unfolding Multiple
  is_whole t =
      let (bz, j, mz, ne, nf) = back_whole in
      let q = subst T (sym t ∙ eq-units F back v (sign back) (sign v) (mag F back) (mag F v) (own F back back_fits bz) (own F v a b)) tt in
      let m : mag F back ≡ mag F v = eqb→eq (mag F back) (mag F v) (and_l (eqb (mag F back) (mag F v)) (beq (sign back) (sign v) || eqb (mag F back) 0) q) in
      (j, sym m ∙ mz)

  -- no tie, and not zero
  module _ (hi : lt (sub F v back) half ≡ true) (lo : lt minus_half (sub F v back) ≡ true) (some : eq back plus_zero ≡ false) where
    not_half : (t : Bool) → HasValue (sub F v back) t (2 ^ 1073) (2 ^ low F) → ⊥
    not_half t h =
        let d = sub F v back in
        let fd = sub-fits F v back in
        let bd = finite_of d t (2 ^ 1073) (2 ^ low F) h in
        go (sign d) (mag F d) (mag F half) (mag F minus_half) (2 ^ 1073) (mag_of F d t (2 ^ 1073) h) half-mag.0 half-mag.1 (lt→balance F d half fd bd half-fits.0 tt (subst T (sym hi) tt)) (lt→balance F minus_half d half-fits.1 tt fd bd (subst T (sym lo) tt))
      where
        go : (s : Bool) (n x y H : ℕ) → n ≡ H → x ≡ H → y ≡ H → cond s 0 n + 0 < cond s n 0 + x → 0 + cond s n 0 < y + cond s 0 n → ⊥
        go true n x y H e f g p q = omega arith
        go false n x y H e f g p q = omega arith

    pub no_tie : back ≡ round_away v
    no_tie =
        let (bz, j, mz, ne, nf) = back_whole in
        let r = sub-rounded F v back a b back_fits bz in
        let n = r.amount in
        let H = 2 ^ 1073 in
        let L = 2 ^ 1074 in
        let u : n ≡ H → ⊥ = λ e. not_half r.sgn (subst (λ (x : Float). HasValue x r.sgn H (2 ^ low F)) (sym (r.is ∙ ap (λ (k : ℕ). round F r.sgn k (2 ^ low F)) e)) (exact_round F r.sgn H 1 1073 refl (lit< tt) (lit< tt))) in
        let z : mag F back ≡ 0 → ⊥ = λ e. true≢false (sym (yes (eq back plus_zero) (balance→eq F back plus_zero back_fits bz zero_is.0 tt (level (sign back) (mag F back) (mag F plus_zero) e zero_is.1))) ∙ some) in
        let w = go (sign v) (mag F v) (sign back) (mag F back) r.sgn n j H L two_halves mz r.balance ne nf u z in
        unique F back (away F v) back_fits (away-fits F v a) bz (away-finite F v a b) (w.0 ∙ sym (away-sign F v a b)) (mz ∙ ap (λ (k : ℕ). k * L) (sym (up_half_is L (mag F v) j w.1 w.2)) ∙ sym (away-mag F v a b))
      where
        level : (s : Bool) (n z : ℕ) → n ≡ 0 → z ≡ 0 → cond s 0 n + 0 ≡ cond s n 0 + z
        level true n z e f = omega arith
        level false n z e f = omega arith

        two_halves : 2 ^ 1074 ≡ 2 * 2 ^ 1073
        two_halves = refl

        strict : (n H : ℕ) → n ≤ H → (n ≡ H → ⊥) → n < H
        strict n H l u = ⊎_elim (λ e. absurd (u e)) (λ h. h) (eq-or-lt_of_le l)

        apart : (j k L : ℕ) → k ≡ j * L → k * 2 ≤ L → (k ≡ 0 → ⊥) → ⊥
        apart zero k L e h z = z (omega arith)
        apart (suc j) k L e h z = let l : 1 * L ≤ suc j * L = mul-le-mul_right L (omega arith) in z (omega arith)

        go : (s : Bool) (m : ℕ) (t : Bool) (k : ℕ) (u : Bool) (n j H L : ℕ) → L ≡ 2 * H → k ≡ j * L → cond u 0 n + (cond s m 0 + cond t 0 k) ≡ cond u n 0 + (cond s 0 m + cond t k 0) →
            (cond t 0 k + cond s m 0) * 2 ≤ (cond t k 0 + cond s 0 m) * 2 + L → (cond t k 0 + cond s 0 m) * 2 ≤ (cond t 0 k + cond s m 0) * 2 + L → (n ≡ H → ⊥) → (k ≡ 0 → ⊥) → (t ≡ s) × (j * L * 2 ≤ m * 2 + L) × (m * 2 < j * L * 2 + L)
        go false m false k true n j H L e f b x y u z = (refl, omega arith, omega arith)
        go false m false k false n j H L e f b x y u z = let l = strict n H (omega arith) u in (refl, omega arith, omega arith)
        go true m true k false n j H L e f b x y u z = (refl, omega arith, omega arith)
        go true m true k true n j H L e f b x y u z = let l = strict n H (omega arith) u in (refl, omega arith, omega arith)
        go false m true k c n j H L e f b x y u z = absurd (apart j k L f (omega arith) z)
        go true m false k c n j H L e f b x y u z = absurd (apart j k L f (omega arith) z)

-- ---- between -t and t, where t is m * 2 ^ e
module _ (m : ℕ) (e : ℤ) (v : Float) (a : T (fits F v)) (hi : lt v (fin false m e) ≡ true) (lo : lt (fin true m e) v ≡ true) where
  pub between_finite : T (finite v)
  between_finite = go v hi lo
    where
      go : (x : Float) → lt x (fin false m e) ≡ true → lt (fin true m e) x ≡ true → T (finite x)
      go nan p q = unfold lt in absurd (true≢false (sym p))
      go (inf true) p q = unfold lt in absurd (true≢false (sym q))
      go (inf false) p q = unfold lt in absurd (true≢false (sym p))
      go (fin s n d) p q = tt

  pub between_size : (Q : ℕ) → T (fits F (fin false m e)) → T (fits F (fin true m e)) → mag F (fin false m e) ≡ Q → mag F (fin true m e) ≡ Q → mag F v < Q
  between_size Q f g h k =
      go (sign v) (mag F v) (mag F (fin false m e)) (mag F (fin true m e)) h k (lt→balance F v (fin false m e) a between_finite f tt (subst T (sym hi) tt)) (lt→balance F (fin true m e) v g tt a between_finite (subst T (sym lo) tt))
    where
      go : (s : Bool) (n x y : ℕ) → x ≡ Q → y ≡ Q → cond s 0 n + 0 < cond s n 0 + x → 0 + cond s n 0 < y + cond s 0 n → n < Q
      go true n x y e f p q = omega arith
      go false n x y e f p q = omega arith

module _ (v : Float) (a : T (fits F v)) (hi : lt v (two 51) ≡ true) (lo : lt below v ≡ true) where
  fine : T (finite v)
  fine = between_finite 1 (pos 51) v a hi lo

  few : mag F v < 2 ^ 51 * 2 ^ 1074
  few = between_size 1 (pos 51) v a hi lo (2 ^ 51 * 2 ^ 1074) lit_fits.1 lit_fits.2 lit_mag.1 lit_mag.2

  pub came_back : eq (sub F (add F v middle) middle) v ≡ true → v ≡ round_away v
  unfolding Multiple
  came_back t = let (k, e) = is_whole v a fine few t in whole-kept F v k a fine e

  pub came_near : (r : Float) → r ≡ sub F (add F v middle) middle → lt (sub F v r) half ≡ true → lt minus_half (sub F v r) ≡ true → eq r plus_zero ≡ false → r ≡ round_away v
  came_near r e p q z = e ∙ no_tie v a fine few (ap (λ (x : Float). lt (sub F v x) half) (sym e) ∙ p) (ap (λ (x : Float). lt minus_half (sub F v x)) (sym e) ∙ q) (ap (λ (x : Float). eq x plus_zero) (sym e) ∙ z)
