-- Laws: one delta. The double that is written is its units exactly, the point that the renderer reaches stays exact, and is near the point that was asked for.
use Rattle.std.specs.Prelude.{◌≡◌, ◌⊎◌, ℕ, suc, ◌+◌, ◌-◌, ◌*◌, ◌^◌, ◌≤◌, ◌<◌, Bool, true, false, cond, T, ltb, ℤ, ◌+ℤ◌, Float}
use Rattle.std.proofs.Common.{sym, ap, ap₂, ◌∙◌, subst, inl, inr, add-mul, mul-lt-mul_of_pos_right, le_trans, le_of_eq, lt_of_lt_of_le, lt_of_not-le, zero-mul, mul-le-mul_right, arith, true≢false, ltb→lt, lit≤, pow-add, pow_pos, pow_mono}
use Rattle.std.specs.Float.{Format, binary64}
use Rattle.std.specs.Float.Ieee.{low, size, round, add, sub, fits}
use Rattle.std.specs.Float.Ieee.Digits.{size-lt, size_reaches}
use Rattle.std.specs.Float.Ieee.Fits.{sub-fits, add-fits}
use Rattle.std.specs.Float.Ieee.Scale.{finite, overflow}
use Rattle.binary64.specs.Units.{mag_of}
use Rattle.binary64.specs.Value.{sign, mag, pl, mi, dist, Rounded, Multiple}
use Rattle.binary64.specs.Sums.{dist-mul, sub-rounded, amount_is, sub_sixteenths, add_sixteenths}
use Rattle.binary64.specs.Whole.{round_below}
use Rattle.binary64.specs.Distance.{sub_near, gap, rnd, round_rnd, closest_near}
use Rattle.type2.specs.Number.{quantized, zp, zm, in_range, Is, units}
use Rattle.type2.proofs.QuantizeLaws.{quantized-fixed, near}
use Rattle.type2.specs.Signed.{add_bal, one_sided}
use Rattle.type2.specs.Bools.{and_both}
use Rattle.type2.proofs.Fixed.{is_multiple}
use Rattle.type2.proofs.Pushes.{quantized-written}
use Rattle.type2.specs.Path.{delta}
use Rattle.agreement.specs.Simulation.{Meets, Fixed, OneDelta}

abbrev F : Format
F = binary64

-- ---- a rounded sum that came out small was small
rnd_large : (a : ℕ) → 2 ^ 1090 ≤ a → a * 31 ≤ rnd F a * 32
rnd_large a h =
    let g = 2 ^ gap F a in
    let c = closest_near a g (pow_pos (gap F a)) in
    let n = size a in
    let s : 1090 < n = lt_of_not-le (λ (k : n ≤ 1090). clash (le_trans (pow_mono k) h) (size-lt a)) in
    let r : 2 ^ (n - 1) ≤ a = size_reaches a (n - 1) (omega arith) in
    let e : 2 ^ (n - 1) ≡ g * 2 ^ 52 = ap (λ (z : ℕ). 2 ^ z) (split n s) ∙ pow-add 2 (n - 53) 52 in
    tidy a (rnd F a) g (2 ^ (n - 1)) r e c.1
  where
    clash : {x y : ℕ} → x ≤ y → y < x → ⊥
    clash {x} {y} h k = omega arith

    split : (n : ℕ) → 1090 < n → n - 1 ≡ n - 53 + 52
    split n h = omega arith

    tidy : (a r g p : ℕ) → p ≤ a → p ≡ g * 2 ^ 52 → a * 2 ≤ r * 2 + g → a * 31 ≤ r * 32
    tidy a r g p h e k = omega arith

pub was_small : {d : Float} {P M : ℕ} → Rounded F d P M → T (finite d) → mag F d ≤ 2 ^ 1089 + 2 ^ 1057 → dist P M < 2 ^ 1090
was_small {d} {P} {M} r t h =
    let a = r.amount in
    let e : a ≡ dist P M = amount_is r.sgn a P M r.balance in
    let o : rnd F a < overflow F = round_below F r.sgn a (subst (λ (z : Float). T (finite z)) r.is t) in
    let m : mag F d ≡ rnd F a = ap (mag F) r.is ∙ mag_of F (round F r.sgn a (2 ^ low F)) r.sgn (rnd F a) (round_rnd F r.sgn a o) in
    subst (λ (z : ℕ). z < 2 ^ 1090) e (lt_of_not-le (λ (k : 2 ^ 1090 ≤ a). tight a (rnd F a) (2 ^ 1057) (pow_pos 1057) k (le_trans (le_of_eq (sym m)) h) (rnd_large a k)))
  where
    tight : (a r w : ℕ) → 0 < w → 8589934592 * w ≤ a → r ≤ 4294967296 * w + w → a * 31 ≤ r * 32 → ⊥
    tight a r w p h k l = omega arith

-- a balance whose sides are one-sided is an equality of each
sides : (s : Bool) (m p n w : ℕ) → (p ≡ 0) ⊎ (n ≡ 0) → cond s 0 m + n * w ≡ cond s m 0 + p * w → (cond s 0 m ≡ p * w) × (cond s m 0 ≡ n * w)
sides true m p n w (inl z) h = let e : p * w ≡ 0 = ap (λ (x : ℕ). x * w) z ∙ zero-mul w in (omega arith, omega arith)
sides true m p n w (inr z) h = let e : n * w ≡ 0 = ap (λ (x : ℕ). x * w) z ∙ zero-mul w in (omega arith, omega arith)
sides false m p n w (inl z) h = let e : p * w ≡ 0 = ap (λ (x : ℕ). x * w) z ∙ zero-mul w in (omega arith, omega arith)
sides false m p n w (inr z) h = let e : n * w ≡ 0 = ap (λ (x : ℕ). x * w) z ∙ zero-mul w in (omega arith, omega arith)

-- the sums, with the units as any number w
sum_balance : (a b zp' zm' zP zM uP uM w : ℕ) → zp' + zM + uM ≡ zm' + zP + uP → a + (zM * w + uM * w) ≡ b + (zP * w + uP * w) → a + zm' * w ≡ b + zp' * w
sum_balance a b zp' zm' zP zM uP uM w h k =
    let e : zp' * w + zM * w + uM * w ≡ zm' * w + zP * w + uP * w = sym (three zp' zM uM) ∙ ap (λ (x : ℕ). x * w) h ∙ three zm' zP uP in
    omega arith
  where
    three : (x y z : ℕ) → (x + y + z) * w ≡ x * w + y * w + z * w
    three x y z = add-mul (x + y) z w ∙ ap (λ (t : ℕ). t + z * w) (add-mul x y w)

-- what was subtracted was small
sub_small : (z : ℤ) (at p : Float) → Is z at → T (fits F p) → T (finite p) → T (in_range (units (delta at p))) → dist (pl F p + mi F at) (mi F p + pl F at) < 2 ^ 1090
sub_small z at p i a b r =
    let d = sub F p at in
    let q = quantized d in
    let u = units q in
    let (iq, c, fd) = quantized-written d (sub-fits F p at) r in
    let w = and_both (ltb (zp u) 2147483648) (ltb (zm u) 2147483649) r in
    let mu : mag F q ≤ 2147483648 * 2 ^ 1058 = size_of (sign q) (mag F q) (zp u) (zm u) (2 ^ 1058) iq.plus iq.minus (ltb→lt (zp u) 2147483648 w.0) (ltb→lt (zm u) 2147483649 w.1) in
    was_small (sub-rounded F p at a b i.fit i.fine) fd (less (mag F q) (mag F d) (2 ^ 1057) mu (near F 1058 d q c))
  where
    size_of : (s : Bool) (m p n w : ℕ) → cond s 0 m ≡ p * w → cond s m 0 ≡ n * w → p < 2147483648 → n < 2147483649 → m ≤ 2147483648 * w
    size_of true m p n w h k a b = le_trans (le_of_eq k) (mul-le-mul_right w (let z : n ≤ 2147483648 = omega arith in z))
    size_of false m p n w h k a b = le_trans (le_of_eq h) (mul-le-mul_right w (let z : p ≤ 2147483648 = omega arith in z))

    less : (x y v : ℕ) → x ≤ 4294967296 * v → dist x y * 2 ≤ 2 * v → y ≤ 4294967296 * v + v
    less x y v h k = omega arith

pub one_delta : (z : ℤ) (at p : Float) → Is z at → T (fits F p) → T (finite p) → zp z + zm z + 2147483648 < 2 ^ 53 → T (in_range (units (delta at p))) → OneDelta z at p
one_delta z at p i a b room r =
    let d = sub F p at in
    let q = quantized d in
    let u = units q in
    let (iq, c, fd) = quantized-written d (sub-fits F p at) r in
    let w = and_both (ltb (zp u) 2147483648) (ltb (zm u) 2147483649) r in
    let lo = ltb→lt (zp u) 2147483648 w.0 in
    let hi = ltb→lt (zm u) 2147483649 w.1 in
    let sm = sub_small z at p i a b r in
    let W = sub_near p at a b i.fit i.fine sm in
    let E = add_sixteenths at q i.fit i.fine iq.fit iq.fine (is_multiple z at i) (is_multiple u q iq)
    (far (pl F at) (mi F at) (pl F q) (mi F q) (zp z) (zm z) (zp u) (zm u) (2 ^ 1058) i.plus i.minus iq.plus iq.minus lo hi (one_sided u) room (pow_pos 1058)) in
    let z' = z +ℤ u in
    let ab = add_bal z u in
    let bal : pl F (add F at q) + zm z' * 2 ^ 1058 ≡ mi F (add F at q) + zp z' * 2 ^ 1058 =
    sum_balance (pl F (add F at q)) (mi F (add F at q)) (zp z') (zm z') (zp z) (zm z) (zp u) (zm u) (2 ^ 1058) ab
    (ap₂ (λ (x y : ℕ). pl F (add F at q) + (x + y)) (sym i.minus) (sym iq.minus) ∙ E.balance ∙ ap₂ (λ (x y : ℕ). mi F (add F at q) + (x + y)) i.plus iq.plus) in
    let S = sides (sign (add F at q)) (mag F (add F at q)) (zp z') (zm z') (2 ^ 1058) (one_sided z') bal in
    let N = nearly (sign q) (mag F q) (sign d) (mag F d) (2 ^ 1058) c.signs (near F 1058 d q c) in
    let C = closes (zp z' * 2 ^ 1058) (zm z' * 2 ^ 1058) (pl F (add F at q)) (mi F (add F at q)) (pl F at) (mi F at) (pl F q) (mi F q) (pl F d) (mi F d) (pl F p) (mi F p) (2 ^ 1058) (2 ^ 1036) bal E.balance N.0 N.1 W.over W.under (lit≤ tt) in
    record { is = record { fit = add-fits F at q; fine = E.fine; plus = S.0; minus = S.1 }; near = record { over = C.0; under = C.1 } }
  where
    far : (aP aM qP qM zP zM uP uM w : ℕ) → aP ≡ zP * w → aM ≡ zM * w → qP ≡ uP * w → qM ≡ uM * w → uP < 2147483648 → uM < 2147483649 → (uP ≡ 0) ⊎ (uM ≡ 0) → zP + zM + 2147483648 < 2 ^ 53 → 0 < w
        → dist (aP + qP) (aM + qM) < 2 ^ 53 * w
    far aP aM qP qM zP zM uP uM w e1 e2 e3 e4 lo hi o room pw =
        let e : dist (aP + qP) (aM + qM) ≡ dist (zP + uP) (zM + uM) * w = ap₂ dist (ap₂ ◌+◌ e1 e3 ∙ sym (add-mul zP uP w)) (ap₂ ◌+◌ e2 e4 ∙ sym (add-mul zM uM w)) ∙ dist-mul (zP + uP) (zM + uM) w in
        le_trans (le_of_eq (ap suc e)) (mul-lt-mul_of_pos_right (short o) pw)
      where
        short : (uP ≡ 0) ⊎ (uM ≡ 0) → dist (zP + uP) (zM + uM) < 2 ^ 53
        short (inl z) = omega arith
        short (inr z) = omega arith

    nearly : (s : Bool) (m : ℕ) (t : Bool) (n w : ℕ) → s ≡ t → dist m n * 2 ≤ w → (cond s 0 m * 2 + cond t n 0 * 2 ≤ cond s m 0 * 2 + cond t 0 n * 2 + w) × (cond s m 0 * 2 + cond t 0 n * 2 ≤ cond s 0 m * 2 + cond t n 0 * 2 + w)
    nearly true m true n w e h = (omega arith, omega arith)
    nearly true m false n w e h = absurd (true≢false e)
    nearly false m true n w e h = absurd (true≢false (sym e))
    nearly false m false n w e h = (omega arith, omega arith)

    closes : (Z Y bP bM aP aM qP qM dP dM pP pM W e : ℕ) → bP + Y ≡ bM + Z → bP + (aM + qM) ≡ bM + (aP + qP) → qP * 2 + dM * 2 ≤ qM * 2 + dP * 2 + W → qM * 2 + dP * 2 ≤ qP * 2 + dM * 2 + W
        → dP + (pM + aP) ≤ dM + (pP + aM) + e → dM + (pP + aM) ≤ dP + (pM + aP) + e → e * 2 ≤ W → (Z + pM ≤ Y + pP + W) × (Y + pP ≤ Z + pM + W)
    closes Z Y bP bM aP aM qP qM dP dM pP pM W e h1 h2 h3 h4 h5 h6 h7 = (omega arith, omega arith)

-- ---- a point that is itself a whole number of 1/65536 is met exactly
pub exact_delta : (z : ℤ) (at p : Float) → Is z at → T (fits F p) → T (finite p) → Multiple F 1058 p → T (in_range (units (delta at p))) → Is (z +ℤ units (delta at p)) p
unfolding Multiple
exact_delta z at p i a b (k, m) r =
    let d = sub F p at in
    let q = quantized d in
    let u = units q in
    let W = 2 ^ 1058 in
    let sm = sub_small z at p i a b r in
    let iq = (quantized-written d (sub-fits F p at) r).0 in
    let E = sub_sixteenths p at a b i.fit i.fine (k, m) (is_multiple z at i) (lt_of_lt_of_le sm (lit≤ tt)) in
    let am : mag F d ≡ dist (pl F p + mi F at) (mi F p + pl F at) = amount_is (sign d) (mag F d) (pl F p + mi F at) (mi F p + pl F at) E.balance in
    let M = multiple_sub (sign p) (mag F p) k (pl F at) (mi F at) (zp z) (zm z) W m i.plus i.minus in
    let e : q ≡ d = quantized-fixed d (sub-fits F p at) E.fine (M.0, am ∙ M.1) in
    let eP : pl F d ≡ zp u * W = ap (pl F) (sym e) ∙ iq.plus in
    let eM : mi F d ≡ zm u * W = ap (mi F) (sym e) ∙ iq.minus in
    let z' = z +ℤ u in
    let S = sides (sign p) (mag F p) (zp z') (zm z') W (one_sided z') (balance (pl F p) (mi F p) (pl F d) (mi F d) (pl F at) (mi F at) (zp z') (zm z') (zp z) (zm z) (zp u) (zm u) W (add_bal z u) i.plus i.minus eP eM E.balance) in
    record { fit = a; fine = b; plus = S.0; minus = S.1 }
  where
    multiple_sub : (s : Bool) (m k aP aM zP zM w : ℕ) → m ≡ k * w → aP ≡ zP * w → aM ≡ zM * w → (n : ℕ) × (dist (cond s 0 m + aM) (cond s m 0 + aP) ≡ n * w)
    multiple_sub true m k aP aM zP zM w h e f = (dist (0 + zM) (k + zP), ap₂ dist (ap₂ ◌+◌ (sym (zero-mul w)) f ∙ sym (add-mul 0 zM w)) (ap₂ ◌+◌ h e ∙ sym (add-mul k zP w)) ∙ dist-mul (0 + zM) (k + zP) w)
    multiple_sub false m k aP aM zP zM w h e f = (dist (k + zM) (0 + zP), ap₂ dist (ap₂ ◌+◌ h f ∙ sym (add-mul k zM w)) (ap₂ ◌+◌ (sym (zero-mul w)) e ∙ sym (add-mul 0 zP w)) ∙ dist-mul (k + zM) (0 + zP) w)

    balance : (pP pM dP dM aP aM zp' zm' zP zM uP uM w : ℕ) → zp' + zM + uM ≡ zm' + zP + uP → aP ≡ zP * w → aM ≡ zM * w → dP ≡ uP * w → dM ≡ uM * w → dP + (pM + aP) ≡ dM + (pP + aM) → pP + zm' * w ≡ pM + zp' * w
    balance pP pM dP dM aP aM zp' zm' zP zM uP uM w h e1 e2 e3 e4 k =
        let e : zp' * w + zM * w + uM * w ≡ zm' * w + zP * w + uP * w = sym (three zp' zM uM) ∙ ap (λ (x : ℕ). x * w) h ∙ three zm' zP uP in
        omega arith
      where
        three : (x y z : ℕ) → (x + y + z) * w ≡ x * w + y * w + z * w
        three x y z = add-mul (x + y) z w ∙ ap (λ (t : ℕ). t + z * w) (add-mul x y w)

pub delta_meets : (b : Bool) (z : ℤ) (at p : Float) → Is z at → T (fits F p) → T (finite p) → Fixed b p → zp z + zm z + 2147483648 < 2 ^ 53 → T (in_range (units (delta at p))) → Meets b (z +ℤ units (delta at p)) p
delta_meets true z at p i a c m room r = exact_delta z at p i a c m r
delta_meets false z at p i a c m room r = (one_delta z at p i a c room r).near
