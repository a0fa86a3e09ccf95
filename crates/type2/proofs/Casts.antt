-- Laws: what `push_far` and `push_delta` compute from a double that is in range: its units above -2 ^ 32 as a `u64`, a whole number above -65536 as a `u32`, one between -108 and 108 above -139 as a `u8`.
use Rattle.std.specs.Prelude.{◌≡◌, refl, ℕ, suc, ◌+◌, ◌-◌, ◌*◌, ◌/◌, ◌%◌, ◌^◌, ◌≤◌, ◌<◌, min, Bool, true, false, not, ◌&&◌, List, [], ◌∷◌, T, leb, ltb, eqb, ℤ, pos, Float}
use Rattle.std.proofs.Math.Path.{sym}
use Rattle.std.proofs.Common.{ap, ap₂, ◌∙◌, subst, le_trans, lt_of_lt_of_le, lt_of_le_of_lt, mul-div_cancel, mul_right_comm, mul_assoc, mul-le-mul_right, add-mul, true≢false, ltb→lt, lt→ltb, le→leb, lit<, lit≤, pow_pos, pow-add}
use Rattle.std.proofs.Math.Nat.{mul-mod_left, eq_of_mul-eq-mul_right, lt_of_mul-lt-mul_right}
use native.Mathlib.Omega.{arith}
use Rattle.std.proofs.Math.Bool.{cond}
use Rattle.std.proofs.Math.IntN.{sub_ℕ}
use Rattle.std.specs.Float.{nan, inf, fin, Format, binary64}
use Rattle.std.specs.Float.Ieee.{low, up, down, add, sub, mul, div, eq, lt, fits, whole, in_unsigned, to_unsigned}
use Rattle.std.specs.Float.Ieee.Fits.{and_i, down_pos, eq→eqb, mul-fits, add-fits}
use Rattle.std.specs.Float.Ieee.Exact.{HasValue}
use Rattle.std.specs.Float.Ieee.Scale.{finite}
use Rattle.binary64.specs.Value.{sign, mag, pl, mi, dist, Multiple}
use Rattle.binary64.specs.Rounding.{round_away}
use Rattle.binary64.specs.Units.{own, mag_of, sign_of, finite_of}
use Rattle.binary64.specs.Sums.{add_multiples, sub-mul}
use Rattle.binary64.specs.Scaling.{two}
use Rattle.binary64.specs.Away.{up_half, away-fits}
use Rattle.type2.specs.Number.{zp, zm, quantized, units, in_range, number_bytes, gave, put, push_number}
use Rattle.type2.specs.Bools.{yes, and_both}
use Rattle.type2.specs.Signed.{sub_is}
use Rattle.type2.specs.Whole.{whole-count, middle, is_whole, between_finite, between_size}
use Rattle.type2.proofs.QuantizeLaws.{scaled, rounded_once, quantized-fixed}
use Rattle.type2.proofs.Fixed.{count, units_parts, below-count}
use Rattle.type2.specs.Forms.{one_form}

abbrev F : Format
F = binary64

-- 139, and -108 and 108, between which a whole number is one byte: that and 139
abbrev pub byte_middle : Float
byte_middle = fin false 139 (pos 0)

abbrev pub byte_top : Float
byte_top = fin false 27 (pos 2)

abbrev pub byte_bottom : Float
byte_bottom = fin true 27 (pos 2)

-- the cast of a float that is n exactly
cast_whole : (b : ℕ) (x : Float) (n : ℕ) → n < 2 ^ b → n ≤ 2 ^ 53 → HasValue x false (n * 2 ^ low F) (2 ^ low F) → T (in_unsigned F b x) × (to_unsigned b x ≡ n)
unfolding in_unsigned to_unsigned whole
cast_whole b nan n l h v = absurd v
cast_whole b (inf s) n l h v = absurd v
cast_whole b (fin s m e) n l h v =
    let L = 2 ^ low F in
    let p : m * up e ≡ n * down e = eq_of_mul-eq-mul_right L (pow_pos (low F)) (m * up e) (n * down e) (v.1 ∙ mul_right_comm n L (down e)) in
    let q : m * up e / down e ≡ n = ap (λ (z : ℕ). z / down e) p ∙ mul-div_cancel n (down_pos e) in
    let r : m * up e % down e ≡ 0 = ap (λ (z : ℕ). z % down e) p ∙ mul-mod_left n (down e) in
    go s (sym v.0) (m * up e / down e) (m * up e % down e) q r
  where
    go : (s : Bool) → false ≡ s → (a c : ℕ) → a ≡ n → c ≡ 0 → T (eqb c 0 && leb a (2 ^ 53) && not (s && eqb m 0) && (not s && ltb a (2 ^ b))) × (cond s 0 (min a (2 ^ b - 1)) ≡ n)
    go true e a c q r = absurd (true≢false (sym e))
    go false e a c q r =
        (and_i (eqb c 0 && leb a (2 ^ 53) && true) (ltb a (2 ^ b)) (and_i (eqb c 0 && leb a (2 ^ 53)) true (and_i (eqb c 0) (leb a (2 ^ 53)) (eq→eqb r) (le→leb a (2 ^ 53) (omega arith))) tt) (lt→ltb a (2 ^ b) (omega arith)), omega arith)

-- in range means finite, and not large
pub in_range-finite : (v : Float) → T (in_range (units v)) → T (finite v)
unfolding units
in_range-finite nan t = absurd t
in_range-finite (inf s) t = absurd t
in_range-finite (fin s m e) t = tt

pub in_range-small : (v : Float) → T (in_range (units v)) → mag F v ≤ 4294967298 * 2 ^ 1058
in_range-small v r =
    let u = units v in
    let w = and_both (ltb (zp u) 2147483648) (ltb (zm u) 2147483649) r in
    let x = units_parts v (in_range-finite v r) in
    let c : count v < 2147483649 = few (sign v) (count v) (zp u) (zm u) x.0 x.1 (ltb→lt (zp u) 2147483648 w.0) (ltb→lt (zm u) 2147483649 w.1) in
    half (mag F v) (2 ^ 1058) (below-count 2147483649 (2 ^ 1058) (mag F v) (pow_pos 1058) c)
  where
    few : (s : Bool) (N p m : ℕ) → p ≡ cond s 0 N → m ≡ cond s N 0 → p < 2147483648 → m < 2147483649 → N < 2147483649
    few true N p m e f h k = omega arith
    few false N p m e f h k = omega arith

    half : (A W : ℕ) → A * 2 + W < 2147483649 * W * 2 → A ≤ 4294967298 * W
    half A W h = omega arith

lit_fits : T (fits F (two 32)) × T (fits F (two 16)) × T (fits F byte_middle)
unfolding fits
lit_fits = (tt, tt, tt)

lit_mag : (mag F (two 32) ≡ 4294967296 * 2 ^ 1074) × (mag F (two 16) ≡ 65536 * 2 ^ 1074) × (mag F byte_middle ≡ 139 * 2 ^ 1074)
unfolding mag
lit_mag = (refl, refl, refl)

byte_fits : T (fits F byte_top) × T (fits F byte_bottom)
unfolding fits
byte_fits = (tt, tt)

byte_mag : (mag F byte_top ≡ 108 * 2 ^ 1074) × (mag F byte_bottom ≡ 108 * 2 ^ 1074)
unfolding mag
byte_mag = (refl, refl)

-- the whole number p - m, and K more, which is d * 2 ^ i: exact, and its cast
above_cast : (b d : ℕ) (i : ℤ) (K : ℕ) (x : Float) (p m : ℕ) → T (fits F (fin false d i)) → mag F (fin false d i) ≡ K * 2 ^ 1074 → K ≤ 4294967296 → p + K < 2 ^ b → T (fits F x) → T (finite x) → Multiple F 1074 x
    → pl F x ≡ p * 2 ^ 1074 → mi F x ≡ m * 2 ^ 1074 → p < K → m < K → T (in_unsigned F b (add F x (fin false d i))) × (to_unsigned b (add F x (fin false d i)) ≡ p + K - m)
unfolding Multiple
above_cast b d i K x p m ft mt few bits fx bx mx ep em lo hi =
    let L = 2 ^ 1074 in
    let c = fin false d i in
    let z = add F x c in
    let D : dist (pl F x + pl F c) (mi F x + mi F c) < 2 ^ 1127 = lt_of_lt_of_le (apart L (pl F x) (mi F x) (mag F c) ep em mt (pow_pos 1074)) (lit≤ tt) in
    let E = add_multiples F 1074 x c fx bx ft tt mx (K, mt) D (lit≤ tt) in
    let q = total (sign z) (mag F z) L (pl F x) (mi F x) (mag F c) ep em mt (pow_pos 1074) E.balance in
    let g = own F z (add-fits F x c) E.fine in
    cast_whole b z (p + K - m) (omega arith) room (subst (λ (k : ℕ). HasValue z false k (2 ^ low F)) q.1 (subst (λ (s : Bool). HasValue z s (mag F z) (2 ^ low F)) q.0 g))
  where
    room : p + K - m ≤ 2 ^ 53
    room = omega arith

    apart : (L a b c : ℕ) → a ≡ p * L → b ≡ m * L → c ≡ K * L → 0 < L → dist (a + c) (b + 0) < 8589934592 * L
    apart L a b c e f g l =
        let x : p * L ≤ 4294967295 * L = mul-le-mul_right L (let z : p ≤ 4294967295 = omega arith in z) in
        let y : m * L ≤ 4294967296 * L = mul-le-mul_right L (let z : m ≤ 4294967296 = omega arith in z) in
        let w : K * L ≤ 4294967296 * L = mul-le-mul_right L few in
        omega arith

    total : (s : Bool) (z L a b c : ℕ) → a ≡ p * L → b ≡ m * L → c ≡ K * L → 0 < L → cond s 0 z + (b + 0) ≡ cond s z 0 + (a + c) → (s ≡ false) × (z ≡ (p + K - m) * L)
    total true z L a b c e f g l h = absurd (let y : suc m * L ≤ K * L = mul-le-mul_right L hi in let q : ⊥ = omega arith in q)
    total false z L a b c e f g l h =
        let d : (p + K - m) * L ≡ (p + K) * L - m * L = sub-mul (p + K) m L in
        let t : (p + K) * L ≡ p * L + K * L = add-mul p K L in
        (refl, omega arith)

times : (s : Bool) (N L : ℕ) → (cond s 0 (N * L) ≡ cond s 0 N * L) × (cond s (N * L) 0 ≡ cond s N 0 * L)
times true N L = (omega arith, refl)
times false N L = (refl, omega arith)

-- v * 65536, rounded, and 2 ^ 32 more
abbrev pub raised : Float → Float
raised v = add F (round_away (mul F v (two 16))) (two 32)

abbrev pub above : ℤ → ℕ
above u = zp u + 4294967296 - zm u

pub raised_is : (v : Float) → T (fits F v) → T (in_range (units v)) → T (in_unsigned F 64 (raised v)) × (to_unsigned 64 (raised v) ≡ above (units v))
unfolding Multiple
raised_is v a r =
    let u = units v in
    let b = in_range-finite v r in
    let w = and_both (ltb (zp u) 2147483648) (ltb (zm u) 2147483649) r in
    let lo = ltb→lt (zp u) 2147483648 w.0 in
    let hi = ltb→lt (zm u) 2147483649 w.1 in
    let x = units_parts v b in
    let N = count v in
    let L = 2 ^ 1074 in
    let h = scaled F 1058 16 v refl a b (lt_of_le_of_lt (mul-le-mul_right (2 ^ 16) (in_range-small v r)) (lit< tt)) in
    let n = round_away (mul F v (two 16)) in
    let fn = away-fits F (mul F v (two 16)) (mul-fits F v (two 16)) in
    let bn = finite_of n (sign v) (N * L) (2 ^ low F) h in
    let mn : mag F n ≡ N * L = mag_of F n (sign v) (N * L) h in
    let sn : sign n ≡ sign v = sign_of n (sign v) (N * L) (2 ^ low F) h in
    let p : pl F n ≡ zp u * L = ap₂ (λ (s : Bool) (k : ℕ). cond s 0 k) sn mn ∙ (times (sign v) N L).0 ∙ ap (λ (k : ℕ). k * L) (sym x.0) in
    let m : mi F n ≡ zm u * L = ap₂ (λ (s : Bool) (k : ℕ). cond s k 0) sn mn ∙ (times (sign v) N L).1 ∙ ap (λ (k : ℕ). k * L) (sym x.1) in
    above_cast 64 1 (pos 32) 4294967296 n (zp u) (zm u) lit_fits.0 lit_mag.0 (lit≤ tt) (omega arith) fn bn (N, mn) p m (omega arith) (omega arith)

-- the same of what rounding gave
pub raised_by : (v n : Float) → T (fits F v) → T (in_range (units v)) → n ≡ round_away (mul F v (two 16)) → T (in_unsigned F 64 (add F n (two 32))) × (to_unsigned 64 (add F n (two 32)) ≡ above (units v))
raised_by v n a r e = subst (λ (x : Float). T (in_unsigned F 64 (add F x (two 32))) × (to_unsigned 64 (add F x (two 32)) ≡ above (units v))) (sym e) (raised_is v a r)

-- ---- what `push_far` returns, with what its tests and its callees gave
pub delta-value : (v n : Float) → T (fits F v) → T (in_range (units v)) → n ≡ round_away (mul F v (two 16)) → div F n (two 16) ≡ quantized v
delta-value v n a r e = ap (λ (x : Float). div F x (two 16)) e ∙ rounded_once v a (in_range-finite v r) (le_trans (in_range-small v r) (lit≤ tt))

pub bounds : (v : Float) (n : ℕ) → T (in_range (units v)) → n ≡ above (units v) → (2147483648 ≤ n) × (n < 6442450944)
bounds v n r e =
    let u = units v in
    let w = and_both (ltb (zp u) 2147483648) (ltb (zm u) 2147483649) r in
    let lo = ltb→lt (zp u) 2147483648 w.0 in
    let hi = ltb→lt (zm u) 2147483649 w.1 in
    (omega arith, omega arith)

pub whole-bounds : (v : Float) (w : ℕ) → T (in_range (units v)) → w * 65536 ≡ above (units v) → (32768 ≤ w) × (w < 98304)
whole-bounds v w r e = let b = bounds v (w * 65536) r e in (omega arith, omega arith)

pub accepted : (out : List ℕ) (at : ℕ) (v : Float) (n : ℕ) → T (in_range (units v)) → n ≡ above (units v) → put out at (number_bytes (sub_ℕ n 4294967296)) ≡ push_number out at v
unfolding push_number
accepted out at v n r e =
    let u = units v in
    let w = and_both (ltb (zp u) 2147483648) (ltb (zm u) 2147483649) r in
    let hi = ltb→lt (zm u) 2147483649 w.1 in
    rw (yes (in_range u) r) (ap (λ (x : ℤ). put out at (number_bytes x)) (sub_is u n 4294967296 (omega arith)))

pub refused : (out : List ℕ) (at : ℕ) (v : Float) → in_range (units v) ≡ false → gave 13 0 out ≡ push_number out at v
unfolding push_number
refused out at v e = rw e

in_units : (k : ℕ) → k * 2 ^ 1074 ≡ k * 65536 * 2 ^ 1058
in_units k = ap (λ (x : ℕ). k * x) (pow-add 2 16 1058) ∙ sym (mul_assoc k 65536 (2 ^ 1058))

-- ---- v is k or -k
module _ (v : Float) (a : T (fits F v)) (b : T (finite v)) (k : ℕ) (e : mag F v ≡ k * 2 ^ 1074) where
  abbrev plus : ℕ
  plus = cond (sign v) 0 k

  abbrev minus : ℕ
  minus = cond (sign v) k 0

  whole-units : (zp (units v) ≡ plus * 65536) × (zm (units v) ≡ minus * 65536)
  whole-units =
      let s = sign v in
      let c : count v ≡ k * 65536 = ap (up_half (2 ^ 1058)) (e ∙ in_units k) ∙ whole-count (k * 65536) (2 ^ 1058) (pow_pos 1058) in
      let x = units_parts v b in
      (x.0 ∙ ap (λ (n : ℕ). cond s 0 n) c ∙ (times s k 65536).0, x.1 ∙ ap (λ (n : ℕ). cond s n 0) c ∙ (times s k 65536).1)

  whole_same : v ≡ quantized v
  unfolding Multiple
  whole_same = sym (quantized-fixed v a b (k * 65536, e ∙ in_units k))

  whole_above : (n d : ℕ) (i : ℤ) (K : ℕ) → T (fits F (fin false d i)) → mag F (fin false d i) ≡ K * 2 ^ 1074 → K ≤ 4294967296 → plus + K < 2 ^ n → plus < K → minus < K → T (in_unsigned F n (add F v (fin false d i))) × (to_unsigned n (add F v (fin false d i)) ≡ plus + K - minus)
  unfolding Multiple
  whole_above n d i K f g few bits lo hi =
      let s = sign v in
      let L = 2 ^ 1074 in
      above_cast n d i K v plus minus f g few bits a b (k, e) (ap (λ (n : ℕ). cond s 0 n) e ∙ (times s k L).0) (ap (λ (n : ℕ). cond s n 0) e ∙ (times s k L).1) lo hi

-- ---- a whole number in range, and 65536 more
module _ (v : Float) (a : T (fits F v)) (r : T (in_range (units v))) (back : eq (sub F (add F v middle) middle) v ≡ true) where
  as_ones : Multiple F 1074 v
  as_ones = is_whole v a (in_range-finite v r) (lt_of_le_of_lt (in_range-small v r) (lit< tt)) back

  pub whole-value : v ≡ quantized v
  unfolding Multiple
  whole-value = let (k, e) = as_ones in whole_same v a (in_range-finite v r) k e

  pub whole_cast : T (in_unsigned F 32 (add F v (two 16))) × (to_unsigned 32 (add F v (two 16)) * 65536 ≡ above (units v))
  unfolding Multiple
  whole_cast =
      let u = units v in
      let b = in_range-finite v r in
      let w = and_both (ltb (zp u) 2147483648) (ltb (zm u) 2147483649) r in
      let (k, e) = as_ones in
      let x = whole-units v a b k e in
      let y = small (zp u) (zm u) (plus v a b k e) (minus v a b k e) x.0 x.1 (ltb→lt (zp u) 2147483648 w.0) (ltb→lt (zm u) 2147483649 w.1) in
      let g = whole_above v a b k e 32 1 (pos 16) 65536 lit_fits.1 lit_mag.1 (lit≤ tt) y.0 y.1 y.2 in
      (g.0, fit (plus v a b k e) (minus v a b k e) (zp u) (zm u) (to_unsigned 32 (add F v (two 16))) x.0 x.1 g.1)
    where
      small : (y z p m : ℕ) → y ≡ p * 65536 → z ≡ m * 65536 → y < 2147483648 → z < 2147483649 → (p + 65536 < 4294967296) × (p < 65536) × (m < 65536)
      small y z p m e f g h = (omega arith, omega arith, omega arith)

      fit : (p m y z w : ℕ) → y ≡ p * 65536 → z ≡ m * 65536 → w ≡ p + 65536 - m → w * 65536 ≡ y + 4294967296 - z
      fit p m y z w e f g = omega arith

-- ---- a whole number between -108 and 108: its byte is 139 more
module _ (v : Float) (a : T (fits F v)) (hi : lt v byte_top ≡ true) (lo : lt byte_bottom v ≡ true) (back : eq (sub F (add F v middle) middle) v ≡ true) where
  short-finite : T (finite v)
  short-finite = between_finite 27 (pos 2) v a hi lo

  short-size : mag F v < 108 * 2 ^ 1074
  short-size = between_size 27 (pos 2) v a hi lo (108 * 2 ^ 1074) byte_fits.0 byte_fits.1 byte_mag.0 byte_mag.1

  as_short : (k : ℕ) × (mag F v ≡ k * 2 ^ 1074) × (k < 108)
  unfolding Multiple
  as_short =
      let (k, e) = is_whole v a short-finite (lt_of_lt_of_le short-size (lit≤ tt)) back in
      (k, e, lt_of_mul-lt-mul_right (2 ^ 1074) (subst (λ (n : ℕ). n < 108 * 2 ^ 1074) e short-size))

  pub short-value : v ≡ quantized v
  short-value = let (k, e, l) = as_short in whole_same v a short-finite k e

  short-above : T (in_unsigned F 8 (add F v byte_middle)) × (p m : ℕ) × (to_unsigned 8 (add F v byte_middle) ≡ p + 139 - m) × (zp (units v) ≡ p * 65536) × (zm (units v) ≡ m * 65536) × (p < 108) × (m < 108)
  short-above =
      let (k, e, l) = as_short in
      let (lp, lm) = sides (sign v) k l in
      let c = whole_above v a short-finite k e 8 139 (pos 0) 139 lit_fits.2 lit_mag.2 (lit≤ tt) (omega arith) (omega arith) (omega arith) in
      let x = whole-units v a short-finite k e in
      (c.0, plus v a short-finite k e, minus v a short-finite k e, c.1, x.0, x.1, lp, lm)
    where
      sides : (s : Bool) (k : ℕ) → k < 108 → (cond s 0 k < 108) × (cond s k 0 < 108)
      sides true k l = (lit< tt, l)
      sides false k l = (l, lit< tt)

  pub short_cast : T (in_unsigned F 8 (add F v byte_middle))
  short_cast = short-above.0

  pub short-pushed : (out : List ℕ) (at : ℕ) → put out at (to_unsigned 8 (add F v byte_middle) ∷ []) ≡ push_number out at v
  short-pushed out at =
      let (c, p, m, e, x, y, lp, lm) = short-above in
      let u = units v in
      let w = p + 65536 - m in
      let d : p + 139 - m ≡ w - 65397 = omega arith in
      let r = and_i (ltb (zp u) 2147483648) (ltb (zm u) 2147483649) (lt→ltb (zp u) 2147483648 (omega arith)) (lt→ltb (zm u) 2147483649 (omega arith)) in
      ap (λ (b : ℕ). put out at (b ∷ [])) (e ∙ d) ∙ ap (put out at) (sym (one_form w (omega arith) (omega arith) (omega arith) (omega arith))) ∙ accepted out at v (w * 65536) r (omega arith)
