-- Laws: the numbers of a charstring, as the code computes them.
use mathlib.Core.Path.{◌≡◌, refl, sym, ap, ◌∙◌}
use Prim.Native.Nat.{ℕ, zero, suc, ◌+◌, ◌-◌, ◌*◌, ◌^◌, ◌≤◌, ◌<◌}
use native.Mathlib.Nat.{mul-one, mul-le-mul_right, mul-lt-mul_of_pos_right}
use native.Mathlib.Omega.{arith}
use mathlib.Core.Bool.{Bool, true, false, cond}
use borrow.Author.Tests.{lt-ltb, le-ltb, ltb-true, ltb-false}
use lib.Dec.{T, ltb, le→leb, lit<, lit≤}
use lib.IntN.{pos, negsuc, sub_ℕ}
use lib.Pow.{pow_pos}
use lib.Ieee.{binary64, low, round, neg, sub, of_int, in_float}
use lib.Ieee.Exact.{HasValue}
use lib.Ieee.Back.{round_whole}
use lib.Ieee.Scale.{round_same}
use Rattle.binary64.specs.Tests.{neg_round, minus-above, minus-below}
use Rattle.binary64.specs.Sums.{sub-mul}
use Rattle.binary64.specs.Away.{in_units}
use Rattle.type1.specs.Number.{two_bytes, two_bytes_below, four_bytes, double}

-- a whole number that a double counts
pub small : (n : ℕ) → n ≤ 2 ^ 53 → T (in_float binary64 (pos n))
unfolding in_float
small n h = le→leb n (2 ^ 53) h

-- minus a whole number above 0
neg_int : (n : ℕ) → 0 < n → neg (of_int binary64 (pos n)) ≡ of_int binary64 (sub_ℕ 0 n)
unfolding of_int
neg_int zero h = absurd (let z : ⊥ = omega arith in z)
neg_int (suc n) h = neg_round binary64 false (suc n) 1 ∙ sym (ap (λ (b : Bool). of_int binary64 (cond b (negsuc (suc n - 1)) (pos (0 - suc n)))) (lt-ltb 0 (suc n) h) ∙ ap (λ (k : ℕ). round binary64 true (suc k) 1) (let z : suc n - 1 ≡ n = omega arith in z))

-- 255
pub four_plus : (n : ℕ) → n < 2147483648 → of_int binary64 (pos n) ≡ of_int binary64 (sub_ℕ n (cond (ltb n 2147483648) 0 4294967296))
four_plus n h = sym (ap (λ (b : Bool). of_int binary64 (sub_ℕ n (cond b 0 4294967296))) (lt-ltb n 2147483648 h) ∙ ap (λ (b : Bool). of_int binary64 (cond b (negsuc (0 - suc n)) (pos (n - 0)))) (le-ltb n 0 (omega arith)) ∙ ap (λ (k : ℕ). of_int binary64 (pos k)) (let z : n - 0 ≡ n = omega arith in z))

pub four_minus : (n : ℕ) → 2147483648 ≤ n → n < 4294967296 → neg (of_int binary64 (pos (4294967296 - n))) ≡ of_int binary64 (sub_ℕ n (cond (ltb n 2147483648) 0 4294967296))
four_minus n h k =
    neg_int (4294967296 - n) (omega arith)
    ∙ ap (of_int binary64) (ap (λ (b : Bool). cond b (negsuc (4294967296 - n - 1)) (pos (0 - (4294967296 - n)))) (lt-ltb 0 (4294967296 - n) (omega arith)) ∙ ap negsuc (let z : 4294967296 - n - 1 ≡ 4294967296 - suc n = omega arith in z) ∙ sym (ap (λ (b : Bool). cond b (negsuc (4294967296 - suc n)) (pos (n - 4294967296))) (lt-ltb n 4294967296 k)))
    ∙ sym (ap (λ (b : Bool). of_int binary64 (sub_ℕ n (cond b 0 4294967296))) (le-ltb n 2147483648 h))

-- the difference of two whole numbers is exact
abbrev L : ℕ
L = 2 ^ low binary64

whole : (n : ℕ) → n ≤ 2 ^ 53 → HasValue (of_int binary64 (pos n)) false (n * L) L
unfolding of_int
whole n h = in_units (round binary64 false n 1) false n L (round_whole binary64 false n h)

rounds : (s : Bool) (a b : ℕ) → round binary64 s (a * L - b * L) L ≡ round binary64 s (a - b) 1
rounds s a b = ap (λ (k : ℕ). round binary64 s k L) (sym (sub-mul a b L)) ∙ round_same binary64 s ((a - b) * L) L (a - b) 1 (pow_pos (low binary64)) (lit< tt) (mul-one ((a - b) * L))

difference : (a b : ℕ) → a ≤ 2 ^ 53 → b ≤ 2 ^ 53 → sub binary64 (of_int binary64 (pos a)) (of_int binary64 (pos b)) ≡ of_int binary64 (sub_ℕ a b)
difference a b h k = go (ltb a b) refl
  where
    above : b ≤ a → sub binary64 (of_int binary64 (pos a)) (of_int binary64 (pos b)) ≡ of_int binary64 (pos (a - b))
    above l = minus-above binary64 (of_int binary64 (pos a)) (of_int binary64 (pos b)) (a * L) (b * L) (whole a h) (whole b k) (mul-le-mul_right L l) ∙ rounds false a b ∙ (unfold of_int in refl)

    below : a < b → sub binary64 (of_int binary64 (pos a)) (of_int binary64 (pos b)) ≡ of_int binary64 (negsuc (b - suc a))
    below l = minus-below binary64 (of_int binary64 (pos a)) (of_int binary64 (pos b)) (a * L) (b * L) (whole a h) (whole b k) (mul-lt-mul_of_pos_right l (pow_pos (low binary64))) ∙ rounds true b a ∙ ap (λ (n : ℕ). round binary64 true n 1) (let z : b - a ≡ suc (b - suc a) = omega arith in z) ∙ (unfold of_int in refl)

    go : (t : Bool) → ltb a b ≡ t → sub binary64 (of_int binary64 (pos a)) (of_int binary64 (pos b)) ≡ of_int binary64 (cond t (negsuc (b - suc a)) (pos (a - b)))
    go true e = below (ltb-true a b e)
    go false e = above (ltb-false a b e)

-- 32 to 246
pub one_byte : (v : ℕ) → v < 256 → sub binary64 (of_int binary64 (pos v)) (of_int binary64 (pos 139)) ≡ of_int binary64 (sub_ℕ v 139)
one_byte v h = difference v 139 (omega arith) (lit≤ tt)

-- 65536 more, and 65536 taken away
raised-above : (u n : ℕ) → u ≡ n + 65536 → sub_ℕ u 65536 ≡ pos n
raised-above u n e = ap (λ (b : Bool). cond b (negsuc (65536 - suc u)) (pos (u - 65536))) (le-ltb u 65536 (omega arith)) ∙ ap pos (let z : u - 65536 ≡ n = omega arith in z)

raised_below : (u n : ℕ) → u + n ≡ 65536 → 0 < n → sub_ℕ u 65536 ≡ sub_ℕ 0 n
raised_below u n e h =
    ap (λ (b : Bool). cond b (negsuc (65536 - suc u)) (pos (u - 65536))) (lt-ltb u 65536 (omega arith))
    ∙ ap negsuc (let z : 65536 - suc u ≡ n - 1 = omega arith in z)
    ∙ sym (ap (λ (b : Bool). cond b (negsuc (n - 1)) (pos (0 - n))) (lt-ltb 0 n h))

-- ---- with what `wider` gave of the bytes
abbrev word : ℕ → ℕ → ℕ → ℕ → ℕ
word a b c d = ((a * 256 + b) * 256 + c) * 256 + d

word_same : (w x y z a b c d : ℕ) → w ≡ a → x ≡ b → y ≡ c → z ≡ d → word w x y z ≡ word a b c d
word_same w x y z a b c d p q r s = cc

pub four_above : (w x y z a b c d : ℕ) → w ≡ a → x ≡ b → y ≡ c → z ≡ d → word w x y z < 2147483648 → of_int binary64 (pos (word w x y z)) ≡ double (four_bytes a b c d)
four_above w x y z a b c d p q r s h = four_plus (word w x y z) h ∙ ap (λ (n : ℕ). of_int binary64 (sub_ℕ n (cond (ltb n 2147483648) 0 4294967296))) (word_same w x y z a b c d p q r s)

pub four_below : (w x y z a b c d : ℕ) → w ≡ a → x ≡ b → y ≡ c → z ≡ d → 2147483648 ≤ word w x y z → word w x y z < 4294967296 → neg (of_int binary64 (pos (4294967296 - word w x y z))) ≡ double (four_bytes a b c d)
four_below w x y z a b c d p q r s h k = four_minus (word w x y z) h k ∙ ap (λ (n : ℕ). of_int binary64 (sub_ℕ n (cond (ltb n 2147483648) 0 4294967296))) (word_same w x y z a b c d p q r s)

-- 247 to 250, and 251 to 254
module _ (x y v w u : ℕ) (p : x ≡ v) (q : y ≡ w) (from : 247 ≤ v) (v-byte : v < 256) (w-byte : w < 256) where
  pub two_above : v < 251 → u ≡ x * 256 + y + 2412 → sub binary64 (of_int binary64 (pos u)) (of_int binary64 (pos 65536)) ≡ double (cond (ltb v 251) (two_bytes v w) (two_bytes_below v w))
  two_above h e =
      difference u 65536 (omega arith) (lit≤ tt)
      ∙ ap (of_int binary64) (raised-above u ((v - 247) * 256 + w + 108) (omega arith))
      ∙ sym (ap (λ (b : Bool). double (cond b (two_bytes v w) (two_bytes_below v w))) (lt-ltb v 251 h))

  pub two_under : 251 ≤ v → u ≡ 129684 - (x * 256 + y) → sub binary64 (of_int binary64 (pos u)) (of_int binary64 (pos 65536)) ≡ double (cond (ltb v 251) (two_bytes v w) (two_bytes_below v w))
  two_under h e =
      difference u 65536 (omega arith) (lit≤ tt)
      ∙ ap (of_int binary64) (raised_below u ((v - 251) * 256 + w + 108) (omega arith) (omega arith))
      ∙ sym (ap (λ (b : Bool). double (cond b (two_bytes v w) (two_bytes_below v w))) (le-ltb v 251 h))
