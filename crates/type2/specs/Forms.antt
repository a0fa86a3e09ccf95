-- Laws: the bytes that `push_whole` and `push_units` write. They count from -65536 and from -2 ^ 32, so that w and n, their arguments, are no negative numbers.
use Rattle.std.specs.Prelude.{◌≡◌, ◌⊎◌, ℕ, ◌+◌, ◌-◌, ◌*◌, ◌/◌, ◌%◌, ◌≤◌, ◌<◌, List, [], ◌∷◌, ℤ}
use Rattle.std.proofs.Common.{sym, ap, ◌∙◌, inl, inr}
use native.Mathlib.Omega.{arith}
use Rattle.std.proofs.Math.IntN.{sub_ℕ}
use Rattle.type2.specs.Number.{zp, zm, whole_bytes, fixed_bytes, number_bytes}
use Rattle.type2.specs.Bools.{is_lt, not_lt, is_eq, not_eq}
use Rattle.type2.specs.Signed.{sub_bal, sub_is, one_sided}

-- the whole number p - m is w - 65536
abbrev Gets : (p m w : ℕ) → List ℕ → Type 0
Gets p m w bs = p ≡ w - 65536 → m ≡ 65536 - w → whole_bytes p m ≡ bs

-- w - 65536 is -i or i
abbrev pub Size : (w i : ℕ) → Type 0
Size w i = ((w < 65536) × (i ≡ 65536 - w)) ⊎ ((65536 ≤ w) × (i ≡ w - 65536))

-- the first of two bytes counts from b on that side of 0
abbrev pub Side : (w b : ℕ) → Type 0
Side w b = ((w < 65536) × (b ≡ 251)) ⊎ ((65536 ≤ w) × (b ≡ 247))

-- the bounds of one byte, and of the first of two
pub small : (w i : ℕ) → Size w i → i < 108 → (65428 < w) × (w < 65644)
small w i (inl (s, t)) h = (omega arith, omega arith)
small w i (inr (s, t)) h = (omega arith, omega arith)

pub pair_fits : (w i b : ℕ) → Side w b → i < 1132 → (i - 108) / 256 + b < 256
pair_fits w i b (inl (s, t)) h = omega arith
pair_fits w i b (inr (s, t)) h = omega arith

one_byte : (p m w : ℕ) → 65428 < w → w < 65644 → Gets p m w ((w - 65397) ∷ [])
unfolding whole_bytes
one_byte p m w h k e f = rw (is_lt p 108 (let z : p < 108 = omega arith in z), is_lt m 108 (let z : m < 108 = omega arith in z)) (ap (λ (x : ℕ). x ∷ []) (let z : p + 139 - m ≡ w - 65397 = omega arith in z))

two_bytes : (p m w i b : ℕ) → Size w i → Side w b → 108 ≤ i → i < 1132 → Gets p m w (((i - 108) / 256 + b) ∷ ((i - 108) % 256) ∷ [])
unfolding whole_bytes
two_bytes p m w i b (inl (s, t)) (inl (u, v)) h k e f =
    let z : m ≡ i = omega arith in
    rw (is_lt p 108 (let z : p < 108 = omega arith in z), not_lt m 108 (let z : 108 ≤ m = omega arith in z), not_lt 107 p (let z : p ≤ 107 = omega arith in z), is_lt 107 m (let z : 107 < m = omega arith in z), is_lt m 1132 (let z : m < 1132 = omega arith in z), z, v)
two_bytes p m w i b (inr (s, t)) (inr (u, v)) h k e f =
    let z : p ≡ i = omega arith in
    rw (not_lt p 108 (let z : 108 ≤ p = omega arith in z), is_lt 107 p (let z : 107 < p = omega arith in z), is_lt p 1132 (let z : p < 1132 = omega arith in z), z, v)
two_bytes p m w i b (inl (s, t)) (inr (u, v)) h k e f = absurd (let z : ⊥ = omega arith in z)
two_bytes p m w i b (inr (s, t)) (inl (u, v)) h k e f = absurd (let z : ⊥ = omega arith in z)

three_bytes : (p m w i : ℕ) → 32768 ≤ w → w < 98304 → Size w i → 1132 ≤ i → Gets p m w (28 ∷ (w / 256 % 256) ∷ (w % 256) ∷ [])
unfolding whole_bytes
three_bytes p m w i g l (inl (s, t)) h e f =
    let x : (p + 65536 - m) % 65536 / 256 ≡ w / 256 % 256 = omega arith in
    let y : (p + 65536 - m) % 65536 % 256 ≡ w % 256 = omega arith in
    rw (is_lt p 108 (let z : p < 108 = omega arith in z), not_lt m 108 (let z : 108 ≤ m = omega arith in z), not_lt 107 p (let z : p ≤ 107 = omega arith in z), is_lt 107 m (let z : 107 < m = omega arith in z), not_lt m 1132 (let z : 1132 ≤ m = omega arith in z), x, y)
three_bytes p m w i g l (inr (s, t)) h e f =
    let x : (p + 65536 - m) % 65536 / 256 ≡ w / 256 % 256 = omega arith in
    let y : (p + 65536 - m) % 65536 % 256 ≡ w % 256 = omega arith in
    rw (not_lt p 108 (let z : 108 ≤ p = omega arith in z), is_lt 107 p (let z : 107 < p = omega arith in z), not_lt p 1132 (let z : 1132 ≤ p = omega arith in z), not_lt 107 m (let z : m ≤ 107 = omega arith in z), x, y)

module _ (w : ℕ) (low : 32768 ≤ w) (high : w < 98304) where
  abbrev z : ℤ
  z = sub_ℕ (w * 65536) 4294967296

  abbrev p : ℕ
  p = zp z / 65536

  abbrev m : ℕ
  m = zm z / 65536

  is_whole : number_bytes z ≡ whole_bytes p m
  unfolding number_bytes
  is_whole = rw (is_eq ((zp z + zm z) % 65536) 0 (part (one_sided z) (sub_bal (w * 65536) 4294967296)))
    where
      part : (zp z ≡ 0) ⊎ (zm z ≡ 0) → zp z + 4294967296 ≡ zm z + w * 65536 → (zp z + zm z) % 65536 ≡ 0
      part (inl e) b = omega arith
      part (inr e) b = omega arith

  parts : (p ≡ w - 65536) × (m ≡ 65536 - w)
  parts = go (one_sided z) (sub_bal (w * 65536) 4294967296)
    where
      go : (zp z ≡ 0) ⊎ (zm z ≡ 0) → zp z + 4294967296 ≡ zm z + w * 65536 → (p ≡ w - 65536) × (m ≡ 65536 - w)
      go (inl e) b = (omega arith, omega arith)
      go (inr e) b = (omega arith, omega arith)

  pub one_form : 65428 < w → w < 65644 → number_bytes z ≡ (w - 65397) ∷ []
  one_form h k = is_whole ∙ one_byte p m w h k parts.0 parts.1

  pub two_form : (i b : ℕ) → Size w i → Side w b → 108 ≤ i → i < 1132 → number_bytes z ≡ ((i - 108) / 256 + b) ∷ ((i - 108) % 256) ∷ []
  two_form i b s t h k = is_whole ∙ two_bytes p m w i b s t h k parts.0 parts.1

  pub short_form : (i : ℕ) → Size w i → 1132 ≤ i → number_bytes z ≡ 28 ∷ (w / 256 % 256) ∷ (w % 256) ∷ []
  short_form i s h = is_whole ∙ three_bytes p m w i low high s h parts.0 parts.1

module _ (n : ℕ) (low : 2147483648 ≤ n) (high : n < 6442450944) where
  abbrev u : ℤ
  u = sub_ℕ n 4294967296

  pub fixed_form : (n % 65536 ≡ 0 → ⊥) → number_bytes u ≡ 255 ∷ (n / 16777216 % 256) ∷ (n / 65536 % 256) ∷ (n / 256 % 256) ∷ (n % 256) ∷ []
  unfolding number_bytes fixed_bytes
  fixed_form h =
      let b = sub_bal n 4294967296 in
      let N = (zp u + 4294967296 - zm u) % 4294967296 in
      rw (not_eq ((zp u + zm u) % 65536) 0 (λ e. h (part (one_sided u) b e))) (bytes N (let z : N ≡ n % 4294967296 = omega arith in z))
    where
      part : (zp u ≡ 0) ⊎ (zm u ≡ 0) → zp u + 4294967296 ≡ zm u + n → (zp u + zm u) % 65536 ≡ 0 → n % 65536 ≡ 0
      part (inl z) b e = omega arith
      part (inr z) b e = omega arith

      bytes : (N : ℕ) → N ≡ n % 4294967296 → 255 ∷ (N / 16777216) ∷ (N / 65536 % 256) ∷ (N / 256 % 256) ∷ (N % 256) ∷ [] ≡ 255 ∷ (n / 16777216 % 256) ∷ (n / 65536 % 256) ∷ (n / 256 % 256) ∷ (n % 256) ∷ []
      bytes N e =
          let a : N / 16777216 ≡ n / 16777216 % 256 = omega arith in
          let b : N / 65536 % 256 ≡ n / 65536 % 256 = omega arith in
          let c : N / 256 % 256 ≡ n / 256 % 256 = omega arith in
          let d : N % 256 ≡ n % 256 = omega arith in
          cc

  -- a whole number: so many times 65536
  pub whole_form : n % 65536 ≡ 0 → u ≡ sub_ℕ (n / 65536 * 65536) 4294967296
  whole_form h = sym (sub_is u (n / 65536 * 65536) 4294967296 (let b = sub_bal n 4294967296 in omega arith))
