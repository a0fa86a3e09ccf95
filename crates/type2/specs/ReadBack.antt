-- Laws: the bytes of a number read back as that number, and no shorter bytes do.
use Rattle.std.specs.Prelude.{◌≡◌, ◌⊎◌, ℕ, suc, ◌+◌, ◌-◌, ◌*◌, ◌/◌, ◌%◌, ◌≤◌, ◌<◌, Bool, true, false, not, ◌&&◌, List, [], ◌∷◌, ◌++◌, length, get_or, T, eqb, ℤ}
use Rattle.std.proofs.Common.{sym, ◌∙◌, subst, inl, inr, arith, lt→ltb, nltb→le, eqb→eq}
use Rattle.std.proofs.Math.Path.{ap}
use Rattle.std.proofs.Math.Dec.{ltb, ltb→lt}
use Rattle.std.proofs.Math.IntN.{sub_ℕ}
use Rattle.type2.specs.Number.{zp, zm, one, pair, short, fixed, Reading, no_number, number, read2, read3, read5, read_from, read, whole_bytes, fixed_bytes, number_bytes, in_range}
use Rattle.type2.specs.Bools.{is_lt, not_lt, not_eq, is_eq, choose, and_both}
use Rattle.type2.specs.Signed.{sub_bal, sub_is, one_sided}

-- ---- what the forms are worth: u is p - m units, one of which is 0
module _ (u : ℤ) (low : zp u < 2147483648) (deep : zm u < 2147483649) where
  fixed_is : (n : ℕ) → n ≡ (zp u + 4294967296 - zm u) % 4294967296 → fixed n ≡ u
  fixed_is n e = choose (ltb n 2147483648) (λ (M : ℕ). sub_ℕ n M ≡ u) 0 4294967296 (λ t. sub_is u n 0 (lo (ltb→lt n 2147483648 t) (one_sided u))) (λ t. sub_is u n 4294967296 (hi (nltb→le n 2147483648 t) (one_sided u)))
    where
      lo : n < 2147483648 → (zp u ≡ 0) ⊎ (zm u ≡ 0) → zp u + 0 ≡ zm u + n
      lo h (inl z) = omega arith
      lo h (inr z) = omega arith

      hi : 2147483648 ≤ n → (zp u ≡ 0) ⊎ (zm u ≡ 0) → zp u + 4294967296 ≡ zm u + n
      hi h (inl z) = omega arith
      hi h (inr z) = omega arith

  module _ (p m : ℕ) (ep : zp u ≡ p * 65536) (em : zm u ≡ m * 65536) where
    one_is : p < 108 → m < 108 → one (p + 139 - m) ≡ u
    one_is h k = sub_is u ((p + 139 - m) * 65536) (139 * 65536) (omega arith)

    pair-above : 107 < p → p < 1132 → pair ((p - 108) / 256 + 247) ((p - 108) % 256) ≡ u
    pair-above h k = rw (is_lt ((p - 108) / 256 + 247) 251 (let z : (p - 108) / 256 + 247 < 251 = omega arith in z)) (sub_is u (((((p - 108) / 256 + 247) - 247) * 256 + (p - 108) % 256 + 108) * 65536) 0 (tidy (one_sided u)))
      where
        tidy : (zp u ≡ 0) ⊎ (zm u ≡ 0) → zp u + 0 ≡ zm u + ((((p - 108) / 256 + 247) - 247) * 256 + (p - 108) % 256 + 108) * 65536
        tidy (inl z) = absurd (let q : ⊥ = omega arith in q)
        tidy (inr z) = omega arith

    pair-below : 107 < m → m < 1132 → pair ((m - 108) / 256 + 251) ((m - 108) % 256) ≡ u
    pair-below h k = rw (not_lt ((m - 108) / 256 + 251) 251 (let z : 251 ≤ (m - 108) / 256 + 251 = omega arith in z)) (sub_is u 0 (((((m - 108) / 256 + 251) - 251) * 256 + (m - 108) % 256 + 108) * 65536) (tidy (one_sided u)))
      where
        tidy : (zp u ≡ 0) ⊎ (zm u ≡ 0) → zp u + ((((m - 108) / 256 + 251) - 251) * 256 + (m - 108) % 256 + 108) * 65536 ≡ zm u + 0
        tidy (inl z) = omega arith
        tidy (inr z) = absurd (let q : ⊥ = omega arith in q)

    short_is : (n : ℕ) → n ≡ (p + 65536 - m) % 65536 → short n ≡ u
    short_is n e = choose (ltb n 32768) (λ (M : ℕ). sub_ℕ (n * 65536) M ≡ u) 0 (65536 * 65536) (λ t. sub_is u (n * 65536) 0 (lo (ltb→lt n 32768 t) (one_sided u))) (λ t. sub_is u (n * 65536) (65536 * 65536) (hi (nltb→le n 32768 t) (one_sided u)))
      where
        lo : n < 32768 → (zp u ≡ 0) ⊎ (zm u ≡ 0) → zp u + 0 ≡ zm u + n * 65536
        lo h (inl z) = omega arith
        lo h (inr z) = omega arith

        hi : 32768 ≤ n → (zp u ≡ 0) ⊎ (zm u ≡ 0) → zp u + 65536 * 65536 ≡ zm u + n * 65536
        hi h (inl z) = omega arith
        hi h (inr z) = omega arith

join2 : (n : ℕ) → n / 256 * 256 + n % 256 ≡ n
join2 n = omega arith

join4 : (n : ℕ) → ((n / 16777216 * 256 + n / 65536 % 256) * 256 + n / 256 % 256) * 256 + n % 256 ≡ n
join4 n = omega arith

-- ---- the forms
read_one : (b : ℕ) (r : List ℕ) → 32 ≤ b → b < 247 → read_from b r ≡ number (one b) 0
unfolding read_from
read_one b r h k = rw (not_eq b 28 (λ e. let z : ⊥ = omega arith in z), not_lt b 32 h, is_lt b 247 k)

read-pair : (b w : ℕ) (r : List ℕ) → 247 ≤ b → b < 255 → read_from b (w ∷ r) ≡ number (pair b w) 1
unfolding read_from read2
read-pair b w r h k = rw (not_eq b 28 (λ e. let z : ⊥ = omega arith in z), not_lt b 32 (let z : 32 ≤ b = omega arith in z), not_lt b 247 h, is_lt b 255 k)

module _ (r : List ℕ) (u : ℤ) (low : zp u < 2147483648) (deep : zm u < 2147483649) where
  abbrev Reads : List ℕ → Type 0
  Reads bs = read (bs ++ r) ≡ number u (length bs - 1)

  whole_reads : (p m : ℕ) → zp u ≡ p * 65536 → zm u ≡ m * 65536 → Reads (whole_bytes p m)
  unfolding whole_bytes read_from read3
  whole_reads p m ep em =
      let n = (p + 65536 - m) % 65536 in
      choose (ltb p 108 && ltb m 108) Reads ((p + 139 - m) ∷ []) _
      (λ t. let w = and_both (ltb p 108) (ltb m 108) t in let h = ltb→lt p 108 w.0 in let k = ltb→lt m 108 w.1 in
      read_one (p + 139 - m) r (omega arith) (omega arith) ∙ ap (λ (v : ℤ). number v 0) (one_is u low deep p m ep em h k))
      (λ t1. choose (ltb 107 p && ltb p 1132) Reads (((p - 108) / 256 + 247) ∷ ((p - 108) % 256) ∷ []) _
      (λ t. let w = and_both (ltb 107 p) (ltb p 1132) t in let h = ltb→lt 107 p w.0 in let k = ltb→lt p 1132 w.1 in
      read-pair ((p - 108) / 256 + 247) ((p - 108) % 256) r (omega arith) (omega arith) ∙ ap (λ (v : ℤ). number v 1) (pair-above u low deep p m ep em h k))
      (λ t2. choose (ltb 107 m && ltb m 1132) Reads (((m - 108) / 256 + 251) ∷ ((m - 108) % 256) ∷ []) (28 ∷ (n / 256) ∷ (n % 256) ∷ [])
      (λ t. let w = and_both (ltb 107 m) (ltb m 1132) t in let h = ltb→lt 107 m w.0 in let k = ltb→lt m 1132 w.1 in
      read-pair ((m - 108) / 256 + 251) ((m - 108) % 256) r (omega arith) (omega arith) ∙ ap (λ (v : ℤ). number v 1) (pair-below u low deep p m ep em h k))
      (λ t. ap (λ (v : ℤ). number v 2) (short_is u low deep p m ep em (n / 256 * 256 + n % 256) (join2 n)))))

  fixed_reads : Reads (fixed_bytes (zp u) (zm u))
  unfolding fixed_bytes read_from read5
  fixed_reads = let n = (zp u + 4294967296 - zm u) % 4294967296 in ap (λ (v : ℤ). number v 4) (fixed_is u low deep (((n / 16777216 * 256 + n / 65536 % 256) * 256 + n / 256 % 256) * 256 + n % 256) (join4 n))

-- ---- WHAT IS WRITTEN READS BACK: as the number itself, to the last of its bytes, whatever follows
pub reads_back : (u : ℤ) (r : List ℕ) → T (in_range u) → read (number_bytes u ++ r) ≡ number u (length (number_bytes u) - 1)
unfolding number_bytes
reads_back u r t =
    let w = and_both (ltb (zp u) 2147483648) (ltb (zm u) 2147483649) t in
    let low = ltb→lt (zp u) 2147483648 w.0 in
    let deep = ltb→lt (zm u) 2147483649 w.1 in
    choose (eqb ((zp u + zm u) % 65536) 0) (Reads r u low deep) (whole_bytes (zp u / 65536) (zm u / 65536)) (fixed_bytes (zp u) (zm u))
    (λ t. let e : (zp u + zm u) % 65536 ≡ 0 = eqb→eq ((zp u + zm u) % 65536) 0 t in whole_reads r u low deep (zp u / 65536) (zm u / 65536) (tidy (one_sided u) e).0 (tidy (one_sided u) e).1)
    (λ t. fixed_reads r u low deep)
  where
    tidy : (zp u ≡ 0) ⊎ (zm u ≡ 0) → (zp u + zm u) % 65536 ≡ 0 → (zp u ≡ zp u / 65536 * 65536) × (zm u ≡ zm u / 65536 * 65536)
    tidy (inl z) e = (omega arith, omega arith)
    tidy (inr z) e = (omega arith, omega arith)

-- ---- how many bytes
abbrev AtMost : ℕ → List ℕ → Type 0
AtMost k bs = length bs ≤ k

not_both : (a b : Bool) → T (not (a && b)) → T a → T (not b)
not_both true true t u = absurd t
not_both true false t u = tt
not_both false b t u = absurd u

-- k is enough for the whole number p - m
pub record Enough (k p m : ℕ) : Type 0 where
  pub first : 1 ≤ k
  pub second : 107 < p + m → 2 ≤ k
  pub third : 1131 < p + m → 3 ≤ k

whole_length : (k p m : ℕ) → Enough k p m → AtMost k (whole_bytes p m)
unfolding whole_bytes
whole_length k p m e =
    choose (ltb p 108 && ltb m 108) (AtMost k) ((p + 139 - m) ∷ []) _ (λ t. e.first)
    (λ t1. choose (ltb 107 p && ltb p 1132) (AtMost k) (((p - 108) / 256 + 247) ∷ ((p - 108) % 256) ∷ []) _ (λ t. let h = ltb→lt 107 p (and_both (ltb 107 p) (ltb p 1132) t).0 in e.second (omega arith))
    (λ t2. choose (ltb 107 m && ltb m 1132) (AtMost k) (((m - 108) / 256 + 251) ∷ ((m - 108) % 256) ∷ []) _ (λ t. let h = ltb→lt 107 m (and_both (ltb 107 m) (ltb m 1132) t).0 in e.second (omega arith))
    (λ t3. e.third (large t1 t2 t3))))
  where
    large : T (not (ltb p 108 && ltb m 108)) → T (not (ltb 107 p && ltb p 1132)) → T (not (ltb 107 m && ltb m 1132)) → 1131 < p + m
    large t1 t2 t3 =
        choose (ltb p 108) (λ (x : ℕ). 1131 < p + m) 0 0
        (λ t. let h = nltb→le m 108 (not_both (ltb p 108) (ltb m 108) t1 t) in let g = nltb→le m 1132 (not_both (ltb 107 m) (ltb m 1132) t3 (lt→ltb 107 m h)) in omega arith)
        (λ t. let h = nltb→le p 108 t in let g = nltb→le p 1132 (not_both (ltb 107 p) (ltb p 1132) t2 (lt→ltb 107 p h)) in omega arith)

sub-length : (k P M : ℕ) → Enough k (P - M) (M - P) → AtMost k (number_bytes (sub_ℕ (P * 65536) (M * 65536)))
unfolding number_bytes
sub-length k P M e =
    let u = sub_ℕ (P * 65536) (M * 65536) in
    let f = parts (one_sided u) (sub_bal (P * 65536) (M * 65536)) in
    rw (is_eq ((zp u + zm u) % 65536) 0 f.0) (whole_length k (zp u / 65536) (zm u / 65536) (subst (λ (x : ℕ). Enough k x (zm u / 65536)) (sym f.1) (subst (Enough k (P - M)) (sym f.2) e)))
  where
    parts : {p m : ℕ} → (p ≡ 0) ⊎ (m ≡ 0) → p + M * 65536 ≡ m + P * 65536 → ((p + m) % 65536 ≡ 0) × (p / 65536 ≡ P - M) × (m / 65536 ≡ M - P)
    parts {p} {m} (inl z) h = (omega arith, omega arith, omega arith)
    parts {p} {m} (inr z) h = (omega arith, omega arith, omega arith)

any_length : (u : ℤ) → AtMost 5 (number_bytes u)
unfolding number_bytes fixed_bytes
any_length u =
    choose (eqb ((zp u + zm u) % 65536) 0) (AtMost 5) (whole_bytes (zp u / 65536) (zm u / 65536)) (fixed_bytes (zp u) (zm u))
    (λ t. whole_length 5 (zp u / 65536) (zm u / 65536) (record { first = omega arith; second = λ h. omega arith; third = λ h. omega arith }))
    (λ t. omega arith)

pub not_empty : (u : ℤ) → 1 ≤ length (number_bytes u)
unfolding number_bytes whole_bytes fixed_bytes
not_empty u =
    choose (eqb ((zp u + zm u) % 65536) 0) (λ (bs : List ℕ). 1 ≤ length bs) _ _
    (λ t. choose (ltb (zp u / 65536) 108 && ltb (zm u / 65536) 108) (λ (bs : List ℕ). 1 ≤ length bs) _ _ (λ t. omega arith)
    (λ t. choose (ltb 107 (zp u / 65536) && ltb (zp u / 65536) 1132) (λ (bs : List ℕ). 1 ≤ length bs) _ _ (λ t. omega arith)
    (λ t. choose (ltb 107 (zm u / 65536) && ltb (zm u / 65536) 1132) (λ (bs : List ℕ). 1 ≤ length bs) _ _ (λ t. omega arith) (λ t. omega arith))))
    (λ t. omega arith)

-- ---- what each form says
abbrev Says : ℤ → ℕ → Reading → Type 0
Says u m r = r ≡ number u m → length (number_bytes u) ≤ suc m

no : (u : ℤ) (m : ℕ) → Says u m no_number
no u m e = absurd (let z : ◌≡◌ {A = ℕ} 0 1 = cc in let y : ⊥ = omega arith in y)

that : (u v : ℤ) (m k : ℕ) → length (number_bytes v) ≤ suc k → Says u m (number v k)
that u v m k h e = let p : v ≡ u = cc in let q : k ≡ m = cc in subst (λ (x : ℤ). length (number_bytes x) ≤ suc m) p (subst (λ (j : ℕ). length (number_bytes v) ≤ suc j) q h)

three : (u : ℤ) (m : ℕ) (bs : List ℕ) → Says u m (read3 bs)
unfolding read3
three u m [] = no u m
three u m (a ∷ []) = no u m
three u m (a ∷ b ∷ bs) = that u (short (a * 256 + b)) m 2 (choose (ltb (a * 256 + b) 32768) (λ (M : ℕ). AtMost 3 (number_bytes (sub_ℕ ((a * 256 + b) * 65536) M))) 0 (65536 * 65536) (λ t. sub-length 3 (a * 256 + b) 0 all) (λ t. sub-length 3 (a * 256 + b) 65536 all))
  where
    all : {p m : ℕ} → Enough 3 p m
    all = record { first = omega arith; second = λ h. omega arith; third = λ h. omega arith }

five : (u : ℤ) (m : ℕ) (bs : List ℕ) → Says u m (read5 bs)
unfolding read5
five u m [] = no u m
five u m (a ∷ []) = no u m
five u m (a ∷ b ∷ []) = no u m
five u m (a ∷ b ∷ c ∷ []) = no u m
five u m (a ∷ b ∷ c ∷ d ∷ bs) = that u (fixed (((a * 256 + b) * 256 + c) * 256 + d)) m 4 (any_length (fixed (((a * 256 + b) * 256 + c) * 256 + d)))

two : (u : ℤ) (m b : ℕ) (bs : List ℕ) → 247 ≤ b → b < 255 → ((i : ℕ) → get_or bs i 0 < 256) → Says u m (read2 b bs)
unfolding read2
two u m b [] h k g = no u m
two u m b (w ∷ bs) h k g = that u (pair b w) m 1 (choose (ltb b 251) (λ (z : ℤ). AtMost 2 (number_bytes z)) _ _
    (λ t. let l = ltb→lt b 251 t in let y = g 0 in sub-length 2 ((b - 247) * 256 + w + 108) 0 (record { first = omega arith; second = λ h. omega arith; third = λ h. absurd (let z : ⊥ = omega arith in z) }))
    (λ t. let l = nltb→le b 251 t in let y = g 0 in sub-length 2 0 ((b - 251) * 256 + w + 108) (record { first = omega arith; second = λ h. omega arith; third = λ h. absurd (let z : ⊥ = omega arith in z) })))

by_form : (u : ℤ) (m b : ℕ) (bs : List ℕ) → ((i : ℕ) → get_or bs i 0 < 256) → Says u m (read_from b bs)
unfolding read_from
by_form u m b bs h =
    choose (eqb b 28) (Says u m) (read3 bs) _ (λ t. three u m bs)
    (λ t0. choose (ltb b 32) (Says u m) no_number _ (λ t. no u m)
    (λ t1. choose (ltb b 247) (Says u m) (number (one b) 0) _ (λ t. let l = ltb→lt b 247 t in let k = nltb→le b 32 t1 in that u (one b) m 0 (sub-length 1 b 139 (record { first = omega arith; second = λ h. absurd (let z : ⊥ = omega arith in z); third = λ h. absurd (let z : ⊥ = omega arith in z) })))
    (λ t2. choose (ltb b 255) (Says u m) (read2 b bs) _ (λ t. two u m b bs (nltb→le b 247 t2) (ltb→lt b 255 t) h)
    (λ t3. choose (eqb b 255) (Says u m) (read5 bs) no_number (λ t. five u m bs) (λ t. no u m)))))

-- ---- NOTHING SHORTER DOES: bytes that read as u are at least as many as u's
pub shortest : (u : ℤ) (c : List ℕ) (m : ℕ) → ((i : ℕ) → get_or c i 0 < 256) → read c ≡ number u m → length (number_bytes u) ≤ suc m
shortest u [] m h e = absurd (let z : ◌≡◌ {A = ℕ} 0 1 = cc in let y : ⊥ = omega arith in y)
shortest u (b ∷ bs) m h e = by_form u m b bs (λ i. h (suc i)) e
