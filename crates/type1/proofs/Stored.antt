-- Records stored one after the other. Assumes nothing.
use mathlib.Core.Path.{◌≡◌, refl, sym, ◌∙◌, ap, subst}
use Prim.Native.Nat.{ℕ, zero, suc, ◌+◌, ◌<◌, ◌≤◌, ◌^◌}
use native.Mathlib.Omega.{arith}
use native.Mathlib.Numerals.{add-one}
use native.Mathlib.Nat.{zero-add}
use mathlib.Core.Bool.{Bool, true, false, not}
use mathlib.Core.List.{List, [], ◌∷◌, ◌++◌, append-nil}
use lib.ListN.{length, take, get_or, set, length-append, get_or-append, drop_of_length-le}
use lib.Seq.{paste, paste-suc, take_all, get_or_at}
use lib.Dec.{T, ltb, ltb→lt, nltb→le}
use lib.Ieee.{Float}
use Rattle.outline.specs.declared.Stem.{Stem}
use Rattle.outline.specs.Outline.{zero_stem}
use Rattle.hints.specs.Hints.{stem_at}
use Rattle.type1.specs.Memory.{stems_at}

not_below : (i n : ℕ) → ltb i n ≡ false → n ≤ i
not_below i n is = nltb→le i n (subst (λ (c : Bool). T (not c)) (sym is) tt)

pub length-stems_at : (f n : ℕ) (e : List Float) (a : List Bool) → length (stems_at f n e a) ≡ n
unfolding stems_at
length-stems_at f zero e a = refl
length-stems_at f (suc n) e a = length-append (stems_at f n e a) (stem_at e a (f + n) ∷ []) ∙ ap (λ (k : ℕ). k + 1) (length-stems_at f n e a) ∙ add-one n

-- the last, or one before it
at_end : {A : Type 0} (l : List A) (x : A) (n i : ℕ) (d y : A) → length l ≡ n → i < suc n → (i < n → get_or l i d ≡ y) → (i ≡ n → x ≡ y) → get_or (l ++ (x ∷ [])) i d ≡ y
at_end l x n i d y len h before last = go (ltb i n) refl
  where
    go : (c : Bool) → ltb i n ≡ c → get_or (l ++ (x ∷ [])) i d ≡ y
    go true is = let lt : i < n = ltb→lt i n (subst T (sym is) tt) in get_or-append l (x ∷ []) d i (subst (λ (k : ℕ). i < k) (sym len) lt) ∙ before lt
    go false is = let is-n : i ≡ n = omega (arith, h, not_below i n is) in ap (λ (k : ℕ). get_or (l ++ (x ∷ [])) k d) is-n ∙ get_or_at l x [] d n len ∙ last is-n

pub get_d_stems_at : (f n : ℕ) (e : List Float) (a : List Bool) (i : ℕ) (d : Stem) → i < n → get_or (stems_at f n e a) i d ≡ stem_at e a (f + i)
unfolding stems_at
get_d_stems_at f zero e a i d h = absurd (omega (arith, h))
get_d_stems_at f (suc n) e a i d h =
    at_end (stems_at f n e a) (stem_at e a (f + n)) n i d (stem_at e a (f + i)) (length-stems_at f n e a) h (get_d_stems_at f n e a i d) (λ e'. ap (λ (k : ℕ). stem_at e a (f + k)) (sym e'))

-- a turn of a loop that stores: one more is as in s
module _ {A : Type 0} (ys : List A) where
  pub stored_one : (d : A) (at : ℕ) (s : List A) (i k : ℕ) (zs us : List A) (v : A) → at + i < length ys → i < length s → k ≡ at + i → zs ≡ paste ys at s i → v ≡ get_or s i d → us ≡ set zs k v → us ≡ paste ys at s (i + 1)
  stored_one d at s i k zs us v h l ek ez ev eu =
      eu ∙ ap (λ (j : ℕ). set zs j v) ek ∙ ap (λ (l : List A). set l (at + i) v) ez ∙ ap (set (paste ys at s i) (at + i)) ev ∙ paste-suc ys at s i d h l ∙ ap (paste ys at s) (sym (add-one i))

  -- once all are stored
  pub all_stored : (at : ℕ) (s : List A) (i n : ℕ) (zs : List A) → ltb i n ≡ false → i ≤ n → zs ≡ paste ys at s i → zs ≡ paste ys at s n
  all_stored at s i n zs over le e = let reached : i ≡ n = omega (arith, le, not_below i n over) in e ∙ ap (paste ys at s) reached

  pub paste_all : (s : List A) (n : ℕ) → length ys ≡ n → length s ≡ n → paste ys 0 s n ≡ s
  paste_all s n ey es = ap (λ (l : List A). take 0 ys ++ take n s ++ l) (drop_of_length-le ys {i = 0 + n} (omega (arith, ey))) ∙ append-nil (take 0 ys ++ take n s) ∙ take_all n s (omega (arith, es))

pub next_fits : (i n : ℕ) → i < n → n < 2 ^ 64 → i + 1 < 2 ^ 64
next_fits i n h k = omega (arith, h, k)

pub grows : (i : ℕ) → i < i + 1
grows i = omega arith

pub in_store : (at i n m : ℕ) → i < n → at + n ≤ m → at + i < m
in_store at i n m h k = omega (arith, h, k)

pub sum_fits : (at i n m : ℕ) → i < n → at + n ≤ m → m < 2 ^ 64 → at + i < 18446744073709551616
sum_fits at i n m h k f = omega (arith, h, k, f)

pub first_stems : (n : ℕ) (e : List Float) (a : List Bool) (i : ℕ) → i < n → get_or (stems_at 0 n e a) i zero_stem ≡ stem_at e a i
first_stems n e a i h = get_d_stems_at 0 n e a i zero_stem h ∙ ap (stem_at e a) (zero-add i)
