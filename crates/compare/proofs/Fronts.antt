-- Laws: a list that agrees at each index with a front, and past its end with one value, is that front and then that value.
use mathlib.Core.Path.{◌≡◌, refl, sym, ap, ◌∙◌}
use Prim.Native.Nat.{ℕ, zero, suc, ◌+◌, ◌-◌, ◌≤◌, ◌<◌}
use native.Mathlib.Nat.{not-suc-le-zero, le_of_suc-le-suc}
use native.Mathlib.Omega.{arith}
use mathlib.Core.List.{List, [], ◌∷◌, ◌++◌}
use lib.ListN.{length, get_or, replicate, length-append, length-replicate, get_or-replicate}
use lib.Seq.{ext_get_or}
use Rattle.compare.specs.Comparisons.{padded}

module _ {A : Type 0} where
  -- at each index, whatever stands past both ends
  front_at : (front : List A) (rest d : A) (n k : ℕ) → k < length front + n → get_or (front ++ replicate n rest) k d ≡ get_or front k rest
  front_at [] rest d n k h = get_or-replicate n k rest d (omega arith)
  front_at (x ∷ xs) rest d n zero h = refl
  front_at (x ∷ xs) rest d n (suc k) h = front_at xs rest d n k (let z : k < length xs + n = omega arith in z)

  pub front_then : (d : A) (out front : List A) (rest : A) → length front ≤ length out → ((k : ℕ) → k < length out → get_or out k d ≡ get_or front k rest) → out ≡ padded front rest (length out)
  front_then d out front rest l h =
      ext_get_or d out (padded front rest (length out))
      (let e = length-append front (replicate (length out - length front) rest) in let r = length-replicate (length out - length front) rest in omega arith)
      (λ k b. h k b ∙ sym (front_at front rest d (length out - length front) k (omega arith)))

  -- and the other way: such a list agrees so, and is no shorter than the front
  pub then_front : (d : A) (out front : List A) (rest : A) → out ≡ padded front rest (length out) → (k : ℕ) → k < length out → get_or out k d ≡ get_or front k rest
  then_front d out front rest e k h =
      ap (λ (l : List A). get_or l k d) e ∙ front_at front rest d (length out - length front) k (omega arith)

  pub front_within : (out front : List A) (rest : A) → out ≡ padded front rest (length out) → length front ≤ length out
  front_within out front rest e =
      let l = ap (length {A = A}) e ∙ length-append front (replicate (length out - length front) rest) in omega arith

  -- at an index of the list, what stands past its end does not matter
  pub get_d_any : (l : List A) (i : ℕ) (d e : A) → i < length l → get_or l i d ≡ get_or l i e
  get_d_any [] i d e h = absurd (not-suc-le-zero h)
  get_d_any (x ∷ xs) zero d e h = refl
  get_d_any (x ∷ xs) (suc i) d e h = get_d_any xs i d e (le_of_suc-le-suc h)
