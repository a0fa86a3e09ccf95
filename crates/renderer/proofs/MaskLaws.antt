-- Laws: the spare bits of a mask, as `after_mask` tests them.
use mathlib.Core.Path.{◌≡◌, refl, sym, ap, ◌∙◌, subst}
use Prim.Native.Nat.{ℕ, zero, suc, ◌+◌, ◌-◌, ◌*◌, ◌/◌, ◌%◌, ◌≤◌, ◌<◌, min}
use native.Mathlib.Nat.{pos_of_ne-zero}
use native.Mathlib.Omega.{arith}
use mathlib.Core.Bool.{Bool, true, false, not, ◌&&◌, cond}
use mathlib.Core.List.{List, [], ◌∷◌, ◌++◌, append-nil, append_assoc}
use lib.ListN.{length, take, drop, get_or, length-drop, length-take}
use lib.Seq.{take-suc, get_or-drop, drop-append-add}
use lib.Dec.{T, leb, ltb, eqb, ltb→lt}
use borrow.Author.Tests.{eqb-true, eqb-false}
use Rattle.renderer.specs.Machine.{bits, bits_of, none_set}
use Rattle.type2.specs.Bools.{is_le, not_le, and_both}
use Rattle.renderer.specs.Reads.{after_mask}
use Rattle.std.specs.Prelude.{Some, None}
use Rattle.std.specs.Bool.{then_some}

-- ---- a test that holds of each number below n, computed
unfoldable all_below : ℕ → (ℕ → Bool) → Bool
all_below zero f = true
all_below (suc n) f = f n && all_below n f

below : (n : ℕ) (f : ℕ → Bool) → T (all_below n f) → (i : ℕ) → i < n → T (f i)
unfolding all_below
below zero f t i h = absurd (let z : ⊥ = omega arith in z)
below (suc n) f t i h = pick_out (eqb i n) refl (below n f (and_both (f n) (all_below n f) t).1 i)
  where
    pick_out : (x : Bool) → eqb i n ≡ x → (i < n → T (f i)) → T (f i)
    pick_out true e k = subst (λ (m : ℕ). T (f m)) (sym (eqb-true i n e)) (and_both (f n) (all_below n f) t).0
    pick_out false e k = k (let z = eqb-false i n e in omega arith)

abbrev pub powers : List ℕ
powers = 1 ∷ 2 ∷ 4 ∷ 8 ∷ 16 ∷ 32 ∷ 64 ∷ 128 ∷ []

unfoldable agree : Bool → Bool → Bool
agree a b = cond a b (not b)

agrees : (a b : Bool) → T (agree a b) → a ≡ b
unfolding agree
agrees true true t = refl
agrees true false t = absurd t
agrees false true t = absurd t
agrees false false t = refl

unfoldable test : ℕ → ℕ → Bool
test j v = agree (none_set (drop (8 - j) (bits_of 8 v))) (eqb (v % get_or powers j 0) 0)

tested : T (all_below 8 (λ j. all_below 256 (test j)))
unfolding all_below test agree none_set bits_of
tested = tt

low_bits : (j v : ℕ) → j < 8 → v < 256 → none_set (drop (8 - j) (bits_of 8 v)) ≡ eqb (v % get_or powers j 0) 0
unfolding test
low_bits j v h k = agrees _ _ (below 256 (test j) (below 8 (λ j. all_below 256 (test j)) tested j h) v k)

powers_tested : T (all_below 8 (λ j. ltb 0 (get_or powers j 0)))
unfolding all_below
powers_tested = tt

power_positive : (j : ℕ) → j < 8 → 0 < get_or powers j 0
power_positive j h = ltb→lt 0 (get_or powers j 0) (below 8 (λ j. ltb 0 (get_or powers j 0)) powers_tested j h)

pub power_at : (n : ℕ) → 0 < get_or powers ((n + 7) / 8 * 8 - n) 0
power_at n = power_positive ((n + 7) / 8 * 8 - n) (omega arith)

-- ---- the bits of bytes
bits_more : (l : List ℕ) (v : ℕ) → bits (l ++ (v ∷ [])) ≡ bits l ++ bits_of 8 v
unfolding bits
bits_more [] v = append-nil (bits_of 8 v)
bits_more (b ∷ l) v = ap (λ (x : List Bool). bits_of 8 b ++ x) (bits_more l v) ∙ sym (append_assoc (bits_of 8 b) (bits l) (bits_of 8 v))

bits-length : (l : List ℕ) → length (bits l) ≡ length l * 8
unfolding bits bits_of
bits-length [] = refl
bits-length (b ∷ l) = let h = bits-length l in omega arith

-- the spare bits of n stems in k bytes, of which the last is v
spare-bits : (n k : ℕ) (bs : List ℕ) (v : ℕ) → k * 8 < n + 8 → n ≤ k * 8 → 1 ≤ k → k ≤ length bs → v ≡ get_or bs (k - 1) 0 → v < 256
    → none_set (drop n (bits (take k bs))) ≡ eqb (v % get_or powers (k * 8 - n) 0) 0
spare-bits n k bs v a b c d e h =
    let i = k - 1 in
    let p : k ≡ suc i = omega arith in
    let t : take k bs ≡ take i bs ++ (v ∷ []) = ap (λ (x : ℕ). take x bs) p ∙ take-suc bs i 0 (omega arith) ∙ ap (λ (x : ℕ). take i bs ++ (x ∷ [])) (sym e) in
    let l : length (take i bs) ≡ i = length-take i bs ∙ (let z : min i (length bs) ≡ i = omega arith in z) in
    let m = bits-length (take i bs) in
    let q : n ≡ length (bits (take i bs)) + (8 - (k * 8 - n)) = omega arith in
    ap (λ (x : List ℕ). none_set (drop n (bits x))) t
    ∙ ap (λ (x : List Bool). none_set (drop n x)) (bits_more (take i bs) v)
    ∙ ap (λ (x : ℕ). none_set (drop x (bits (take i bs) ++ bits_of 8 v))) q
    ∙ ap none_set (drop-append-add (bits (take i bs)) (bits_of 8 v) (8 - (k * 8 - n)))
    ∙ low_bits (k * 8 - n) v (omega arith) h

-- ---- what `after_mask` answers
module _ (P : List ℕ) (at n : ℕ) (inside : at ≤ length P) where
  pub mask-cut : length P - at < (n + 7) / 8 → None ≡ after_mask P at n
  unfolding after_mask
  mask-cut h = let d = length-drop at P in rw (not_le ((n + 7) / 8) (length (drop at P)) (omega arith))

  pub mask-none : n ≡ 0 → Some at ≡ after_mask P at n
  unfolding after_mask bits none_set
  mask-none e = rw (e, is_le 0 (length (drop at P)) (omega arith)) (let z : at ≡ at + 0 = omega arith in ap Some z)

  module _ (some : n ≡ 0 → ⊥) (room : (n + 7) / 8 ≤ length P - at) (v : ℕ) (last : v ≡ get_or P (at + (n + 7) / 8 - 1) 0) (byte : v < 256) where
    spares : none_set (drop n (bits (take ((n + 7) / 8) (drop at P)))) ≡ eqb (v % get_or powers ((n + 7) / 8 * 8 - n) 0) 0
    spares =
        let q = pos_of_ne-zero some in
        let d = length-drop at P in
        spare-bits n ((n + 7) / 8) (drop at P) v (omega arith) (omega arith) (omega arith) (omega arith)
        (last ∙ sym (get_or-drop at P ((n + 7) / 8 - 1) 0 ∙ ap (λ (x : ℕ). get_or P x 0) (let z : at + ((n + 7) / 8 - 1) ≡ at + (n + 7) / 8 - 1 = omega arith in z))) byte

    fitting : leb ((n + 7) / 8) (length (drop at P)) ≡ true
    fitting = let d = length-drop at P in is_le ((n + 7) / 8) (length (drop at P)) (omega arith)

    pub mask_tested : then_some (eqb (v % get_or powers ((n + 7) / 8 * 8 - n) 0) 0) (at + (n + 7) / 8) ≡ after_mask P at n
    unfolding after_mask
    mask_tested = rw (fitting, spares) (chosen (eqb (v % get_or powers ((n + 7) / 8 * 8 - n) 0) 0))
      where
        chosen : (b : Bool) → then_some b (at + (n + 7) / 8) ≡ cond b (Some (at + (n + 7) / 8)) None
        chosen true = refl
        chosen false = refl
