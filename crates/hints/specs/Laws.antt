-- Laws: stems in arrays, one by one.
--     among_more, among_at       none of the first i is the stem, nor is the one at i; the one at i is
--     cut_below                  256 or fewer are not cut
--     cut_min                    the lesser of the count and 256
--     force_at, force_none       what `in_force` is when the stems have been gone through
--     may_quiet, may_none, may_count       what `may_be_last` is, by its tests
--     group_number_lem               16 or 17, by the two tests
use Prim.Native.Nat.{ℕ, zero, suc, ◌+◌, ◌*◌, ◌≤◌, ◌<◌}
use Rattle.std.proofs.Common.{pos_of_ne-zero, add-one, ◌∙◌, eqb-true, lt-ltb, le-ltb, ltb-false, min, ltb-true}
use native.Mathlib.Omega.{arith}
use Rattle.std.specs.Prelude.{◌≡◌, Bool, cond, ◌&&◌, ◌||◌, List, leb, ltb, Float}
use Rattle.std.proofs.Math.Path.{refl, sym, ap, ap₂}
use Rattle.std.proofs.Math.Bool.{true, false}
use Rattle.std.proofs.lemmas.Bool.{eqb-false}
use Rattle.std.proofs.Math.Dec.{eqb}
use Rattle.std.proofs.Math.Arith.{lt_of_le-ne}
use Rattle.outline.specs.declared.Stem.{Stem}
use Rattle.outline.specs.Outline.{pick}
use Rattle.outline.specs.Store.{entry_words}
use Rattle.hints.specs.Hints.{same_at, is_among, cut, in_force, may_be_last, group_refusal, refused_group}

or-true : (b : Bool) → (b || true) ≡ true
or-true true = refl
or-true false = refl

and-false : (b : Bool) → (b && false) ≡ false
and-false true = refl
and-false false = refl

pub cut_below : (n : ℕ) → n ≤ 256 → cut n ≡ n
cut_below n h = by_test (ltb n 256) refl
  where
    by_test : (b : Bool) → ltb n 256 ≡ b → cond b n 256 ≡ n
    by_test true q = refl
    by_test false q = let k = ltb-false n 256 q in omega arith

pub cut_min : (n : ℕ) → min n 256 ≡ cut n
cut_min n = by_test (ltb n 256) refl
  where
    by_test : (b : Bool) → ltb n 256 ≡ b → min n 256 ≡ cond b n 256
    by_test true q = let k = ltb-true n 256 q in omega arith
    by_test false q = let k = ltb-false n 256 q in omega arith

-- ---- stems in arrays
module _ (e : List Float) (a : List Bool) where
  module _ (s : Stem) where
    pub among_more : (i : ℕ) → is_among i e a s ≡ false → same_at e a i s ≡ false → is_among (i + 1) e a s ≡ false
    unfolding is_among
    among_more i l k = ap (λ (n : ℕ). is_among n e a s) (add-one i) ∙ ap₂ (λ (x y : Bool). x || y) l k

    pub among_at : (i n : ℕ) → i < n → same_at e a i s ≡ true → is_among n e a s ≡ true
    unfolding is_among
    among_at i zero l k = absurd (let z : ⊥ = omega arith in z)
    among_at i (suc n) l k = split (eqb i n) refl (λ b. among_at i n b k)
      where
        split : (b : Bool) → eqb i n ≡ b → (i < n → is_among n e a s ≡ true) → (is_among n e a s || same_at e a n s) ≡ true
        split true q rec = ap (λ (x : Bool). is_among n e a s || x) (ap (λ (j : ℕ). same_at e a j s) (sym (eqb-true i n q)) ∙ k) ∙ or-true (is_among n e a s)
        split false q rec = let g : i ≤ n = omega arith in ap (λ (x : Bool). x || same_at e a n s) (rec (lt_of_le-ne g (eqb-false i n q)))

  -- ---- of so many, cut at 256
  module _ (s : Stem) (count n : ℕ) (is : n ≡ cut count) where
    pub force_at : (i : ℕ) → i < n → same_at e a i s ≡ true → true ≡ in_force count e a s
    unfolding in_force
    force_at i l k = sym (ap (λ (j : ℕ). is_among j e a s) (sym is) ∙ among_at s i n l k)

    pub force_none : (i : ℕ) → i ≤ n → n ≤ i → is_among i e a s ≡ false → false ≡ in_force count e a s
    unfolding in_force
    force_none i l m k = sym (ap (λ (j : ℕ). is_among j e a s) (let z : cut count ≡ i = omega arith in z) ∙ k)

-- ---- whether the stems in force can be the last group's
pub may_quiet : (c : Bool) (g l n : ℕ) → c ≡ false → false ≡ may_be_last c g l n
unfolding may_be_last
may_quiet c g l n h = sym (ap (λ (b : Bool). b && (ltb 0 g && eqb l n)) h)

pub may_none : (c : Bool) (g l n : ℕ) → g ≡ 0 → false ≡ may_be_last c g l n
unfolding may_be_last
may_none c g l n h = sym (ap (λ (b : Bool). c && (b && eqb l n)) (le-ltb 0 g (omega arith)) ∙ and-false c)

pub may_count : (c : Bool) (g l n : ℕ) → c ≡ true → (g ≡ 0 → ⊥) → eqb l n ≡ may_be_last c g l n
unfolding may_be_last
may_count c g l n h k = sym (ap₂ (λ (a b : Bool). a && (b && eqb l n)) h (lt-ltb 0 g (pos_of_ne-zero k)))

-- ---- a new group
pub group_number_lem : (groups records used n words entries : ℕ) (b d : Bool) → (leb (groups + 1) 256 && leb (used + n) records) ≡ b → leb (entry_words * (entries + 1)) words ≡ d → refused_group groups records used n words entries ≡ cond b (cond d 0 17) 16
unfolding refused_group
group_number_lem groups records used n words entries b d p q = by_tests (leb (groups + 1) 256) (leb (used + n) records) (leb (entry_words * (entries + 1)) words) ∙ ap₂ (λ (x y : Bool). cond x (cond y 0 17) 16) p q
  where
    by_tests : (x y z : Bool) → group_refusal (pick x 0 16) (pick y 0 16) (pick z 0 17) ≡ cond (x && y) (cond z 0 17) 16
    by_tests true true true = refl
    by_tests true true false = refl
    by_tests true false z = refl
    by_tests false y z = refl
