-- Laws: what callothersubr takes and hands back.
--     taken_few, taken-below, taken-above, taken_all      refused with 7, or not, by the tests
--     taken_told, not_taken                               what holds where it is not refused, and where it is
--     reverse_at                                          an element of the arguments in the other order
--     handed_more                                         one argument more is handed back
--     number-none, number_some, handed-none, handed_all   by whether there is room
--     whole_told                                          a flex that may be drawn runs, and has seven points
use Rattle.std.specs.Prelude.{ℕ, suc, ◌+◌, ◌-◌, ◌≤◌, ◌<◌, ◌≡◌, refl, Bool, true, false, ◌&&◌, eqb, leb, pos, get_or, set, Float}
use Rattle.std.proofs.Common.{add-one, arith, ap₂, ◌∙◌, subst, le-leb, leb-true, eqb-true}
use Rattle.std.proofs.Math.Path.{sym, ap}
use Rattle.std.proofs.Math.Bool.{cond}
use mathlib.Core.List.{List, [], ◌∷◌, ◌++◌, reverse, reverse-cons}
use Rattle.std.proofs.lemmas.Bool.{lt-leb, eqb-false}
use Rattle.std.proofs.Math.Arith.{lt_of_le-ne}
use Rattle.std.proofs.Math.ListN.{length, get_or-append}
use Rattle.std.proofs.lemmas.List.{length-reverse, get_or_at}
use Rattle.std.proofs.Math.Seq.{paste, paste-suc}
use Rattle.std.specs.Float.{nan, fin}
use Rattle.std.specs.Float.Ieee.{le, to_unsigned}
use Rattle.std.specs.Prelude.{Ok, Err}
use Rattle.refusal.specs.declared.Refusal.{Refusal}
use Rattle.refusal.specs.declared.Refusal.TheVariants.{MissingOperands}
use Rattle.othersubrs.specs.OtherSubrs.{may_take, taken, hand_number, handed_back, whole_flex}

taken_is : (held : ℕ) (v : Float) (b : Bool) → may_take held v ≡ b → taken held v ≡ cond b (Ok (to_unsigned 64 v)) (Err MissingOperands)
unfolding taken
taken_is held v b e = rw e

module _ (held : ℕ) (v : Float) where
  pub taken_few : held < 2 → Err MissingOperands ≡ taken held v
  taken_few h = sym (taken_is held v false (ap (λ (b : Bool). b && (le (fin false 0 (pos 0)) v && leb (to_unsigned 64 v) (held - 2))) (lt-leb 2 held h)))

  module _ (h : 2 ≤ held) where
    pub taken-below : le (fin false 0 (pos 0)) v ≡ false → Err MissingOperands ≡ taken held v
    taken-below e = sym (taken_is held v false (ap₂ (λ (a b : Bool). a && (b && leb (to_unsigned 64 v) (held - 2))) (le-leb 2 held h) e))

    module _ (e : le (fin false 0 (pos 0)) v ≡ true) (n : ℕ) (is : n ≡ to_unsigned 64 v) where
      pub taken-above : held - 2 < n → Err MissingOperands ≡ taken held v
      taken-above l = sym (taken_is held v false (ap₂ (λ (a b : Bool). a && (b && leb (to_unsigned 64 v) (held - 2))) (le-leb 2 held h) e ∙ lt-leb (to_unsigned 64 v) (held - 2) (omega arith)))

      pub taken_all : n ≤ held - 2 → Ok n ≡ taken held v
      taken_all l = rw is (sym (taken_is held v true (ap₂ (λ (a b : Bool). a && (b && leb (to_unsigned 64 v) (held - 2))) (le-leb 2 held h) e ∙ le-leb (to_unsigned 64 v) (held - 2) (omega arith))))

  may_told : may_take held v ≡ true → (le (fin false 0 (pos 0)) v ≡ true) × (to_unsigned 64 v ≤ held - 2)
  may_told e = let p = both (leb 2 held) _ e in let q = both _ _ p.1 in (q.0, leb-true _ _ q.1)
    where
      both : (a b : Bool) → a && b ≡ true → (a ≡ true) × (b ≡ true)
      both true b e = (refl, e)
      both false b e = (e, cc)

  -- what holds where the arguments are taken
  pub taken_told : (n : ℕ) → Ok n ≡ taken held v → (le (fin false 0 (pos 0)) v ≡ true) × (n ≡ to_unsigned 64 v) × (n ≤ held - 2)
  taken_told n is = by_test (may_take held v) refl
    where
      by_test : (b : Bool) → may_take held v ≡ b → (le (fin false 0 (pos 0)) v ≡ true) × (n ≡ to_unsigned 64 v) × (n ≤ held - 2)
      by_test true q =
          let t = may_told q in
          let e : n ≡ to_unsigned 64 v = cc (is, taken_is held v true q) in
          (t.0, e, omega (arith, t.1))
      by_test false q = let z : ◌≡◌ {A = ℕ} 0 1 = cc (is, taken_is held v false q) in absurd (let y : ⊥ = omega arith in y)

  pub not_taken : (r : Refusal) → Err r ≡ taken held v → (may_take held v ≡ false) × (r ≡ MissingOperands)
  not_taken r is = by_test (may_take held v) refl
    where
      by_test : (b : Bool) → may_take held v ≡ b → (may_take held v ≡ false) × (r ≡ MissingOperands)
      by_test true q = let z : ◌≡◌ {A = ℕ} 0 1 = cc (is, taken_is held v true q) in absurd (let y : ⊥ = omega arith in y)
      by_test false q = (q, cc (is, taken_is held v false q))

-- ---- handing back
pub reverse_at : (l : List Float) (i : ℕ) → i < length l → get_or (reverse l) i nan ≡ get_or l (length l - 1 - i) nan
reverse_at [] i h = absurd (let z : ⊥ = omega arith in z)
reverse_at (x ∷ l) i h = ap (λ (q : List Float). get_or q i nan) (reverse-cons x l) ∙ split (eqb i (length l)) refl (λ k. reverse_at l i k)
  where
    split : (b : Bool) → eqb i (length l) ≡ b → (i < length l → get_or (reverse l) i nan ≡ get_or l (length l - 1 - i) nan) → get_or (reverse l ++ (x ∷ [])) i nan ≡ get_or (x ∷ l) (length (x ∷ l) - 1 - i) nan
    split true q rec =
        let e = eqb-true i (length l) q in
        get_or_at (reverse l) x [] nan i (length-reverse l ∙ sym e) ∙ ap (λ (k : ℕ). get_or (x ∷ l) k nan) (let z : 0 ≡ suc (length l) - 1 - i = omega arith in z)
    split false q rec =
        let g : i ≤ length l = omega arith in
        let k = lt_of_le-ne g (eqb-false i (length l) q) in
        get_or-append (reverse l) (x ∷ []) nan i (subst (λ (n : ℕ). i < n) (sym (length-reverse l)) k) ∙ rec k ∙ ap (λ (n : ℕ). get_or (x ∷ l) n nan) (let z : suc (length l - 1 - i) ≡ suc (length l) - 1 - i = omega arith in z)

pub handed_more : (args stack : List Float) (held i : ℕ) → i < length args → held + length args ≤ length stack → set (paste stack held (reverse args) i) (held + i) (get_or args (length args - 1 - i) nan) ≡ paste stack held (reverse args) (i + 1)
handed_more args stack held i h l =
    ap (set (paste stack held (reverse args) i) (held + i)) (sym (reverse_at args i h))
    ∙ paste-suc stack held (reverse args) i nan (omega arith) (subst (λ (n : ℕ). i < n) (sym (length-reverse args)) h)
    ∙ ap (paste stack held (reverse args)) (sym (add-one i))

module _ (args stack : List Float) (held : ℕ) where
  pub number-none : 256 < held + length args → 15 ≡ hand_number held (length args)
  number-none h = sym (ap (λ (b : Bool). cond b 0 15) (lt-leb (held + length args) 256 h))

  pub number_some : held + length args ≤ 256 → 0 ≡ hand_number held (length args)
  number_some h = sym (ap (λ (b : Bool). cond b 0 15) (le-leb (held + length args) 256 h))

  pub handed-none : 256 < held + length args → stack ≡ handed_back args held stack
  unfolding handed_back
  handed-none h = sym (ap (λ (b : Bool). cond b (paste stack held (reverse args) (length args)) stack) (lt-leb (held + length args) 256 h))

  pub handed_all : held + length args ≤ 256 → handed_back args held stack ≡ paste stack held (reverse args) (length args)
  unfolding handed_back
  handed_all h = ap (λ (b : Bool). cond b (paste stack held (reverse args) (length args)) stack) (le-leb (held + length args) 256 h)

-- ---- flex
pub whole_told : (flexing : Bool) (points : ℕ) → whole_flex flexing points ≡ true → (flexing ≡ true) × (points ≡ 7)
whole_told true points e = (refl, eqb-true points 7 e)
whole_told false points e = (e, cc)
