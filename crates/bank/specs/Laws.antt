-- Laws: the subroutine bank.
--     valid_is, is_valid, not_valid    the test is the layout, both ways
--     offset_last                      no offset of a valid bank is above the last
--     found_within                     what is found lies within the bank, valid or not
--     found-body                       in a valid bank, what is found is the body
--     body_some, body-none             body n exists exactly where n is below the count
--     body-length                      a body has at most the bank's bytes
--     called-below, called_is          a call of a number below 0, and of any other
use Rattle.std.specs.Prelude.{ℕ, zero, suc, ◌+◌, ◌-◌, ◌*◌, ◌<◌, ◌≤◌, Bool, ◌&&◌, List, pos, Float, leb, ltb}
use Rattle.std.proofs.Common.{eq-or-lt_of_le, le_of_suc-le-suc, sym, ap, ◌∙◌, ⊎_elim, length-take, length-drop}
use native.Mathlib.Omega.{arith}
use Rattle.std.proofs.Math.Path.{◌≡◌, refl}
use Rattle.std.proofs.Math.Bool.{true, false}
use Rattle.std.proofs.Math.Option.{none, some}
use Rattle.std.specs.Float.{fin}
use Rattle.std.specs.Float.Ieee.{le, to_unsigned}
use borrow.Author.Tests.{lt-ltb, le-ltb, le-leb, eq-eqb, ltb-true, ltb-false, leb-true, eqb-true}
use Rattle.std.proofs.Math.ListN.{length}
use Rattle.std.specs.Prelude.{Option, Some, None, Err}
use Rattle.std.specs.declared.ops.Range.{Range}
use Rattle.refusal.specs.declared.Refusal.TheVariants.{NoSuchSubroutine}
use Rattle.bank.specs.Call.{counted, called}
use Rattle.bank.specs.Bank.{be32, count, offset, Valid, rises, valid, part, body_start, body_end, body, Within, within, found, body_at}

pub both : (a b : Bool) → a && b ≡ true → (a ≡ true) × (b ≡ true)
both true b e = (refl, e)
both false b e = (e, cc)

refuted : (b : Bool) → (b ≡ true → ⊥) → b ≡ false
refuted true h = absurd (h refl)
refuted false h = refl

module _ (bank : List ℕ) where
  pub rises_at : (n i : ℕ) → rises bank n ≡ true → i < n → offset bank i ≤ offset bank (suc i)
  rises_at zero i e h = omega arith
  rises_at (suc n) i e h =
      let p = both (rises bank n) (leb (offset bank n) (offset bank (suc n))) e in
      ⊎_elim
      (λ same. rw same (leb-true _ _ p.1))
      (λ below. rises_at n i p.0 below)
      (eq-or-lt_of_le (le_of_suc-le-suc h))

  pub at_rises : (n : ℕ) → ((i : ℕ) → i < n → offset bank i ≤ offset bank (suc i)) → rises bank n ≡ true
  at_rises zero all = refl
  at_rises (suc n) all = rw (at_rises n (λ i h. all i (omega arith)), le-leb _ _ (all n (omega arith)))

  pub valid_is : valid bank ≡ true → Valid bank
  unfolding valid
  valid_is e =
      let p = both _ _ e in
      let q = both _ _ p.1 in
      let r = both _ _ q.1 in
      record {
        table = leb-true _ _ p.0;
        first = eqb-true _ _ q.0;
        rising = λ i h. rises_at (count bank) i r.0 h;
        last = eqb-true _ _ r.1;
      }

  pub is_valid : Valid bank → valid bank ≡ true
  unfolding valid
  is_valid v = rw (le-leb _ _ v.table, eq-eqb _ _ v.first, at_rises (count bank) v.rising, eq-eqb _ _ v.last)

  pub not_valid : (Valid bank → ⊥) → valid bank ≡ false
  not_valid h = refuted (valid bank) (λ e. h (valid_is e))

  -- ---- where a body lies

  -- the place of the next offset
  pub offset-suc : (i : ℕ) → offset bank (suc i) ≡ be32 bank (6 + 4 * i)
  offset-suc i = ap (be32 bank) (omega arith)

  module _ (n : ℕ) where
    within_is : within n bank ≡ true → Within n bank
    within_is e =
        let p = both _ _ e in
        let q = both _ _ p.1 in
        record { below = ltb-true _ _ p.0; order = leb-true _ _ q.0; end = leb-true _ _ q.1 }

    pub found_at : Within n bank → found n bank ≡ Some (record { start = body_start n bank; end = body_end n bank })
    unfolding found
    found_at w = rw (lt-ltb _ _ w.below, le-leb _ _ w.order, le-leb _ _ w.end)

    pub found_not : (Within n bank → ⊥) → found n bank ≡ None
    unfolding found
    found_not h = rw (refuted (within n bank) (λ e. h (within_is e)))

    -- what is found lies within the bank, valid or not
    pub found_within : {r : Range ℕ} → found n bank ≡ Some r → (r.start ≤ r.end) × (r.end ≤ length bank)
    unfolding found
    found_within {r} e = by_test (within n bank) refl
      where
        by_test : (t : Bool) → within n bank ≡ t → (r.start ≤ r.end) × (r.end ≤ length bank)
        by_test true is =
            let w = within_is is in
            let p : record { start = body_start n bank; end = body_end n bank } ≡ r = cc (found_at w, e) in
            let q = ap (λ (x : Range ℕ). x.start) p in
            let u = ap (λ (x : Range ℕ). x.end) p in
            (omega (arith, w.order), omega (arith, w.end))
        by_test false is =
            let no : found n bank ≡ None = rw is in
            let z : ◌≡◌ {A = ℕ} 0 1 = cc (no, e) in
            omega arith

  -- no offset of a valid bank is above the last
  pub offset_last : Valid bank → (i j : ℕ) → i + j ≡ count bank → offset bank i ≤ offset bank (count bank)
  offset_last v i zero e = let p : i ≡ count bank = omega arith in omega (arith, ap (offset bank) p)
  offset_last v i (suc j) e = omega (arith, v.rising i (omega arith), offset_last v (suc i) j (omega arith))

  pub valid-within : (n : ℕ) → Valid bank → n < count bank → Within n bank
  valid-within n v h =
      record {
        below = h;
        order = v.rising n h;
        end = omega (arith, v.table, v.last, offset_last v (suc n) (count bank - suc n) (omega arith));
      }

  -- ---- the bodies of a valid bank

  pub body_some : (n : ℕ) → n < count bank → body n bank ≡ some (part (body_start n bank) (body_end n bank) bank)
  unfolding body
  body_some n h = rw (lt-ltb _ _ h)

  pub body-none : (n : ℕ) → count bank ≤ n → body n bank ≡ none
  unfolding body
  body-none n h = rw (le-ltb _ _ h)

  pub found-body : (n : ℕ) → Valid bank → body_at (found n bank) bank ≡ body n bank
  found-body n v = by_test (ltb n (count bank)) refl
    where
      by_test : (t : Bool) → ltb n (count bank) ≡ t → body_at (found n bank) bank ≡ body n bank
      by_test true e =
          let h = ltb-true _ _ e in
          ap (λ (f : Option (Range ℕ)). body_at f bank) (found_at n (valid-within n v h)) ∙ sym (body_some n h)
      by_test false e =
          let h = ltb-false _ _ e in
          ap (λ (f : Option (Range ℕ)). body_at f bank) (found_not n (λ w. omega (arith, w.below))) ∙ sym (body-none n h)

  -- the length of a body
  pub part_length : (n : ℕ) → Within n bank → length (part (body_start n bank) (body_end n bank) bank) ≡ offset bank (suc n) - offset bank n
  part_length n w = simp (length-take, length-drop) (omega (arith, w.end, w.order))

  pub body-length : (n : ℕ) {l : List ℕ} → body n bank ≡ some l → length l ≤ length bank
  body-length n {l} e = by_test (ltb n (count bank)) refl
    where
      by_test : (t : Bool) → ltb n (count bank) ≡ t → length l ≤ length bank
      by_test true is =
          let p : part (body_start n bank) (body_end n bank) bank ≡ l = cc (body_some n (ltb-true _ _ is), e) in
          rw (← p) (simp (length-take, length-drop) (omega arith))
      by_test false is =
          let z : ◌≡◌ {A = ℕ} 0 1 = cc (body-none n (ltb-false _ _ is), e) in
          omega arith

  -- ---- calls

  module _ (v : Float) (ran : ℕ) where
    pub called-below : le (fin false 0 (pos 0)) v ≡ false → called bank v ran ≡ Err NoSuchSubroutine
    unfolding called
    called-below e = rw e

    pub called_is : le (fin false 0 (pos 0)) v ≡ true → (n : ℕ) → n ≡ to_unsigned 64 v → (f : Option (Range ℕ)) → found n bank ≡ f → called bank v ran ≡ counted n ran f
    unfolding called
    called_is e n q f p = rw (e, ← q, p)
