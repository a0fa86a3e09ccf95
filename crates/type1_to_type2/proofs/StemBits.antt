-- Laws: a group's mask, one stem at a time: which bit its stem sets.
use mathlib.Core.Path.{◌≡◌, refl, sym, ap, ap₂, ◌∙◌, subst}
use Prim.Native.Nat.{ℕ, zero, suc, ◌+◌, ◌-◌, ◌≤◌, ◌<◌}
use native.Mathlib.Omega.{arith}
use mathlib.Core.Bool.{Bool, true, false, not, ◌&&◌, ◌||◌, beq, or-false, or-true, and-true, and-false}
use mathlib.Core.List.{List, [], ◌∷◌, ◌++◌}
use borrow.Author.Tests.{eqb-true, eqb-false, ltb-true, ltb-false, lt-ltb, ne_eqb, eq-eqb}
use lib.Dec.{eqb, ltb}
use lib.ListN.{length, get_or, set, length-set, length-append, get_or-append}
use lib.Seq.{ext_get_or, get_or-set_same, get_or-set_other, get_or-append-add}
use lib.Ieee.{Float, eq}
use Rattle.sorting.proofs.Places.{and-true as both_true}
use Rattle.outline.specs.declared.Stem.{Stem}
use Rattle.outline.specs.Outline.{same_stem, is_in}
use Rattle.type1_to_type2.specs.Stems.{mask_of}
use Rattle.type1_to_type2.specs.Table.{table_stems}
use Rattle.type1_to_type2.specs.Collecting.{table_stem, Finds}
use Rattle.type1_to_type2.specs.Places.{places_from, PlacePut}
use Rattle.type1_to_type2.specs.Passes.{both, Listed, ListsMore}
use Rattle.type1_to_type2.proofs.StemOrder.{same_both}
use Rattle.type1_to_type2.proofs.TableLaws.{table_length, table_at}

-- ---- masks
in_more : (l : List Stem) (t s : Stem) → is_in (l ++ (t ∷ [])) s ≡ (is_in l s || same_stem t s)
unfolding is_in
in_more [] t s = or-false (same_stem t s)
in_more (u ∷ l) t s = ap (λ (b : Bool). same_stem u s || b) (in_more l t s) ∙ assoc (same_stem u s) (is_in l s) (same_stem t s)
  where
    assoc : (a b c : Bool) → (a || (b || c)) ≡ ((a || b) || c)
    assoc true b c = refl
    assoc false b c = refl

pub mask-length : (g l : List Stem) → length (mask_of g l) ≡ length l
unfolding mask_of
mask-length g [] = refl
mask-length g (s ∷ l) = ap suc (mask-length g l)

mask_at : (g l : List Stem) (k : ℕ) (d : Stem) → k < length l → get_or (mask_of g l) k false ≡ is_in g (get_or l k d)
unfolding mask_of
mask_at g [] k d h = absurd (let z : ⊥ = omega arith in z)
mask_at g (s ∷ l) zero d h = refl
mask_at g (s ∷ l) (suc k) d h = mask_at g l k d (omega arith)

-- a stem that equals none of them, or the one at p alone
module _ (g l : List Stem) (s : Stem) where
  mask_more : (k : ℕ) → k < length l → get_or (mask_of (g ++ (s ∷ [])) l) k false ≡ (get_or (mask_of g l) k false || same_stem s (get_or l k s))
  mask_more k h = mask_at (g ++ (s ∷ [])) l k s h ∙ in_more g s (get_or l k s) ∙ ap (λ (x : Bool). x || same_stem s (get_or l k s)) (sym (mask_at g l k s h))

  mask_same : ((k : ℕ) → k < length l → same_stem s (get_or l k s) ≡ false) → mask_of (g ++ (s ∷ [])) l ≡ mask_of g l
  mask_same n =
      ext_get_or false (mask_of (g ++ (s ∷ [])) l) (mask_of g l) (mask-length (g ++ (s ∷ [])) l ∙ sym (mask-length g l))
      (λ k h. let i = subst (λ (j : ℕ). k < j) (mask-length (g ++ (s ∷ [])) l) h in mask_more k i ∙ ap (λ (x : Bool). get_or (mask_of g l) k false || x) (n k i) ∙ or-false (get_or (mask_of g l) k false))

  mask-set : (p : ℕ) → p < length l → ((k : ℕ) → k < length l → same_stem s (get_or l k s) ≡ eqb k p) → mask_of (g ++ (s ∷ [])) l ≡ set (mask_of g l) p true
  mask-set p b n =
      ext_get_or false (mask_of (g ++ (s ∷ [])) l) (set (mask_of g l) p true) (mask-length (g ++ (s ∷ [])) l ∙ sym (length-set (mask_of g l) p true ∙ mask-length g l))
      (λ k h. let i = subst (λ (j : ℕ). k < j) (mask-length (g ++ (s ∷ [])) l) h in mask_more k i ∙ ap (λ (x : Bool). get_or (mask_of g l) k false || x) (n k i) ∙ choose k (eqb k p) refl)
    where
      choose : (k : ℕ) (x : Bool) → eqb k p ≡ x → (get_or (mask_of g l) k false || x) ≡ get_or (set (mask_of g l) p true) k false
      choose k true e = or-true (get_or (mask_of g l) k false) ∙ sym (ap (λ (j : ℕ). get_or (set (mask_of g l) p true) j false) (eqb-true k p e) ∙ get_or-set_same (mask_of g l) p true false (subst (λ (j : ℕ). p < j) (sym (mask-length g l)) b))
      choose k false e = or-false (get_or (mask_of g l) k false) ∙ sym (get_or-set_other (mask_of g l) p k true false (eqb-false k p e))

-- ---- a stem among those of one table: it can stand at its place only
abbrev stands_at : Bool → ℕ → ℕ → List Float → Stem → Bool
stands_at h r n t s = ltb r n && same_stem (table_stem h r t) s

table_same : (h : Bool) (n : ℕ) (t : List Float) (r : ℕ) (s : Stem) → s.horizontal ≡ h → Finds r n s t → (k : ℕ) → k < n → same_stem s (table_stem h k t) ≡ (eqb k r && stands_at h r n t s)
table_same h n t r s d F k l = choose (eqb k r) refl
  where
    others : (y : Bool) → (k ≡ r → ⊥) → same_stem s (table_stem h k t) ≡ y → same_stem s (table_stem h k t) ≡ false
    others true e q = absurd (e (F.only k l (ap (λ (x : Bool). same_stem (table_stem x k t) s) d ∙ same_both (table_stem h k t) s ∙ q)))
    others false e q = q

    choose : (x : Bool) → eqb k r ≡ x → same_stem s (table_stem h k t) ≡ (x && stands_at h r n t s)
    choose true e =
        let i = eqb-true k r e in
        ap (λ (j : ℕ). same_stem s (table_stem h j t)) i ∙ same_both s (table_stem h r t)
        ∙ sym (ap (λ (x : Bool). x && same_stem (table_stem h r t) s) (lt-ltb r n (subst (λ (j : ℕ). j < n) i l)))
    choose false e = others (same_stem s (table_stem h k t)) (eqb-false k r e) refl

other_way : (s t : Stem) (x : Bool) → s.horizontal ≡ x → t.horizontal ≡ not x → same_stem s t ≡ false
other_way s t true e f = ap₂ (λ (p q : Bool). beq p q && (eq s.pos t.pos && eq s.width t.width)) e f
other_way s t false e f = ap₂ (λ (p q : Bool). beq p q && (eq s.pos t.pos && eq s.width t.width)) e f

pub within : (r n : ℕ) (y : Bool) → (ltb r n && y) ≡ true → r < n
within r n y e = ltb-true r n (both_true (ltb r n) y e).0

-- ---- the stems of both tables
module _ (na nu : ℕ) (a u : List Float) where
  abbrev ss : List Stem
  ss = both na nu a u

  pub both-length : length ss ≡ na + nu
  both-length = length-append (table_stems true na a) (table_stems false nu u) ∙ ap₂ ◌+◌ (table_length true a na) (table_length false u nu)

  both_front : (k : ℕ) (s : Stem) → k < na → get_or ss k s ≡ table_stem true k a
  both_front k s l = get_or-append (table_stems true na a) (table_stems false nu u) s k (subst (λ (j : ℕ). k < j) (sym (table_length true a na)) l) ∙ table_at true a na k s l

  both-back : (k : ℕ) (s : Stem) → na ≤ k → k < na + nu → get_or ss k s ≡ table_stem false (k - na) u
  both-back k s l m =
      ap (λ (j : ℕ). get_or ss j s) (let z : k ≡ na + (k - na) = omega arith in z ∙ ap (λ (j : ℕ). j + (k - na)) (sym (table_length true a na)))
      ∙ get_or-append-add (table_stems true na a) (table_stems false nu u) (k - na) s ∙ table_at false u nu (k - na) s (omega arith)

  -- a stem at place r of its table sets the bit of that place, and one that is not there none
  module _ (s : Stem) (r : ℕ) where
    across_at : s.horizontal ≡ true → Finds r na s a → (k : ℕ) → k < length ss → same_stem s (get_or ss k s) ≡ (eqb k r && stands_at true r na a s)
    across_at h F k l = choose (ltb k na) refl
      where
        far : (y : Bool) → stands_at true r na a s ≡ y → (z : Bool) → eqb k r ≡ z → na ≤ k → (z && y) ≡ false
        far true p true q m = let i = within r na (same_stem (table_stem true r a) s) p in let j = eqb-true k r q in absurd (let w : ⊥ = omega arith in w)
        far true p false q m = refl
        far false p true q m = refl
        far false p false q m = refl

        choose : (x : Bool) → ltb k na ≡ x → same_stem s (get_or ss k s) ≡ (eqb k r && stands_at true r na a s)
        choose true e = let m = ltb-true k na e in ap (same_stem s) (both_front k s m) ∙ table_same true na a r s h F k m
        choose false e =
            let m = ltb-false k na e in
            ap (same_stem s) (both-back k s m (subst (λ (j : ℕ). k < j) both-length l)) ∙ other_way s (table_stem false (k - na) u) true h refl ∙ sym (far (stands_at true r na a s) refl (eqb k r) refl m)

    upright_at : s.horizontal ≡ false → Finds r nu s u → (k : ℕ) → k < length ss → same_stem s (get_or ss k s) ≡ (eqb k (na + r) && stands_at false r nu u s)
    upright_at h F k l = choose (ltb k na) refl
      where
        moved : (x : Bool) → eqb (k - na) r ≡ x → na ≤ k → x ≡ eqb k (na + r)
        moved true q m = let i = eqb-true (k - na) r q in sym (eq-eqb k (na + r) (omega arith))
        moved false q m = let i = eqb-false (k - na) r q in sym (ne_eqb k (na + r) (λ j. i (let w : k - na ≡ r = omega arith in w)))

        choose : (x : Bool) → ltb k na ≡ x → same_stem s (get_or ss k s) ≡ (eqb k (na + r) && stands_at false r nu u s)
        choose true e =
            let m = ltb-true k na e in
            ap (same_stem s) (both_front k s m) ∙ other_way s (table_stem true k a) false h refl ∙ sym (ap (λ (x : Bool). x && stands_at false r nu u s) (ne_eqb k (na + r) (λ q. let w : ⊥ = omega arith in w)))
        choose false e =
            let m = ltb-false k na e in
            let f : k < na + nu = subst (λ (j : ℕ). k < j) both-length l in
            ap (same_stem s) (both-back k s m f) ∙ table_same false nu u r s h F (k - na) (omega arith) ∙ ap (λ (x : Bool). x && stands_at false r nu u s) (moved (eqb (k - na) r) refl m)

    module _ (g : List Stem) (p : ℕ) (y : Bool) (at : (k : ℕ) → k < length ss → same_stem s (get_or ss k s) ≡ (eqb k p && y)) where
      sets : y ≡ true → p < length ss → mask_of (g ++ (s ∷ [])) ss ≡ set (mask_of g ss) p true
      sets e l = mask-set g ss s p l (λ k h. at k h ∙ ap (λ (x : Bool). eqb k p && x) e ∙ and-true (eqb k p))

      keeps : y ≡ false → mask_of (g ++ (s ∷ [])) ss ≡ mask_of g ss
      keeps e = mask_same g ss s (λ k h. at k h ∙ ap (λ (x : Bool). eqb k p && x) e ∙ and-false (eqb k p))

    -- ---- the same, of places
    module _ (l : List Stem) (q : l ≡ s ∷ []) (few : na + nu ≤ 96) (k : ℕ) (t : List ℕ) where
      placed : (p m : ℕ) (t' : List ℕ) → p < na + nu → ((g : List Stem) → mask_of (g ++ (s ∷ [])) ss ≡ set (mask_of g ss) p true) → PlacePut p k t m t' → ListsMore l na nu a u k t m t'
      placed p m t' h f P = (
        P.same,
        (
          P.few,
          λ g e.
              let n = mask-length g ss ∙ both-length in
              P.places (mask_of g ss) (omega arith) (omega arith) e ∙ ap (places_from 0) (sym (f g) ∙ ap (λ (x : List Stem). mask_of (g ++ x) ss) (sym q)),
        ),
      )

      unplaced : k ≤ 96 → ((g : List Stem) → mask_of (g ++ (s ∷ [])) ss ≡ mask_of g ss) → ListsMore l na nu a u k t k t
      unplaced h f = (refl, (h, λ g e. e ∙ ap (places_from 0) (sym (f g) ∙ ap (λ (x : List Stem). mask_of (g ++ x) ss) (sym q))))

      pub placed-across : (m : ℕ) (t' : List ℕ) → s.horizontal ≡ true → Finds r na s a → stands_at s.horizontal r na a s ≡ true → PlacePut r k t m t' → ListsMore l na nu a u k t m t'
      placed-across m t' h F e P =
          let y : stands_at true r na a s ≡ true = ap (λ (x : Bool). stands_at x r na a s) (sym h) ∙ e in
          let i = within r na (same_stem (table_stem true r a) s) y in
          placed r m t' (omega arith) (λ g. sets g r (stands_at true r na a s) (across_at h F) y (subst (λ (j : ℕ). r < j) (sym both-length) (omega arith))) P

      pub unplaced_across : s.horizontal ≡ true → Finds r na s a → stands_at s.horizontal r na a s ≡ false → k ≤ 96 → ListsMore l na nu a u k t k t
      unplaced_across h F e j = unplaced j (λ g. keeps g r (stands_at true r na a s) (across_at h F) (ap (λ (x : Bool). stands_at x r na a s) (sym h) ∙ e))

      pub placed-upright : (m : ℕ) (t' : List ℕ) → s.horizontal ≡ false → Finds r nu s u → stands_at s.horizontal r nu u s ≡ true → PlacePut (na + r) k t m t' → ListsMore l na nu a u k t m t'
      placed-upright m t' h F e P =
          let y : stands_at false r nu u s ≡ true = ap (λ (x : Bool). stands_at x r nu u s) (sym h) ∙ e in
          let i = within r nu (same_stem (table_stem false r u) s) y in
          placed (na + r) m t' (omega arith) (λ g. sets g (na + r) (stands_at false r nu u s) (upright_at h F) y (subst (λ (j : ℕ). na + r < j) (sym both-length) (omega arith))) P

      pub unplaced_upright : s.horizontal ≡ false → Finds r nu s u → stands_at s.horizontal r nu u s ≡ false → k ≤ 96 → ListsMore l na nu a u k t k t
      unplaced_upright h F e j = unplaced j (λ g. keeps g (na + r) (stands_at false r nu u s) (upright_at h F) (ap (λ (x : Bool). stands_at x r nu u s) (sym h) ∙ e))

  -- ---- no stem, no place
  no_places : (l : List Stem) (i : ℕ) → places_from i (mask_of [] l) ≡ []
  unfolding mask_of is_in places_from
  no_places [] i = refl
  no_places (s ∷ l) i = no_places l (suc i)

  pub listed_none : (t : List ℕ) → Listed [] na nu a u 0 t
  listed_none t = sym (no_places ss 0)
