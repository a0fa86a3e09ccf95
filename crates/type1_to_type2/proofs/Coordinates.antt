-- Laws: an entry of the command store: where a group's records are, and whether its folded points are finite.
use mathlib.Core.Path.{◌≡◌, refl, sym, ap, ◌∙◌, subst}
use Prim.Native.Nat.{ℕ, ◌+◌, ◌*◌}
use native.Mathlib.Omega.{arith}
use mathlib.Core.Bool.{Bool, true, false, not, ◌&&◌, cond, and-true}
use mathlib.Core.List.{List, [], ◌∷◌}
use borrow.Author.Tests.{eq-eqb, ne_eqb}
use lib.Dec.{T, eqb}
use lib.ListN.{get_or}
use lib.Ieee.{Float, nan, inf, fin, binary64, of_bits, nan_bits, is_nan}
use lib.Ieee.Scale.{finite}
use lib.Ieee.Bits.{nan_bits_is}
use Rattle.geometry.specs.declared.Point.{Point}
use Rattle.folding.specs.declared.Fold.{Fold}
use Rattle.outline.specs.Outline.{Command, move, line, curve, flex}
use Rattle.outline.specs.Store.{word, coordinate, point_in, command_in}
use Rattle.type1.specs.Memory.{Good}
use Rattle.type1.specs.Sound.{All, OfPoint, OfCommand}
use Rattle.folding.specs.Folding.{folded_point, folded_list, finite_point, finite_list}
use Rattle.type1_to_type2.specs.Collecting.{first_of, count_of}

-- a finite double's pattern is no NaN's
pub pattern_good : (n : ℕ) → Good (of_bits binary64 n) → T (not (nan_bits binary64 n))
unfolding is_nan
pattern_good n g = subst (λ (b : Bool). T (not b)) (sym (nan_bits_is binary64 n)) (no_nan (of_bits binary64 n) g.fine)
  where
    no_nan : (x : Float) → T (finite x) → T (not (is_nan x))
    no_nan nan h = h
    no_nan (inf s) h = tt
    no_nan (fin s m e) h = tt

pub finite-both : (p q : Point) (a b : Bool) → p ≡ q → a ≡ finite p.x → a ≡ true → b ≡ finite p.y → b ≡ finite_point q
finite-both p q a b e f g h = h ∙ sym (ap (λ (x : Bool). x && finite p.y) (sym f ∙ g)) ∙ ap finite_point e

pub infinite_x : (p q : Point) (a : Bool) → p ≡ q → a ≡ finite p.x → a ≡ false → false ≡ finite_point q
infinite_x p q a e f g = sym (ap (λ (x : Bool). x && finite p.y) (sym f ∙ g)) ∙ ap finite_point e

-- ---- tests one after the other
pub and_then : {v x r q : Bool} → v ≡ true → x ≡ r → r ≡ q → x ≡ (v && q)
and_then {q = q} h e f = e ∙ f ∙ sym (ap (λ (b : Bool). b && q) h)

pub and_else : {v x : Bool} (q : Bool) → v ≡ false → x ≡ false → x ≡ (v && q)
and_else q h e = e ∙ sym (ap (λ (b : Bool). b && q) h)

pub three_left : (a b c : Bool) → ((a && b) && c) ≡ (a && (b && c))
three_left true b c = refl
three_left false b c = refl

pub six_left : (a b c d e f : Bool) → (((((a && b) && c) && d) && e) && f) ≡ (a && (b && (c && (d && (e && f)))))
six_left true true true true e f = refl
six_left true true true false e f = refl
six_left true true false d e f = refl
six_left true false c d e f = refl
six_left false b c d e f = refl

module _ (c : List ℕ) (e : ℕ) where
  abbrev kind : ℕ
  kind = get_or c (14 * e) 0

  first_word : word c e 0 ≡ kind
  first_word = ap (λ (i : ℕ). get_or c i 0) (let z : 14 * e + 0 ≡ 14 * e = omega arith in z)

  -- ---- a group's records
  pub group_first : kind ≡ 5 → get_or c (14 * e + 1) 0 ≡ first_of c e
  unfolding first_of
  group_first h = sym (ap (λ (b : Bool). cond b (word c e 1) 0) (eq-eqb (word c e 0) 5 (first_word ∙ h)))

  pub group_count_lem : kind ≡ 5 → get_or c (14 * e + 2) 0 ≡ count_of c e
  unfolding count_of
  group_count_lem h = sym (ap (λ (b : Bool). cond b (word c e 2) 0) (eq-eqb (word c e 0) 5 (first_word ∙ h)))

  pub no_first : (kind ≡ 5 → ⊥) → 0 ≡ first_of c e
  unfolding first_of
  no_first h = sym (ap (λ (b : Bool). cond b (word c e 1) 0) (ne_eqb (word c e 0) 5 (λ q. h (sym first_word ∙ q))))

  pub no_count : (kind ≡ 5 → ⊥) → 0 ≡ count_of c e
  unfolding count_of
  no_count h = sym (ap (λ (b : Bool). cond b (word c e 2) 0) (ne_eqb (word c e 0) 5 (λ q. h (sym first_word ∙ q))))

  -- ---- its points
  abbrev pub point_from : ℕ → Point
  point_from i = record { x = of_bits binary64 (get_or c (14 * e + i) 0); y = of_bits binary64 (get_or c (14 * e + i + 1) 0) }

  point_same : (i : ℕ) → point_in c e i ≡ point_from i
  point_same i = ap (λ (j : ℕ). record { x = of_bits binary64 (get_or c (14 * e + i) 0); y = of_bits binary64 (get_or c j 0) }) (let z : 14 * e + (i + 1) ≡ 14 * e + i + 1 = omega arith in z)

  is : (k : ℕ) → kind ≡ k → (j : ℕ) → (b : Bool) → eqb k j ≡ b → eqb (word c e 0) j ≡ b
  is k h j b q = ap (λ (i : ℕ). eqb i j) (first_word ∙ h) ∙ q

  isnt : (j : ℕ) → (kind ≡ j → ⊥) → eqb (word c e 0) j ≡ false
  isnt j h = ne_eqb (word c e 0) j (λ q. h (sym first_word ∙ q))

  in_move : kind ≡ 1 → command_in c e ≡ move (point_from 1) ∷ []
  unfolding command_in
  in_move h =
      let q = is 1 h 1 true refl in
      let p = point_same 1 in
      cc

  in_line : kind ≡ 2 → command_in c e ≡ line (point_from 1) ∷ []
  unfolding command_in
  in_line h =
      let q = is 2 h 1 false refl in
      let r = is 2 h 2 true refl in
      let p = point_same 1 in
      cc

  in_curve : kind ≡ 3 → command_in c e ≡ curve (point_from 1) (point_from 3) (point_from 5) ∷ []
  unfolding command_in
  in_curve h =
      let q = is 3 h 1 false refl in
      let r = is 3 h 2 false refl in
      let s = is 3 h 3 true refl in
      let p1 = point_same 1 in
      let p3 = point_same 3 in
      let p5 = point_same 5 in
      cc

  in_flex : kind ≡ 4 → command_in c e ≡ flex (point_from 1) (point_from 3) (point_from 5) (point_from 7) (point_from 9) (point_from 11) (coordinate c e 13) ∷ []
  unfolding command_in
  in_flex h =
      let q = is 4 h 1 false refl in
      let r = is 4 h 2 false refl in
      let s = is 4 h 3 false refl in
      let t = is 4 h 4 true refl in
      let p1 = point_same 1 in
      let p3 = point_same 3 in
      let p5 = point_same 5 in
      let p7 = point_same 7 in
      let p9 = point_same 9 in
      let p11 = point_same 11 in
      cc

  in_none : (kind ≡ 1 → ⊥) → (kind ≡ 2 → ⊥) → (kind ≡ 3 → ⊥) → (kind ≡ 4 → ⊥) → command_in c e ≡ []
  unfolding command_in
  in_none h1 h2 h3 h4 =
      let q = isnt 1 h1 in
      let r = isnt 2 h2 in
      let s = isnt 3 h3 in
      let t = isnt 4 h4 in
      cc

  -- every coordinate of it is a finite double
  module _ (G : All (OfCommand Good) (command_in c e)) where
    pub good_move : kind ≡ 1 → OfPoint Good (point_from 1)
    unfolding All
    good_move h = (subst (All (OfCommand Good)) (in_move h) G).0

    pub good_line : kind ≡ 2 → OfPoint Good (point_from 1)
    unfolding All
    good_line h = (subst (All (OfCommand Good)) (in_line h) G).0

    pub good_curve : kind ≡ 3 → OfPoint Good (point_from 1) × (OfPoint Good (point_from 3) × OfPoint Good (point_from 5))
    unfolding All
    good_curve h = (subst (All (OfCommand Good)) (in_curve h) G).0

    pub good_flex : kind ≡ 4 → OfPoint Good (point_from 1) × (OfPoint Good (point_from 3) × (OfPoint Good (point_from 5) × (OfPoint Good (point_from 7) × (OfPoint Good (point_from 9) × (OfPoint Good (point_from 11) × Good (coordinate c e 13))))))
    unfolding All
    good_flex h = (subst (All (OfCommand Good)) (in_flex h) G).0

  -- its folded points are finite
  module _ (fold : Fold) where
    abbrev pub fine : ℕ → Bool
    fine i = finite_point (folded_point fold (point_from i))

    abbrev pub entry : Bool
    entry = finite_list (folded_list fold (command_in c e))

    pub fine_move : kind ≡ 1 → fine 1 ≡ entry
    unfolding folded_list finite_list
    fine_move h = sym (ap (λ (l : List Command). finite_list (folded_list fold l)) (in_move h) ∙ and-true (fine 1))

    pub fine_line : kind ≡ 2 → fine 1 ≡ entry
    unfolding folded_list finite_list
    fine_line h = sym (ap (λ (l : List Command). finite_list (folded_list fold l)) (in_line h) ∙ and-true (fine 1))

    pub fine_curve : kind ≡ 3 → (fine 1 && (fine 3 && fine 5)) ≡ entry
    unfolding folded_list finite_list
    fine_curve h = sym (ap (λ (l : List Command). finite_list (folded_list fold l)) (in_curve h) ∙ and-true (fine 1 && (fine 3 && fine 5)))

    pub fine_flex : kind ≡ 4 → (fine 1 && (fine 3 && (fine 5 && (fine 7 && (fine 9 && fine 11))))) ≡ entry
    unfolding folded_list finite_list
    fine_flex h = sym (ap (λ (l : List Command). finite_list (folded_list fold l)) (in_flex h) ∙ and-true (fine 1 && (fine 3 && (fine 5 && (fine 7 && (fine 9 && fine 11))))))

    pub fine-none : (kind ≡ 1 → ⊥) → (kind ≡ 2 → ⊥) → (kind ≡ 3 → ⊥) → (kind ≡ 4 → ⊥) → true ≡ entry
    unfolding folded_list finite_list
    fine-none h1 h2 h3 h4 = sym (ap (λ (l : List Command). finite_list (folded_list fold l)) (in_none h1 h2 h3 h4))
