-- Laws: converting in the strict reading (document 02, (c)), of every source, len_iv, matrix and rooms.
--     convert-strict     it is refused with 22, or gives what the present reading gives: number, program, width and count
--     converts_same      a glyph that converts strictly converts to the same glyph
--     same_left          an answer that is not 22, the output and the stores are the present reading's
--     convert_22, convert_only_22    22 exactly where 1 and 2 do not come first and the present run, in the same stores, comes to hold a 25th operand
--     convert_not_22     the present reading is never refused with 22
use Rattle.std.specs.Prelude.{◌≡◌, ◌⊎◌, ℕ, Bool, List}
use Rattle.std.proofs.Math.Path.{refl, ap}
use Rattle.std.proofs.Common.{sym, ◌∙◌, subst}
use Rattle.std.proofs.Math.Logic.{inl, inr}
use Rattle.std.proofs.lemmas.Bool.{eqb-false}
use Rattle.std.proofs.Math.Bool.{true, false}
use Rattle.bank.specs.Bank.{valid}
use Rattle.geometry.specs.declared.Matrix.{Matrix}
use Rattle.outline.specs.declared.Stem.{Stem}
use Rattle.outline.specs.Outline.{pick}
use Rattle.type1.specs.Run as Run
use Rattle.type1.specs.Run.{Outcome, reading_of, strict_of}
use Rattle.type1.specs.Interpret.{Source, outcome}
use Rattle.type1.specs.States.{holds25}
use Rattle.type1.specs.Strict.{strict-answer, refused_22, only_22, present_not_22}
use Rattle.folding.specs.Folding.{finite_matrix}
use Rattle.type1_to_type2.specs.declared.Type2Glyph.{Type2Glyph}
use Rattle.type1_to_type2.specs.Convert.{Glyph, Conversion, refused, converted, ended, Rooms, convert, answer}
use Rattle.type1_to_type2.specs.Entry.{Converts}
use Rattle.type1_to_type2.specs.Nonzero.{folded_not}

-- the number of a conversion, 0 if it has none
abbrev number : Conversion → ℕ
number x = (answer x).number

-- ---- 22 is the run's
module _ (m : Matrix) (room : ℕ) where
  folded_not_22 : (o : Outcome) → ended m room o ≡ refused 22 → o ≡ Run.refused 22
  folded_not_22 (Run.going s) e = absurd (folded_not 22 refl refl refl m room s e)
  folded_not_22 (Run.returning s) e = absurd (folded_not 22 refl refl refl m room s e)
  folded_not_22 (Run.ending s) e = absurd (folded_not 22 refl refl refl m room s e)
  folded_not_22 (Run.refused n) e = ap (λ (x : Conversion). Run.refused (number x)) e

  -- and 1 does not come first
  not_1 : (b : Bool) (o : Outcome) → pick b (ended m room o) (refused 1) ≡ refused 22 → (b ≡ true) × (o ≡ Run.refused 22)
  not_1 true o e = (refl, folded_not_22 o e)
  not_1 false o e = absurd (eqb-false 1 22 refl (ap number e))

module _ (x : Source) (len_iv : ℕ) (m : Matrix) (r : Rooms) where
  abbrev strict : Conversion
  strict = convert x (strict_of len_iv) m r

  abbrev present : Conversion
  present = convert x (reading_of len_iv) m r

  -- 22, or the present reading's conversion
  pub convert-strict : (strict ≡ refused 22) ⊎ (strict ≡ present)
  unfolding convert
  convert-strict = go (finite_matrix m) _ _ (strict-answer x len_iv r.records r.words)
    where
      go : (b : Bool) (o p : Outcome) → (o ≡ Run.refused 22) ⊎ (o ≡ p) → (let c : Outcome → Conversion = λ q. pick b (ended m r.bytes q) (refused 1) in (c o ≡ refused 22) ⊎ (c o ≡ c p))
      go true o p (inl e) = inl (ap (ended m r.bytes) e)
      go true o p (inr e) = inr (ap (ended m r.bytes) e)
      go false o p h = inr refl

  -- the same glyph
  pub converts_same : (g : Glyph) → strict ≡ converted g → present ≡ converted g
  converts_same g h = go convert-strict
    where
      go : (strict ≡ refused 22) ⊎ (strict ≡ present) → present ≡ converted g
      go (inl e) = absurd (eqb-false 22 0 refl (ap number (sym e ∙ h)))
      go (inr e) = sym e ∙ h

  -- the same answer, output and stores, if the number is not 22
  pub same_left : (g : Type2Glyph) (stems : List Stem) (commands out : List ℕ) → (g.number ≡ 22 → ⊥) → Converts strict r g stems commands out → Converts present r g stems commands out
  same_left g stems commands out h c = go convert-strict
    where
      go : (strict ≡ refused 22) ⊎ (strict ≡ present) → Converts present r g stems commands out
      go (inl e) = absurd (h (ap (λ (y : Type2Glyph). y.number) c.glyph ∙ ap number e))
      go (inr e) = subst (λ (y : Conversion). Converts y r g stems commands out) e c

  -- 22 where neither 1 nor 2 comes first and the present run holds a 25th operand
  pub convert_22 : finite_matrix m ≡ true → valid x.bank ≡ true → holds25 x len_iv r.records r.words ≡ true → strict ≡ refused 22
  unfolding convert
  convert_22 f v d = ap (λ (b : Bool). pick b (ended m r.bytes (outcome x (strict_of len_iv) r.records r.words)) (refused 1)) f ∙ ap (ended m r.bytes) (refused_22 x len_iv r.records r.words v d)

  -- and nowhere else
  pub convert_only_22 : strict ≡ refused 22 → (finite_matrix m ≡ true) × ((valid x.bank ≡ true) × (holds25 x len_iv r.records r.words ≡ true))
  unfolding convert
  convert_only_22 e = let (f, o) = not_1 m r.bytes (finite_matrix m) (outcome x (strict_of len_iv) r.records r.words) e in (f, only_22 x len_iv r.records r.words o)

  -- the present reading has no 22
  pub convert_not_22 : present ≡ refused 22 → ⊥
  unfolding convert
  convert_not_22 e = present_not_22 x len_iv r.records r.words (not_1 m r.bytes (finite_matrix m) (outcome x (reading_of len_iv) r.records r.words) e).1
