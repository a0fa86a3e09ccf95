-- Laws: demand 3 of strict conversions (document 02, (c)). `Agreement.demand3` is over every reading, so over the strict one; a glyph that converts strictly has it in the present reading too.
--     strict_demand3    of a glyph that converts strictly, in the present reading
--     same_finished     an answer of the entry that converts and finishes that is not 22, its output and its stores are the present reading's
--     finished_22, finished_only_22    that entry answers 22 exactly where converting does
use Rattle.std.specs.Prelude.{◌≡◌, refl, ◌⊎◌, ℕ, true, List}
use Rattle.std.proofs.Common.{ap, ◌∙◌, inl, inr}
use Rattle.std.proofs.lemmas.Bool.{eqb-false}
use Rattle.charstring.specs.Cipher.{Bytes}
use Rattle.geometry.specs.declared.Matrix.{Matrix}
use Rattle.outline.specs.declared.Stem.{Stem}
use Rattle.bank.specs.Bank.{valid}
use Rattle.folding.specs.Folding.{finite_matrix}
use Rattle.type1.specs.Run.{reading_of, strict_of}
use Rattle.type1.specs.States.{holds25}
use Rattle.type1.specs.Interpret.{Source}
use Rattle.type1_to_type2.specs.declared.Type2Glyph.{Type2Glyph}
use Rattle.type1_to_type2.specs.Writing as Writing
use Rattle.type1_to_type2.specs.Writing.{Written, wrote}
use Rattle.type1_to_type2.specs.Convert.{Glyph, Conversion, Rooms, refused, converted, convert, writes, answer, output}
use Rattle.type1_to_type2.specs.Finish.{finish}
use Rattle.type1_to_type2.specs.Nonzero.{finish_not}
use Rattle.type1_to_type2.specs.Strict.{convert-strict, converts_same, convert_22, convert_only_22}
use Rattle.type2.specs.declared.Widths.{Widths}
use Rattle.agreement.specs.Demand3.{Demand3}
use Rattle.agreement.specs.Finished.{with_program, finished, ConvertsFinished}
use Rattle.agreement.proofs.Agreement.{demand3}

module _ (x : Source) (len_iv : ℕ) (m : Matrix) (p : Widths) (r : Rooms) (room : ℕ) where
  -- demand 3, in the present reading, of a glyph that converts strictly
  pub strict_demand3 : (g : Glyph) (out : List ℕ) → Bytes x.charstring → Bytes x.bank → convert x (strict_of len_iv) m r ≡ converted g → finish g.width g.program p room ≡ wrote out → Demand3 x (reading_of len_iv) m p (with_program g out)
  strict_demand3 g out code bodies e f = demand3 x (reading_of len_iv) m r g p room out code bodies (converts_same x len_iv m r g e) f

  -- the run of demand 3 is the same in both readings
  same_demand : (g : Glyph) → Demand3 x (strict_of len_iv) m p g → Demand3 x (reading_of len_iv) m p g
  same_demand g d = record { state = d.state; run = d.run; end = d.end; ran = d.ran; held = d.held; front = d.front; last = d.last; advance = d.advance; width = d.width; stems = d.stems; drawn = d.drawn; exact = d.exact; masks = d.masks }

  -- the same answer, output and stores, if the number is not 22
  pub same_finished : (g : Type2Glyph) (stems : List Stem) (commands program out : List ℕ) → (g.number ≡ 22 → ⊥) → ConvertsFinished x (strict_of len_iv) m p r room g stems commands program out → ConvertsFinished x (reading_of len_iv) m p r room g stems commands program out
  same_finished g stems commands program out h c = go (convert-strict x len_iv m r)
    where
      go : (convert x (strict_of len_iv) m r ≡ refused 22) ⊎ (convert x (strict_of len_iv) m r ≡ convert x (reading_of len_iv) m r) → ConvertsFinished x (reading_of len_iv) m p r room g stems commands program out
      go (inl e) = absurd (h (ap (λ (y : Type2Glyph). y.number) c.glyph ∙ ap (λ (y : Conversion). (answer (finished p room y)).number) e))
      go (inr e) =
          record {
            glyph = c.glyph ∙ ap (λ (y : Conversion). answer (finished p room y)) e;
            bytes = c.bytes ∙ ap (λ (y : Conversion). output room (finished p room y)) e;
            records = c.records;
            words = c.words;
            wiped = c.wiped;
            demand = λ z. same_demand _ (c.demand z);
          }

  -- 22 where neither 1 nor 2 comes first and the present run holds a 25th operand
  pub finished_22 : finite_matrix m ≡ true → valid x.bank ≡ true → holds25 x len_iv r.records r.words ≡ true → finished p room (convert x (strict_of len_iv) m r) ≡ refused 22
  finished_22 f v d = ap (finished p room) (convert_22 x len_iv m r f v d)

  -- and nowhere else: finishing has no 22
  abbrev number : Conversion → ℕ
  number y = (answer y).number

  not_written : (g : Glyph) (w : Written) → finish g.width g.program p room ≡ w → writes (with_program g) w ≡ refused 22 → ⊥
  not_written g (Writing.refused k) e h = finish_not 22 refl refl g.width g.program p room (e ∙ ap Writing.refused (ap number h))
  not_written g (wrote b) e h = eqb-false 0 22 refl (ap number h)

  pub finished_only_22 : finished p room (convert x (strict_of len_iv) m r) ≡ refused 22 → (finite_matrix m ≡ true) × ((valid x.bank ≡ true) × (holds25 x len_iv r.records r.words ≡ true))
  finished_only_22 = go (convert x (strict_of len_iv) m r) refl
    where
      go : (y : Conversion) → convert x (strict_of len_iv) m r ≡ y → finished p room y ≡ refused 22 → (finite_matrix m ≡ true) × ((valid x.bank ≡ true) × (holds25 x len_iv r.records r.words ≡ true))
      go (refused n) e h = convert_only_22 x len_iv m r (e ∙ h)
      go (converted g) e h = absurd (not_written g (finish g.width g.program p room) refl h)
