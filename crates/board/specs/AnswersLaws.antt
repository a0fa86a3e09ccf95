-- Laws: the width of an answer is finite, so that it may be written as bits; what the two functions that hold the stem store leave, from what their parts leave.
use Rattle.std.specs.Prelude.{ℕ, ◌≡◌, Bool, false, ◌&&◌, List}
use Rattle.std.proofs.Math.Path.{refl}
use Rattle.std.proofs.Common.{sym, ◌∙◌, ap, subst}
use Rattle.std.proofs.Math.Bool.{true}
use Rattle.std.proofs.Math.Dec.{T}
use Rattle.std.specs.Float.Ieee.Scale.{finite}
use Rattle.geometry.specs.declared.Matrix.{Matrix}
use Rattle.outline.specs.declared.Stem.{Stem}
use Rattle.type1.specs.declared.Reading.{Reading}
use Rattle.outline.specs.Outline.{pick}
use Rattle.type1.specs.State.{State}
use Rattle.type1.specs.Run as Run
use Rattle.type1.specs.Run.{Outcome}
use Rattle.type1.specs.Interpret.{Source, outcome}
use Rattle.type1_to_type2.specs.declared.Type2Glyph.{Type2Glyph}
use Rattle.folding.specs.Folding.{finite_matrix, fold_of, folded_list, folded_groups, folded_width, finite_list, finite_groups}
use Rattle.type1_to_type2.specs.Writing as Writing
use Rattle.type1_to_type2.specs.Writing.{Written, write}
use Rattle.type1_to_type2.specs.Convert.{folds_finite, Glyph, glyph_of, Conversion, refused, converted, Rooms, convert, ended, folded, instructions, writes, answer}
use Rattle.type1_to_type2.specs.Finish.{finish}
use Rattle.type1_to_type2.specs.Entry.{ConvertsFrom}
use Rattle.type2.specs.declared.Widths.{Widths}
use Rattle.agreement.specs.Finished.{with_program, finished, ConvertsFinished}
use Rattle.board.specs.Answers.{glyph_words, BoardConverts, BoardFinishes}

abbrev Finite : Conversion → Type 0
Finite x = T (finite (answer x).width)

writes-finite : (g : List ℕ → Glyph) (x : Written) → ((b : List ℕ) → T (finite (g b).width)) → Finite (writes g x)
writes-finite g (Writing.refused k) t = tt
writes-finite g (Writing.wrote b) t = t b

both : (a b : Bool) → (a && b) ≡ true → T a
both true b e = tt
both false b e = absurd (subst T (sym e) tt)

module _ (m : Matrix) (room : ℕ) where
  folded-finite : (s : State) → Finite (folded m room s)
  unfolding folded folds_finite
  folded-finite s = go (folds_finite m s) refl
    where
      width-finite : folds_finite m s ≡ true → T (finite (folded_width m s.width))
      width-finite e = both (finite (folded_width m s.width)) (finite_list (folded_list (fold_of m) s.drawn) && finite_groups (folded_groups (fold_of m) s.groups)) e

      go : (c : Bool) → folds_finite m s ≡ c → Finite (pick c (writes (glyph_of (folded_width m s.width) s.ran) (write (instructions m s) room)) (refused 14))
      go true e = writes-finite (glyph_of (folded_width m s.width) s.ran) (write (instructions m s) room) (λ b. width-finite e)
      go false e = tt

  ended-finite : (o : Outcome) → Finite (ended m room o)
  ended-finite (Run.going s) = folded-finite s
  ended-finite (Run.returning s) = folded-finite s
  ended-finite (Run.ending s) = folded-finite s
  ended-finite (Run.refused n) = tt

-- the width of converting's answer is finite
pub convert-finite : (x : Source) (reading : Reading) (m : Matrix) (r : Rooms) → Finite (convert x reading m r)
unfolding convert
convert-finite x reading m r = go (finite_matrix m)
  where
    go : (c : Bool) → Finite (pick c (ended m r.bytes (outcome x reading r.records r.words)) (refused 1))
    go true = ended-finite m r.bytes (outcome x reading r.records r.words)
    go false = tt

-- and that of finishing's
pub finished-finite : (p : Widths) (room : ℕ) (x : Conversion) → Finite x → Finite (finished p room x)
finished-finite p room (refused n) t = tt
finished-finite p room (converted g) t = writes-finite (with_program g) (finish g.width g.program p room) (λ b. t)

module _ (x : Source) (reading : Reading) (m : Matrix) (r : Rooms) (g : Type2Glyph) (n : ℕ) (stems : List Stem) where
  pub board_converts : (commands out words : List ℕ) → ConvertsFrom x reading m r g stems commands out → (n ≡ g.number) × (words ≡ glyph_words g) → BoardConverts x reading m r n stems commands out words
  board_converts commands out words c e = record {
    converts = subst (λ (y : Type2Glyph). ConvertsFrom x reading m r y stems commands out) c.glyph c;
    number_is = e.0 ∙ ap (λ (y : Type2Glyph). y.number) c.glyph;
    words_are = e.1 ∙ ap glyph_words c.glyph;
  }

  pub board_finishes : (p : Widths) (room : ℕ) (commands program out words : List ℕ) → ConvertsFinished x reading m p r room g stems commands program out → (n ≡ g.number) × (words ≡ glyph_words g) → BoardFinishes x reading m p r room n stems commands program out words
  board_finishes p room commands program out words c e = record {
    finishes = subst (λ (y : Type2Glyph). ConvertsFinished x reading m p r room y stems commands program out) c.glyph c;
    number_is = e.0 ∙ ap (λ (y : Type2Glyph). y.number) c.glyph;
    words_are = e.1 ∙ ap glyph_words c.glyph;
  }
