use Prim.Native.Nat.{ℕ}
use mathlib.Core.List.{[], ◌∷◌}
use mathlib.Core.Path.{◌≡◌, ap, ap₂, ◌∙◌}
use Rattle.board.specs.Answers.{boxed_words}
use Rattle.boxes.specs.declared.Bounds.{Bounds}
use Rattle.boxes.specs.Answers.{Answer, answer, number_of, box_words, verdict_word}
use Rattle.board.proofs.cribstork_box.Goals as goal

-- the two words of an answer
words : (n v : ℕ) (a : Answer) → n ≡ number_of a → v ≡ verdict_word a → n ∷ v ∷ [] ≡ boxed_words a
words n v a p q = ap₂ (λ (x y : ℕ). x ∷ y ∷ []) p q

pub returns : goal.returns
returns c =
    let is = c.glyph_box-a.ensures ∙ ap (λ (w : Bounds). answer c.args.program.now w) c.window_of.ensures in
    record { value = c.number_of-2.ensures ∙ ap number_of is; bounds_after = c.put_bounds.ensures ∙ c.bounds_of.ensures ∙ ap box_words is; answer_after = words _ _ c.glyph_box-a.result c.number_of.ensures c.word_of.ensures ∙ ap boxed_words is }
