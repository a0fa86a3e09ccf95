-- Laws: folding the stems and groups of a run.
use mathlib.Core.Path.{◌≡◌, refl, sym, ap, ◌∙◌}
use mathlib.Core.Bool.{Bool, true, false, ◌&&◌, cond}
use mathlib.Core.List.{List, [], ◌∷◌, ◌++◌, append_assoc}
use lib.Ieee.Scale.{finite}
use Rattle.folding.specs.declared.Fold.{Fold}
use Rattle.outline.specs.declared.Stem.{Stem}
use Rattle.outline.specs.Outline.{Group}
use Rattle.folding.specs.Folding.{stem_stays, folded_stem, folded_stems, folded_groups, finite_stems, finite_groups}
use Rattle.type1_to_type2.specs.Stems.{all_stems}

-- ---- a stem more
module _ (fold : Fold) where
  pub folded-join : (l k : List Stem) → folded_stems fold (l ++ k) ≡ folded_stems fold l ++ folded_stems fold k
  unfolding folded_stems
  folded-join [] k = refl
  folded-join (s ∷ l) k = choose (stem_stays fold s) (folded-join l k)
    where
      choose : (b : Bool) → folded_stems fold (l ++ k) ≡ folded_stems fold l ++ folded_stems fold k → cond b (folded_stem fold s ∷ folded_stems fold (l ++ k)) (folded_stems fold (l ++ k)) ≡ cond b (folded_stem fold s ∷ folded_stems fold l) (folded_stems fold l) ++ folded_stems fold k
      choose true e = ap (λ (q : List Stem). folded_stem fold s ∷ q) e
      choose false e = e

  pub folded-none : folded_stems fold [] ≡ []
  unfolding folded_stems
  folded-none = refl

  pub folded_is : (s f : Stem) → stem_stays fold s ≡ true → f ≡ folded_stem fold s → folded_stems fold (s ∷ []) ≡ f ∷ []
  unfolding folded_stems
  folded_is s f k e = ap (λ (b : Bool). cond b (folded_stem fold s ∷ []) []) k ∙ ap (λ (q : Stem). q ∷ []) (sym e)

  pub folded_lost : (s : Stem) → stem_stays fold s ≡ false → folded_stems fold (s ∷ []) ≡ []
  unfolding folded_stems
  folded_lost s k = ap (λ (b : Bool). cond b (folded_stem fold s ∷ []) []) k

-- ---- a group more
pub groups-join : (fold : Fold) (l k : List Group) → folded_groups fold (l ++ k) ≡ folded_groups fold l ++ folded_groups fold k
unfolding folded_groups
groups-join fold [] k = refl
groups-join fold (g ∷ l) k = ap (λ (q : List Group). record { stems = folded_stems fold g.stems; before = g.before } ∷ q) (groups-join fold l k)

pub all_join : (l k : List Group) → all_stems (l ++ k) ≡ all_stems l ++ all_stems k
unfolding all_stems
all_join [] k = refl
all_join (g ∷ l) k = ap (λ (q : List Stem). g.stems ++ q) (all_join l k) ∙ sym (append_assoc g.stems (all_stems l) (all_stems k))

-- ---- finite stems
pub finite-join : (l k : List Stem) → finite_stems (l ++ k) ≡ (finite_stems l && finite_stems k)
unfolding finite_stems
finite-join [] k = refl
finite-join (s ∷ l) k = choose (finite s.pos) (finite s.width) (finite-join l k)
  where
    choose : (a b : Bool) → finite_stems (l ++ k) ≡ (finite_stems l && finite_stems k) → (a && (b && finite_stems (l ++ k))) ≡ (a && (b && finite_stems l) && finite_stems k)
    choose true true e = e
    choose true false e = refl
    choose false b e = refl

pub finite_all : (gs : List Group) → finite_groups gs ≡ finite_stems (all_stems gs)
unfolding finite_groups all_stems finite_stems
finite_all [] = refl
finite_all (g ∷ l) = ap (λ (b : Bool). finite_stems g.stems && b) (finite_all l) ∙ sym (finite-join g.stems (all_stems l))
