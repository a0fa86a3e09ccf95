-- Laws: whether two stems are equal, field by field. Assumes nothing.
use mathlib.Core.Path.{◌≡◌, refl, sym, ap, ◌∙◌}
use mathlib.Core.Bool.{Bool, true, false, not, ◌&&◌, beq, true≢false}
use lib.Ieee.{eq}
use Rattle.outline.specs.declared.Stem.{Stem}
use Rattle.outline.specs.Outline.{same_stem}

and-false : (b : Bool) → (b && false) ≡ false
and-false true = refl
and-false false = refl

ways_differ : (h g r : Bool) → h ≡ not g → false ≡ (beq h g && r)
ways_differ true true r e = absurd (true≢false e)
ways_differ true false r e = refl
ways_differ false true r e = refl
ways_differ false false r e = absurd (true≢false (sym e))

ways_agree : (h g r : Bool) → h ≡ g → r ≡ (beq h g && r)
ways_agree true true r e = refl
ways_agree false false r e = refl
ways_agree true false r e = absurd (true≢false e)
ways_agree false true r e = absurd (true≢false (sym e))

pub other_way : (a b : Stem) → a.horizontal ≡ not b.horizontal → false ≡ same_stem a b
other_way a b e = ways_differ a.horizontal b.horizontal (eq a.pos b.pos && eq a.width b.width) e

pub same_way : (a b : Stem) → a.horizontal ≡ b.horizontal → eq a.pos b.pos ≡ true → eq a.width b.width ≡ same_stem a b
same_way a b e k = sym (ap (λ (c : Bool). c && eq a.width b.width) k) ∙ ways_agree a.horizontal b.horizontal (eq a.pos b.pos && eq a.width b.width) e

pub other_edge : (a b : Stem) → eq a.pos b.pos ≡ false → false ≡ same_stem a b
other_edge a b k = sym (ap (λ (c : Bool). beq a.horizontal b.horizontal && (c && eq a.width b.width)) k ∙ and-false (beq a.horizontal b.horizontal))
