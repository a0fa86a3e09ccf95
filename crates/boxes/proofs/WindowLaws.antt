-- Laws: a box and a window, as the code compares them.
use mathlib.Core.Path.{◌≡◌, refl, ◌∙◌}
use mathlib.Core.Bool.{Bool, true, false, not, ◌&&◌, ◌||◌, cond}
use lib.Signed.{le_z}
use lib.IntN.{ℤ}
use mir.Syntax.{w64}
use mir.Val.{SFits, to_z, of_z}
use mir.ValLaws.{to_z-of_z}
use Rattle.boxes.specs.Window.{meet, holds_all, verdict_of}
use Rattle.boxes.specs.declared.Bounds.{Bounds}
use Rattle.boxes.specs.declared.Verdict.{Verdict}
use Rattle.boxes.specs.declared.Verdict.TheVariants.{Within, Crossing, Outside}

-- a signed number that a local has held
abbrev again : ℤ → ℤ
again z = to_z w64 (of_z w64 z)

-- ---- both spans
-- what `apart` and `inside` said of numbers that locals held
module _ {a b c d : ℤ} (h : SFits w64 a) (i : SFits w64 b) (j : SFits w64 c) (k : SFits w64 d) where
  pub apart_is : (x : Bool) → x ≡ not (meet (again a) (again b) (again c) (again d)) → x ≡ not (meet a b c d)
  apart_is x e = e ∙ rw (to_z-of_z w64 a h, to_z-of_z w64 b i, to_z-of_z w64 c j, to_z-of_z w64 d k)

  pub inside_is : (x : Bool) → x ≡ (le_z (again c) (again a) && le_z (again b) (again d)) → x ≡ (le_z c a && le_z b d)
  inside_is x e = e ∙ rw (to_z-of_z w64 a h, to_z-of_z w64 b i, to_z-of_z w64 c j, to_z-of_z w64 d k)

neither : (m n : Bool) (u v : Verdict) → cond (not m || not n) u v ≡ cond (m && n) v u
neither true true u v = refl
neither true false u v = refl
neither false n u v = refl

regroup : (p q r s : Bool) → ((p && q) && (r && s)) ≡ (((p && r) && q) && s)
regroup true true true s = refl
regroup true true false s = refl
regroup true false true s = refl
regroup true false false s = refl
regroup false q r s = refl

pub verdict_is : (b w : Bounds) (ax ay ix iy : Bool) (v : Verdict)
    → ax ≡ not (meet b.left b.right w.left w.right) → ay ≡ not (meet b.bottom b.top w.bottom w.top)
    → ix ≡ (le_z w.left b.left && le_z b.right w.right) → iy ≡ (le_z w.bottom b.bottom && le_z b.top w.top)
    → v ≡ cond (ax || ay) Outside (cond (ix && iy) Within Crossing) → v ≡ verdict_of b w
verdict_is b w ax ay ix iy v p q r s e =
    e ∙ rw (p, q, r, s, regroup (le_z w.left b.left) (le_z b.right w.right) (le_z w.bottom b.bottom) (le_z b.top w.top))
    (neither (meet b.left b.right w.left w.right) (meet b.bottom b.top w.bottom w.top) Outside (cond (holds_all w b) Within Crossing))
