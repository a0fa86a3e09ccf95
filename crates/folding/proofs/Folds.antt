-- Laws: folding, test by test.
use mathlib.Core.Path.{◌≡◌}
use mathlib.Core.Bool.{Bool, true, false, ◌&&◌}
use lib.Ieee.{Float, binary64, add, sub, mul, eq, lt}
use Rattle.geometry.specs.declared.Point.{Point}
use Rattle.geometry.specs.declared.Matrix.{Matrix}
use Rattle.geometry.specs.Transform as Transform
use Rattle.outline.specs.declared.Stem.{Stem}
use Rattle.outline.specs.Outline.{plus_zero}
use Rattle.folding.specs.declared.Fold.{Fold}
use Rattle.folding.specs.Folding.{folded_point, stem_stays, folded_stem, edge, scaled, twenty_one, minus21, minus20, transformed_stem}

-- ---- six tests, each before the next
module _ (a b c d e f : Bool) where
  abbrev six : Bool
  six = a && (b && (c && (d && (e && f))))

  pub six_1 : a ≡ false → false ≡ six
  six_1 p = cc

  pub six_2 : a ≡ true → b ≡ false → false ≡ six
  six_2 p q = cc

  pub six_3 : a ≡ true → b ≡ true → c ≡ false → false ≡ six
  six_3 p q r = cc

  pub six_4 : a ≡ true → b ≡ true → c ≡ true → d ≡ false → false ≡ six
  six_4 p q r s = cc

  pub six_5 : a ≡ true → b ≡ true → c ≡ true → d ≡ true → e ≡ false → false ≡ six
  six_5 p q r s t = cc

  pub six_6 : (g : Bool) → a ≡ true → b ≡ true → c ≡ true → d ≡ true → e ≡ true → g ≡ f → g ≡ six
  six_6 g p q r s t u = cc

-- ---- a point
module _ (fold : Fold) (x y : Float) where
  abbrev at : Point
  at = record { x = x; y = y }

  pub point_left : fold.identity ≡ true → at ≡ folded_point fold at
  unfolding folded_point
  point_left h = cc

  pub point-moved : fold.identity ≡ false → Transform.point fold.matrix x y ≡ folded_point fold at
  unfolding folded_point
  point-moved h = cc

-- ---- a stem
module _ (fold : Fold) (s : Stem) where
  pub stem_left : fold.identity ≡ true → s ≡ folded_stem fold s
  stem_left h = cc

  pub stem-moved : fold.identity ≡ false → transformed_stem fold.matrix s ≡ folded_stem fold s
  stem-moved h = cc

  pub keeps_all : fold.identity ≡ true → true ≡ stem_stays fold s
  keeps_all h = cc

  pub keeps_across : fold.identity ≡ false → s.horizontal ≡ true → eq fold.matrix.b plus_zero ≡ true → lt plus_zero fold.matrix.d ≡ stem_stays fold s
  keeps_across h k z = cc

  pub loses_across : fold.identity ≡ false → s.horizontal ≡ true → eq fold.matrix.b plus_zero ≡ false → false ≡ stem_stays fold s
  loses_across h k z = cc

  pub keeps_upright : fold.identity ≡ false → s.horizontal ≡ false → eq fold.matrix.c plus_zero ≡ true → lt plus_zero fold.matrix.a ≡ stem_stays fold s
  keeps_upright h k z = cc

  pub loses_upright : fold.identity ≡ false → s.horizontal ≡ false → eq fold.matrix.c plus_zero ≡ false → false ≡ stem_stays fold s
  loses_upright h k z = cc

pub edge-across : (m : Matrix) (h : Bool) (e : Float) → h ≡ true → add binary64 (mul binary64 m.d e) m.ty ≡ edge m h e
edge-across m h e k = cc

pub edge-upright : (m : Matrix) (h : Bool) (e : Float) → h ≡ false → add binary64 (mul binary64 m.a e) m.tx ≡ edge m h e
edge-upright m h e k = cc

pub scale_across : (m : Matrix) (h : Bool) (w : Float) → h ≡ true → mul binary64 m.d w ≡ scaled m h w
scale_across m h w k = cc

pub scale_upright : (m : Matrix) (h : Bool) (w : Float) → h ≡ false → mul binary64 m.a w ≡ scaled m h w
scale_upright m h w k = cc

module _ (m : Matrix) (s : Stem) (p : Float) where
  abbrev h : Bool
  h = s.horizontal

  abbrev stem_of : Float → Float → Stem
  stem_of pos width = record { horizontal = h; pos = pos; width = width }

  pub stem_21 : eq s.width minus21 ≡ true → p ≡ edge m h (sub binary64 s.pos twenty_one) → stem_of (add binary64 p twenty_one) minus21 ≡ transformed_stem m s
  unfolding transformed_stem
  stem_21 a q = cc

  pub stem_20 : eq s.width minus21 ≡ false → eq s.width minus20 ≡ true → p ≡ edge m h s.pos → stem_of p minus20 ≡ transformed_stem m s
  unfolding transformed_stem
  stem_20 a b q = cc

  pub stem_other : (w : Float) → eq s.width minus21 ≡ false → eq s.width minus20 ≡ false → p ≡ edge m h s.pos → w ≡ scaled m h s.width → stem_of p w ≡ transformed_stem m s
  unfolding transformed_stem
  stem_other w a b q v = cc
