-- Laws: points of the command store, under the matrix.
use mathlib.Core.Path.{◌≡◌, sym, ap, ◌∙◌, subst}
use Prim.Native.Nat.{ℕ, suc, ◌+◌, ◌-◌, ◌*◌, ◌≤◌, ◌<◌}
use native.Mathlib.Nat.{sub-zero}
use native.Mathlib.Omega.{arith}
use mathlib.Core.Bool.{Bool, not}
use mathlib.Core.List.{List, [], ◌∷◌}
use lib.Dec.{T}
use lib.Ieee.{Float, nan, inf, fin, binary64, is_nan, nan_bits, of_bits}
use lib.Ieee.Scale.{finite}
use lib.Ieee.Bits.{nan_bits_is}
use Rattle.geometry.specs.declared.Point.{Point}
use Rattle.folding.specs.declared.Fold.{Fold}
use Rattle.outline.specs.Store.{point_in}
use Rattle.type1.specs.Memory.{Good}
use Rattle.type1.specs.Sound.{All, OfPoint}
use Rattle.folding.specs.Folding.{folded_point}
use Rattle.type1_to_type2.specs.declared.Writer.{Writer}
use Rattle.type1_to_type2.specs.Streaming.{points_in, folded_points, Goes}
use Rattle.type1_to_type2.proofs.Draws.{goes_one, goes_none}

-- a pattern that is read as a finite double is no NaN's
pub no_nan-bits : (n : ℕ) → T (finite (of_bits binary64 n)) → T (not (nan_bits binary64 n))
no_nan-bits n h = subst (λ (t : Bool). T (not t)) (sym (nan_bits_is binary64 n)) (of (of_bits binary64 n) h)
  where
    of : (x : Float) → T (finite x) → T (not (is_nan x))
    of nan h = absurd h
    of (inf s) h = absurd h
    of (fin s m e) h = unfold is_nan in tt

-- ---- the points of an entry in turn: those from word 2 * j + 1 on
points-next : (c : List ℕ) (e n j : ℕ) → j < n → points_in c e (2 * j + 1) (n - j) ≡ point_in c e (2 * j + 1) ∷ points_in c e (2 * (j + 1) + 1) (n - (j + 1))
unfolding points_in
points-next c e n j h =
    let a : n - j ≡ suc (n - (j + 1)) = omega arith in
    let b : 2 * j + 1 + 2 ≡ 2 * (j + 1) + 1 = omega arith in
    ap (points_in c e (2 * j + 1)) a ∙ ap (λ (i : ℕ). point_in c e (2 * j + 1) ∷ points_in c e i (n - (j + 1))) b

points_over : (c : List ℕ) (e n j : ℕ) → n ≤ j → points_in c e (2 * j + 1) (n - j) ≡ []
unfolding points_in
points_over c e n j h = ap (points_in c e (2 * j + 1)) (let a : n - j ≡ 0 = omega arith in a)

-- with j of n points written, what writes the others writes all of them
abbrev pub PointsLeft : Fold → List ℕ → ℕ → ℕ → Writer → List ℕ → Writer → List ℕ → ℕ → Type 0
PointsLeft fold c e n w b r a j =
    All (OfPoint Good) (points_in c e (2 * j + 1) (n - j)) × ((s : Writer) (z : List ℕ) → Goes (folded_points fold (points_in c e (2 * j + 1) (n - j))) r a s z → Goes (folded_points fold (points_in c e 1 n)) w b s z)

pub points-first : (fold : Fold) (c : List ℕ) (e n : ℕ) (w : Writer) (b : List ℕ) → All (OfPoint Good) (points_in c e 1 n) → PointsLeft fold c e n w b w b 0
points-first fold c e n w b g = rw (sub-zero n) (g, λ s z d. d)

pub point_good : (fold : Fold) (c : List ℕ) (e n j : ℕ) {w r : Writer} {b a : List ℕ} → j < n → PointsLeft fold c e n w b r a j → OfPoint Good (point_in c e (2 * j + 1))
unfolding All
point_good fold c e n j h l = (subst (All (OfPoint Good)) (points-next c e n j h) l.0).0

pub point-written : (fold : Fold) (c : List ℕ) (e n j : ℕ) (p : Point) {w r s : Writer} {b a z : List ℕ} → j < n → PointsLeft fold c e n w b r a j → p ≡ folded_point fold (point_in c e (2 * j + 1)) → Goes (p ∷ []) r a s z → PointsLeft fold c e n w b s z (j + 1)
unfolding All folded_points
point-written fold c e n j p {r = r} {s = s} {a = a} {z = z} h l q d =
    let u = points-next c e n j h in (
      (subst (All (OfPoint Good)) u l.0).1,
      λ t y g. l.1 t y (subst (λ (ps : List Point). Goes (folded_points fold ps) r a t y) (sym u) (goes_one (subst (λ (x : Point). Goes (x ∷ []) r a s z) q d) g)),
    )

pub points-written : (fold : Fold) (c : List ℕ) (e n j : ℕ) {w r : Writer} {b a : List ℕ} → n ≤ j → PointsLeft fold c e n w b r a j → Goes (folded_points fold (points_in c e 1 n)) w b r a
unfolding folded_points
points-written fold c e n j {r = r} {a = a} h l = l.1 r a (subst (λ (ps : List Point). Goes (folded_points fold ps) r a r a) (sym (points_over c e n j h)) (goes_none r a))
