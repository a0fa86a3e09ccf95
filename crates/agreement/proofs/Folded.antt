-- Laws: what a run has left, folded: its points are finite doubles, whole under the identity if no div ran, and as many; its groups stand where they stood.
use Rattle.std.specs.Prelude.{◌≡◌, refl, ℕ, suc, ◌+◌, ◌*◌, ◌^◌, ◌≤◌, ◌<◌, Bool, true, false, ◌&&◌, cond, length, T, ltb, Float}
use Rattle.std.proofs.Common.{sym, ap, ap₂, ◌∙◌, subst, mul_assoc, arith, length-append, ltb→lt, lit≤}
use mathlib.Core.List.{List, [], ◌∷◌, ◌++◌}
use Rattle.std.specs.Float.{binary64}
use Rattle.std.specs.Float.Ieee.{fits}
use Rattle.std.specs.Float.Ieee.Fits.{div-fits}
use Rattle.std.specs.Float.Ieee.Scale.{finite}
use Rattle.binary64.specs.Value.{Multiple, Whole}
use Rattle.geometry.specs.declared.Point.{Point}
use Rattle.geometry.specs.declared.Matrix.{Matrix}
use Rattle.folding.specs.declared.Fold.{Fold}
use Rattle.geometry.specs.Transform as Transform
use Rattle.outline.specs.declared.Stem.{Stem}
use Rattle.outline.specs.Outline.{Command, move, line, curve, flex, Group}
use Rattle.type1.specs.Memory.{Good}
use Rattle.type1.specs.Sound as Sound
use Rattle.type1.specs.Sound.{All, OfPoint, OfCommand, Rising, points}
use Rattle.type2.specs.Bools.{choose, and_both}
use Rattle.folding.specs.Folding.{fold_of, folded_point, folded_command, folded_list, folded_groups, finite_point, finite_command, finite_list}
use Rattle.type1_to_type2.specs.Stems.{declared, stems_of, in_order}
use Rattle.type1_to_type2.specs.Emission.{points_of}
use Rattle.agreement.specs.Demand3.{masks_for}
use Rattle.agreement.specs.Simulation.{GoodWhole, Fixed, PointCoordinates, ListCoordinates, group_masks}

-- ---- points

fits-point : (fold : Fold) (p : Point) → OfPoint Good p → T (fits binary64 (folded_point fold p).x) × T (fits binary64 (folded_point fold p).y)
unfolding folded_point Transform.point Transform.rounded10
fits-point fold p g = choose fold.identity (λ (q : Point). T (fits binary64 q.x) × T (fits binary64 q.y)) p (Transform.point fold.matrix p.x p.y) (λ t. (g.0.fit, g.1.fit)) (λ t. (div-fits binary64 _ _, div-fits binary64 _ _))

near_point : (fold : Fold) (p : Point) → OfPoint Good p → T (finite_point (folded_point fold p)) → PointCoordinates false (folded_point fold p)
near_point fold p g t =
    let q = folded_point fold p in
    let f = fits-point fold p g in
    let w = and_both (finite q.x) (finite q.y) t in
    ((f.0, w.0, tt), (f.1, w.1, tt))

-- a whole number is a whole number of 1/65536
whole-fixed : (x : Float) → Whole binary64 x → Fixed true x
unfolding Multiple
whole-fixed x (k, e) = (k * 2 ^ 16, e ∙ sym (mul_assoc k (2 ^ 16) (2 ^ 1058)))

exact_point : (fold : Fold) → fold.identity ≡ true → (p : Point) → OfPoint GoodWhole p → T (finite_point (folded_point fold p)) → PointCoordinates true (folded_point fold p)
unfolding folded_point
exact_point fold i p g t =
    subst (λ (b : Bool). PointCoordinates true (cond b p (Transform.point fold.matrix p.x p.y))) (sym i)
    ((g.0.0.fit, g.0.0.fine, whole-fixed p.x g.0.1), (g.1.0.fit, g.1.0.fine, whole-fixed p.y g.1.1))

-- ---- drawn lists

module _ (b : Bool) (P : Float → Type 0) (fold : Fold) (coordinates : (p : Point) → OfPoint P p → T (finite_point (folded_point fold p)) → PointCoordinates b (folded_point fold p)) where
  command_coordinates : (c : Command) → OfCommand P c → T (finite_command (folded_command fold c)) → ListCoordinates b (points_of (folded_command fold c))
  command_coordinates (move p) g t = (coordinates p g t, tt)
  command_coordinates (line p) g t = (coordinates p g t, tt)
  command_coordinates (curve p q r) g t =
      let f : Point → Bool = λ p. finite_point (folded_point fold p) in
      let u = and_both (f p) (f q && f r) t in
      let v = and_both (f q) (f r) u.1 in
      (coordinates p g.0 u.0, (coordinates q g.1.0 v.0, (coordinates r g.1.1 v.1, tt)))
  command_coordinates (flex p q r s t u h) g k =
      let f : Point → Bool = λ p. finite_point (folded_point fold p) in
      let a = and_both (f p) (f q && (f r && (f s && (f t && f u)))) k in
      let b = and_both (f q) (f r && (f s && (f t && f u))) a.1 in
      let c = and_both (f r) (f s && (f t && f u)) b.1 in
      let d = and_both (f s) (f t && f u) c.1 in
      let e = and_both (f t) (f u) d.1 in
      (coordinates p g.0 a.0, (coordinates q g.1.0 b.0, (coordinates r g.1.1.0 c.0, (coordinates s g.1.1.1.0 d.0, (coordinates t g.1.1.1.1.0 e.0, (coordinates u g.1.1.1.1.1.0 e.1, tt))))))

  list_coordinates : (cs : List Command) → All (OfCommand P) cs → T (finite_list (folded_list fold cs)) → All (λ c. ListCoordinates b (points_of c)) (folded_list fold cs)
  unfolding folded_list finite_list All
  list_coordinates [] g t = tt
  list_coordinates (c ∷ cs) g t =
      let w = and_both (finite_command (folded_command fold c)) (finite_list (folded_list fold cs)) t in
      (command_coordinates c g.0 w.0, list_coordinates cs g.1 w.1)

pub near_list : (fold : Fold) (cs : List Command) → All (OfCommand Good) cs → T (finite_list (folded_list fold cs)) → All (λ c. ListCoordinates false (points_of c)) (folded_list fold cs)
near_list fold = list_coordinates false Good fold (near_point fold)

both-commands : (P R : Float → Type 0) (c : Command) → OfCommand P c → OfCommand R c → OfCommand (λ x. P x × R x) c
both-commands P R c = go c
  where
    pt : (p : Point) → OfPoint P p → OfPoint R p → OfPoint (λ x. P x × R x) p
    pt p a b = ((a.0, b.0), (a.1, b.1))

    go : (c : Command) → OfCommand P c → OfCommand R c → OfCommand (λ x. P x × R x) c
    go (move p) a b = pt p a b
    go (line p) a b = pt p a b
    go (curve p q r) a b = (pt p a.0 b.0, (pt q a.1.0 b.1.0, pt r a.1.1 b.1.1))
    go (flex p q r s t u h) a b =
        (pt p a.0 b.0, (pt q a.1.0 b.1.0, (pt r a.1.1.0 b.1.1.0, (pt s a.1.1.1.0 b.1.1.1.0, (pt t a.1.1.1.1.0 b.1.1.1.1.0, (pt u a.1.1.1.1.1.0 b.1.1.1.1.1.0, (a.1.1.1.1.1.1, b.1.1.1.1.1.1)))))))

both-list : (P R : Float → Type 0) (cs : List Command) → All (OfCommand P) cs → All (OfCommand R) cs → All (OfCommand (λ x. P x × R x)) cs
unfolding All
both-list P R [] a b = tt
both-list P R (c ∷ cs) a b = (both-commands P R c a.0 b.0, both-list P R cs a.1 b.1)

pub exact_list : (fold : Fold) → fold.identity ≡ true → (cs : List Command) → All (OfCommand Good) cs → All (OfCommand (Whole binary64)) cs → T (finite_list (folded_list fold cs)) → All (λ c. ListCoordinates true (points_of c)) (folded_list fold cs)
exact_list fold i cs g w = list_coordinates true GoodWhole fold (exact_point fold i) cs (both-list Good (Whole binary64) cs g w)

folded_command_points : (fold : Fold) (c : Command) → points (folded_command fold c) ≡ points c
folded_command_points fold (move p) = refl
folded_command_points fold (line p) = refl
folded_command_points fold (curve p q r) = refl
folded_command_points fold (flex p q r s t u h) = refl

pub folded-points : (fold : Fold) (cs : List Command) → Sound.points_of (folded_list fold cs) ≡ Sound.points_of cs
unfolding folded_list Sound.points_of
folded-points fold [] = refl
folded-points fold (c ∷ cs) = ap₂ ◌+◌ (folded_command_points fold c) (folded-points fold cs)

pub folded-length : (fold : Fold) (cs : List Command) → length (folded_list fold cs) ≡ length cs
unfolding folded_list
folded-length fold [] = refl
folded-length fold (c ∷ cs) = ap suc (folded-length fold cs)

-- ---- groups

pub folded_rising : (fold : Fold) (from : ℕ) (gs : List Group) (end : ℕ) → Rising from gs end → Rising from (folded_groups fold gs) end
unfolding folded_groups Rising
folded_rising fold from [] end r = tt
folded_rising fold from (g ∷ gs) end r = (r.0, r.1, folded_rising fold (suc g.before) gs end r.2)

pub folded_masks : (m : Matrix) (ss : List Stem) (gs : List Group) → group_masks ss (folded_groups (fold_of m) gs) ≡ masks_for m ss gs
unfolding folded_groups group_masks masks_for
folded_masks m ss [] = refl
folded_masks m ss (g ∷ gs) = rw (folded_masks m ss gs)

-- at most 96 stems are declared
pub few_stems_lem : (gs : List Group) → length (stems_of (declared gs)) ≤ 96
unfolding declared
few_stems_lem gs = go (in_order true gs) (in_order false gs) (ltb (length (in_order true gs) + length (in_order false gs)) 97) (ltb→lt (length (in_order true gs) + length (in_order false gs)) 97)
  where
    go : (hs vs : List Stem) (b : Bool) → (T b → length hs + length vs < 97) → length (cond b hs [] ++ cond b vs []) ≤ 96
    go hs vs true h = let e = length-append hs vs in let l = h tt in omega arith
    go hs vs false h = lit≤ tt
