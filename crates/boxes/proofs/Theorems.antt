-- Theorems: box, verdict and answer are what document 02, (a), says, in the terms of `Points`; and nothing else is.
use Rattle.std.specs.Prelude.{◌≡◌, refl, ℕ, ◌↔◌, ◌⊎◌, ℤ, ◌≤ℤ◌, Ok, Err}
use Rattle.std.proofs.Common.{sym, ap, ap₂, ◌∙◌, subst, inl, inr, T_not}
use mathlib.Core.List.Memᴰ
use mathlib.Core.List.{List, [], ◌∷◌, cons≢nil, Memᴰ as OneOf}
use Rattle.std.proofs.Math.Option.{Option, none, some, some-ne-none}
use Rattle.renderer.specs.Machine.{Point, Entry, State, Result, failed, ended, machine}
use Rattle.type2.specs.Bools.{choose}
use Rattle.boxes.specs.Box.{lesser, greater, box_from, points, box_of}
use Rattle.boxes.specs.Window.{share, holds_all, verdict_of}
use Rattle.boxes.specs.Answers.{Answer, refused, boxed, answer_of, answer}
use Rattle.boxes.specs.Points.{HasPoint, IsBox, Says, NoBox, HasBox, Means}
use Rattle.boxes.specs.Order.{≤ℤ_trans, ≤ℤ_antisymm}
use Rattle.boxes.proofs.PointLaws.{box_of_lem, corner, corner_in, share_yes, share_of, all_yes, all_no}
use Rattle.boxes.specs.declared.Bounds.{Bounds}
use Rattle.boxes.specs.declared.Verdict.{Verdict}
use Rattle.boxes.specs.declared.Verdict.TheVariants.{Within, Crossing, Outside}

-- ---- the points

-- "all points it draws, moves and control points included": those of every entry, and no others
pub points_all : (es : List (Entry Point)) (e : Entry Point) (p : Point) → OneOf e es → OneOf p e.points → OneOf p (points es)
unfolding points
points_all (d ∷ es) e p (OneOf.head q) o = Memᴰ.append_left (points es) (subst (λ (x : Entry Point). OneOf p x.points) q o)
points_all (d ∷ es) e p (OneOf.tail m) o = Memᴰ.append_right d.points (points_all es e p m o)
points_all [] e p m o = elim m [ ]

pub points_only : (es : List (Entry Point)) (p : Point) → OneOf p (points es) → (e : Entry Point) × OneOf e es × OneOf p e.points
unfolding points
points_only [] p o = absurd (Memᴰ.not-nil o)
points_only (d ∷ es) p o = go (Memᴰ.append_cases d.points o) (points_only es p)
  where
    go : OneOf p d.points ⊎ OneOf p (points es) → (OneOf p (points es) → (e : Entry Point) × OneOf e es × OneOf p e.points) → (e : Entry Point) × OneOf e (d ∷ es) × OneOf p e.points
    go (inl a) below = (d, OneOf.head refl, a)
    go (inr a) below = let (e, m, q) = below a in (e, OneOf.tail m, q)

-- ---- the box

-- "the least and greatest coordinate of all points it draws, moves and control points included": each point is in the box, and each of its four sides is a point's
pub box_of_drawn : (s : State) (rest : List ℕ) (b : Bounds) → box_of (ended s rest) ≡ some b → IsBox (points s.drawn) b
box_of_drawn s rest b e = box_of_lem (points s.drawn) b e

never_none : (b : Bounds) (ps : List Point) → ¬ (box_from (some b) ps ≡ none)
unfolding box_from
never_none b [] e = some-ne-none b e
never_none b (p ∷ ps) e = never_none (record { left = lesser b.left p.x; bottom = lesser b.bottom p.y; right = greater b.right p.x; top = greater b.top p.y }) ps e

no_points : (ps : List Point) → (box_from none ps ≡ none) ↔ (ps ≡ [])
unfolding box_from
no_points [] = (λ e. refl, λ e. refl)
no_points (p ∷ ps) = (λ e. absurd (never_none _ ps e), λ e. absurd (cons≢nil e))

-- of a run that ends there is no box exactly for "a glyph that draws no point"
pub no_box : (s : State) (rest : List ℕ) → (box_of (ended s rest) ≡ none) ↔ (points s.drawn ≡ [])
no_box s rest = no_points (points s.drawn)

-- no least is above its greatest
pub box_has-point : (ps : List Point) (b : Bounds) → IsBox ps b → HasPoint b
box_has-point ps b i = let (p, o, e) = i.left in let (l, r, d, u) = i.holds p o in (≤ℤ_trans l r, ≤ℤ_trans d u)

-- two boxes of the same points have the same sides
side_le : (ps : List Point) (b c : Bounds) → IsBox ps b → IsBox ps c → (c.left ≤ℤ b.left) × (c.bottom ≤ℤ b.bottom) × (b.right ≤ℤ c.right) × (b.top ≤ℤ c.top)
side_le ps b c i j =
    let (p, op, ep) = i.left in
    let (q, oq, eq) = i.bottom in
    let (r, or, er) = i.right in
    let (t, ot, et) = i.top in
    (subst (λ (z : ℤ). c.left ≤ℤ z) ep (j.holds p op).0, subst (λ (z : ℤ). c.bottom ≤ℤ z) eq (j.holds q oq).2, subst (λ (z : ℤ). z ≤ℤ c.right) er (j.holds r or).1, subst (λ (z : ℤ). z ≤ℤ c.top) et (j.holds t ot).3)

box_once : (ps : List Point) (b c : Bounds) → IsBox ps b → IsBox ps c → b ≡ c
box_once ps b c i j =
    let (l, d, r, u) = side_le ps b c i j in
    let (l', d', r', u') = side_le ps c b j i in
    let left : b.left ≡ c.left = ≤ℤ_antisymm l' l in
    let bottom : b.bottom ≡ c.bottom = ≤ℤ_antisymm d' d in
    let right : b.right ≡ c.right = ≤ℤ_antisymm r r' in
    let top : b.top ≡ c.top = ≤ℤ_antisymm u u' in
    λ k. record { left = left k; bottom = bottom k; right = right k; top = top k }

-- ---- the verdict

-- "Within means all of the box, touching edges included. Outside means that box and window share no point, crossing is all else." For every window, also one without a point.
pub verdict_says : (b w : Bounds) → HasPoint b → Says b w (verdict_of b w)
verdict_says b w h =
    choose (share b w) (Says b w) _ Outside
    (λ t. choose (holds_all w b) (Says b w) Within Crossing (all_yes b w) (λ n. (share_yes b w t, all_no b w h n)))
    (λ n p i j. T_not (share b w) n (share_of b w p i j))

says_once : (b w : Bounds) → HasPoint b → (u v : Verdict) → Says b w u → Says b w v → u ≡ v
says_once b w h Within Within s t = refl
says_once b w h Within Crossing s (shared, (q, i, n)) = absurd (n (s q i))
says_once b w h Within Outside s t = absurd (t (corner b) (corner_in b h) (s (corner b) (corner_in b h)))
says_once b w h Crossing Within (shared, (q, i, n)) t = absurd (n (t q i))
says_once b w h Crossing Crossing s t = refl
says_once b w h Crossing Outside ((p, i, j), other) t = absurd (t p i j)
says_once b w h Outside Within s t = absurd (s (corner b) (corner_in b h) (t (corner b) (corner_in b h)))
says_once b w h Outside Crossing s ((p, i, j), other) = absurd (s p i j)
says_once b w h Outside Outside s t = refl

-- no other verdict says so
pub verdict_only : (b w : Bounds) (v : Verdict) → HasPoint b → Says b w v → v ≡ verdict_of b w
verdict_only b w v h s = says_once b w h v (verdict_of b w) s (verdict_says b w h)

-- ---- the answer

module _ (program : List ℕ) (w : Bounds) where
  means_of_end : (s : State) (rest : List ℕ) → machine program ≡ ended s rest → (o : Option Bounds) → box_of (ended s rest) ≡ o → Means program w (answer_of o w)
  means_of_end s rest e none q = (refl, inr (s, rest, e, (no_box s rest).0 q))
  means_of_end s rest e (some b) q =
      let i = box_of_drawn s rest b q in
      record { end = s; rest = rest; ran = e; box = i; verdict = verdict_says b w (box_has-point (points s.drawn) b i) }

  means_of : (r : Result) → machine program ≡ r → Means program w (answer_of (box_of r) w)
  means_of failed e = (refl, inl e)
  means_of (ended s rest) e = means_of_end s rest e (box_of (ended s rest)) refl

  -- for every program and window: a box is that of all points drawn, with its verdict, and a refusal is for "bytes on which the machine faults and for a glyph that draws no point"
  pub answer_says : Means program w (answer program w)
  answer_says = means_of (machine program) refl

  ends_once : (s : State) (k : List ℕ) (t : State) (l : List ℕ) → machine program ≡ ended s k → machine program ≡ ended t l → s ≡ t
  ends_once s k t l d e = let f : ended s k ≡ ended t l = sym d ∙ e in cc

  not_both : (b : Bounds) (v : Verdict) → HasBox program w b v → NoBox program → ⊥
  not_both b v h (inl e) = let f : ended h.end h.rest ≡ failed = sym h.ran ∙ e in let z : ⊥ = cc in z
  not_both b v h (inr (s, rest, e, n)) =
      let (p, o, q) = h.box.left in
      let same : h.end ≡ s = ends_once h.end h.rest s rest h.ran e in
      Memᴰ.not-nil (subst (OneOf p) (ap (λ (x : State). points x.drawn) same ∙ n) o)

  means_once : (a c : Answer) → Means program w a → Means program w c → a ≡ c
  means_once (Err r) (Err q) s t = ap Err (s.0 ∙ sym t.0)
  means_once (Err r) (Ok c) s t = absurd (not_both c.bounds c.verdict t s.1)
  means_once (Ok b) (Err q) s t = absurd (not_both b.bounds b.verdict s t.1)
  means_once (Ok b) (Ok c) s t =
      let same : s.end ≡ t.end = ends_once s.end s.rest t.end t.rest s.ran t.ran in
      let i : IsBox (points t.end.drawn) b.bounds = subst (λ (x : State). IsBox (points x.drawn) b.bounds) same s.box in
      let e = box_once (points t.end.drawn) b.bounds c.bounds i t.box in
      ap₂ boxed e (says_once c.bounds w (box_has-point (points t.end.drawn) c.bounds t.box) b.verdict c.verdict (subst (λ (x : Bounds). Says x w b.verdict) e s.verdict) t.verdict)

  -- no other answer is so
  pub answer_only : (a : Answer) → Means program w a → a ≡ answer program w
  answer_only a m = means_once a (answer program w) m answer_says

  -- the same of a program whose run is known
  pub boxed_says : (s : State) (rest : List ℕ) (b : Bounds) (v : Verdict) → machine program ≡ ended s rest → answer program w ≡ boxed b v → IsBox (points s.drawn) b × Says b w v
  boxed_says s rest b v e a =
      let h : HasBox program w b v = subst (Means program w) a answer_says in
      (subst (λ (x : State). IsBox (points x.drawn) b) (ends_once h.end h.rest s rest h.ran e) h.box, h.verdict)

  pub refused_exactly : (s : State) (rest : List ℕ) → machine program ≡ ended s rest → (answer program w ≡ refused) ↔ (points s.drawn ≡ [])
  refused_exactly s rest e = (λ a. drew_none (subst (Means program w) a answer_says).1, λ n. sym (answer_only refused (refl, inr (s, rest, e, n))))
    where
      drew_none : NoBox program → points s.drawn ≡ []
      drew_none (inl f) = let d : failed ≡ ended s rest = sym f ∙ e in cc
      drew_none (inr (t, l, f, n)) = ap (λ (x : State). points x.drawn) (ends_once s rest t l e f) ∙ n
