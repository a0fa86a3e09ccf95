-- Laws: the box of one point more, and what the tests on box and window say of points.
use Rattle.std.specs.Prelude.{◌≡◌, refl, ◌⊎◌, Bool, true, false, not, ◌&&◌, T, ℤ, ◌≤ℤ◌}
use Rattle.std.proofs.Common.{sym, ◌∙◌, subst, inl, inr, T_not}
use mathlib.Core.List.Memᴰ
use mathlib.Core.List.{List, [], ◌∷◌, ◌++◌, append-nil, append_assoc, Memᴰ as OneOf}
use Rattle.std.proofs.Math.Option.{none, some, none-ne-some}
use Rattle.std.specs.Int.Signed.{le_z, le_z_yes, ≤ℤ_refl}
use Rattle.renderer.specs.Machine.{Point}
use Rattle.type2.specs.Bools.{and_both}
use Rattle.boxes.specs.Box.{lesser, greater, box_from}
use Rattle.boxes.specs.Window.{meet, share, holds_all}
use Rattle.boxes.specs.Order.{either, ≤ℤ_trans, lesser_left, lesser_right, lesser_one, greater_left, greater_right, greater_one, greater-least}
use Rattle.boxes.specs.Points.{In, HasPoint, IsBox}
use Rattle.boxes.specs.declared.Bounds.{Bounds}

-- ---- boxes

-- the box of one point
abbrev at : Point → Bounds
at p = record { left = p.x; bottom = p.y; right = p.x; top = p.y }

-- and that of one more
abbrev with : Bounds → Point → Bounds
with b p = record { left = lesser b.left p.x; bottom = lesser b.bottom p.y; right = greater b.right p.x; top = greater b.top p.y }

in_with : (b : Bounds) (p q : Point) → In q b → In q (with b p)
in_with b p q (l, r, d, u) = (≤ℤ_trans (lesser_left b.left p.x) l, ≤ℤ_trans r (greater_left b.right p.x), ≤ℤ_trans (lesser_left b.bottom p.y) d, ≤ℤ_trans u (greater_left b.top p.y))

with_in : (b : Bounds) (p : Point) → In p (with b p)
with_in b p = (lesser_right b.left p.x, greater_right b.right p.x, lesser_right b.bottom p.y, greater_right b.top p.y)

one_box : (p : Point) → IsBox (p ∷ []) (at p)
one_box p = record {
  holds = λ q o. subst (λ (x : Point). In x (at p)) (sym (Memᴰ.eq_of_singleton o)) (≤ℤ_refl p.x, ≤ℤ_refl p.x, ≤ℤ_refl p.y, ≤ℤ_refl p.y);
  left = (p, OneOf.head refl, refl);
  bottom = (p, OneOf.head refl, refl);
  right = (p, OneOf.head refl, refl);
  top = (p, OneOf.head refl, refl);
}

module _ (ps : List Point) (b : Bounds) (p : Point) (i : IsBox ps b) where
  -- a side of the box of one point more is the side before, or that point's coordinate
  side : (c : Point → ℤ) (z m : ℤ) → (q : Point) × OneOf q ps × (c q ≡ z) → (z ≡ m) ⊎ (c p ≡ m) → (q : Point) × OneOf q (ps ++ (p ∷ [])) × (c q ≡ m)
  side c z m (q, o, e) (inl f) = (q, Memᴰ.append_left (p ∷ []) o, e ∙ f)
  side c z m r (inr f) = (p, Memᴰ.append_right ps (OneOf.head refl), f)

  more_in : (q : Point) → OneOf q ps ⊎ OneOf q (p ∷ []) → In q (with b p)
  more_in q (inl o) = in_with b p q (i.holds q o)
  more_in q (inr o) = subst (λ (x : Point). In x (with b p)) (sym (Memᴰ.eq_of_singleton o)) (with_in b p)

  more : IsBox (ps ++ (p ∷ [])) (with b p)
  more = record {
    holds = λ q o. more_in q (Memᴰ.append_cases ps o);
    left = side (λ q. q.x) b.left _ i.left (lesser_one b.left p.x);
    bottom = side (λ q. q.y) b.bottom _ i.bottom (lesser_one b.bottom p.y);
    right = side (λ q. q.x) b.right _ i.right (greater_one b.right p.x);
    top = side (λ q. q.y) b.top _ i.top (greater_one b.top p.y);
  }

from_box : (ps rest : List Point) (b c : Bounds) → IsBox ps b → box_from (some b) rest ≡ some c → IsBox (ps ++ rest) c
unfolding box_from
from_box ps [] b c i e = let q : b ≡ c = cc in rw append-nil (subst (IsBox ps) q i)
from_box ps (p ∷ rest) b c i e = subst (λ (l : List Point). IsBox l c) (append_assoc ps (p ∷ []) rest) (from_box (ps ++ (p ∷ [])) rest (with b p) c (more ps b p i) e)

pub box_of_lem : (ps : List Point) (b : Bounds) → box_from none ps ≡ some b → IsBox ps b
unfolding box_from
box_of_lem [] b e = absurd (none-ne-some b e)
box_of_lem (p ∷ ps) b e = from_box (p ∷ []) ps (at p) b (one_box p) e

-- ---- a box and a window

both : (a b : Bool) → T a → T b → T (a && b)
both true b t u = u
both false b t u = absurd t

-- a number in common
abbrev Common : ℤ → ℤ → ℤ → ℤ → Type 0
Common a b c d = (z : ℤ) × (a ≤ℤ z) × (z ≤ℤ b) × (c ≤ℤ z) × (z ≤ℤ d)

meet_yes : (a b c d : ℤ) → T (meet a b c d) → Common a b c d
meet_yes a b c d t =
    let (t3, cd) = and_both (le_z a b && le_z a d && le_z c b) (le_z c d) t in
    let (t2, cb) = and_both (le_z a b && le_z a d) (le_z c b) t3 in
    let (ab, ad) = and_both (le_z a b) (le_z a d) t2 in
    (greater a c, greater_left a c, greater-least a c (le_z_yes ab) (le_z_yes cb), greater_right a c, greater-least a c (le_z_yes ad) (le_z_yes cd))

meet_of : (a b c d : ℤ) → Common a b c d → T (meet a b c d)
meet_of a b c d (z, az, zb, cz, zd) =
    both (le_z a b && le_z a d && le_z c b) (le_z c d) (both (le_z a b && le_z a d) (le_z c b) (both (le_z a b) (le_z a d) (≤ℤ_trans az zb).le (≤ℤ_trans az zd).le) (≤ℤ_trans cz zb).le) (≤ℤ_trans cz zd).le

-- its lowest corner is in a box
abbrev pub corner : Bounds → Point
corner b = record { x = b.left; y = b.bottom }

pub corner_in : (b : Bounds) → HasPoint b → In (corner b) b
corner_in b (across, up) = (≤ℤ_refl b.left, across, ≤ℤ_refl b.bottom, up)

module _ (b w : Bounds) where
  abbrev across : Bool
  across = meet b.left b.right w.left w.right

  abbrev upright : Bool
  upright = meet b.bottom b.top w.bottom w.top

  pub share_yes : T (share b w) → (p : Point) × In p b × In p w
  share_yes t =
      let (tx, ty) = and_both across upright t in
      let (x, bx, xb, wx, xw) = meet_yes b.left b.right w.left w.right tx in
      let (y, by, yb, wy, yw) = meet_yes b.bottom b.top w.bottom w.top ty in
      (record { x = x; y = y }, (bx, xb, by, yb), (wx, xw, wy, yw))

  pub share_of : (p : Point) → In p b → In p w → T (share b w)
  share_of p (bx, xb, by, yb) (wx, xw, wy, yw) =
      both across upright (meet_of b.left b.right w.left w.right (p.x, bx, xb, wx, xw)) (meet_of b.bottom b.top w.bottom w.top (p.y, by, yb, wy, yw))

  -- the tests of the least sides, and of the greatest
  abbrev low : Bool
  low = le_z w.left b.left && le_z w.bottom b.bottom

  pub all_yes : T (holds_all w b) → (p : Point) → In p b → In p w
  all_yes t p (bx, xb, by, yb) =
      let (t3, top) = and_both (low && le_z b.right w.right) (le_z b.top w.top) t in
      let (t2, right) = and_both low (le_z b.right w.right) t3 in
      let (left, bottom) = and_both (le_z w.left b.left) (le_z w.bottom b.bottom) t2 in
      (≤ℤ_trans (le_z_yes left) bx, ≤ℤ_trans xb (le_z_yes right), ≤ℤ_trans (le_z_yes bottom) by, ≤ℤ_trans yb (le_z_yes top))

  abbrev high : Bool
  high = le_z b.right w.right && le_z b.top w.top

  all_of : T low → T high → T (holds_all w b)
  all_of t u =
      let (right, top) = and_both (le_z b.right w.right) (le_z b.top w.top) u in
      both (low && le_z b.right w.right) (le_z b.top w.top) (both low (le_z b.right w.right) t right) top

  -- a corner of the box is not in the window
  pub all_no : HasPoint b → T (not (holds_all w b)) → (p : Point) × In p b × (¬ In p w)
  all_no (across, up) n =
      either low
      (λ t. either high
      (λ u. absurd (T_not (holds_all w b) n (all_of t u)))
      (λ u. (record { x = b.right; y = b.top }, (across, ≤ℤ_refl b.right, up, ≤ℤ_refl b.top), λ i. T_not high u (both (le_z b.right w.right) (le_z b.top w.top) i.1.le i.3.le))))
      (λ t. (corner b, corner_in b (across, up), λ i. T_not low t (both (le_z w.left b.left) (le_z w.bottom b.bottom) i.0.le i.2.le)))
