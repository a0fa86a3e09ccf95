-- Laws: the box so far, as the code holds it.
use mathlib.Core.Path.{◌≡◌, refl, sym, ap, ◌∙◌, subst}
use Prim.Native.Nat.{ℕ, suc, ◌+◌, ◌*◌, ◌/◌, ◌^◌, ◌≤◌, ◌<◌, min, max}
use native.Mathlib.Omega.{arith}
use mathlib.Core.Bool.{Bool, true, false, ◌&&◌, true≢false}
use mathlib.Core.List.{List, ◌∷◌}
use mathlib.Core.Option.{Option, none, some}
use lib.ListN.{length, get_or, drop, length-drop}
use lib.Dec.{leb, ltb, leb→le, ltb→lt, nltb→le, nleb→lt}
use lib.Signed.{le_z, mag}
use lib.IntN.{ℤ, pos, negsuc, ◌-ℤ◌}
use mir.Syntax.{w64}
use mir.Val.{SFits, to_z, of_z}
use mir.ValLaws.{to_z-of_z}
use borrow.Author.Tests.{leb-true, leb-false}
use Rattle.std.specs.Prelude.{Option as OptionOf, Some, None, IfSome}
use Rattle.type2.specs.Number.{zp, zm}
use Rattle.type2.specs.Bools.{is_le, not_le, is_lt, choose}
use Rattle.type2.specs.Signed.{sub_bal}
use Rattle.renderer.specs.Machine.{Point, reach, all_small}
use Rattle.renderer.specs.Reader.{held, coordinate, point_at, is_near, Near}
use Rattle.renderer.specs.Reads.{moved_by}
use Rattle.renderer.specs.declared.path.Position.{Position}
use Rattle.renderer.proofs.ReaderLaws.{near_of, near_parts, reach_done}
use Rattle.renderer.proofs.PathLaws.{all_more, first_pair}
use Rattle.boxes.specs.Box.{lesser, greater, grow, box_from}
use Rattle.boxes.specs.Window.{verdict_of}
use Rattle.boxes.specs.Answers.{refused, boxed, answer_of}
use Rattle.boxes.specs.Extent.{extent_with, bounds_at, HoldsBox, Limited, SmallFrom, Extends}
use Rattle.boxes.specs.declared.Bounds.{Bounds}
use Rattle.boxes.specs.declared.Extent.{Extent}
use Rattle.boxes.specs.declared.Verdict.{Verdict}

-- ---- the 2 ^ 61 taken off
coordinate-fits : (x : ℕ) → x < 4611686018427387904 → SFits w64 (coordinate x)
coordinate-fits x h = record { sfits = choose (ltb x 2305843009213693952) (λ (z : ℤ). mag z < 2 ^ 63) _ _ (λ t. let k = ltb→lt x 2305843009213693952 t in omega arith) (λ t. let k = nltb→le x 2305843009213693952 t in omega arith) }

pub unit-fits : (x : ℕ) → x < 4611686018427387904 → SFits w64 (to_z w64 x -ℤ pos 2305843009213693952)
unit-fits x h = rw (is_lt x (2 ^ 63) (omega arith)) (coordinate-fits x h)

pub unit_is : (x : ℕ) → x < 4611686018427387904 → to_z w64 (of_z w64 (to_z w64 x -ℤ pos 2305843009213693952)) ≡ coordinate x
unit_is x h = to_z-of_z w64 _ (unit-fits x h) ∙ rw (is_lt x (2 ^ 63) (omega arith))

-- ---- order
le_balance : (a b : ℤ) → le_z a b ≡ leb (zp a + zm b) (zm a + zp b)
le_balance (pos m) (pos n) = go (leb m n) refl
  where
    go : (x : Bool) → leb m n ≡ x → x ≡ leb (m + 0) (0 + n)
    go true e = let h = leb-true m n e in rw (is_le (m + 0) (0 + n) (omega arith))
    go false e = let h = leb-false m n e in rw (not_le (m + 0) (0 + n) (omega arith))
le_balance (pos m) (negsuc n) = rw (not_le (m + suc n) (0 + 0) (omega arith))
le_balance (negsuc m) (pos n) = rw (is_le (0 + 0) (suc m + n) (omega arith))
le_balance (negsuc m) (negsuc n) = go (leb n m) refl
  where
    go : (x : Bool) → leb n m ≡ x → x ≡ leb (0 + suc n) (suc m + 0)
    go true e = let h = leb-true n m e in rw (is_le (0 + suc n) (suc m + 0) (omega arith))
    go false e = let h = leb-false n m e in rw (not_le (0 + suc n) (suc m + 0) (omega arith))

le-coordinate : (m n : ℕ) → le_z (coordinate m) (coordinate n) ≡ leb m n
le-coordinate m n =
    let a = sub_bal m 2305843009213693952 in
    let b = sub_bal n 2305843009213693952 in
    le_balance (coordinate m) (coordinate n) ∙ go (leb m n) refl
  where
    go : (x : Bool) → leb m n ≡ x → leb (zp (coordinate m) + zm (coordinate n)) (zm (coordinate m) + zp (coordinate n)) ≡ x
    go true e = let a = sub_bal m 2305843009213693952 in let b = sub_bal n 2305843009213693952 in let h = leb-true m n e in is_le (zp (coordinate m) + zm (coordinate n)) (zm (coordinate m) + zp (coordinate n)) (omega arith)
    go false e = let a = sub_bal m 2305843009213693952 in let b = sub_bal n 2305843009213693952 in let h = leb-false m n e in not_le (zp (coordinate m) + zm (coordinate n)) (zm (coordinate m) + zp (coordinate n)) (omega arith)

lesser_is : (m n : ℕ) → lesser (coordinate m) (coordinate n) ≡ coordinate (min m n)
lesser_is m n = rw (le-coordinate m n) (choose (leb m n) (λ (z : ℤ). z ≡ coordinate (min m n)) _ _ (λ t. let h = leb→le m n t in ap coordinate (let e : m ≡ min m n = omega arith in e)) (λ t. let h = nleb→lt m n t in ap coordinate (let e : n ≡ min m n = omega arith in e)))

greater_is : (m n : ℕ) → greater (coordinate m) (coordinate n) ≡ coordinate (max m n)
greater_is m n = rw (le-coordinate m n) (choose (leb m n) (λ (z : ℤ). z ≡ coordinate (max m n)) _ _ (λ t. let h = leb→le m n t in ap coordinate (let e : n ≡ max m n = omega arith in e)) (λ t. let h = nleb→lt m n t in ap coordinate (let e : m ≡ max m n = omega arith in e)))

-- ---- one point more
near_min : (m n : ℕ) → Near m → Near n → Near (min m n)
near_min m n a b = let c = a.above in let d = a.below in let e = b.above in let f = b.below in record { above = omega arith; below = omega arith }

near_max : (m n : ℕ) → Near m → Near n → Near (max m n)
near_max m n a b = let c = a.above in let d = a.below in let e = b.above in let f = b.below in record { above = omega arith; below = omega arith }

same : {a b c d a' b' c' d' : ℤ} → a ≡ a' → b ≡ b' → c ≡ c' → d ≡ d' → ◌≡◌ {A = Bounds} (record { left = a; bottom = b; right = c; top = d }) (record { left = a'; bottom = b'; right = c'; top = d' })
same p q r s = cc

pub holds_more : (b : Option Bounds) (e : OptionOf Extent) (p : Position) → HoldsBox b e → Near p.x → Near p.y → HoldsBox (grow b (point_at p)) (Some (extent_with e p))
holds_more none None p h n m = record { bounds = refl; near_left = n; near_bottom = m; near_right = n; near_top = m }
holds_more none (Some e) p h n m = absurd h
holds_more (some b) None p h n m = absurd h
holds_more (some b) (Some e) p h n m =
    record {
      bounds = rw h.bounds (same (lesser_is e.left p.x) (lesser_is e.bottom p.y) (greater_is e.right p.x) (greater_is e.top p.y));
      near_left = near_min e.left p.x h.near_left n;
      near_bottom = near_min e.bottom p.y h.near_bottom m;
      near_right = near_max e.right p.x h.near_right n;
      near_top = near_max e.top p.y h.near_top m;
    }

-- ---- the loop: what is left after the first i pairs, with the box so far, gives the whole
pub record Grows (d : List ℕ) (p0 : Position) (from e : OptionOf Extent) (p : Position) (i : ℕ) : Type 0 where
  pub near : is_near p ≡ true
  pub near_x : Near p.x
  pub near_y : Near p.y
  pub small : all_small (reach (point_at p) (held (drop (i * 2) d))) ≡ true
  pub whole : (b : Option Bounds) → HoldsBox b from → (c : Option Bounds) × (HoldsBox c e × (box_from b (reach (point_at p0) (held d)) ≡ box_from c (reach (point_at p) (held (drop (i * 2) d)))))

pub grows_first : (d : List ℕ) (p : Position) (from : OptionOf Extent) → SmallFrom d p → Grows d p from from p 0
grows_first d p from s =
    let n = near_parts p s.near in
    record { near = s.near; near_x = near_of p.x n.0; near_y = near_of p.y n.1; small = s.small; whole = λ b k. (b, (k, refl)) }

box_more : (b : Option Bounds) (p : Point) (l : List Point) → box_from b (p ∷ l) ≡ box_from (grow b p) l
unfolding box_from
box_more b p l = refl

both : (a b : Bool) → (a && b) ≡ true → (a ≡ true) × (b ≡ true)
both true b e = (refl, e)
both false b e = absurd (true≢false (sym e))

module _ {d : List ℕ} {p0 : Position} {from e : OptionOf Extent} {p : Position} {i : ℕ} (g : Grows d p0 from e p i) where
  pub grown_done : length d / 2 ≤ i → Extends d p0 from e
  unfolding box_from
  grown_done h b k =
      let w = g.whole b k in
      let l = length-drop (i * 2) d in
      subst (λ (c : Option Bounds). HoldsBox c e) (sym (w.1.1 ∙ ap (box_from w.0) (reach_done p (drop (i * 2) d) (omega arith)))) w.1.0

  module _ (more : i < length d / 2) {v u : ℕ} (a : v ≡ get_or d (i * 2) 0) (b : u ≡ get_or d (i * 2 + 1) 0) where
    abbrev q : Position
    q = moved_by p v u

    first_of : reach (point_at p) (held (drop (i * 2) d)) ≡ point_at q ∷ reach (point_at q) (held (drop ((i + 1) * 2) d))
    first_of = first_pair d i p g.near more a b

    parts : (is_near q ≡ true) × (all_small (reach (point_at q) (held (drop ((i + 1) * 2) d))) ≡ true)
    parts = both (is_near q) _ (sym (ap all_small first_of ∙ all_more q _) ∙ g.small)

    pub grows_more : Grows d p0 from (Some (extent_with e q)) q (i + 1)
    grows_more =
        let w = parts in
        let n = near_parts q w.0 in
        let x = near_of q.x n.0 in
        let y = near_of q.y n.1 in
        record { near = w.0; near_x = x; near_y = y; small = w.1; whole = λ c k. further c k (g.whole c k) x y }
      where
        further : (c : Option Bounds) → HoldsBox c from → (f : Option Bounds) × (HoldsBox f e × (box_from c (reach (point_at p0) (held d)) ≡ box_from f (reach (point_at p) (held (drop (i * 2) d))))) → Near q.x → Near q.y
            → (f : Option Bounds) × (HoldsBox f (Some (extent_with e q)) × (box_from c (reach (point_at p0) (held d)) ≡ box_from f (reach (point_at q) (held (drop ((i + 1) * 2) d)))))
        further c k (f, (h, r)) x y = (
          grow f (point_at q),
          (
            holds_more f e q h x y,
            r ∙ ap (box_from f) first_of ∙ box_more f (point_at q) _,
          ),
        )

-- ---- the answer
pub limited : (b : Option Bounds) (e : OptionOf Extent) → HoldsBox b e → IfSome e Limited
limited none None h = tt
limited none (Some e) h = absurd h
limited (some b) None h = absurd h
limited (some b) (Some e) h =
    let p = h.near_left.below in
    let q = h.near_bottom.below in
    let r = h.near_right.below in
    let s = h.near_top.below in
    record { left = omega arith; bottom = omega arith; right = omega arith; top = omega arith }

-- a number that a local has held
back : (z : ℤ) (x : ℕ) → x < 4611686018427387904 → z ≡ coordinate x → to_z w64 (of_z w64 z) ≡ coordinate x
back z x h e = ap (λ (y : ℤ). to_z w64 (of_z w64 y)) e ∙ to_z-of_z w64 (coordinate x) (coordinate-fits x h)

pub bounds_are : (e : Extent) (l b r u : ℤ) → Limited e → l ≡ coordinate e.left → b ≡ coordinate e.bottom → r ≡ coordinate e.right → u ≡ coordinate e.top
    → ◌≡◌ {A = Bounds} (record { left = to_z w64 (of_z w64 l); bottom = to_z w64 (of_z w64 b); right = to_z w64 (of_z w64 r); top = to_z w64 (of_z w64 u) }) (bounds_at e)
bounds_are e l b r u h p q s t = same (back l e.left h.left p) (back b e.bottom h.bottom q) (back r e.right h.right s) (back u e.top h.top t)

pub answers_none : (w : Bounds) (b : Option Bounds) → HoldsBox b None → refused ≡ answer_of b w
answers_none w none k = refl
answers_none w (some b) k = absurd k

pub answers_some : (e : Extent) (w a : Bounds) (v : Verdict) → a ≡ bounds_at e → v ≡ verdict_of a w → (b : Option Bounds) → HoldsBox b (Some e) → boxed a v ≡ answer_of b w
answers_some e w a v p q none k = absurd k
answers_some e w a v p q (some b) k =
    let s : a ≡ b = p ∙ sym k.bounds in
    rw (q, s)
