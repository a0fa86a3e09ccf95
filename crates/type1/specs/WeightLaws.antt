-- Laws: the groups' numbers rise strictly and are below the number of entries drawn; and points drawn, operands, the PostScript stack and the points of a flex are together at most the bytes read. A number is one operand for one byte or more; a line draws two points at the most, for its byte and an operand;
-- a curve four, for its byte and four operands; a flex draws six points and leaves two numbers for `pop`, for the seven points collected, its two bytes and two operands.
use Prim.Native.Nat.{ℕ, zero, suc, ◌+◌, ◌-◌, ◌≤◌, ◌<◌}
use Rattle.std.proofs.Common.{le_of_suc-le-suc}
use native.Mathlib.Omega.{arith}
use Rattle.std.specs.Prelude.{◌≡◌, Bool, true, false, not, ◌&&◌, ltb, eqb, ℤ, take, drop, Float}
use Rattle.std.proofs.Math.Path.{refl, ap}
use mathlib.Core.List.{List, [], ◌∷◌, ◌++◌}
use Rattle.std.proofs.Math.Option.{Option, none, some}
use Rattle.std.proofs.Math.Dec.{leb, leb→le, ltb→lt, eqb→eq}
use Rattle.std.proofs.Math.ListN.{length, get_or, length-append, length-take, length-drop}
use Rattle.std.specs.Float.{nan}
use Rattle.std.specs.Float.Ieee.{binary64, add, div, eq, le, to_unsigned, to_signed}
use Rattle.std.specs.Float.Ieee.Fits.{and_r}
use Rattle.std.specs.Float.Ieee.Scale.{finite}
use Rattle.charstring.specs.Cipher.{plain, max_charstring_bytes}
use Rattle.charstring.specs.Laws.{plain-length}
use Rattle.geometry.specs.declared.Point.{Point}
use Rattle.type1.specs.Operator as op
use Rattle.type1.specs.Operator.{Operator}
use Rattle.type1.specs.Number.{Token, cut, number, operator, token, double}
use Rattle.outline.specs.Outline.{Command, move, line, curve, flex, Group, plus_zero, origin, is_in, last_is, stem_of}
use Rattle.type1.specs.State.{State, with_operands, with_postscript, with_point, with_bearing, with_open, with_flex, with_hints, settled, with_drawn, with_divided, with_ran}
use Rattle.type1.specs.Run.{Limits, Outcome, going, refused, and_then, top, cleared, without, needs, push, stem, entries, group_number, new_group, commit, enter, list, shifted, is_finite, no_flex, move_by, open_subpath, line_to, line_by, curve_to, curve_by, same_point, set_point, backwards, hand_back, end_flex, height_of, other_subr0, collected, other_subr2, is, other_subr, call_other_subr, pop_d, div_d, stems3, point_at, operate, Font, charge, named, returned, call_body, call_subr, execute, consume, run_bytes, run_body, run}
use Rattle.type1.specs.Sound.{Ends, points, points_of, gathered, weight, Goes, Rising, Placed, Weighs, Due}
use Rattle.type1.specs.Outcomes.{check_ends, allowed_ends, pick_ends, needs_ends, returned_ends, then_ends, allowed-goes, pick_goes, then_goes}

pub points-append : (l : List Command) (c : Command) → points_of (l ++ (c ∷ [])) ≡ points_of l + points c
unfolding points_of
points-append [] c = omega arith
points-append (a ∷ l) c = let h = points-append l c in omega arith

-- ---- groups: the entry that makes one is listed at once after it, so its number is below that of the entries
rising_more : (from : ℕ) (l : List Group) (m n : ℕ) → m ≤ n → Rising from l m → Rising from l n
unfolding Rising
rising_more from [] m n h r = tt
rising_more from (g ∷ l) m n h r = let a = r.1 in (r.0, omega arith, rising_more (suc g.before) l m n h r.2)

rising_snoc : (from : ℕ) (l : List Group) (g : Group) → from ≤ g.before → Rising from l g.before → Rising from (l ++ (g ∷ [])) (suc g.before)
unfolding Rising
rising_snoc from [] g h r = (h, omega arith, tt)
rising_snoc from (a ∷ l) g h r = let b = r.1 in (r.0, omega arith, rising_snoc (suc a.before) l g r.1 r.2)

-- by place
pub rising_below : (from : ℕ) (l : List Group) (end : ℕ) → Rising from l end → (i : ℕ) (d : Group) → i < length l → (from ≤ (get_or l i d).before) × ((get_or l i d).before < end)
unfolding Rising
rising_below from [] end r i d h = absurd (let z : ⊥ = omega arith in z)
rising_below from (g ∷ l) end r zero d h = (r.0, r.1)
rising_below from (g ∷ l) end r (suc i) d h =
    let a = rising_below (suc g.before) l end r.2 i d (le_of_suc-le-suc h) in
    let b = a.0 in
    let c = r.0 in
    (omega arith, a.1)

pub rising_at : (from : ℕ) (l : List Group) (end : ℕ) → Rising from l end → (i j : ℕ) (d : Group) → i < j → j < length l → (get_or l i d).before < (get_or l j d).before
unfolding Rising
rising_at from [] end r i j d h k = absurd (let z : ⊥ = omega arith in z)
rising_at from (g ∷ l) end r i zero d h k = absurd (let z : ⊥ = omega arith in z)
rising_at from (g ∷ l) end r zero (suc j) d h k = (rising_below (suc g.before) l end r.2 j d (le_of_suc-le-suc k)).0
rising_at from (g ∷ l) end r (suc i) (suc j) d h k = rising_at (suc g.before) l end r.2 i j d (le_of_suc-le-suc h) (le_of_suc-le-suc k)

-- ---- fewer bytes to be read
pub weighs_less : (m n : ℕ) → n ≤ m → (s : State) → Weighs m s → Weighs n s
weighs_less m n h s w = let b = w.below in record { below = omega arith; ran = w.ran; placed = w.placed }

-- another state with a weight that is at most so much more
weighs_more : (m n : ℕ) (s t : State) → t.ran ≡ s.ran → Placed t → weight t + n ≤ weight s + m → Weighs m s → Weighs n t
weighs_more m n s t e p h w = let b = w.below in let r = w.ran in record { below = omega arith; ran = omega arith; placed = p }

-- with k operands at the least, without all of them
cleared_weighs : (k m : ℕ) (s : State) → k ≤ length s.operands → Weighs m s → Weighs (k + m) (cleared s)
cleared_weighs k m s h w = weighs_more m (k + m) s (cleared s) refl w.placed (omega arith) w

without_weighs : (k m : ℕ) (s : State) → k ≤ length s.operands → Weighs m s → Weighs (k + m) (without k s)
without_weighs k m s h w = let e = length-take (length s.operands - k) s.operands in weighs_more m (k + m) s (without k s) refl w.placed (omega arith) w

module _ (lim : Limits) (n : ℕ) where
  push_weighs : (v : Float) (s : State) → Weighs (1 + n) s → Ends (Weighs n) (push lim v s)
  unfolding push
  push_weighs v s w =
      let l = s.operands ++ (v ∷ []) in
      let e = length-append s.operands (v ∷ []) in
      allowed_ends (Weighs n) (lim.operands (length s.operands + 1)) (going (with_operands l s)) (weighs_more (1 + n) n s (with_operands l s) refl w.placed (omega arith) w)

  stem_weighs : (h : Bool) (p x : Float) (s : State) → Weighs n s → Ends (Weighs n) (stem lim h p x s)
  unfolding stem
  stem_weighs h p x s w =
      let l = s.hints ++ (stem_of h p x ∷ []) in
      check_ends (Weighs n) (finite p) 14 _ (λ t.
      pick_ends (Weighs n) (is_in s.hints (stem_of h p x)) (going s) _ (λ u. w) (λ u.
      allowed_ends (Weighs n) (lim.hints (length s.hints + 1)) (going (with_hints l s)) (weighs_more n n s (with_hints l s) refl w.placed (omega arith) w)))

  commit_weighs : (s : State) → Weighs n s → Goes (Due n) (commit lim s)
  unfolding commit new_group
  commit_weighs s w =
      let g : Group = record { stems = s.hints; before = length s.drawn } in
      let l = s.groups ++ (g ∷ []) in
      let r = rising_more 0 s.groups (length s.drawn) (suc (length s.drawn)) (omega arith) w.placed in
      pick_goes (Due n) s.changed _ (going s) (λ t.
      pick_goes (Due n) (last_is s.groups s.hints) (going (settled s.groups s)) _ (λ u. record { below = w.below; ran = w.ran; placed = r }) (λ u.
      allowed-goes (Due n) (group_number lim s) (going (settled l s)) (record { below = w.below; ran = w.ran; placed = rising_snoc 0 s.groups g (omega arith) w.placed })))
      (λ t. record { below = w.below; ran = w.ran; placed = r })

  enter_weighs : (c : Command) (s : State) → Due (points c + n) s → Ends (Weighs n) (enter lim c s)
  unfolding enter
  enter_weighs c s w =
      let l = s.drawn ++ (c ∷ []) in
      let e = points-append s.drawn c in
      let f = length-append s.drawn (c ∷ []) in
      let b = w.below in
      allowed_ends (Weighs n) (lim.commands (entries s + 1)) (going (with_drawn l s)) (record { below = omega arith; ran = w.ran; placed = rising_more 0 s.groups (suc (length s.drawn)) (length l) (omega arith) w.placed })

  -- a step after which m bytes are left to be read, then one after which there are n
  then_weighs : (m : ℕ) (o : Outcome) (k : State → Outcome) → n ≤ m → Ends (Weighs m) o → ((s : State) → Weighs m s → Ends (Weighs n) (k s)) → Ends (Weighs n) (and_then o k)
  then_weighs m o k h w f = then_ends (Weighs m) (Weighs n) o k w (weighs_less m n h) f

list_weighs : (lim : Limits) (n : ℕ) (c : Command) (s : State) → Weighs (points c + n) s → Ends (Weighs n) (list lim c s)
unfolding list
list_weighs lim n c s w = then_goes (Due (points c + n)) (Weighs n) (commit lim s) (enter lim c) (commit_weighs lim (points c + n) s w) (λ t v. enter_weighs lim n c t v)

-- the point and the open flag weigh nothing
moved : (m : ℕ) (p : Point) (s : State) → Weighs m s → Weighs m (with_point p s)
moved m p s w = record { below = w.below; ran = w.ran; placed = w.placed }

opened : (m : ℕ) (b : Bool) (s : State) → Weighs m s → Weighs m (with_open b s)
opened m b s w = record { below = w.below; ran = w.ran; placed = w.placed }

module _ (lim : Limits) (n : ℕ) where
  -- a move listed, and a subpath open
  opening : (p : Point) (s : State) → Weighs (1 + n) s → Ends (Weighs n) (and_then (list lim (move p) s) (λ t. going (with_open true t)))
  opening p s w = then_weighs lim n n (list lim (move p) s) _ (omega arith) (list_weighs lim n (move p) s w) (λ t v. opened n true t v)

  move_by_weighs : (dx dy : Float) (s : State) → Weighs (1 + n) s → Ends (Weighs n) (move_by lim dx dy s)
  unfolding move_by
  move_by_weighs dx dy s w =
      let p = shifted s.point dx dy in
      let v = moved (1 + n) p s w in
      check_ends (Weighs n) (is_finite p) 14 _ (λ t.
      pick_ends (Weighs n) (no_flex s.flexing) _ (going (with_point p s)) (λ u. opening p (with_point p s) v) (λ u. weighs_less (1 + n) n (omega arith) (with_point p s) v))

  open_subpath_weighs : (s : State) → Weighs (1 + n) s → Ends (Weighs n) (open_subpath lim s)
  unfolding open_subpath
  open_subpath_weighs s w = pick_ends (Weighs n) s.opened (going s) _ (λ t. weighs_less (1 + n) n (omega arith) s w) (λ t. opening s.point s w)

  line_to_weighs : (dx dy : Float) (s : State) → Weighs (1 + n) s → Ends (Weighs n) (line_to lim dx dy s)
  unfolding line_to
  line_to_weighs dx dy s w =
      let p = shifted s.point dx dy in
      check_ends (Weighs n) (is_finite p) 14 _ (λ t. list_weighs lim n (line p) (with_point p s) (moved (1 + n) p s w))

  curve_to_weighs : (dx1 dy1 dx2 dy2 dx3 dy3 : Float) (s : State) → Weighs (3 + n) s → Ends (Weighs n) (curve_to lim dx1 dy1 dx2 dy2 dx3 dy3 s)
  unfolding curve_to
  curve_to_weighs dx1 dy1 dx2 dy2 dx3 dy3 s w =
      let p1 = shifted s.point dx1 dy1 in
      let p2 = shifted p1 dx2 dy2 in
      let p3 = shifted p2 dx3 dy3 in
      check_ends (Weighs n) (is_finite p1 && (is_finite p2 && is_finite p3)) 14 _ (λ t. list_weighs lim n (curve p1 p2 p3) (with_point p3 s) (moved (3 + n) p3 s w))

  set_point_weighs : (p : Point) (s : State) → Weighs (1 + n) s → Ends (Weighs n) (set_point lim p s)
  unfolding set_point
  set_point_weighs p s w =
      let v = moved (1 + n) p s w in
      pick_ends (Weighs n) (same_point p s.point) (going s) _ (λ t. weighs_less (1 + n) n (omega arith) s w) (λ t.
      pick_ends (Weighs n) (s.opened && no_flex s.flexing) _ (going (with_point p s)) (λ u. list_weighs lim n (move p) (with_point p s) v) (λ u. weighs_less (1 + n) n (omega arith) (with_point p s) v))

  hand_back_weighs : (l : List Float) (s : State) → Weighs (length l + n) s → Ends (Weighs n) (hand_back lim l s)
  unfolding hand_back
  hand_back_weighs l s w =
      let m = s.postscript ++ l in
      let e = length-append s.postscript l in
      allowed_ends (Weighs n) (lim.postscript (length s.postscript + length l)) (going (with_postscript m s)) (weighs_more (length l + n) n s (with_postscript m s) refl w.placed (omega arith) w)

module _ (lim : Limits) (n : ℕ) where
  line_by_weighs : (dx dy : Float) (s : State) → Weighs (2 + n) s → Ends (Weighs n) (line_by lim dx dy s)
  unfolding line_by
  line_by_weighs dx dy s w =
      then_weighs lim n (1 + n) (open_subpath lim s) (line_to lim dx dy) (omega arith) (open_subpath_weighs lim (1 + n) s (weighs_less (2 + n) (1 + (1 + n)) (omega arith) s w)) (λ t v. line_to_weighs lim n dx dy t v)

  curve_by_weighs : (dx1 dy1 dx2 dy2 dx3 dy3 : Float) (s : State) → Weighs (4 + n) s → Ends (Weighs n) (curve_by lim dx1 dy1 dx2 dy2 dx3 dy3 s)
  unfolding curve_by
  curve_by_weighs dx1 dy1 dx2 dy2 dx3 dy3 s w =
      then_weighs lim n (3 + n) (open_subpath lim s) (curve_to lim dx1 dy1 dx2 dy2 dx3 dy3) (omega arith) (open_subpath_weighs lim (3 + n) s (weighs_less (4 + n) (1 + (3 + n)) (omega arith) s w))
      (λ t v. curve_to_weighs lim n dx1 dy1 dx2 dy2 dx3 dy3 t v)

  -- the seven points are given up for six points and two numbers
  end_flex_weighs : (h : Float) (l : List Point) (s : State) → s.flexing ≡ some l → Weighs (1 + n) s → Ends (Weighs n) (end_flex lim h l s)
  unfolding end_flex
  end_flex_weighs h l s f w =
      let p : ℕ → Point = λ i. get_or l i origin in
      let c = flex (p 1) (p 2) (p 3) (p 4) (p 5) (p 6) h in
      check_ends (Weighs n) (eqb (length l) 7) 9 _ (λ t.
      let e = eqb→eq (length l) 7 t in
      let g : gathered s.flexing ≡ length l = ap gathered f in
      then_weighs lim n (2 + n) (list lim c (with_flex none s)) _ (omega arith)
      (list_weighs lim (2 + n) c (with_flex none s) (weighs_more (1 + n) (6 + (2 + n)) s (with_flex none s) refl w.placed (omega arith) w))
      (λ u v. hand_back_weighs lim n ((p 6).y ∷ (p 6).x ∷ []) (with_point (p 6) u) (moved (2 + n) (p 6) u v)))

  other_subr0_weighs : (args : List Float) (s : State) → Weighs (1 + n) s → Ends (Weighs n) (other_subr0 lim args s)
  unfolding other_subr0
  other_subr0_weighs args s w = go s.flexing refl
    where
      go : (o : Option (List Point)) → s.flexing ≡ o → Ends (Weighs n) (elim o as (λ x. Outcome) [ none ↦ refused 9 | some l ↦ end_flex lim (height_of args) l s ])
      go none e = tt
      go (some l) e = end_flex_weighs (height_of args) l s e w

  other_subr2_weighs : (s : State) → Weighs (1 + n) s → Ends (Weighs n) (other_subr2 s)
  unfolding other_subr2
  other_subr2_weighs s w = go s.flexing refl
    where
      go : (o : Option (List Point)) → s.flexing ≡ o → Ends (Weighs n) (elim o as (λ x. Outcome) [ none ↦ refused 9 | some l ↦ going (with_flex (some (collected l s.point)) s) ])
      go none e = tt
      go (some l) e =
          let g : gathered s.flexing ≡ length l = ap gathered e in
          let h = length-append l (s.point ∷ []) in
          weighs_more (1 + n) n s (with_flex (some (collected l s.point)) s) refl w.placed (omega arith) w

  backwards-length : (l : List Float) → length (backwards l) ≡ length l
  unfolding backwards
  backwards-length [] = refl
  backwards-length (a ∷ l) = let e = length-append (backwards l) (a ∷ []) in let h = backwards-length l in omega arith

  other_subr_weighs : (z : ℤ) (args : List Float) (s : State) → Weighs (1 + (length args + n)) s → Ends (Weighs n) (other_subr lim z args s)
  unfolding other_subr
  other_subr_weighs z args s w =
      let m = 1 + (length args + n) in
      let e = backwards-length args in
      let one = weighs_less m (1 + n) (omega arith) s w in
      pick_ends (Weighs n) (is 0 z) _ _ (λ t. other_subr0_weighs args s one) (λ t.
      pick_ends (Weighs n) (is 1 z) (going (with_flex (some []) s)) _ (λ u. weighs_more m n s (with_flex (some []) s) refl w.placed (omega arith) w) (λ u.
      pick_ends (Weighs n) (is 2 z) _ _ (λ v. other_subr2_weighs s one) (λ v.
      pick_ends (Weighs n) (is 3 z) _ _
      (λ x. hand_back_weighs lim n (backwards args) (with_hints [] s) (weighs_more m (length (backwards args) + n) s (with_hints [] s) refl w.placed (omega arith) w))
      (λ x. hand_back_weighs lim n (backwards args) s (weighs_less m (length (backwards args) + n) (omega arith) s w)))))

  call_other_subr_weighs : (s : State) → Weighs n s → Ends (Weighs n) (call_other_subr lim s)
  unfolding call_other_subr
  call_other_subr_weighs s w =
      let t = without 2 s in
      let k = to_unsigned 64 (top 2 s) in
      let l = t.operands in
      let a = le plus_zero (top 2 s) in
      needs_ends (Weighs n) 2 s _ (λ m.
      check_ends (Weighs n) (a && leb k (length l)) 7 _ (λ u.
      let c = leb→le k (length l) (and_r a (leb k (length l)) u) in
      let e = length-drop (length l - k) l in
      other_subr_weighs (to_signed 63 (top 1 s)) (drop (length l - k) l) (without k t)
      (weighs_less (k + (2 + n)) (1 + (length (drop (length l - k) l) + n)) (omega arith) (without k t) (without_weighs k (2 + n) t c (without_weighs 2 n s m w)))))

  pop_d_weighs : (s : State) → Weighs n s → Ends (Weighs n) (pop_d lim s)
  unfolding pop_d
  pop_d_weighs s w =
      let l = s.postscript in
      let k = length l - 1 in
      check_ends (Weighs n) (ltb 0 (length l)) 11 _ (λ t.
      let h = ltb→lt 0 (length l) t in
      let e = length-take k l in
      push_weighs lim n (get_or l k nan) (with_postscript (take k l) s) (weighs_more n (1 + n) s (with_postscript (take k l) s) refl w.placed (omega arith) w))

  div_d_weighs : (s : State) → Weighs n s → Ends (Weighs n) (div_d s)
  unfolding div_d
  div_d_weighs s w =
      let q = div binary64 (top 2 s) (top 1 s) in
      let l = (without 2 s).operands in
      let x = with_divided (with_operands (l ++ (q ∷ [])) s) in
      needs_ends (Weighs n) 2 s _ (λ m.
      check_ends (Weighs n) (not (eq (top 1 s) plus_zero)) 10 _ (λ t.
      check_ends (Weighs n) (finite q) 14 (going x) (λ u.
      let e = length-append l (q ∷ []) in
      let f = length-take (length s.operands - 2) s.operands in
      weighs_more n n s x refl w.placed (omega arith) w)))

  stems3_weighs : (h : Bool) (from : Float) (s : State) → Weighs n s → Ends (Weighs n) (stems3 lim h from s)
  unfolding stems3
  stems3_weighs h from s w =
      let a = add binary64 from in
      needs_ends (Weighs n) 6 s _ (λ m.
      then_weighs lim n n (stem lim h (a (top 6 s)) (top 5 s) (cleared s)) _ (omega arith) (stem_weighs lim n h (a (top 6 s)) (top 5 s) (cleared s) (weighs_more n n s (cleared s) refl w.placed (omega arith) w)) (λ t v.
      then_weighs lim n n (stem lim h (a (top 4 s)) (top 3 s) t) _ (omega arith) (stem_weighs lim n h (a (top 4 s)) (top 3 s) t v) (λ u x.
      stem_weighs lim n h (a (top 2 s)) (top 1 s) u x)))

  -- an operator, for which one byte at the least was read
  pub operate_weighs : (call : Outcome) (o : Operator) (s : State) → Weighs (1 + n) s → Ends (Weighs n) call → Ends (Weighs n) (operate lim call o s)
  unfolding operate
  operate_weighs call o s w c = go o
    where
      bare : Weighs n s
      bare = weighs_less (1 + n) n (omega arith) s w

      empty : Weighs n (cleared s)
      empty = weighs_more (1 + n) n s (cleared s) refl w.placed (omega arith) w

      -- a step that needs k operands, and with them and its byte can afford j
      spend : (k j : ℕ) (x : Outcome) → j ≤ k + 1 → (Weighs (j + n) (cleared s) → Ends (Weighs n) x) → Ends (Weighs n) (needs k s x)
      spend k j x h f = needs_ends (Weighs n) k s x (λ m. f (weighs_less (k + (1 + n)) (j + n) (omega arith) (cleared s) (cleared_weighs k (1 + n) s m w)))

      stem_at_lem : (b : Bool) (p x : Float) → Ends (Weighs n) (needs 2 s (stem lim b p x (cleared s)))
      stem_at_lem b p x = needs_ends (Weighs n) 2 s _ (λ m. stem_weighs lim n b p x (cleared s) empty)

      go : (o : Operator) → Ends (Weighs n) (operate lim call o s)
      go op.hstem = stem_at_lem true (add binary64 s.bearing.y (top 2 s)) (top 1 s)
      go op.vstem = stem_at_lem false (add binary64 s.bearing.x (top 2 s)) (top 1 s)
      go op.vmoveto = spend 1 1 _ (omega arith) (move_by_weighs lim n plus_zero (top 1 s) (cleared s))
      go op.rlineto = spend 2 2 _ (omega arith) (line_by_weighs (top 2 s) (top 1 s) (cleared s))
      go op.hlineto = spend 1 2 _ (omega arith) (line_by_weighs (top 1 s) plus_zero (cleared s))
      go op.vlineto = spend 1 2 _ (omega arith) (line_by_weighs plus_zero (top 1 s) (cleared s))
      go op.rrcurveto = spend 6 4 _ (omega arith) (curve_by_weighs (top 6 s) (top 5 s) (top 4 s) (top 3 s) (top 2 s) (top 1 s) (cleared s))
      go op.closepath = opened n false (cleared s) empty
      go op.callsubr = c
      go op.return = bare
      go op.hsbw = needs_ends (Weighs n) 2 s (going (with_bearing (point_at (top 2 s) plus_zero) (top 1 s) (cleared s))) (λ m. record { below = empty.below; ran = empty.ran; placed = empty.placed })
      go op.endchar = empty
      go op.rmoveto = spend 2 1 _ (omega arith) (move_by_weighs lim n (top 2 s) (top 1 s) (cleared s))
      go op.hmoveto = spend 1 1 _ (omega arith) (move_by_weighs lim n (top 1 s) plus_zero (cleared s))
      go op.vhcurveto = spend 4 4 _ (omega arith) (curve_by_weighs plus_zero (top 4 s) (top 3 s) (top 2 s) (top 1 s) plus_zero (cleared s))
      go op.hvcurveto = spend 4 4 _ (omega arith) (curve_by_weighs (top 4 s) plus_zero (top 3 s) (top 2 s) plus_zero (top 1 s) (cleared s))
      go op.dotsection = empty
      go op.vstem3 = stems3_weighs false s.bearing.x s bare
      go op.hstem3 = stems3_weighs true s.bearing.y s bare
      go op.seac = tt
      go op.sbw = needs_ends (Weighs n) 4 s (going (with_bearing (point_at (top 4 s) (top 3 s)) (top 2 s) (cleared s))) (λ m. record { below = empty.below; ran = empty.ran; placed = empty.placed })
      go op.div = div_d_weighs s bare
      go op.callothersubr = call_other_subr_weighs s bare
      go op.pop = pop_d_weighs s bare
      go op.setcurrentpoint = spend 2 1 _ (omega arith) (set_point_weighs lim n (point_at (top 2 s) (top 1 s)) (cleared s))
      go op.unknown = tt

  -- a body's bytes are counted, and are then to be read
  charge_weighs : (l : List ℕ) (s : State) → Weighs n s → Ends (Weighs (length l + n)) (charge l s)
  unfolding charge
  charge_weighs l s w =
      let r = s.ran + length l in
      check_ends (Weighs (length l + n)) (leb r max_charstring_bytes) 3 (going (with_ran r s)) (λ t. let b = w.below in record { below = omega arith; ran = leb→le r max_charstring_bytes t; placed = w.placed })

  charged_weighs : (deep : List ℕ → State → Outcome) (l : List ℕ) → ((s : State) → Weighs (length l + n) s → Ends (Weighs n) (deep l s)) → (s : State) → Weighs n s → Ends (Weighs n) (and_then (charge l s) (λ t. returned (deep l t)))
  charged_weighs deep l h s w = then_weighs lim n (length l + n) (charge l s) _ (omega arith) (charge_weighs l s w) (λ t v. returned_ends (Weighs n) (deep l t) (h t v))

  call_subr_weighs : (f : Font) (deep : List ℕ → State → Outcome) → ((l : List ℕ) (s : State) → Weighs (length l + n) s → Ends (Weighs n) (deep l s)) → (s : State) → Weighs n s → Ends (Weighs n) (call_subr f deep s)
  unfolding call_subr call_body
  call_subr_weighs f deep h s w = needs_ends (Weighs n) 1 s _ (λ m. go (named f (top 1 s)) (weighs_less (1 + n) n (omega arith) (without 1 s) (without_weighs 1 n s m w)))
    where
      go : (o : Option (List ℕ)) → Weighs n (without 1 s) → Ends (Weighs n) (call_body deep o (without 1 s))
      go none v = tt
      go (some l) v = charged_weighs deep l (h l) (without 1 s) v

  execute_weighs : (f : Font) (deep : List ℕ → State → Outcome) → ((l : List ℕ) (s : State) → Weighs (length l + n) s → Ends (Weighs n) (deep l s)) → (o : Operator) (s : State) → Weighs (1 + n) s → Ends (Weighs n) (execute lim f deep o s)
  unfolding execute
  execute_weighs f deep h o s w = operate_weighs (call_subr f deep s) o s w (call_subr_weighs f deep h s (weighs_less (1 + n) n (omega arith) s w))

-- ---- the run
module _ (lim : Limits) where
  pub run_bytes_weighs :
      (g : Operator → State → Outcome) → ((n : ℕ) (o : Operator) (s : State) → Weighs (1 + n) s → Ends (Weighs n) (g o s)) →
      (n : ℕ) (l : List ℕ) (m : ℕ) (s : State) → Weighs (length l - m + n) s → Ends (Weighs n) (run_bytes lim g l m s)
  unfolding run_bytes
  run_bytes_weighs g h n [] m s w = weighs_less (0 - m + n) n (omega arith) s w
  run_bytes_weighs g h n (b ∷ l) (suc m) s w = run_bytes_weighs g h n l m s (weighs_less (suc (length l) - suc m + n) (length l - m + n) (omega arith) s w)
  run_bytes_weighs g h n (b ∷ l) zero s w =
      go (token b l) (weighs_less (suc (length l) - 0 + n) (1 + (length l + n)) (omega arith) s w) (λ m t v. run_bytes_weighs g h n l m t (weighs_less (length l + n) (length l - m + n) (omega arith) t v))
    where
      go : (k : Token) → Weighs (1 + (length l + n)) s → ((m : ℕ) (t : State) → Weighs (length l + n) t → Ends (Weighs n) (run_bytes lim g l m t)) → Ends (Weighs n) (consume lim g k s (run_bytes lim g l))
      go cut v on = tt
      go (number m z) v on = then_weighs lim n (length l + n) (push lim (double z) s) _ (omega arith) (push_weighs lim (length l + n) (double z) s v) (on m)
      go (operator m o) v on = then_weighs lim n (length l + n) (g o s) _ (omega arith) (h (length l + n) o s v) (on m)

  pub run_body_weighs : (f : Font) (k n : ℕ) (l : List ℕ) (s : State) → Weighs (length l + n) s → Ends (Weighs n) (run_body lim f k l s)
  unfolding run_body
  run_body_weighs f zero n l s w = tt
  run_body_weighs f (suc k) n l s w =
      let b = plain f.len_iv l in
      let e = plain-length f.len_iv l in
      run_bytes_weighs (execute lim f (run_body lim f k)) (λ m. execute_weighs lim m f (run_body lim f k) (run_body_weighs f k m)) n b 0 s (weighs_less (length l + n) (length b - 0 + n) (omega arith) s w)

  pub run_weighs : (f : Font) (n : ℕ) (l : List ℕ) (s : State) → Weighs n s → Ends (Weighs n) (run lim f l s)
  unfolding run
  run_weighs f n l s w = charged_weighs lim n (run_body lim f _) l (run_body_weighs f _ n l) s w
