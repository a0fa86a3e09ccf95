-- Laws: a property of numbers that sums and quotients keep (`Kept`) is kept by the run: from a state whose every number has it, a step leaves such a state.
use Prim.Native.Nat.{ℕ, suc, ◌+◌, ◌-◌, ◌≤◌}
use Rattle.std.proofs.Common.{arith, sym, subst, leb→le}
use Rattle.std.specs.Prelude.{refl, false, not, ◌&&◌, ltb, eqb, ℤ, take, drop, Float}
use Rattle.std.proofs.Math.Bool.{Bool, true}
use mathlib.Core.List.{List, [], ◌∷◌, ◌++◌}
use Rattle.std.proofs.Math.Option.{Option, none, some}
use Rattle.std.proofs.Math.Dec.{T, leb, ltb→lt}
use Rattle.std.proofs.Math.ListN.{length, get_or}
use Rattle.std.specs.Float.Ieee.{nan, binary64, add, div, eq, le, to_unsigned, to_signed}
use Rattle.std.specs.Float.Ieee.Fits.{and_l, and_r}
use Rattle.std.specs.Float.Ieee.Scale.{finite}
use Rattle.geometry.specs.declared.Point.{Point}
use Rattle.outline.specs.declared.Stem.{Stem}
use Rattle.type1.specs.Operator as op
use Rattle.type1.specs.Operator.{Operator}
use Rattle.type1.specs.Number.{double}
use Rattle.outline.specs.Outline.{Command, move, line, curve, flex, Group, plus_zero, origin, is_in, last_is, stem_of}
use Rattle.type1.specs.State.{State, with_operands, with_postscript, with_point, with_bearing, with_open, with_flex, with_hints, settled, with_drawn, with_divided, with_ran}
use Rattle.type1.specs.Run.{Limits, Outcome, going, refused, and_then, top, cleared, without, needs, push, stem, entries, group_number, new_group, commit, enter, list, shifted, is_finite, no_flex, move_by, open_subpath, line_to, line_by, curve_to, curve_by, same_point, set_point, backwards, hand_back, end_flex, height_of, other_subr0, collected, other_subr2, is, other_subr, call_other_subr, pop_d, div_d, stems3, point_at, operate}
use Rattle.type1.specs.Sound.{All, OfPoint, OfStem, OfCommand, OfFlex, OfGroup, Numbers, Ends, Sums, Kept, Holding, Held, Stable}
use Rattle.type1.specs.Outcomes.{check_ends, allowed_ends, pick_ends, needs_ends, then_ends, weaken_ends, all_append, all_snoc, all_take, all_drop, all_get_d, all_get_d_default, all_map}

-- ---- a weaker property
module _ (P R : Float → Type 0) (f : (x : Float) → P x → R x) where
  point-map : (p : Point) → OfPoint P p → OfPoint R p
  point-map p q = (f p.x q.0, f p.y q.1)

  stem-map : (s : Stem) → OfStem P s → OfStem R s
  stem-map s q = (f s.pos q.0, f s.width q.1)

  command_map : (c : Command) → OfCommand P c → OfCommand R c
  command_map (move p) q = point-map p q
  command_map (line p) q = point-map p q
  command_map (curve a b c) q = (point-map a q.0, (point-map b q.1.0, point-map c q.1.1))
  command_map (flex a b c d e g h) q = (
    point-map a q.0,
    (
      point-map b q.1.0,
      (
        point-map c q.1.1.0,
        (
          point-map d q.1.1.1.0,
          (
            point-map e q.1.1.1.1.0,
            (point-map g q.1.1.1.1.1.0, f h q.1.1.1.1.1.1),
          ),
        ),
      ),
    ),
  )

  flex_map : (o : Option (List Point)) → OfFlex P o → OfFlex R o
  flex_map none q = tt
  flex_map (some l) q = all_map (OfPoint P) (OfPoint R) point-map l q

  pub numbers-map : (s : State) → Numbers P s → Numbers R s
  numbers-map s q = record {
    operands = all_map P R f s.operands q.operands;
    postscript = all_map P R f s.postscript q.postscript;
    point = point-map s.point q.point;
    bearing = point-map s.bearing q.bearing;
    width = f s.width q.width;
    flexing = flex_map s.flexing q.flexing;
    hints = all_map (OfStem P) (OfStem R) stem-map s.hints q.hints;
    groups = all_map (OfGroup P) (OfGroup R) (λ g. all_map (OfStem P) (OfStem R) stem-map g.stems) s.groups q.groups;
    drawn = all_map (OfCommand P) (OfCommand R) command_map s.drawn q.drawn;
  }

-- ---- the state with one part another
module _ (P : Float → Type 0) (s : State) (q : Numbers P s) where
  operands_kept : (l : List Float) → All P l → Numbers P (with_operands l s)
  operands_kept l h = record { operands = h; postscript = q.postscript; point = q.point; bearing = q.bearing; width = q.width; flexing = q.flexing; hints = q.hints; groups = q.groups; drawn = q.drawn }

  postscript_kept : (l : List Float) → All P l → Numbers P (with_postscript l s)
  postscript_kept l h = record { operands = q.operands; postscript = h; point = q.point; bearing = q.bearing; width = q.width; flexing = q.flexing; hints = q.hints; groups = q.groups; drawn = q.drawn }

  point-kept : (p : Point) → OfPoint P p → Numbers P (with_point p s)
  point-kept p h = record { operands = q.operands; postscript = q.postscript; point = h; bearing = q.bearing; width = q.width; flexing = q.flexing; hints = q.hints; groups = q.groups; drawn = q.drawn }

  bearing_kept : (b : Point) (w : Float) → OfPoint P b → P w → Numbers P (with_bearing b w s)
  bearing_kept b w h k = record { operands = q.operands; postscript = q.postscript; point = h; bearing = h; width = k; flexing = q.flexing; hints = q.hints; groups = q.groups; drawn = q.drawn }

  open_kept : (b : Bool) → Numbers P (with_open b s)
  open_kept b = record { operands = q.operands; postscript = q.postscript; point = q.point; bearing = q.bearing; width = q.width; flexing = q.flexing; hints = q.hints; groups = q.groups; drawn = q.drawn }

  flexing_kept : (f : Option (List Point)) → OfFlex P f → Numbers P (with_flex f s)
  flexing_kept f h = record { operands = q.operands; postscript = q.postscript; point = q.point; bearing = q.bearing; width = q.width; flexing = h; hints = q.hints; groups = q.groups; drawn = q.drawn }

  hints_kept : (l : List Stem) → All (OfStem P) l → Numbers P (with_hints l s)
  hints_kept l h = record { operands = q.operands; postscript = q.postscript; point = q.point; bearing = q.bearing; width = q.width; flexing = q.flexing; hints = h; groups = q.groups; drawn = q.drawn }

  settled-kept : (g : List Group) → All (OfGroup P) g → Numbers P (settled g s)
  settled-kept g h = record { operands = q.operands; postscript = q.postscript; point = q.point; bearing = q.bearing; width = q.width; flexing = q.flexing; hints = q.hints; groups = h; drawn = q.drawn }

  drawn-kept : (l : List Command) → All (OfCommand P) l → Numbers P (with_drawn l s)
  drawn-kept l h = record { operands = q.operands; postscript = q.postscript; point = q.point; bearing = q.bearing; width = q.width; flexing = q.flexing; hints = q.hints; groups = q.groups; drawn = h }

  divided_kept : Numbers P (with_divided s)
  divided_kept = record { operands = q.operands; postscript = q.postscript; point = q.point; bearing = q.bearing; width = q.width; flexing = q.flexing; hints = q.hints; groups = q.groups; drawn = q.drawn }

  ran_kept : (n : ℕ) → Numbers P (with_ran n s)
  ran_kept n = record { operands = q.operands; postscript = q.postscript; point = q.point; bearing = q.bearing; width = q.width; flexing = q.flexing; hints = q.hints; groups = q.groups; drawn = q.drawn }

  cleared-kept : Numbers P (cleared s)
  unfolding All
  cleared-kept = operands_kept [] tt

  without-kept : (k : ℕ) → Numbers P (without k s)
  without-kept k = operands_kept _ (all_take P (length s.operands - k) s.operands q.operands)

  -- with n operands held, the k-th from the top, k from 1 to n
  top_kept : (k n : ℕ) → T (leb (suc k) n) → n ≤ length s.operands → P (top (suc k) s)
  top_kept k n h m = let j = leb→le (suc k) n h in all_get_d P s.operands (length s.operands - suc k) nan q.operands (omega arith)

-- ---- the steps, div apart
module _ (d : Bool) (P : Float → Type 0) (K : Sums P) where
  shifted-kept : (p : Point) (dx dy : Float) → OfPoint P p → P dx → P dy → T (is_finite (shifted p dx dy)) → OfPoint P (shifted p dx dy)
  shifted-kept p dx dy q a b t =
      (K.sum p.x dx q.0 a (and_l (finite (shifted p dx dy).x) (finite (shifted p dx dy).y) t), K.sum p.y dy q.1 b (and_r (finite (shifted p dx dy).x) (finite (shifted p dx dy).y) t))

  pub push_kept : (lim : Limits) (v : Float) (s : State) → Held d P s → P v → Ends (Held d P) (push lim v s)
  unfolding push
  push_kept lim v s q p =
      let l = s.operands ++ (v ∷ []) in
      allowed_ends (Held d P) (lim.operands (length s.operands + 1)) (going (with_operands l s)) ((q.0, operands_kept P s q.1 l (all_snoc P s.operands v q.1.operands p)))

  pub stem-kept : (lim : Limits) (h : Bool) (p w : Float) (s : State) → Held d P s → (T (finite p) → P p) → P w → Ends (Held d P) (stem lim h p w s)
  unfolding stem
  stem-kept lim h p w s q a b =
      check_ends (Held d P) (finite p) 14 _ (λ t.
      pick_ends (Held d P) (is_in s.hints (stem_of h p w)) (going s) _ (λ u. q) (λ u.
      let l = s.hints ++ (stem_of h p w ∷ []) in
      allowed_ends (Held d P) (lim.hints (length s.hints + 1)) (going (with_hints l s)) ((q.0, hints_kept P s q.1 l (all_snoc (OfStem P) s.hints (stem_of h p w) q.1.hints (a t, b))))))

  pub new_group-kept : (lim : Limits) (s : State) → Held d P s → Ends (Held d P) (new_group lim s)
  unfolding new_group
  new_group-kept lim s q =
      let g : Group = record { stems = s.hints; before = length s.drawn } in
      let l = s.groups ++ (g ∷ []) in
      allowed_ends (Held d P) (group_number lim s) (going (settled l s)) (q.0, settled-kept P s q.1 l (all_snoc (OfGroup P) s.groups g q.1.groups q.1.hints))

  pub commit-kept : (lim : Limits) (s : State) → Held d P s → Ends (Held d P) (commit lim s)
  unfolding commit
  commit-kept lim s q =
      pick_ends (Held d P) s.changed _ (going s)
      (λ t. pick_ends (Held d P) (last_is s.groups s.hints) _ _ (λ u. (q.0, settled-kept P s q.1 s.groups q.1.groups)) (λ u. new_group-kept lim s q))
      (λ t. q)

  pub enter-kept : (lim : Limits) (c : Command) (s : State) → OfCommand P c → Held d P s → Ends (Held d P) (enter lim c s)
  unfolding enter
  enter-kept lim c s p q =
      let l = s.drawn ++ (c ∷ []) in
      allowed_ends (Held d P) (lim.commands (entries s + 1)) (going (with_drawn l s)) ((q.0, drawn-kept P s q.1 l (all_snoc (OfCommand P) s.drawn c q.1.drawn p)))

  then_kept : (o : Outcome) (k : State → Outcome) → Ends (Held d P) o → ((s : State) → Held d P s → Ends (Held d P) (k s)) → Ends (Held d P) (and_then o k)
  then_kept o k p h = then_ends (Held d P) (Held d P) o k p (λ s q. q) h

  pub list-kept : (lim : Limits) (c : Command) (s : State) → OfCommand P c → Held d P s → Ends (Held d P) (list lim c s)
  unfolding list
  list-kept lim c s p q = then_kept (commit lim s) (enter lim c) (commit-kept lim s q) (λ t r. enter-kept lim c t p r)

  pub move_by-kept : (lim : Limits) (dx dy : Float) (s : State) → P dx → P dy → Held d P s → Ends (Held d P) (move_by lim dx dy s)
  unfolding move_by
  move_by-kept lim dx dy s a b q =
      let p = shifted s.point dx dy in
      check_ends (Held d P) (is_finite p) 14 _ (λ t.
      let g = shifted-kept s.point dx dy q.1.point a b t in
      let r : Held d P (with_point p s) = (q.0, point-kept P s q.1 p g) in
      pick_ends (Held d P) (no_flex s.flexing) _ _
      (λ u. then_kept (list lim (move p) (with_point p s)) _ (list-kept lim (move p) (with_point p s) g r) (λ v w. (w.0, open_kept P v w.1 true)))
      (λ u. r))

  pub open_subpath-kept : (lim : Limits) (s : State) → Held d P s → Ends (Held d P) (open_subpath lim s)
  unfolding open_subpath
  open_subpath-kept lim s q =
      pick_ends (Held d P) s.opened _ _ (λ t. q)
      (λ t. then_kept (list lim (move s.point) s) _ (list-kept lim (move s.point) s q.1.point q) (λ v w. (w.0, open_kept P v w.1 true)))

  pub line_to-kept : (lim : Limits) (dx dy : Float) (s : State) → P dx → P dy → Held d P s → Ends (Held d P) (line_to lim dx dy s)
  unfolding line_to
  line_to-kept lim dx dy s a b q =
      let p = shifted s.point dx dy in
      check_ends (Held d P) (is_finite p) 14 _ (λ t.
      let g = shifted-kept s.point dx dy q.1.point a b t in
      list-kept lim (line p) (with_point p s) g (q.0, point-kept P s q.1 p g))

  pub line_by-kept : (lim : Limits) (dx dy : Float) (s : State) → P dx → P dy → Held d P s → Ends (Held d P) (line_by lim dx dy s)
  unfolding line_by
  line_by-kept lim dx dy s a b q = then_kept (open_subpath lim s) (line_to lim dx dy) (open_subpath-kept lim s q) (λ t r. line_to-kept lim dx dy t a b r)

  pub curve_to-kept : (lim : Limits) (dx1 dy1 dx2 dy2 dx3 dy3 : Float) (s : State) → P dx1 → P dy1 → P dx2 → P dy2 → P dx3 → P dy3 → Held d P s → Ends (Held d P) (curve_to lim dx1 dy1 dx2 dy2 dx3 dy3 s)
  unfolding curve_to
  curve_to-kept lim dx1 dy1 dx2 dy2 dx3 dy3 s a1 b1 a2 b2 a3 b3 q =
      let p1 = shifted s.point dx1 dy1 in
      let p2 = shifted p1 dx2 dy2 in
      let p3 = shifted p2 dx3 dy3 in
      check_ends (Held d P) (is_finite p1 && (is_finite p2 && is_finite p3)) 14 _ (λ t.
      let u = and_r (is_finite p1) (is_finite p2 && is_finite p3) t in
      let g1 = shifted-kept s.point dx1 dy1 q.1.point a1 b1 (and_l (is_finite p1) (is_finite p2 && is_finite p3) t) in
      let g2 = shifted-kept p1 dx2 dy2 g1 a2 b2 (and_l (is_finite p2) (is_finite p3) u) in
      let g3 = shifted-kept p2 dx3 dy3 g2 a3 b3 (and_r (is_finite p2) (is_finite p3) u) in
      list-kept lim (curve p1 p2 p3) (with_point p3 s) (g1, (g2, g3)) (q.0, point-kept P s q.1 p3 g3))

  pub curve_by-kept : (lim : Limits) (dx1 dy1 dx2 dy2 dx3 dy3 : Float) (s : State) → P dx1 → P dy1 → P dx2 → P dy2 → P dx3 → P dy3 → Held d P s → Ends (Held d P) (curve_by lim dx1 dy1 dx2 dy2 dx3 dy3 s)
  unfolding curve_by
  curve_by-kept lim dx1 dy1 dx2 dy2 dx3 dy3 s a1 b1 a2 b2 a3 b3 q =
      then_kept (open_subpath lim s) (curve_to lim dx1 dy1 dx2 dy2 dx3 dy3) (open_subpath-kept lim s q) (λ t r. curve_to-kept lim dx1 dy1 dx2 dy2 dx3 dy3 t a1 b1 a2 b2 a3 b3 r)

  pub set_point-kept : (lim : Limits) (p : Point) (s : State) → OfPoint P p → Held d P s → Ends (Held d P) (set_point lim p s)
  unfolding set_point
  set_point-kept lim p s g q =
      let r : Held d P (with_point p s) = (q.0, point-kept P s q.1 p g) in
      pick_ends (Held d P) (same_point p s.point) _ _ (λ t. q) (λ t.
      pick_ends (Held d P) (s.opened && no_flex s.flexing) _ _ (λ u. list-kept lim (move p) (with_point p s) g r) (λ u. r))

  backwards-kept : (l : List Float) → All P l → All P (backwards l)
  unfolding backwards All
  backwards-kept [] h = tt
  backwards-kept (a ∷ l) h = all_snoc P (backwards l) a (backwards-kept l h.1) h.0

  pub hand_back-kept : (lim : Limits) (l : List Float) (s : State) → All P l → Held d P s → Ends (Held d P) (hand_back lim l s)
  unfolding hand_back
  hand_back-kept lim l s h q =
      let m = s.postscript ++ l in
      allowed_ends (Held d P) (lim.postscript (length s.postscript + length l)) (going (with_postscript m s)) ((q.0, postscript_kept P s q.1 m (all_append P s.postscript l q.1.postscript h)))

  pub end_flex-kept : (lim : Limits) (h : Float) (l : List Point) (s : State) → P h → All (OfPoint P) l → Held d P s → Ends (Held d P) (end_flex lim h l s)
  unfolding end_flex All
  end_flex-kept lim h l s a all q =
      let p : ℕ → Point = λ i. get_or l i origin in
      let g : (i : ℕ) → OfPoint P (p i) = λ i. all_get_d_default (OfPoint P) l i origin all (K.nothing, K.nothing) in
      check_ends (Held d P) (eqb (length l) 7) 9 _ (λ t.
      then_kept (list lim (flex (p 1) (p 2) (p 3) (p 4) (p 5) (p 6) h) (with_flex none s)) _
      (list-kept lim (flex (p 1) (p 2) (p 3) (p 4) (p 5) (p 6) h) (with_flex none s) (g 1, (g 2, (g 3, (g 4, (g 5, (g 6, a)))))) (q.0, flexing_kept P s q.1 none tt))
      (λ u r. hand_back-kept lim ((p 6).y ∷ (p 6).x ∷ []) (with_point (p 6) u) ((g 6).1, ((g 6).0, tt)) (r.0, point-kept P u r.1 (p 6) (g 6))))

  height_kept : (l : List Float) → All P l → P (height_of l)
  unfolding All
  height_kept [] h = K.fifty
  height_kept (a ∷ l) h = h.0

  -- with a flex or none
  pub other_subr0-kept : (lim : Limits) (args : List Float) (s : State) → All P args → Held d P s → Ends (Held d P) (other_subr0 lim args s)
  unfolding other_subr0
  other_subr0-kept lim args s h q = go s.flexing q.1.flexing
    where
      go : (o : Option (List Point)) → OfFlex P o → Ends (Held d P) (elim o as (λ x. Outcome) [ none ↦ refused 9 | some l ↦ end_flex lim (height_of args) l s ])
      go none f = tt
      go (some l) f = end_flex-kept lim (height_of args) l s (height_kept args h) f q

  pub other_subr2-kept : (s : State) → Held d P s → Ends (Held d P) (other_subr2 s)
  unfolding other_subr2
  other_subr2-kept s q = go s.flexing q.1.flexing
    where
      go : (o : Option (List Point)) → OfFlex P o → Ends (Held d P) (elim o as (λ x. Outcome) [ none ↦ refused 9 | some l ↦ going (with_flex (some (collected l s.point)) s) ])
      go none f = tt
      go (some l) f = (q.0, flexing_kept P s q.1 (some (collected l s.point)) (all_snoc (OfPoint P) l s.point f q.1.point))

  pub other_subr-kept : (lim : Limits) (z : ℤ) (args : List Float) (s : State) → All P args → Held d P s → Ends (Held d P) (other_subr lim z args s)
  unfolding other_subr All
  other_subr-kept lim z args s h q =
      let back = backwards-kept args h in
      pick_ends (Held d P) (is 0 z) _ _ (λ t. other_subr0-kept lim args s h q) (λ t.
      pick_ends (Held d P) (is 1 z) (going (with_flex (some []) s)) _ (λ u. (q.0, flexing_kept P s q.1 (some []) tt)) (λ u.
      pick_ends (Held d P) (is 2 z) _ _ (λ v. other_subr2-kept s q) (λ v.
      pick_ends (Held d P) (is 3 z) _ _ (λ w. hand_back-kept lim (backwards args) (with_hints [] s) back (q.0, hints_kept P s q.1 [] tt)) (λ w. hand_back-kept lim (backwards args) s back q))))

  pub call_other_subr-kept : (lim : Limits) (s : State) → Held d P s → Ends (Held d P) (call_other_subr lim s)
  unfolding call_other_subr
  call_other_subr-kept lim s q =
      let t = without 2 s in
      let n = to_unsigned 64 (top 2 s) in
      let r = without-kept P s q.1 2 in
      needs_ends (Held d P) 2 s _ (λ m.
      check_ends (Held d P) (le plus_zero (top 2 s) && leb n (length t.operands)) 7 _ (λ u.
      other_subr-kept lim (to_signed 63 (top 1 s)) (drop (length t.operands - n) t.operands) (without n t)
      (all_drop P (length t.operands - n) t.operands r.operands) (q.0, without-kept P t r n)))

  pub pop_d-kept : (lim : Limits) (s : State) → Held d P s → Ends (Held d P) (pop_d lim s)
  unfolding pop_d
  pop_d-kept lim s q =
      let l = s.postscript in
      let n = length l - 1 in
      check_ends (Held d P) (ltb 0 (length l)) 11 _ (λ t.
      let h = ltb→lt 0 (length l) t in
      push_kept lim (get_or l n nan) (with_postscript (take n l) s) (q.0, postscript_kept P s q.1 (take n l) (all_take P n l q.1.postscript)) (all_get_d P l n nan q.1.postscript (omega arith)))

  pub stems3-kept : (lim : Limits) (h : Bool) (from : Float) (s : State) → P from → Held d P s → Ends (Held d P) (stems3 lim h from s)
  unfolding stems3
  stems3-kept lim h from s a q =
      needs_ends (Held d P) 6 s _ (λ m.
      let at : (k : ℕ) → T (leb (suc k) 6) → P (top (suc k) s) = λ k u. top_kept P s q.1 k 6 u m in
      let edge : (k : ℕ) → T (leb (suc k) 6) → T (finite (add binary64 from (top (suc k) s))) → P (add binary64 from (top (suc k) s)) = λ k u. K.sum from (top (suc k) s) a (at k u) in
      then_kept (stem lim h (add binary64 from (top 6 s)) (top 5 s) (cleared s)) _ (stem-kept lim h (add binary64 from (top 6 s)) (top 5 s) (cleared s) (q.0, cleared-kept P s q.1) (edge 5 tt) (at 4 tt)) (λ t r.
      then_kept (stem lim h (add binary64 from (top 4 s)) (top 3 s) t) _ (stem-kept lim h (add binary64 from (top 4 s)) (top 3 s) t r (edge 3 tt) (at 2 tt)) (λ u v.
      stem-kept lim h (add binary64 from (top 2 s)) (top 1 s) u v (edge 1 tt) (at 0 tt))))

-- ---- every operator
module _ (P : Bool → Float → Type 0) (K : Kept P) where
  pub div_d-kept : (s : State) → Holding P s → Ends (Holding P) (div_d s)
  unfolding div_d
  div_d-kept s q =
      let d = s.divided in
      let a = top 2 s in
      let b = top 1 s in
      let l = (without 2 s).operands in
      needs_ends (Holding P) 2 s _ (λ m.
      check_ends (Holding P) (not (eq b plus_zero)) 10 _ (λ t.
      check_ends (Holding P) (finite (div binary64 a b)) 14 (going (with_divided (with_operands (l ++ (div binary64 a b ∷ [])) s))) (λ u.
      let x : P true (div binary64 a b) = K.quotient d a b (top_kept (P d) s q 1 2 tt m) (top_kept (P d) s q 0 2 tt m) u in
      let r : Numbers (P true) s = numbers-map (P d) (P true) (K.more d) s q in
      divided_kept (P true) (with_operands (l ++ (div binary64 a b ∷ [])) s)
      (operands_kept (P true) s r (l ++ (div binary64 a b ∷ [])) (all_snoc (P true) l (div binary64 a b) (without-kept (P true) s r 2).operands x)))))

  -- what holds with d for `divided` holds
  holding : (d : Bool) (o : Outcome) → Ends (Held d (P d)) o → Ends (Holding P) o
  holding d o = weaken_ends (Held d (P d)) (Holding P) o (λ s q. subst (λ (b : Bool). Numbers (P b) s) (sym q.0) q.1)

  pub operate-kept : (lim : Limits) (call : Outcome) (o : Operator) (s : State) → Holding P s → Ends (Holding P) call → Ends (Holding P) (operate lim call o s)
  unfolding operate
  operate-kept lim call o s q h = go o
    where
      d : Bool
      d = s.divided

      S : Sums (P d)
      S = K.sums d

      zero-kept : P d plus_zero
      zero-kept = S.nothing

      held : Held d (P d) (cleared s)
      held = (refl, cleared-kept (P d) s q)

      at : (k n : ℕ) → T (leb (suc k) n) → n ≤ length s.operands → P d (top (suc k) s)
      at k n t m = top_kept (P d) s q k n t m

      -- a step that needs n operands
      with-needs : (n : ℕ) (x : Outcome) → (n ≤ length s.operands → Ends (Held d (P d)) x) → Ends (Holding P) (needs n s x)
      with-needs n x f = needs_ends (Holding P) n s x (λ m. holding d x (f m))

      stem_at_lem : (b : Bool) (from : Float) → P d from → Ends (Holding P) (needs 2 s (stem lim b (add binary64 from (top 2 s)) (top 1 s) (cleared s)))
      stem_at_lem b from f = with-needs 2 _ (λ m. stem-kept d (P d) S lim b (add binary64 from (top 2 s)) (top 1 s) (cleared s) held (S.sum from (top 2 s) f (at 1 2 tt m)) (at 0 2 tt m))

      go : (o : Operator) → Ends (Holding P) (operate lim call o s)
      go op.hstem = stem_at_lem true s.bearing.y q.bearing.1
      go op.vstem = stem_at_lem false s.bearing.x q.bearing.0
      go op.vmoveto = with-needs 1 _ (λ m. move_by-kept d (P d) S lim plus_zero (top 1 s) (cleared s) zero-kept (at 0 1 tt m) held)
      go op.rlineto = with-needs 2 _ (λ m. line_by-kept d (P d) S lim (top 2 s) (top 1 s) (cleared s) (at 1 2 tt m) (at 0 2 tt m) held)
      go op.hlineto = with-needs 1 _ (λ m. line_by-kept d (P d) S lim (top 1 s) plus_zero (cleared s) (at 0 1 tt m) zero-kept held)
      go op.vlineto = with-needs 1 _ (λ m. line_by-kept d (P d) S lim plus_zero (top 1 s) (cleared s) zero-kept (at 0 1 tt m) held)
      go op.rrcurveto =
          with-needs 6 _ (λ m.
          curve_by-kept d (P d) S lim (top 6 s) (top 5 s) (top 4 s) (top 3 s) (top 2 s) (top 1 s) (cleared s) (at 5 6 tt m) (at 4 6 tt m) (at 3 6 tt m) (at 2 6 tt m) (at 1 6 tt m) (at 0 6 tt m) held)
      go op.closepath = open_kept (P d) (cleared s) held.1 false
      go op.callsubr = h
      go op.return = q
      go op.hsbw = with-needs 2 (going (with_bearing (point_at (top 2 s) plus_zero) (top 1 s) (cleared s))) (λ m. (refl, bearing_kept (P d) (cleared s) held.1 (point_at (top 2 s) plus_zero) (top 1 s) (at 1 2 tt m, zero-kept) (at 0 2 tt m)))
      go op.endchar = held.1
      go op.rmoveto = with-needs 2 _ (λ m. move_by-kept d (P d) S lim (top 2 s) (top 1 s) (cleared s) (at 1 2 tt m) (at 0 2 tt m) held)
      go op.hmoveto = with-needs 1 _ (λ m. move_by-kept d (P d) S lim (top 1 s) plus_zero (cleared s) (at 0 1 tt m) zero-kept held)
      go op.vhcurveto =
          with-needs 4 _ (λ m.
          curve_by-kept d (P d) S lim plus_zero (top 4 s) (top 3 s) (top 2 s) (top 1 s) plus_zero (cleared s) zero-kept (at 3 4 tt m) (at 2 4 tt m) (at 1 4 tt m) (at 0 4 tt m) zero-kept held)
      go op.hvcurveto =
          with-needs 4 _ (λ m.
          curve_by-kept d (P d) S lim (top 4 s) plus_zero (top 3 s) (top 2 s) plus_zero (top 1 s) (cleared s) (at 3 4 tt m) zero-kept (at 2 4 tt m) (at 1 4 tt m) zero-kept (at 0 4 tt m) held)
      go op.dotsection = held.1
      go op.vstem3 = holding d (stems3 lim false s.bearing.x s) (stems3-kept d (P d) S lim false s.bearing.x s q.bearing.0 (refl, q))
      go op.hstem3 = holding d (stems3 lim true s.bearing.y s) (stems3-kept d (P d) S lim true s.bearing.y s q.bearing.1 (refl, q))
      go op.seac = tt
      go op.sbw = with-needs 4 (going (with_bearing (point_at (top 4 s) (top 3 s)) (top 2 s) (cleared s))) (λ m. (refl, bearing_kept (P d) (cleared s) held.1 (point_at (top 4 s) (top 3 s)) (top 2 s) (at 3 4 tt m, at 2 4 tt m) (at 1 4 tt m)))
      go op.div = div_d-kept s q
      go op.callothersubr = holding d (call_other_subr lim s) (call_other_subr-kept d (P d) S lim s (refl, q))
      go op.pop = holding d (pop_d lim s) (pop_d-kept d (P d) S lim s (refl, q))
      go op.setcurrentpoint = with-needs 2 _ (λ m. set_point-kept d (P d) S lim (point_at (top 2 s) (top 1 s)) (cleared s) (at 1 2 tt m, at 0 2 tt m) held)
      go op.unknown = tt

  pub kept_stable : (lim : Limits) → Stable lim (Holding P)
  kept_stable lim = record {
    number = λ z h s q. holding s.divided (push lim (double z) s) (push_kept s.divided (P s.divided) (K.sums s.divided) lim (double z) s (refl, q) (K.integer s.divided z h));
    operator = λ call o s q h. operate-kept lim call o s q h;
    taken = λ s q. without-kept (P s.divided) s q 1;
    charged = λ n s h q. ran_kept (P s.divided) s q n;
  }
