-- Laws: what the machine draws for commands is near what was asked for, however long the path.
use Rattle.std.specs.Prelude.{◌≡◌, refl, ◌⊎◌, ℕ, suc, ◌+◌, ◌*◌, ◌^◌, ◌≤◌, ◌<◌, Bool, true, false, ◌&&◌, List, [], ◌∷◌, ◌++◌, length, T, ltb, ℤ, ◌+ℤ◌}
use Rattle.std.proofs.Common.{sym, ap, ◌∙◌, subst, inl, inr, arith, append_assoc, append-nil, length-append, ltb→lt, lt→ltb, lit≤}
use Rattle.std.specs.Float.Ieee.Fits.{and_i}
use Rattle.renderer.specs.Machine.{Mask, State, small, all_small, reach, last_of, moved, with_mask}
use Rattle.type2.specs.Number.{zp, zm, in_range, units, Is}
use Rattle.type2.specs.Instruction.{fine}
use Rattle.type2.specs.Bools.{and_both}
use Rattle.type2.specs.Signed.{add_bal, one_sided}
use Rattle.renderer.specs.Operators.{acted}
use Rattle.geometry.specs.declared.Point.{Point}
use Rattle.renderer.specs.Machine as Machine
use Rattle.outline.specs.declared.Stem.{Stem}
use Rattle.outline.specs.Outline.{Command, move, line, curve, flex}
use Rattle.type1_to_type2.specs.Stems.{mask_of}
use Rattle.type2.specs.Path.{delta}
use Rattle.type1_to_type2.specs.Emission.{kind_of, points_of, height_of, follow, deltas, arrives, Cmd, hints, shape, items}
use Rattle.agreement.specs.Demand3.{SamePoint}
use Rattle.type1_to_type2.specs.Fine.{items_fine}
use Rattle.agreement.specs.Simulation.{ListCoordinates, Bounded, PointsRun, effects, size, AllAccepted, entries_of, point_count, CommandCoordinates, masks_from, masks_of, CommandsRun}
use Rattle.agreement.proofs.Deltas.{one_delta, delta_meets}

bound_grows : (n : ℕ) (z u : ℤ) → T (in_range u) → zp z + zm z ≤ n * 2147483648 → zp (z +ℤ u) + zm (z +ℤ u) ≤ suc n * 2147483648
bound_grows n z u r h =
    let w = and_both (ltb (zp u) 2147483648) (ltb (zm u) 2147483649) r in
    go (ltb→lt (zp u) 2147483648 w.0) (ltb→lt (zm u) 2147483649 w.1) (add_bal z u) (one_sided (z +ℤ u)) (one_sided u)
  where
    go : zp u < 2147483648 → zm u < 2147483649 → zp (z +ℤ u) + zm z + zm u ≡ zm (z +ℤ u) + zp z + zp u → (zp (z +ℤ u) ≡ 0) ⊎ (zm (z +ℤ u) ≡ 0) → (zp u ≡ 0) ⊎ (zm u ≡ 0) → zp (z +ℤ u) + zm (z +ℤ u) ≤ suc n * 2147483648
    go a b e (inl x) (inl y) = omega arith
    go a b e (inl x) (inr y) = omega arith
    go a b e (inr x) (inl y) = omega arith
    go a b e (inr x) (inr y) = omega arith

is_small : (n : ℕ) (z : ℤ) → zp z + zm z ≤ n * 2147483648 → n ≤ 4194304 → T (small z)
is_small n z h k = lt→ltb (zp z + zm z) (2 ^ 60 + 1) (omega arith)

no_points-run : (b : Bool) (n : ℕ) (z : Machine.Point) (at : Point) (h : List ℤ) → length h ≤ 1 → SamePoint Is z at → Bounded n z → PointsRun b n z at [] h
unfolding deltas reach arrives all_small last_of
no_points-run b n z at [] e i f = record { points = tt; small-points = tt; arrived = i; bound = (omega (arith, f.0), omega (arith, f.1)) }
no_points-run b n z at (u ∷ []) e i f = record { points = tt; small-points = tt; arrived = i; bound = (omega (arith, f.0), omega (arith, f.1)) }
no_points-run b n z at (u ∷ v ∷ h) e i f = absurd (let z : ⊥ = omega arith in z)

pub points-run : (b : Bool) (ps : List Point) (n : ℕ) (z : Machine.Point) (at : Point) (h : List ℤ) → length h ≤ 1 → SamePoint Is z at → Bounded n z → ListCoordinates b ps → n + length ps ≤ 4194303 → T (fine (deltas at ps ++ h)) → PointsRun b n z at ps h
unfolding deltas reach arrives all_small last_of fine
points-run b [] n z at h e i f r k t = no_points-run b n z at h e i f
points-run b (p ∷ ps) n z at h e i f r k t =
    let ux = units (delta at.x p.x) in
    let uy = units (delta at.y p.y) in
    let rest = deltas (follow at p) ps ++ h in
    let w = and_both (in_range ux) (in_range uy && fine rest) t in
    let v = and_both (in_range uy) (fine rest) w.1 in
    let sx = one_delta z.x at.x p.x i.0 r.0.0.0 r.0.0.1 (room (zp z.x + zm z.x) f.0) w.0 in
    let sy = one_delta z.y at.y p.y i.1 r.0.1.0 r.0.1.1 (room (zp z.y + zm z.y) f.1) v.0 in
    let mx = delta_meets b z.x at.x p.x i.0 r.0.0.0 r.0.0.1 r.0.0.2 (room (zp z.x + zm z.x) f.0) w.0 in
    let my = delta_meets b z.y at.y p.y i.1 r.0.1.0 r.0.1.1 r.0.1.2 (room (zp z.y + zm z.y) f.1) v.0 in
    let z' = moved z ux uy in
    let fx = bound_grows n z.x ux w.0 f.0 in
    let fy = bound_grows n z.y uy v.0 f.1 in
    let D = points-run b ps (suc n) z' (follow at p) h e (sx.is, sy.is) (fx, fy) r.1 (omega arith) v.1 in
    record {
      points = ((mx, my), D.points);
      small-points = and_i (small z'.x && small z'.y) (all_small (reach z' rest)) (and_i (small z'.x) (small z'.y) (is_small (suc n) z'.x fx (omega arith)) (is_small (suc n) z'.y fy (omega arith))) D.small-points;
      arrived = D.arrived;
      bound = subst (λ (m : ℕ). Bounded m (last_of z' (reach z' rest))) (let q : suc n + length ps ≡ n + suc (length ps) = omega arith in q) D.bound;
    }
  where
    room : (a : ℕ) → a ≤ n * 2147483648 → a + 2147483648 < 2 ^ 53
    room a h = omega arith

entry-size : (e : Command) (at : Point) → length (deltas at (points_of e) ++ height_of e) ≡ size (kind_of e)
unfolding deltas
entry-size (move p) at = refl
entry-size (line p) at = refl
entry-size (curve p q r) at = refl
entry-size (flex a b c d e f h) at = refl

short_height : (e : Command) → length (height_of e) ≤ 1
short_height (move p) = lit≤ tt
short_height (line p) = lit≤ tt
short_height (curve p q r) = lit≤ tt
short_height (flex a b c d e f h) = lit≤ tt

length-mask : (g ss : List Stem) → length (mask_of g ss) ≡ length ss
unfolding mask_of
length-mask g [] = refl
length-mask g (s ∷ ss) = ap suc (length-mask g ss)

one_more : {A : Type 0} (l : List A) (a : A) → length (l ++ (a ∷ [])) ≡ suc (length l)
one_more l a = length-append l (a ∷ []) ∙ (let z : length l + 1 ≡ suc (length l) = omega arith in z)

masks_next : (m : Bool) (ss : List Stem) (n : ℕ) (e : Command) (cs : List Cmd) → masks_of m ss (suc n) cs ≡ masks_of m ss n (shape e ∷ cs)
unfolding masks_from
masks_next true ss n e cs = refl
masks_next false ss n e cs = refl

pub commands-run : (b m : Bool) (ss : List Stem) (cs : List Cmd) (at : Point) (t : State) (n : ℕ) → SamePoint Is t.at at → Bounded n t.at → CommandCoordinates b cs → n + point_count cs ≤ 4194303 → T (items_fine (items m ss at cs)) → length ss ≡ t.stems
    → AllAccepted (items m ss at cs) t × CommandsRun b m ss cs t (effects (items m ss at cs) t)
unfolding items items_fine effects AllAccepted CommandCoordinates point_count entries_of masks_from
commands-run b true ss [] at t n i f r k h q = (tt, record { more = []; drawn = sym (append-nil t.drawn); same_drawing = tt; masks = sym (append-nil t.masks); stems = refl; width = refl })
commands-run b false ss [] at t n i f r k h q = (tt, record { more = []; drawn = sym (append-nil t.drawn); same_drawing = tt; masks = sym (append-nil t.masks); stems = refl; width = refl })
commands-run b true ss (hints g ∷ cs) at t n i f r k h q =
    let e = commands-run b true ss cs at (with_mask (mask_of g ss) t) n i f r k h q in
    let W = e.1 in
    ((length-mask g ss ∙ q, e.0), record { more = W.more; drawn = W.drawn; same_drawing = W.same_drawing; masks = W.masks ∙ append_assoc t.masks (record { bits = mask_of g ss; before = length t.drawn } ∷ []) (masks_from ss (length t.drawn) cs); stems = W.stems; width = W.width })
commands-run b false ss (hints g ∷ cs) at t n i f r k h q =
    let e = commands-run b false ss cs at t n i f r k h q in
    let W = e.1 in
    (e.0, record { more = W.more; drawn = W.drawn; same_drawing = W.same_drawing; masks = W.masks; stems = W.stems; width = W.width })
commands-run b m ss (shape e ∷ cs) at t n i f r k h q =
    let l = deltas at (points_of e) ++ height_of e in
    let w = and_both (fine l) (items_fine (items m ss (arrives at (points_of e)) cs)) h in
    let D = points-run b (points_of e) n t.at at (height_of e) (short_height e) i f r.0 (omega arith) w.0 in
    let t' = acted (kind_of e) l t in
    let R = commands-run b m ss cs (arrives at (points_of e)) t' (n + length (points_of e)) D.arrived D.bound r.1 (omega arith) w.1 q in
    let W = R.1 in (
      (record { len = entry-size e at; nums = w.0; near = D.small-points }, R.0),
      record {
        more = record { kind = kind_of e; points = reach t.at l } ∷ W.more;
        drawn = W.drawn ∙ append_assoc t.drawn (record { kind = kind_of e; points = reach t.at l } ∷ []) W.more;
        same_drawing = ((refl, D.points), W.same_drawing);
        masks = W.masks ∙ ap (λ (x : ℕ). t.masks ++ masks_of m ss x cs) (one_more t.drawn (record { kind = kind_of e; points = reach t.at l })) ∙ ap (λ (x : List Mask). t.masks ++ x) (masks_next m ss (length t.drawn) e cs);
        stems = W.stems;
        width = W.width;
      },
    )
