-- Laws: what is so of every number that steps and limits refuse with is so of a run's refusal; and what is so of how many operands are held, of fewer too and of one more that fits, is so of what the run leaves. Document 01, "Numbers the board logs".
use Prim.Native.Nat.{ℕ, zero, suc, ◌+◌, ◌-◌, ◌≤◌}
use Rattle.std.proofs.Common.{arith, ap, ◌∙◌, subst}
use Rattle.std.specs.Prelude.{◌≡◌, refl, Bool, true, false, not, ◌&&◌, T, ltb, eqb, ℤ, take, drop, Float}
use mathlib.Core.List.{List, [], ◌∷◌, ◌++◌}
use Rattle.std.proofs.Math.Option.{Option, none, some}
use Rattle.std.proofs.Math.Dec.{leb, leb→le}
use Rattle.std.proofs.Math.ListN.{length, get_or, length-append, length-take}
use Rattle.std.specs.Float.{nan}
use Rattle.std.specs.Float.Ieee.{binary64, add, div, eq, le, to_unsigned, to_signed}
use Rattle.std.specs.Float.Ieee.Scale.{finite}
use Rattle.charstring.specs.Cipher.{plain, max_charstring_bytes}
use Rattle.geometry.specs.declared.Point.{Point}
use Rattle.type1.specs.Operator as op
use Rattle.type1.specs.Operator.{Operator}
use Rattle.type1.specs.Number.{Token, cut, number, operator, token, double}
use Rattle.outline.specs.Outline.{Command, move, line, curve, flex, plus_zero, origin, is_in, last_is, stem_count, pick, stem_of}
use Rattle.type1.specs.State.{State, with_point, with_postscript, with_flex, with_hints, with_open}
use Rattle.type1.specs.Run.{Limits, Outcome, going, returning, ending, refused, and_then, check, allowed, top, cleared, without, needs, push, stem, entries, group_number, new_group, commit, enter, list, shifted, is_finite, no_flex, move_by, open_subpath, line_to, line_by, curve_to, curve_by, same_point, set_point, backwards, hand_back, end_flex, height_of, other_subr0, collected, other_subr2, is, other_subr, call_other_subr, pop_d, div_d, stems3, point_at, operate, Font, charge, named, returned, call_body, call_subr, execute, consume, run_bytes, run_body, run}
use Rattle.type1.specs.Sound.{is_step, Keeps, Answering}

module _ (P R : ℕ → Type 0) where
  -- the state holds so many operands
  abbrev Few : State → Type 0
  Few s = P (length s.operands)

  -- ---- through the ways steps are put together
  pick-number : (b : Bool) (m n : ℕ) → R m → R n → R (pick b m n)
  pick-number true m n h k = h
  pick-number false m n h k = k

  allowed_keeps : (n : ℕ) (o : Outcome) → R n → Keeps P R o → Keeps P R (allowed n o)
  allowed_keeps n o r h = go (eqb n 0)
    where
      go : (b : Bool) → Keeps P R (check b n o)
      go true = h
      go false = r

  pick_keeps : (b : Bool) (x y : Outcome) → Keeps P R x → Keeps P R y → Keeps P R (pick b x y)
  pick_keeps true x y h k = h
  pick_keeps false x y h k = k

  then_keeps : (o : Outcome) (f : State → Outcome) → Keeps P R o → ((s : State) → Few s → Keeps P R (f s)) → Keeps P R (and_then o f)
  then_keeps (going s) f h k = k s h
  then_keeps (returning s) f h k = h
  then_keeps (ending s) f h k = h
  then_keeps (refused n) f h k = h

  returned_keeps : (o : Outcome) → Keeps P R o → Keeps P R (returned o)
  returned_keeps (going s) h = h
  returned_keeps (returning s) h = h
  returned_keeps (ending s) h = h
  returned_keeps (refused n) h = h

  module _ (fewer : (m n : ℕ) → m ≤ n → P n → P m) (steps : (n : ℕ) → T (is_step n) → R n) where
    check_keeps : (b : Bool) (n : ℕ) (o : Outcome) → T (is_step n) → (T b → Keeps P R o) → Keeps P R (check b n o)
    check_keeps true n o t h = h tt
    check_keeps false n o t h = steps n t

    cleared_few : (s : State) → Few s → Few (cleared s)
    cleared_few s q = fewer 0 (length s.operands) (omega arith) q

    without_few : (k : ℕ) (s : State) → Few s → Few (without k s)
    without_few k s q = let e = length-take (length s.operands - k) s.operands in fewer (length (without k s).operands) (length s.operands) (omega arith) q

    -- ---- steps
    module _ (lim : Limits) (L : Answering R lim) where
      stem_keeps : (h : Bool) (p w : Float) (s : State) → Few s → Keeps P R (stem lim h p w s)
      unfolding stem
      stem_keeps h p w s q = check_keeps (finite p) 14 _ tt (λ t. pick_keeps (is_in s.hints (stem_of h p w)) (going s) _ q (allowed_keeps (lim.hints (length s.hints + 1)) _ (L.hints _) q))

      new_group_keeps : (s : State) → Few s → Keeps P R (new_group lim s)
      unfolding new_group
      new_group_keeps s q = allowed_keeps (group_number lim s) _ (pick-number (eqb (lim.groups (length s.groups + 1)) 0) _ _ (pick-number (eqb (lim.stems (stem_count s.groups + length s.hints)) 0) _ _ (L.commands _) (L.stems _)) (L.groups _)) q

      commit_keeps : (s : State) → Few s → Keeps P R (commit lim s)
      unfolding commit
      commit_keeps s q = pick_keeps s.changed _ (going s) (pick_keeps (last_is s.groups s.hints) _ _ q (new_group_keeps s q)) q

      enter_keeps : (c : Command) (s : State) → Few s → Keeps P R (enter lim c s)
      unfolding enter
      enter_keeps c s q = allowed_keeps (lim.commands (entries s + 1)) _ (L.commands _) q

      list_keeps : (c : Command) (s : State) → Few s → Keeps P R (list lim c s)
      unfolding list
      list_keeps c s q = then_keeps (commit lim s) (enter lim c) (commit_keeps s q) (enter_keeps c)

      -- a move that opens a subpath
      opened_keeps : (p : Point) (s : State) → Few s → Keeps P R (and_then (list lim (move p) s) (λ t. going (with_open true t)))
      opened_keeps p s q = then_keeps (list lim (move p) s) _ (list_keeps (move p) s q) (λ t h. h)

      move_by_keeps : (dx dy : Float) (s : State) → Few s → Keeps P R (move_by lim dx dy s)
      unfolding move_by
      move_by_keeps dx dy s q = let p = shifted s.point dx dy in check_keeps (is_finite p) 14 _ tt (λ t. pick_keeps (no_flex s.flexing) _ _ (opened_keeps p (with_point p s) q) q)

      open_subpath_keeps : (s : State) → Few s → Keeps P R (open_subpath lim s)
      unfolding open_subpath
      open_subpath_keeps s q = pick_keeps s.opened _ _ q (opened_keeps s.point s q)

      line_to_keeps : (dx dy : Float) (s : State) → Few s → Keeps P R (line_to lim dx dy s)
      unfolding line_to
      line_to_keeps dx dy s q = let p = shifted s.point dx dy in check_keeps (is_finite p) 14 _ tt (λ t. list_keeps (line p) (with_point p s) q)

      line_by_keeps : (dx dy : Float) (s : State) → Few s → Keeps P R (line_by lim dx dy s)
      unfolding line_by
      line_by_keeps dx dy s q = then_keeps (open_subpath lim s) (line_to lim dx dy) (open_subpath_keeps s q) (line_to_keeps dx dy)

      curve_to_keeps : (dx1 dy1 dx2 dy2 dx3 dy3 : Float) (s : State) → Few s → Keeps P R (curve_to lim dx1 dy1 dx2 dy2 dx3 dy3 s)
      unfolding curve_to
      curve_to_keeps dx1 dy1 dx2 dy2 dx3 dy3 s q =
          let p1 = shifted s.point dx1 dy1 in
          let p2 = shifted p1 dx2 dy2 in
          let p3 = shifted p2 dx3 dy3 in
          check_keeps (is_finite p1 && (is_finite p2 && is_finite p3)) 14 _ tt (λ t. list_keeps (curve p1 p2 p3) (with_point p3 s) q)

      curve_by_keeps : (dx1 dy1 dx2 dy2 dx3 dy3 : Float) (s : State) → Few s → Keeps P R (curve_by lim dx1 dy1 dx2 dy2 dx3 dy3 s)
      unfolding curve_by
      curve_by_keeps dx1 dy1 dx2 dy2 dx3 dy3 s q = then_keeps (open_subpath lim s) (curve_to lim dx1 dy1 dx2 dy2 dx3 dy3) (open_subpath_keeps s q) (curve_to_keeps dx1 dy1 dx2 dy2 dx3 dy3)

      set_point_keeps : (p : Point) (s : State) → Few s → Keeps P R (set_point lim p s)
      unfolding set_point
      set_point_keeps p s q = pick_keeps (same_point p s.point) _ _ q (pick_keeps (s.opened && no_flex s.flexing) _ _ (list_keeps (move p) (with_point p s) q) q)

      hand_back_keeps : (l : List Float) (s : State) → Few s → Keeps P R (hand_back lim l s)
      unfolding hand_back
      hand_back_keeps l s q = allowed_keeps (lim.postscript (length s.postscript + length l)) _ (L.postscript _) q

      end_flex_keeps : (h : Float) (l : List Point) (s : State) → Few s → Keeps P R (end_flex lim h l s)
      unfolding end_flex
      end_flex_keeps h l s q =
          let p : ℕ → Point = λ i. get_or l i origin in
          let c = flex (p 1) (p 2) (p 3) (p 4) (p 5) (p 6) h in
          check_keeps (eqb (length l) 7) 9 _ tt (λ t. then_keeps (list lim c (with_flex none s)) _ (list_keeps c (with_flex none s) q) (λ u. hand_back_keeps ((p 6).y ∷ (p 6).x ∷ []) (with_point (p 6) u)))

      other_subr0_keeps : (args : List Float) (s : State) → Few s → Keeps P R (other_subr0 lim args s)
      unfolding other_subr0
      other_subr0_keeps args s q = go s.flexing
        where
          go : (o : Option (List Point)) → Keeps P R (elim o as (λ x. Outcome) [ none ↦ refused 9 | some l ↦ end_flex lim (height_of args) l s ])
          go none = steps 9 tt
          go (some l) = end_flex_keeps (height_of args) l s q

      other_subr2_keeps : (s : State) → Few s → Keeps P R (other_subr2 s)
      unfolding other_subr2
      other_subr2_keeps s q = go s.flexing
        where
          go : (o : Option (List Point)) → Keeps P R (elim o as (λ x. Outcome) [ none ↦ refused 9 | some l ↦ going (with_flex (some (collected l s.point)) s) ])
          go none = steps 9 tt
          go (some l) = q

      other_subr_keeps : (z : ℤ) (args : List Float) (s : State) → Few s → Keeps P R (other_subr lim z args s)
      unfolding other_subr
      other_subr_keeps z args s q =
          pick_keeps (is 0 z) _ _ (other_subr0_keeps args s q)
          (pick_keeps (is 1 z) _ _ q
          (pick_keeps (is 2 z) _ _ (other_subr2_keeps s q)
          (pick_keeps (is 3 z) _ _ (hand_back_keeps (backwards args) (with_hints [] s) q) (hand_back_keeps (backwards args) s q))))

      call_other_subr_keeps : (s : State) → Few s → Keeps P R (call_other_subr lim s)
      unfolding call_other_subr
      call_other_subr_keeps s q =
          let t = without 2 s in
          let n = to_unsigned 64 (top 2 s) in
          check_keeps (leb 2 (length s.operands)) 7 _ tt (λ a.
          check_keeps (le plus_zero (top 2 s) && leb n (length t.operands)) 7 _ tt (λ b.
          other_subr_keeps (to_signed 63 (top 1 s)) (drop (length t.operands - n) t.operands) (without n t) (without_few n t (without_few 2 s q))))

      div_d_keeps : (s : State) → Few s → Keeps P R (div_d s)
      unfolding div_d
      div_d_keeps s q =
          let d = div binary64 (top 2 s) (top 1 s) in
          let l = (without 2 s).operands in
          check_keeps (leb 2 (length s.operands)) 7 _ tt (λ a.
          check_keeps (not (eq (top 1 s) plus_zero)) 10 _ tt (λ b.
          check_keeps (finite d) 14 _ tt (λ c.
          let two = leb→le 2 (length s.operands) a in
          let e = length-append l (d ∷ []) in
          let f = length-take (length s.operands - 2) s.operands in
          fewer (length (l ++ (d ∷ []))) (length s.operands) (omega arith) q)))

      stems3_keeps : (h : Bool) (from : Float) (s : State) → Few s → Keeps P R (stems3 lim h from s)
      unfolding stems3
      stems3_keeps h from s q =
          let a = add binary64 from in
          check_keeps (leb 6 (length s.operands)) 7 _ tt (λ z.
          then_keeps (stem lim h (a (top 6 s)) (top 5 s) (cleared s)) _ (stem_keeps h (a (top 6 s)) (top 5 s) (cleared s) (cleared_few s q)) (λ t p.
          then_keeps (stem lim h (a (top 4 s)) (top 3 s) t) _ (stem_keeps h (a (top 4 s)) (top 3 s) t p) (λ u.
          stem_keeps h (a (top 2 s)) (top 1 s) u)))

      -- ---- the run, if a push keeps P and R
      module _ (pushes : (v : Float) (s : State) → Few s → Keeps P R (push lim v s)) where
        pop_d_keeps : (s : State) → Few s → Keeps P R (pop_d lim s)
        unfolding pop_d
        pop_d_keeps s q = let l = s.postscript in let k = length l - 1 in check_keeps (ltb 0 (length l)) 11 _ tt (λ t. pushes (get_or l k nan) (with_postscript (take k l) s) q)

        operate_keeps : (call : Outcome) → Keeps P R call → (o : Operator) (s : State) → Few s → Keeps P R (operate lim call o s)
        unfolding operate
        operate_keeps call c o s q = go o
          where
            e : Few (cleared s)
            e = cleared_few s q

            -- a step that needs n operands
            ready : (n : ℕ) (x : Outcome) → Keeps P R x → Keeps P R (needs n s x)
            ready n x h = check_keeps (leb n (length s.operands)) 7 x tt (λ t. h)

            go : (o : Operator) → Keeps P R (operate lim call o s)
            go op.hstem = ready 2 _ (stem_keeps true (add binary64 s.bearing.y (top 2 s)) (top 1 s) (cleared s) e)
            go op.vstem = ready 2 _ (stem_keeps false (add binary64 s.bearing.x (top 2 s)) (top 1 s) (cleared s) e)
            go op.vmoveto = ready 1 _ (move_by_keeps plus_zero (top 1 s) (cleared s) e)
            go op.rlineto = ready 2 _ (line_by_keeps (top 2 s) (top 1 s) (cleared s) e)
            go op.hlineto = ready 1 _ (line_by_keeps (top 1 s) plus_zero (cleared s) e)
            go op.vlineto = ready 1 _ (line_by_keeps plus_zero (top 1 s) (cleared s) e)
            go op.rrcurveto = ready 6 _ (curve_by_keeps (top 6 s) (top 5 s) (top 4 s) (top 3 s) (top 2 s) (top 1 s) (cleared s) e)
            go op.closepath = e
            go op.callsubr = c
            go op.return = q
            go op.hsbw = ready 2 _ e
            go op.endchar = e
            go op.rmoveto = ready 2 _ (move_by_keeps (top 2 s) (top 1 s) (cleared s) e)
            go op.hmoveto = ready 1 _ (move_by_keeps (top 1 s) plus_zero (cleared s) e)
            go op.vhcurveto = ready 4 _ (curve_by_keeps plus_zero (top 4 s) (top 3 s) (top 2 s) (top 1 s) plus_zero (cleared s) e)
            go op.hvcurveto = ready 4 _ (curve_by_keeps (top 4 s) plus_zero (top 3 s) (top 2 s) plus_zero (top 1 s) (cleared s) e)
            go op.dotsection = e
            go op.vstem3 = stems3_keeps false s.bearing.x s q
            go op.hstem3 = stems3_keeps true s.bearing.y s q
            go op.seac = steps 12 tt
            go op.sbw = ready 4 _ e
            go op.div = div_d_keeps s q
            go op.callothersubr = call_other_subr_keeps s q
            go op.pop = pop_d_keeps s q
            go op.setcurrentpoint = ready 2 _ (set_point_keeps (point_at (top 2 s) (top 1 s)) (cleared s) e)
            go op.unknown = steps 6 tt

        charged_keeps : (deep : List ℕ → State → Outcome) (l : List ℕ) → ((s : State) → Few s → Keeps P R (deep l s)) → (s : State) → Few s → Keeps P R (and_then (charge l s) (λ t. returned (deep l t)))
        unfolding charge
        charged_keeps deep l h s q = then_keeps (charge l s) _ (check_keeps (leb (s.ran + length l) max_charstring_bytes) 3 _ tt (λ t. q)) (λ t p. returned_keeps (deep l t) (h t p))

        call_subr_keeps : (f : Font) (deep : List ℕ → State → Outcome) → ((l : List ℕ) (s : State) → Few s → Keeps P R (deep l s)) → (s : State) → Few s → Keeps P R (call_subr f deep s)
        unfolding call_subr call_body
        call_subr_keeps f deep h s q = check_keeps (leb 1 (length s.operands)) 7 _ tt (λ t. go (named f (top 1 s)))
          where
            go : (o : Option (List ℕ)) → Keeps P R (call_body deep o (without 1 s))
            go none = steps 8 tt
            go (some l) = charged_keeps deep l (h l) (without 1 s) (without_few 1 s q)

        pub execute_keeps : (f : Font) (deep : List ℕ → State → Outcome) → ((l : List ℕ) (s : State) → Few s → Keeps P R (deep l s)) → (o : Operator) (s : State) → Few s → Keeps P R (execute lim f deep o s)
        unfolding execute
        execute_keeps f deep h o s q = operate_keeps (call_subr f deep s) (call_subr_keeps f deep h s q) o s q

        run_bytes_keeps : (g : Operator → State → Outcome) → ((o : Operator) (s : State) → Few s → Keeps P R (g o s)) → (l : List ℕ) (m : ℕ) (s : State) → Few s → Keeps P R (run_bytes lim g l m s)
        unfolding run_bytes
        run_bytes_keeps g h [] m s q = q
        run_bytes_keeps g h (b ∷ l) (suc m) s q = run_bytes_keeps g h l m s q
        run_bytes_keeps g h (b ∷ l) zero s q = go (token b l) (λ m t. run_bytes_keeps g h l m t)
          where
            go : (k : Token) → ((m : ℕ) (t : State) → Few t → Keeps P R (run_bytes lim g l m t)) → Keeps P R (consume lim g k s (run_bytes lim g l))
            go cut on = steps 5 tt
            go (number m z) on = then_keeps (push lim (double z) s) _ (pushes (double z) s q) (on m)
            go (operator m o) on = then_keeps (g o s) _ (h o s q) (on m)

        pub run_body_keeps : (f : Font) (n : ℕ) (l : List ℕ) (s : State) → Few s → Keeps P R (run_body lim f n l s)
        unfolding run_body
        run_body_keeps f zero l s q = steps 4 tt
        run_body_keeps f (suc n) l s q = run_bytes_keeps (execute lim f (run_body lim f n)) (execute_keeps f (run_body lim f n) (run_body_keeps f n)) (plain f.len_iv l) 0 s q

        run_keeps : (f : Font) (l : List ℕ) (s : State) → Few s → Keeps P R (run lim f l s)
        unfolding run
        run_keeps f l s q = charged_keeps (run_body lim f _) l (run_body_keeps f _ l) s q

-- a number that no step and no limit has
pub run_never :
    (k : ℕ) → is_step k ≡ false → (lim : Limits) → Answering (λ n. n ≡ k → ⊥) lim → ((n : ℕ) → lim.operands n ≡ k → ⊥) →
    (f : Font) (l : List ℕ) (s : State) → run lim f l s ≡ refused k → ⊥
unfolding push
run_never k h lim L o f l s e =
    let R : ℕ → Type 0 = λ n. n ≡ k → ⊥ in
    let P : ℕ → Type 0 = λ n. Unit {0} in
    subst (Keeps P R) e
    (run_keeps P R (λ m n a b. tt) (λ n t d. subst T (ap is_step d ∙ h) t) lim L (λ v t q. allowed_keeps P R (lim.operands (length t.operands + 1)) _ (o (length t.operands + 1)) tt) f l s tt) refl
