-- Laws: a run with limits is refused by a limit, with 15, 16, 17 or 22, or is the unlimited run. Document 01, numbers 15 to 17; document 02, (c), number 22.
use Prim.Native.Nat.{ℕ, zero, suc, ◌+◌, ◌-◌, ◌*◌}
use Rattle.std.specs.Prelude.{◌≡◌, Bool, false, ◌&&◌, ◌||◌, T, ltb, eqb, ℤ, take, drop, Float}
use Rattle.std.proofs.Math.Path.{refl}
use Rattle.std.proofs.Common.{sym, ap, ◌∙◌, subst, inl}
use Rattle.std.proofs.Math.Logic.{inr}
use Rattle.std.proofs.Math.Bool.{true}
use mathlib.Core.List.{List, [], ◌∷◌}
use Rattle.std.proofs.Math.Option.{Option, none, some}
use Rattle.std.proofs.Math.Dec.{leb}
use Rattle.std.proofs.Math.ListN.{length, get_or}
use Rattle.std.specs.Float.{nan}
use Rattle.std.specs.Float.Ieee.{binary64, add, le, to_unsigned, to_signed}
use Rattle.std.specs.Float.Ieee.Scale.{finite}
use Rattle.charstring.specs.Cipher.{plain}
use Rattle.geometry.specs.declared.Point.{Point}
use Rattle.outline.specs.Store.{entry_words}
use Rattle.type1.specs.declared.Reading.{Reading}
use Rattle.type1.specs.Operator as op
use Rattle.type1.specs.Operator.{Operator}
use Rattle.type1.specs.Number.{Token, cut, number, operator, token, double}
use Rattle.outline.specs.Outline.{Command, move, line, curve, flex, plus_zero, origin, is_in, last_is, stem_count, pick, stem_of}
use Rattle.type1.specs.State.{State, with_point, with_postscript, with_flex, with_hints, with_open}
use Rattle.type1.specs.Run.{Limits, within, strictly, limits_of, unlimited, Outcome, going, returning, ending, refused, and_then, check, allowed, top, cleared, without, needs, push, stem, entries, group_number, new_group, commit, enter, list, shifted, is_finite, no_flex, move_by, open_subpath, line_to, line_by, curve_to, curve_by, same_point, set_point, backwards, hand_back, end_flex, height_of, other_subr0, is, other_subr, call_other_subr, pop_d, stems3, point_at, operate, Font, charge, named, returned, call_body, call_subr, execute, consume, run_bytes, run_body, run}
use Rattle.hints.specs.Hints.{group_refusal}
use Rattle.type1.specs.Sound.{is_limit, Limiting, LimitOr}

-- ---- through the ways steps are put together
pub same : (o : Outcome) → LimitOr o o
same o = inr refl

pub check-limited : (b : Bool) (n : ℕ) (o p : Outcome) → LimitOr o p → LimitOr (check b n o) (check b n p)
check-limited true n o p h = h
check-limited false n o p h = inr refl

-- a limit's test, which the unlimited run always passes
limit : (n : ℕ) (o p : Outcome) → T (eqb n 0 || is_limit n) → LimitOr o p → LimitOr (allowed n o) p
limit n o p t h = go (eqb n 0) t
  where
    go : (b : Bool) → T (b || is_limit n) → LimitOr (check b n o) p
    go true _ = h
    go false l = inl (n, refl, l)

pick-limited : (b : Bool) (o p x y : Outcome) → LimitOr o x → LimitOr p y → LimitOr (pick b o p) (pick b x y)
pick-limited true o p x y h k = h
pick-limited false o p x y h k = k

then_same : (o : Outcome) (k h : State → Outcome) → ((s : State) → LimitOr (k s) (h s)) → LimitOr (and_then o k) (and_then o h)
then_same (going s) k h f = f s
then_same (returning s) k h f = inr refl
then_same (ending s) k h f = inr refl
then_same (refused n) k h f = inr refl

then_limited : (o p : Outcome) (k h : State → Outcome) → LimitOr o p → ((s : State) → LimitOr (k s) (h s)) → LimitOr (and_then o k) (and_then p h)
then_limited o p k h (inl r) f = inl (r.0, ap (λ (x : Outcome). and_then x k) r.1, r.2)
then_limited o p k h (inr e) f = subst (λ (x : Outcome). LimitOr (and_then o k) (and_then x h)) e (then_same o k h f)

pub returned-limited : (o p : Outcome) → LimitOr o p → LimitOr (returned o) (returned p)
returned-limited o p (inl r) = inl (r.0, ap returned r.1, r.2)
returned-limited o p (inr e) = inr (ap returned e)

-- the first of three
first_limit : (a b c : ℕ) → T (eqb a 0 || is_limit a) → T (eqb b 0 || is_limit b) → T (eqb c 0 || is_limit c) → T (eqb (group_refusal a b c) 0 || is_limit (group_refusal a b c))
first_limit a b c p q r = go (eqb a 0) (eqb b 0)
  where
    go : (x y : Bool) → (let n = pick x (pick y c b) a in T (eqb n 0 || is_limit n))
    go true true = r
    go true false = q
    go false y = p

-- the stores' limits
at_most : (b : Bool) (n : ℕ) → T (is_limit n) → T (eqb (pick b 0 n) 0 || is_limit (pick b 0 n))
at_most true n t = tt
at_most false n t = go (eqb n 0)
  where
    go : (b : Bool) → T (b || is_limit n)
    go true = tt
    go false = t

within_limiting : (records words : ℕ) → Limiting (within records words)
within_limiting records words = record {
  operands = λ n. at_most (leb n 256) 15 tt;
  postscript = λ n. at_most (leb n 256) 15 tt;
  hints = λ n. at_most (leb n 256) 16 tt;
  groups = λ n. at_most (leb n 256) 16 tt;
  stems = λ n. at_most (leb n records) 16 tt;
  commands = λ n. at_most (leb (entry_words * n) words) 17 tt;
}

strictly_limiting : (lim : Limits) → Limiting lim → Limiting (strictly lim)
strictly_limiting lim L = record { operands = λ n. at_most (leb n 24) 22 tt; postscript = L.postscript; hints = L.hints; groups = L.groups; stems = L.stems; commands = L.commands }

-- of every reading
pub reading_limiting : (reading : Reading) (records words : ℕ) → Limiting (limits_of reading (within records words))
reading_limiting reading records words = go reading.strict
  where
    go : (b : Bool) → Limiting (pick b (strictly (within records words)) (within records words))
    go true = strictly_limiting (within records words) (within_limiting records words)
    go false = within_limiting records words

-- ---- steps
module _ (lim : Limits) (L : Limiting lim) where
  push-limited : (v : Float) (s : State) → LimitOr (push lim v s) (push unlimited v s)
  unfolding push
  push-limited v s = limit (lim.operands (length s.operands + 1)) _ _ (L.operands (length s.operands + 1)) (inr refl)

  stem-limited : (h : Bool) (p w : Float) (s : State) → LimitOr (stem lim h p w s) (stem unlimited h p w s)
  unfolding stem
  stem-limited h p w s =
      check-limited (finite p) 14 _ _ (pick-limited (is_in s.hints (stem_of h p w)) (going s) _ (going s) _ (inr refl) (limit (lim.hints (length s.hints + 1)) _ _ (L.hints (length s.hints + 1)) (inr refl)))

  new_group-limited : (s : State) → LimitOr (new_group lim s) (new_group unlimited s)
  unfolding new_group
  new_group-limited s =
      limit (group_number lim s) _ _
      (first_limit (lim.groups (length s.groups + 1)) (lim.stems (stem_count s.groups + length s.hints)) (lim.commands (entries s + 1)) (L.groups _) (L.stems _) (L.commands _)) (inr refl)

  commit-limited : (s : State) → LimitOr (commit lim s) (commit unlimited s)
  unfolding commit
  commit-limited s = pick-limited s.changed _ (going s) _ (going s) (pick-limited (last_is s.groups s.hints) _ _ _ _ (inr refl) (new_group-limited s)) (inr refl)

  enter-limited : (c : Command) (s : State) → LimitOr (enter lim c s) (enter unlimited c s)
  unfolding enter
  enter-limited c s = limit (lim.commands (entries s + 1)) _ _ (L.commands (entries s + 1)) (inr refl)

  list-limited : (c : Command) (s : State) → LimitOr (list lim c s) (list unlimited c s)
  unfolding list
  list-limited c s = then_limited (commit lim s) (commit unlimited s) (enter lim c) (enter unlimited c) (commit-limited s) (enter-limited c)

  -- a listed entry, then a step that knows no limit
  listed : (c : Command) (s : State) (k : State → Outcome) → LimitOr (and_then (list lim c s) k) (and_then (list unlimited c s) k)
  listed c s k = then_limited (list lim c s) (list unlimited c s) k k (list-limited c s) (λ t. inr refl)

  move_by-limited : (dx dy : Float) (s : State) → LimitOr (move_by lim dx dy s) (move_by unlimited dx dy s)
  unfolding move_by
  move_by-limited dx dy s =
      let p = shifted s.point dx dy in
      check-limited (is_finite p) 14 _ _ (pick-limited (no_flex s.flexing) _ _ _ _ (listed (move p) (with_point p s) (λ t. going (with_open true t))) (inr refl))

  open_subpath-limited : (s : State) → LimitOr (open_subpath lim s) (open_subpath unlimited s)
  unfolding open_subpath
  open_subpath-limited s = pick-limited s.opened _ _ _ _ (inr refl) (listed (move s.point) s (λ t. going (with_open true t)))

  line_to-limited : (dx dy : Float) (s : State) → LimitOr (line_to lim dx dy s) (line_to unlimited dx dy s)
  unfolding line_to
  line_to-limited dx dy s = let p = shifted s.point dx dy in check-limited (is_finite p) 14 _ _ (list-limited (line p) (with_point p s))

  line_by-limited : (dx dy : Float) (s : State) → LimitOr (line_by lim dx dy s) (line_by unlimited dx dy s)
  unfolding line_by
  line_by-limited dx dy s = then_limited (open_subpath lim s) (open_subpath unlimited s) (line_to lim dx dy) (line_to unlimited dx dy) (open_subpath-limited s) (line_to-limited dx dy)

  curve_to-limited : (dx1 dy1 dx2 dy2 dx3 dy3 : Float) (s : State) → LimitOr (curve_to lim dx1 dy1 dx2 dy2 dx3 dy3 s) (curve_to unlimited dx1 dy1 dx2 dy2 dx3 dy3 s)
  unfolding curve_to
  curve_to-limited dx1 dy1 dx2 dy2 dx3 dy3 s =
      let p1 = shifted s.point dx1 dy1 in
      let p2 = shifted p1 dx2 dy2 in
      let p3 = shifted p2 dx3 dy3 in
      check-limited (is_finite p1 && (is_finite p2 && is_finite p3)) 14 _ _ (list-limited (curve p1 p2 p3) (with_point p3 s))

  curve_by-limited : (dx1 dy1 dx2 dy2 dx3 dy3 : Float) (s : State) → LimitOr (curve_by lim dx1 dy1 dx2 dy2 dx3 dy3 s) (curve_by unlimited dx1 dy1 dx2 dy2 dx3 dy3 s)
  unfolding curve_by
  curve_by-limited dx1 dy1 dx2 dy2 dx3 dy3 s =
      then_limited (open_subpath lim s) (open_subpath unlimited s) (curve_to lim dx1 dy1 dx2 dy2 dx3 dy3) (curve_to unlimited dx1 dy1 dx2 dy2 dx3 dy3) (open_subpath-limited s) (curve_to-limited dx1 dy1 dx2 dy2 dx3 dy3)

  set_point-limited : (p : Point) (s : State) → LimitOr (set_point lim p s) (set_point unlimited p s)
  unfolding set_point
  set_point-limited p s =
      pick-limited (same_point p s.point) _ _ _ _ (inr refl) (pick-limited (s.opened && no_flex s.flexing) _ _ _ _ (list-limited (move p) (with_point p s)) (inr refl))

  hand_back-limited : (l : List Float) (s : State) → LimitOr (hand_back lim l s) (hand_back unlimited l s)
  unfolding hand_back
  hand_back-limited l s = limit (lim.postscript (length s.postscript + length l)) _ _ (L.postscript (length s.postscript + length l)) (inr refl)

  end_flex-limited : (h : Float) (l : List Point) (s : State) → LimitOr (end_flex lim h l s) (end_flex unlimited h l s)
  unfolding end_flex
  end_flex-limited h l s =
      let p : ℕ → Point = λ i. get_or l i origin in
      let c = flex (p 1) (p 2) (p 3) (p 4) (p 5) (p 6) h in
      check-limited (eqb (length l) 7) 9 _ _
      (then_limited (list lim c (with_flex none s)) (list unlimited c (with_flex none s)) _ _ (list-limited c (with_flex none s)) (λ t. hand_back-limited ((p 6).y ∷ (p 6).x ∷ []) (with_point (p 6) t)))

  other_subr0-limited : (args : List Float) (s : State) → LimitOr (other_subr0 lim args s) (other_subr0 unlimited args s)
  unfolding other_subr0
  other_subr0-limited args s = go s.flexing
    where
      go : (o : Option (List Point)) → LimitOr (elim o as (λ x. Outcome) [ none ↦ refused 9 | some l ↦ end_flex lim (height_of args) l s ]) (elim o as (λ x. Outcome) [ none ↦ refused 9 | some l ↦ end_flex unlimited (height_of args) l s ])
      go none = inr refl
      go (some l) = end_flex-limited (height_of args) l s

  other_subr-limited : (z : ℤ) (args : List Float) (s : State) → LimitOr (other_subr lim z args s) (other_subr unlimited z args s)
  unfolding other_subr
  other_subr-limited z args s =
      pick-limited (is 0 z) _ _ _ _ (other_subr0-limited args s)
      (pick-limited (is 1 z) _ _ _ _ (inr refl)
      (pick-limited (is 2 z) _ _ _ _ (inr refl)
      (pick-limited (is 3 z) _ _ _ _ (hand_back-limited (backwards args) (with_hints [] s)) (hand_back-limited (backwards args) s))))

  call_other_subr-limited : (s : State) → LimitOr (call_other_subr lim s) (call_other_subr unlimited s)
  unfolding call_other_subr
  call_other_subr-limited s =
      let t = without 2 s in
      let n = to_unsigned 64 (top 2 s) in
      check-limited (leb 2 (length s.operands)) 7 _ _
      (check-limited (le plus_zero (top 2 s) && leb n (length t.operands)) 7 _ _ (other_subr-limited (to_signed 63 (top 1 s)) (drop (length t.operands - n) t.operands) (without n t)))

  pop_d-limited : (s : State) → LimitOr (pop_d lim s) (pop_d unlimited s)
  unfolding pop_d
  pop_d-limited s =
      check-limited (ltb 0 (length s.postscript)) 11 _ _
      (push-limited (get_or s.postscript (length s.postscript - 1) nan) (with_postscript (take (length s.postscript - 1) s.postscript) s))

  stems3-limited : (h : Bool) (from : Float) (s : State) → LimitOr (stems3 lim h from s) (stems3 unlimited h from s)
  unfolding stems3
  stems3-limited h from s =
      let a = add binary64 from in
      check-limited (leb 6 (length s.operands)) 7 _ _
      (then_limited (stem lim h (a (top 6 s)) (top 5 s) (cleared s)) (stem unlimited h (a (top 6 s)) (top 5 s) (cleared s)) _ _ (stem-limited h (a (top 6 s)) (top 5 s) (cleared s)) (λ t.
      then_limited (stem lim h (a (top 4 s)) (top 3 s) t) (stem unlimited h (a (top 4 s)) (top 3 s) t) _ _ (stem-limited h (a (top 4 s)) (top 3 s) t) (λ u.
      stem-limited h (a (top 2 s)) (top 1 s) u)))

  pub operate-limited : (call free : Outcome) → LimitOr call free → (o : Operator) (s : State) → LimitOr (operate lim call o s) (operate unlimited free o s)
  unfolding operate
  operate-limited call free h o s = go o
    where
      -- a step that needs n operands
      ready : (n : ℕ) (x y : Outcome) → LimitOr x y → LimitOr (needs n s x) (needs n s y)
      ready n x y k = check-limited (leb n (length s.operands)) 7 x y k

      go : (o : Operator) → LimitOr (operate lim call o s) (operate unlimited free o s)
      go op.hstem = ready 2 _ _ (stem-limited true (add binary64 s.bearing.y (top 2 s)) (top 1 s) (cleared s))
      go op.vstem = ready 2 _ _ (stem-limited false (add binary64 s.bearing.x (top 2 s)) (top 1 s) (cleared s))
      go op.vmoveto = ready 1 _ _ (move_by-limited plus_zero (top 1 s) (cleared s))
      go op.rlineto = ready 2 _ _ (line_by-limited (top 2 s) (top 1 s) (cleared s))
      go op.hlineto = ready 1 _ _ (line_by-limited (top 1 s) plus_zero (cleared s))
      go op.vlineto = ready 1 _ _ (line_by-limited plus_zero (top 1 s) (cleared s))
      go op.rrcurveto = ready 6 _ _ (curve_by-limited (top 6 s) (top 5 s) (top 4 s) (top 3 s) (top 2 s) (top 1 s) (cleared s))
      go op.closepath = inr refl
      go op.callsubr = h
      go op.return = inr refl
      go op.hsbw = inr refl
      go op.endchar = inr refl
      go op.rmoveto = ready 2 _ _ (move_by-limited (top 2 s) (top 1 s) (cleared s))
      go op.hmoveto = ready 1 _ _ (move_by-limited (top 1 s) plus_zero (cleared s))
      go op.vhcurveto = ready 4 _ _ (curve_by-limited plus_zero (top 4 s) (top 3 s) (top 2 s) (top 1 s) plus_zero (cleared s))
      go op.hvcurveto = ready 4 _ _ (curve_by-limited (top 4 s) plus_zero (top 3 s) (top 2 s) plus_zero (top 1 s) (cleared s))
      go op.dotsection = inr refl
      go op.vstem3 = stems3-limited false s.bearing.x s
      go op.hstem3 = stems3-limited true s.bearing.y s
      go op.seac = inr refl
      go op.sbw = inr refl
      go op.div = inr refl
      go op.callothersubr = call_other_subr-limited s
      go op.pop = pop_d-limited s
      go op.setcurrentpoint = ready 2 _ _ (set_point-limited (point_at (top 2 s) (top 1 s)) (cleared s))
      go op.unknown = inr refl

  -- ---- the run
  charged_limited : (deep free : List ℕ → State → Outcome) (l : List ℕ) → ((s : State) → LimitOr (deep l s) (free l s)) → (s : State) → LimitOr (and_then (charge l s) (λ t. returned (deep l t))) (and_then (charge l s) (λ t. returned (free l t)))
  charged_limited deep free l h s = then_same (charge l s) _ _ (λ t. returned-limited (deep l t) (free l t) (h t))

  call_subr-limited : (f : Font) (deep free : List ℕ → State → Outcome) → ((l : List ℕ) (s : State) → LimitOr (deep l s) (free l s)) → (s : State) → LimitOr (call_subr f deep s) (call_subr f free s)
  unfolding call_subr call_body
  call_subr-limited f deep free h s = check-limited (leb 1 (length s.operands)) 7 _ _ (go (named f (top 1 s)))
    where
      go : (o : Option (List ℕ)) → LimitOr (call_body deep o (without 1 s)) (call_body free o (without 1 s))
      go none = inr refl
      go (some l) = charged_limited deep free l (h l) (without 1 s)

  pub execute-limited : (f : Font) (deep free : List ℕ → State → Outcome) → ((l : List ℕ) (s : State) → LimitOr (deep l s) (free l s)) → (o : Operator) (s : State) → LimitOr (execute lim f deep o s) (execute unlimited f free o s)
  unfolding execute
  execute-limited f deep free h o s = operate-limited (call_subr f deep s) (call_subr f free s) (call_subr-limited f deep free h s) o s

  pub run_bytes-limited : (g free : Operator → State → Outcome) → ((o : Operator) (s : State) → LimitOr (g o s) (free o s)) → (l : List ℕ) (m : ℕ) (s : State) → LimitOr (run_bytes lim g l m s) (run_bytes unlimited free l m s)
  unfolding run_bytes
  run_bytes-limited g free h [] m s = inr refl
  run_bytes-limited g free h (b ∷ l) (suc m) s = run_bytes-limited g free h l m s
  run_bytes-limited g free h (b ∷ l) zero s = go (token b l) (λ m t. run_bytes-limited g free h l m t)
    where
      go : (k : Token) → ((m : ℕ) (t : State) → LimitOr (run_bytes lim g l m t) (run_bytes unlimited free l m t)) → LimitOr (consume lim g k s (run_bytes lim g l)) (consume unlimited free k s (run_bytes unlimited free l))
      go cut on = inr refl
      go (number m z) on = then_limited (push lim (double z) s) (push unlimited (double z) s) _ _ (push-limited (double z) s) (on m)
      go (operator m o) on = then_limited (g o s) (free o s) _ _ (h o s) (on m)

  pub run_body-limited : (f : Font) (n : ℕ) (l : List ℕ) (s : State) → LimitOr (run_body lim f n l s) (run_body unlimited f n l s)
  unfolding run_body
  run_body-limited f zero l s = inr refl
  run_body-limited f (suc n) l s =
      run_bytes-limited (execute lim f (run_body lim f n)) (execute unlimited f (run_body unlimited f n)) (execute-limited f (run_body lim f n) (run_body unlimited f n) (run_body-limited f n)) (plain f.len_iv l) 0 s

  pub run-limited : (f : Font) (l : List ℕ) (s : State) → LimitOr (run lim f l s) (run unlimited f l s)
  unfolding run
  run-limited f l s = charged_limited (run_body lim f _) (run_body unlimited f _) l (run_body-limited f _ l) s

-- ---- an outcome that is not a refusal
pub not_refused : (o p : Outcome) → LimitOr o p → ((n : ℕ) → o ≡ refused n → ⊥) → o ≡ p
not_refused o p (inl r) h = absurd (h r.0 r.1)
not_refused o p (inr e) h = e

pub limited_going : (o p : Outcome) → LimitOr o p → (s : State) → o ≡ going s → p ≡ going s
limited_going o p (inl r) s e = cc (r.1, e)
limited_going o p (inr d) s e = sym d ∙ e

pub limited_ending : (o p : Outcome) → LimitOr o p → (s : State) → o ≡ ending s → p ≡ ending s
limited_ending o p (inl r) s e = cc (r.1, e)
limited_ending o p (inr d) s e = sym d ∙ e
