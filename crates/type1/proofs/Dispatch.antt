-- Laws: which operator a token names, and what each function says of it.
use mathlib.Core.Path.{◌≡◌, refl, sym, ap, ◌∙◌, subst}
use Prim.Native.Nat.{ℕ, ◌+◌, ◌-◌, ◌≤◌, ◌<◌}
use native.Mathlib.Omega.{arith}
use mathlib.Core.Bool.{Bool, true, false}
use mathlib.Core.List.{List, [], ◌∷◌}
use mathlib.Core.Logic.{◌⊎◌, inl, inr}
use borrow.Author.Tests.{eqb-true, ltb-true, ltb-false, ne_eqb}
use lib.Dec.{eqb, ltb, lit≤, lit<}
use lib.Arith.{lt_of_le-ne}
use lib.ListN.{length, get_or}
use lib.Ieee.{Float, nan}
use Rattle.type1.specs.declared.Reading.{Reading}
use Rattle.type1.specs.declared.St.{St}
use Rattle.type1.specs.declared.Ran.{Ran}
use Rattle.type1.specs.Operator.{Operator, of_byte, of_escape}
use Rattle.type1.specs.State.{State, with_open}
use Rattle.type1.specs.Run.{Limits, within, limits_of, Outcome, going, refused, cleared, div_d, pop_d, call_other_subr, operate, point_at}
use Rattle.type1.specs.Memory.{Mem, Holds, Meets, operator_of, after, with_ops, with_ps, with_cells, with_hints, with_path, Told, Takes, Hinted}
use Rattle.type1.specs.Reading.{with_count}
use Rattle.type1.specs.Small.{ran_of, closed_ran, Space}
use Rattle.type1.specs.Sound.{is_pop}
use Rattle.type1.proofs.Depth.{operate-limits}
use Rattle.type1.proofs.Stacks.{cleared_holds}
use Rattle.type1.proofs.Steps.{bearing_is}
use Rattle.type1.proofs.Groups.{after_none}
use Rattle.type1.proofs.PathLaws.{opens}
use Rattle.type1.proofs.OtherSubrs.{Others}

-- ---- which operators a range of numbers is
pub either : {A B C : Type 0} → A ⊎ B → (A → C) → (B → C) → C
either (inl a) f g = f a
either (inr b) f g = g b

pub of_two : (n k : ℕ) → k ≤ n → n < k + 2 → (n ≡ k) ⊎ (n ≡ k + 1)
of_two n k h l = go (ltb n (k + 1)) refl
  where
    go : (b : Bool) → ltb n (k + 1) ≡ b → (n ≡ k) ⊎ (n ≡ k + 1)
    go true e = let q = ltb-true n (k + 1) e in inl (omega arith)
    go false e = let q = ltb-false n (k + 1) e in inr (omega arith)

pub of_three : (n k : ℕ) → k ≤ n → n < k + 3 → (n ≡ k) ⊎ ((n ≡ k + 1) ⊎ (n ≡ k + 2))
of_three n k h l = go (ltb n (k + 1)) refl
  where
    go : (b : Bool) → ltb n (k + 1) ≡ b → (n ≡ k) ⊎ ((n ≡ k + 1) ⊎ (n ≡ k + 2))
    go true e = let q = ltb-true n (k + 1) e in inl (omega arith)
    go false e = let q = ltb-false n (k + 1) e in inr (subst (λ (j : ℕ). (n ≡ k + 1) ⊎ (n ≡ j)) (let z : k + 1 + 1 ≡ k + 2 = omega arith in z) (of_two n (k + 1) q (omega arith)))

-- ---- no key of a match, nor a number of its ranges 5 to 7, 21 to 22 and 30 to 31
abbrev pub NoneOf : Type 0 → List ℕ → ℕ → Type 0
NoneOf N [] n = N
NoneOf N (k ∷ ks) n = NoneOf (N × (n ≡ k → ⊥)) ks n

abbrev pub keys : List ℕ
keys = 1 ∷ 3 ∷ 4 ∷ 8 ∷ 9 ∷ 11 ∷ 13 ∷ 14 ∷ 256 ∷ 257 ∷ 258 ∷ 262 ∷ 263 ∷ 268 ∷ 272 ∷ 273 ∷ 289 ∷ []

-- the lines, of 3 to 7
pub lines_of : (n : ℕ) → 3 ≤ n → n < 8 → NoneOf (Unit {0}) keys n → (n ≡ 5) ⊎ ((n ≡ 6) ⊎ (n ≡ 7))
lines_of n h l r = of_three n 5 (lt_of_le-ne (lt_of_le-ne h (λ e. r.0.0.0.0.0.0.0.0.0.0.0.0.0.0.0.1 (sym e))) (λ e. r.0.0.0.0.0.0.0.0.0.0.0.0.0.0.1 (sym e))) l

abbrev pub Outside : ℕ → Type 0
Outside n = (n < 3) ⊎ (((8 ≤ n) × (n < 21)) ⊎ (((23 ≤ n) × (n < 30)) ⊎ (32 ≤ n)))

abbrev Apart : ℕ → ℕ → ℕ → Type 0
Apart n a b = (n < a) ⊎ (b ≤ n)

apart : (n a b k : ℕ) → Apart n a b → a ≤ k → k < b → n ≡ k → ⊥
apart n a b k (inl h) l g e = omega arith
apart n a b k (inr h) l g e = omega arith

spread : (n : ℕ) → Outside n → Apart n 3 8 × (Apart n 21 23 × Apart n 30 32)
spread n (inl h) = (inl h, (inl (omega arith), inl (omega arith)))
spread n (inr (inl (h, l))) = (inr h, (inl l, inl (omega arith)))
spread n (inr (inr (inl (h, l)))) = (inr (omega arith), (inr h, inl l))
spread n (inr (inr (inr h))) = (inr (omega arith), (inr (omega arith), inr h))

module _ (lim : Limits) (n : ℕ) (s : State) (r : NoneOf (Unit {0}) keys n) (out : Outside n) where
  one_byte : (b : Bool) → eqb n 10 ≡ b → ltb n 256 ≡ true → operate lim (refused 6) (operator_of n) s ≡ refused 6
  unfolding operator_of of_byte operate
  one_byte true e q = rw (q, ap of_byte (eqb-true n 10 e))
  one_byte false e q = rw (q, ne_eqb n 1 r.0.0.0.0.0.0.0.0.0.0.0.0.0.0.0.0.1, ne_eqb n 3 r.0.0.0.0.0.0.0.0.0.0.0.0.0.0.0.1, ne_eqb n 4 r.0.0.0.0.0.0.0.0.0.0.0.0.0.0.1, ne_eqb n 5 (apart n 3 8 5 (spread n out).0 (lit≤ tt) (lit< tt)), ne_eqb n 6 (apart n 3 8 6 (spread n out).0 (lit≤ tt) (lit< tt)), ne_eqb n 7 (apart n 3 8 7 (spread n out).0 (lit≤ tt) (lit< tt)), ne_eqb n 8 r.0.0.0.0.0.0.0.0.0.0.0.0.0.1, ne_eqb n 9 r.0.0.0.0.0.0.0.0.0.0.0.0.1, e, ne_eqb n 11 r.0.0.0.0.0.0.0.0.0.0.0.1, ne_eqb n 13 r.0.0.0.0.0.0.0.0.0.0.1, ne_eqb n 14 r.0.0.0.0.0.0.0.0.0.1, ne_eqb n 21 (apart n 21 23 21 (spread n out).1.0 (lit≤ tt) (lit< tt)), ne_eqb n 22 (apart n 21 23 22 (spread n out).1.0 (lit≤ tt) (lit< tt)), ne_eqb n 30 (apart n 30 32 30 (spread n out).1.1 (lit≤ tt) (lit< tt)), ne_eqb n 31 (apart n 30 32 31 (spread n out).1.1 (lit≤ tt) (lit< tt)))

  two_bytes : ltb n 256 ≡ false → operate lim (refused 6) (operator_of n) s ≡ refused 6
  unfolding operator_of of_escape operate
  two_bytes q = let h = ltb-false n 256 q in rw (q, ne_eqb (n - 256) 0 (λ z. r.0.0.0.0.0.0.0.0.1 (let y : n ≡ 256 = omega arith in y)), ne_eqb (n - 256) 1 (λ z. r.0.0.0.0.0.0.0.1 (let y : n ≡ 257 = omega arith in y)), ne_eqb (n - 256) 2 (λ z. r.0.0.0.0.0.0.1 (let y : n ≡ 258 = omega arith in y)), ne_eqb (n - 256) 6 (λ z. r.0.0.0.0.0.1 (let y : n ≡ 262 = omega arith in y)), ne_eqb (n - 256) 7 (λ z. r.0.0.0.0.1 (let y : n ≡ 263 = omega arith in y)), ne_eqb (n - 256) 12 (λ z. r.0.0.0.1 (let y : n ≡ 268 = omega arith in y)), ne_eqb (n - 256) 16 (λ z. r.0.0.1 (let y : n ≡ 272 = omega arith in y)), ne_eqb (n - 256) 17 (λ z. r.0.1 (let y : n ≡ 273 = omega arith in y)), ne_eqb (n - 256) 33 (λ z. r.1 (let y : n ≡ 289 = omega arith in y)))

  pub no_operator_lem : operate lim (refused 6) (operator_of n) s ≡ refused 6
  no_operator_lem = split (ltb n 256) refl
    where
      split : (b : Bool) → ltb n 256 ≡ b → operate lim (refused 6) (operator_of n) s ≡ refused 6
      split true q = one_byte (eqb n 10) refl q
      split false q = two_bytes q

-- no move, line or curve is pop
pub move_no_pop : (n : ℕ) → (n ≡ 4) ⊎ ((n ≡ 21) ⊎ (n ≡ 22)) → is_pop (operator_of n) ≡ false
unfolding operator_of of_byte
move_no_pop n (inl e) = subst (λ (k : ℕ). is_pop (operator_of k) ≡ false) (sym e) refl
move_no_pop n (inr (inl e)) = subst (λ (k : ℕ). is_pop (operator_of k) ≡ false) (sym e) refl
move_no_pop n (inr (inr e)) = subst (λ (k : ℕ). is_pop (operator_of k) ≡ false) (sym e) refl

pub line_no_pop : (n : ℕ) → (n ≡ 5) ⊎ ((n ≡ 6) ⊎ (n ≡ 7)) → is_pop (operator_of n) ≡ false
unfolding operator_of of_byte
line_no_pop n (inl e) = subst (λ (k : ℕ). is_pop (operator_of k) ≡ false) (sym e) refl
line_no_pop n (inr (inl e)) = subst (λ (k : ℕ). is_pop (operator_of k) ≡ false) (sym e) refl
line_no_pop n (inr (inr e)) = subst (λ (k : ℕ). is_pop (operator_of k) ≡ false) (sym e) refl

pub curve_no_pop : (n : ℕ) → (n ≡ 8) ⊎ ((n ≡ 30) ⊎ (n ≡ 31)) → is_pop (operator_of n) ≡ false
unfolding operator_of of_byte
curve_no_pop n (inl e) = subst (λ (k : ℕ). is_pop (operator_of k) ≡ false) (sym e) refl
curve_no_pop n (inr (inl e)) = subst (λ (k : ℕ). is_pop (operator_of k) ≡ false) (sym e) refl
curve_no_pop n (inr (inr e)) = subst (λ (k : ℕ). is_pop (operator_of k) ≡ false) (sym e) refl

-- ---- what `plain` says, arm by arm
-- what `plain` says of an answer r
abbrev Answers : Reading → Bool → St → List Float → List Float → List Float → List Float → List Bool → List ℕ → ℕ → ℕ → List Float → List Float → List Float → List Float → List Bool → List ℕ → Ran → Type 0
Answers reading same t o ps x e a c room n o' ps' x' e' a' c' r = ((m : Mem) (s : State) → length m.stems ≡ room → Told same s → Holds t (with_ops o (with_ps ps (with_cells x (with_path e a c m)))) s → Meets r (with_ops o' (with_ps ps' (with_cells x' (after t r c' (with_hints e' a' m))))) (operate (limits_of reading (within room (length c))) (refused 6) (operator_of n) s)) × Space t r.st room

module _ (reading : Reading) (same : Bool) (t : St) (r : Ran) (o ps x e : List Float) (a : List Bool) (c : List ℕ) (room n k : ℕ) (w : Operator) (key : n ≡ k) (is : operator_of k ≡ w) where
  named : operator_of n ≡ w
  named = ap operator_of key ∙ is

  abbrev lim : Limits
  lim = limits_of reading (within room (length c))

  abbrev Does : List Float → List Float → List Float → List Float → List Bool → List ℕ → Type 0
  Does o' ps' x' e' a' c' = Answers reading same t o ps x e a c room n o' ps' x' e' a' c' r

  -- the answer v is r once more
  kept_arm : (v : Ran) (o' ps' x' e' : List Float) (a' : List Bool) (c' : List ℕ) → v ≡ r → Does o' ps' x' e' a' c' → Answers reading same t o ps x e a c room n o' ps' x' e' a' c' v
  kept_arm v o' ps' x' e' a' c' q = subst (Answers reading same t o ps x e a c room n o' ps' x' e' a' c') (sym q)

  arm : (o' ps' x' e' : List Float) (a' : List Bool) (c' : List ℕ) → Space t r.st room
      → ((m : Mem) (s : State) → length m.stems ≡ room → Told same s → Holds t (with_ops o (with_ps ps (with_cells x (with_path e a c m)))) s → Meets r (with_ops o' (with_ps ps' (with_cells x' (after t r c' (with_hints e' a' m))))) (operate lim (refused 6) w s))
      → Does o' ps' x' e' a' c'
  arm o' ps' x' e' a' c' p f = (λ m s q d H. subst (λ (v : Operator). Meets r (with_ops o' (with_ps ps' (with_cells x' (after t r c' (with_hints e' a' m))))) (operate lim (refused 6) v s)) (sym named) (f m s q d H), p)

  -- no group is made
  quiet : (o' ps' x' e' : List Float) (a' : List Bool) → r.st.groups ≡ t.groups
      → ((m : Mem) (s : State) → Holds t (with_ops o (with_ps ps (with_cells x (with_path e a c m)))) s → Meets r (with_ops o' (with_ps ps' (with_cells x' (with_path e' a' c m)))) (operate lim (refused 6) w s))
      → Does o' ps' x' e' a' c
  quiet o' ps' x' e' a' g f = arm o' ps' x' e' a' c (λ z. absurd (z g)) (λ m s q d H. after_none t r c (with_ops o' (with_ps ps' (with_cells x' (with_hints e' a' m)))) (operate lim (refused 6) w s) g (f m s H))

  -- an operator but pop does alike in the present reading
  alike : is_pop w ≡ false → (s : State) → operate lim (refused 6) w s ≡ operate (within room (length c)) (refused 6) w s
  alike plain s = operate-limits reading (within room (length c)) (refused 6) w s plain

  -- a path command, as D does it
  pub path_arm : is_pop w ≡ false → (D : Limits → State → Outcome) (c' : List ℕ) (v : Ran) → v ≡ r → ((lim : Limits) (s : State) → operate lim (refused 6) w s ≡ D lim s)
      → Takes same t r o c c' room D → Space t r.st room → Answers reading same t o ps x e a c room n o ps x e a c' v
  path_arm plain D c' v k b f p = kept_arm v o ps x e a c' k (arm o ps x e a c' p (λ m s q d H. subst (Meets r (with_ops o (with_ps ps (with_cells x (after t r c' (with_hints e a m)))))) (sym (alike plain s ∙ b (within room (length c)) s)) (f (with_ps ps (with_cells x (with_hints e a m))) s q d H)))

  -- the side bearing
  pub bearing_arm : is_pop w ≡ false → (x' : List Float)
      → ((m : Mem) (s : State) (d : Outcome) (room words : ℕ) → Holds t (with_ops o (with_cells x m)) s → Meets r (with_ops o (with_cells x' m)) (operate (within room words) d w s))
      → r.st.groups ≡ t.groups → Does o ps x' e a c
  bearing_arm plain x' f g = quiet o ps x' e a g (λ m s H. subst (Meets r (with_ops o (with_ps ps (with_cells x' (with_path e a c m))))) (sym (alike plain s)) (f (with_ps ps (with_path e a c m)) s (refused 6) room (length c) H))

  -- stems, as D counts them from the side bearing
  pub stems_arm : is_pop w ≡ false → (D : Limits → State → Outcome) (e' : List Float) (a' : List Bool) (v : Ran) → v ≡ r
      → ((s : State) (lim : Limits) → s.bearing ≡ point_at (get_or x 14 nan) (get_or x 15 nan) → operate lim (refused 6) w s ≡ D lim s)
      → (u : St) → u ≡ t → Hinted u r o e a e' a' D × (r.st.groups ≡ u.groups) → Answers reading same t o ps x e a c room n o ps x e' a' c v
  stems_arm plain D e' a' v k b u y h =
      let (f, g) = subst (λ (z : St). Hinted z r o e a e' a' D × (r.st.groups ≡ z.groups)) y h in
      kept_arm v o ps x e' a' c k (quiet o ps x e' a' g (λ m s H. subst (Meets r (with_ops o (with_ps ps (with_cells x (with_path e' a' c m))))) (sym (alike plain s ∙ b s (within room (length c)) (bearing_is t _ s H))) (f (with_ps ps (with_cells x (with_path e a c m))) s room (length c) H)))

  pub div_arm : (o' : List Float) → ((s : State) (lim : Limits) → operate lim (refused 6) w s ≡ div_d s) → ((m : Mem) (s : State) → Holds t (with_ops o m) s → Meets r (with_ops o' m) (div_d s)) → r.st.groups ≡ t.groups → Does o' ps x e a c
  div_arm o' b f g = quiet o' ps x e a g (λ m s H. subst (Meets r (with_ops o' (with_ps ps (with_cells x (with_path e a c m))))) (sym (b s lim)) (f (with_ps ps (with_cells x (with_path e a c m))) s H))

  pub pop_arm : (o' : List Float) → ((s : State) (lim : Limits) → operate lim (refused 6) w s ≡ pop_d lim s) → ((m : Mem) (s : State) (room words : ℕ) → Holds t (with_ops o (with_ps ps m)) s → Meets r (with_ops o' (with_ps ps m)) (pop_d (limits_of reading (within room words)) s)) → r.st.groups ≡ t.groups → Does o' ps x e a c
  pop_arm o' b f g = quiet o' ps x e a g (λ m s H. subst (Meets r (with_ops o' (with_ps ps (with_cells x (with_path e a c m))))) (sym (b s lim)) (f (with_cells x (with_path e a c m)) s room (length c) H))

  pub other_arm : is_pop w ≡ false → (ps' x' : List Float) (c' : List ℕ) (v : Ran) → v ≡ r → ((s : State) (lim : Limits) → operate lim (refused 6) w s ≡ call_other_subr lim s) → Others same t r o ps x c ps' x' c' room → Space t r.st room → Answers reading same t o ps x e a c room n o ps' x' e a c' v
  other_arm plain ps' x' c' v k b f p = kept_arm v o ps' x' e a c' k (arm o ps' x' e a c' p (λ m s q d H. subst (Meets r (with_ops o (with_ps ps' (with_cells x' (after t r c' (with_hints e a m)))))) (sym (alike plain s ∙ b s (within room (length c)))) (f (with_hints e a m) s q d H)))

  -- what changes no array: the state u is left, and the run's outcome says so
  pub state_arm : (out : State → Outcome) (u : St) (f : ℕ) → r ≡ ran_of u f → u.groups ≡ t.groups → ((s : State) (lim : Limits) → operate lim (refused 6) w s ≡ out s) → ((m : Mem) (s : State) → Holds t m s → Meets (ran_of u f) m (out s)) → Does o ps x e a c
  state_arm out u f p g b h = quiet o ps x e a (ap (λ (v : Ran). v.st.groups) p ∙ g) (λ m s H. subst (Meets r (with_ops o (with_ps ps (with_cells x (with_path e a c m))))) (sym (b s lim)) (subst (λ (v : Ran). Meets v (with_ops o (with_ps ps (with_cells x (with_path e a c m)))) (out s)) (sym p) (h (with_ops o (with_ps ps (with_cells x (with_path e a c m)))) s H)))

pub closes : (t : St) (m : Mem) (s : State) → Holds t m s → Meets (closed_ran t) m (going (with_open false (cleared s)))
closes t m s H = (refl, opens (with_count 0 t) m (cleared s) false (cleared_holds t m s H))

-- no key
pub rest_arm : (reading : Reading) (same : Bool) (t : St) (r : Ran) (o ps x e : List Float) (a : List Bool) (c : List ℕ) (room n : ℕ) → r ≡ ran_of t 6 → NoneOf (Unit {0}) keys n → Outside n
    → Answers reading same t o ps x e a c room n o ps x e a c r
rest_arm reading same t r o ps x e a c room n p z out = (λ m s q d H. subst (Meets r (with_ops o (with_ps ps (with_cells x (after t r c (with_hints e a m)))))) (sym (no_operator_lem (limits_of reading (within room (length c))) n s z out)) (ap (λ (v : Ran). v.flow) p, lit≤ tt), λ y. absurd (y (ap (λ (v : Ran). v.st.groups) p)))
