-- Laws: operands, the PostScript stack, the side bearing and the points of a flex, as the arrays hold them.
use mathlib.Core.Path.{◌≡◌, refl, sym, ap, ap₂, ◌∙◌, subst}
use Prim.Native.Nat.{ℕ, zero, suc, ◌+◌, ◌-◌, ◌*◌, ◌≤◌, ◌<◌, min}
use native.Mathlib.Nat.{pos_of_ne-zero}
use native.Mathlib.Numerals.{add-one}
use native.Mathlib.Omega.{arith}
use mathlib.Core.Bool.{Bool, true, false, not, cond}
use mathlib.Core.List.{List, [], ◌∷◌, ◌++◌, reverse, reverse-cons}
use mathlib.Core.Option.{Option, none, some}
use borrow.Author.Tests.{le-leb, lt-leb, leb-true, leb-false, lt-ltb, le-ltb, ltb-true, ltb-false, eqb-true, eqb-false}
use lib.Dec.{T, leb, ltb, eqb, lit≤}
use lib.ListN.{length, get_or, take, drop, set, replicate, length-set, length-append, length-drop, length-reverse, length-replicate}
use lib.Seq.{get_or-set_same, get_or-set_other, get_or-take, length-take-le, take-take, take-suc-set, take_all, paste, length-paste, take-paste}
use lib.Ieee.{Float, nan, binary64, eq, div}
use lib.Ieee.Scale.{finite}
use Rattle.charstring.specs.Cipher.{max_charstring_bytes}
use Rattle.geometry.specs.declared.Point.{Point}
use Rattle.othersubrs.specs.OtherSubrs.{hand_number, handed_back}
use Rattle.othersubrs.specs.Laws.{handed_all}
use Rattle.type1.specs.declared.Reading.{Reading}
use Rattle.type1.specs.declared.St.{St}
use Rattle.type1.specs.declared.Ran.{Ran}
use Rattle.outline.specs.Outline.{plus_zero, pick, origin}
use Rattle.type1.specs.State.{State, with_operands, with_postscript, with_point, with_bearing, with_divided, with_flex}
use Rattle.type1.specs.Outcomes.{limit_check}
use Rattle.type1.specs.Run.{Limits, within, limits_of, Outcome, going, refused, check, allowed, top, cleared, without, needs, push, pop_d, div_d, backwards, hand_back, collected, other_subr2, point_at}
use Rattle.type1.specs.Memory.{Mem, points_at, at_most_seven, flex_in, flex_held, held_of, abs, Bounds, Fit, Holds, Meets, with_ops, with_ps, with_cells}
use Rattle.type1.specs.Reading.{with_count}
use Rattle.operand_stack.specs.Stack.{operand_refusal, number_if, first_refusal}
use Rattle.operand_stack.specs.Laws.{operands_fit, refusal-above, first_is, second_is, none_refused}
use Rattle.type1.proofs.Depth.{limit_is, allowed-none, allowed_not}
use Rattle.type1.specs.Small.{ran_of, with_xY}

-- ---- what the stores do not hold changes: the state still fits
abbrev pub small : ℕ → ℕ → Float → Float → Bool → Bool → ℕ → ℕ → Bool → Bool → ℕ → St → St
small n p x y o f k h c d r t = record { operands = n; postscript = p; x = x; y = y; opened = o; flexing = f; points = k; hints = h; changed = c; last = t.last; groups = t.groups; stems = t.stems; entries = t.entries; divided = d; ran = r }

abbrev pub stacks : List Float → List Float → List Float → Mem → Mem
stacks o p x m = record { ops = o; ps = p; cells = x; edges = m.edges; across = m.across; cmds = m.cmds; stems = m.stems }

pub small_fit : (t : St) (m : Mem) → Fit t m → (n p : ℕ) (x y : Float) (o f : Bool) (k h : ℕ) (c d : Bool) (r : ℕ) (os ps cs : List Float)
    → n ≤ 256 → p ≤ 256 → k ≤ 8 → h ≤ 256 → r ≤ max_charstring_bytes → length os ≡ 256 → length ps ≡ 256 → length cs ≡ 17 → Fit (small n p x y o f k h c d r t) (stacks os ps cs m)
small_fit t m F n p x y o f k h c d r os ps cs ln lp lk lh lr eo ep ec = record {
  bounds = record { operands = ln; postscript = lp; points = lk; hints = lh; last = F.bounds.last; groups = F.bounds.groups; entries = F.bounds.entries; ran = lr };
  ops = eo;
  ps = ep;
  cells = ec;
  edges = F.edges;
  across = F.across;
  stems = F.stems;
  groups = F.groups;
  entries = F.entries;
  used = F.used;
  below = F.below;
  last = F.last;
}

-- ---- operands
module _ (t : St) (m : Mem) (s : State) (H : Holds t m s) where
  pub operands_are : s.operands ≡ take t.operands m.ops
  unfolding abs
  operands_are = sym (ap (λ (u : State). u.operands) H.is)

  pub operand_count : length s.operands ≡ t.operands
  operand_count = ap length operands_are ∙ length-take-le t.operands m.ops (let a = H.fit.ops in let b = H.fit.bounds.operands in omega arith)

  -- the k-th from the top
  pub top_is : (k : ℕ) → 0 < k → k ≤ t.operands → top k s ≡ get_or m.ops (t.operands - k) nan
  top_is k h l = ap₂ (λ (o : List Float) (n : ℕ). get_or o (n - k) nan) operands_are operand_count ∙ get_or-take t.operands m.ops (t.operands - k) nan (omega arith)

  -- without the top k
  pub without_is : (k : ℕ) → k ≤ t.operands → (without k s).operands ≡ take (t.operands - k) m.ops
  without_is k l = ap₂ (λ (o : List Float) (n : ℕ). take (n - k) o) operands_are operand_count ∙ take-take (t.operands - k) t.operands m.ops (omega arith)

  pub too_few : (k : ℕ) (o : Outcome) (r : Ran) → r ≡ ran_of t 7 → t.operands < k → Meets r m (needs k s o)
  too_few k o r e h = subst (λ (b : Bool). Meets r m (check b 7 o)) (sym (lt-leb k (length s.operands) (let n = operand_count in omega arith))) (ap (λ (q : Ran). q.flow) e, lit≤ tt)

  -- the operands suffice, and the step's outcome is q
  pub enough : (k : ℕ) (o q : Outcome) (r : Ran) (n : Mem) → k ≤ t.operands → o ≡ q → Meets r n q → Meets r n (needs k s o)
  enough k o q r n h e g = subst (λ (b : Bool). Meets r n (check b 7 o)) (sym (le-leb k (length s.operands) (let z = operand_count in omega arith))) (subst (Meets r n) (sym e) g)

  -- the first n operands alone
  pub counted : (n : ℕ) → n ≤ t.operands → Holds (with_count n t) m (with_operands (take n m.ops) s)
  unfolding abs
  counted n h =
      let F = H.fit in
      record {
        is = ap (with_operands (take n m.ops)) H.is;
        fit = small_fit t m F _ _ _ _ _ _ _ _ _ _ _ _ _ _ (let b = F.bounds.operands in omega arith) F.bounds.postscript F.bounds.points F.bounds.hints F.bounds.ran F.ops F.ps F.cells;
      }

  pub cleared_holds : Holds (with_count 0 t) m (cleared s)
  cleared_holds = counted 0 (omega arith)

  pub without_holds : (k : ℕ) → k ≤ t.operands → Holds (with_count (t.operands - k) t) m (without k s)
  without_holds k h = subst (λ (l : List Float). Holds (with_count (t.operands - k) t) m (with_operands l s)) (sym (without_is k h)) (counted (t.operands - k) (omega arith))

-- what a step says of the state with no operands
pub from_cleared : (t u : St) (m : Mem) (s : State) → Holds t m s → u ≡ with_count 0 t → Holds u m (cleared s)
from_cleared t u m s H e = subst (λ (v : St). Holds v m (cleared s)) (sym e) (cleared_holds t m s H)

-- ---- the points of a flex depend on their own places
pub points_same : (k : ℕ) (l x : List Float) → ((i : ℕ) → i < 2 * k → get_or l i nan ≡ get_or x i nan) → points_at k l ≡ points_at k x
unfolding points_at
points_same zero l x h = refl
points_same (suc k) l x h =
    ap₂ (λ (ps : List Point) (p : Point). ps ++ (p ∷ [])) (points_same k l x (λ i g. h i (omega arith)))
    (ap₂ point_at (h (2 * k) (omega arith)) (h (2 * k + 1) (omega arith)))

-- seven points are held as they are, and of more only that there are more
pub few_held : (n : ℕ) (l : List Point) → n < 8 → at_most_seven n l ≡ l
few_held n l h = ap (λ (b : Bool). pick b l (replicate 8 origin)) (lt-ltb n 8 h)

many_held : (n : ℕ) (l : List Point) → 8 ≤ n → at_most_seven n l ≡ replicate 8 origin
many_held n l h = ap (λ (b : Bool). pick b l (replicate 8 origin)) (le-ltb n 8 h)

-- of more than seven no place is held
flex_same : (f : Bool) (k : ℕ) (l x : List Float) → (k < 8 → (i : ℕ) → i < 2 * k → get_or l i nan ≡ get_or x i nan) → flex_in f k l ≡ flex_in f k x
flex_same true k l x h = ap some (go (ltb k 8) refl)
  where
    go : (b : Bool) → ltb k 8 ≡ b → at_most_seven k (points_at k l) ≡ at_most_seven k (points_at k x)
    go true e = ap (at_most_seven k) (points_same k l x (h (ltb-true k 8 e)))
    go false e = many_held k (points_at k l) (ltb-false k 8 e) ∙ sym (many_held k (points_at k x) (ltb-false k 8 e))
flex_same false k l x h = refl

points-suc : (k : ℕ) (l : List Float) → points_at (suc k) l ≡ points_at k l ++ (point_at (get_or l (2 * k) nan) (get_or l (2 * k + 1) nan) ∷ [])
unfolding points_at
points-suc k l = refl

-- the state with other cells
abbrev cells_as : Point → Float → Option (List Point) → State → State
cells_as b w f u = record { operands = u.operands; postscript = u.postscript; point = u.point; bearing = b; width = w; opened = u.opened; flexing = f; hints = u.hints; changed = u.changed; groups = u.groups; drawn = u.drawn; divided = u.divided; ran = u.ran }

-- ---- the side bearing
module _ (t : St) (m : Mem) (s : State) (H : Holds t m s) (x y w : Float) where
  abbrev borne : List Float
  borne = set (set (set m.cells 14 x) 15 y) 16 w

  borne_flex : t.points < 8 → (i : ℕ) → i < 2 * t.points → get_or borne i nan ≡ get_or m.cells i nan
  borne_flex few i h =
      let other : (j : ℕ) → 14 ≤ j → i ≡ j → ⊥ = (λ j g e. let z : ⊥ = omega arith in z) in
      get_or-set_other (set (set m.cells 14 x) 15 y) 16 i w nan (other 16 (lit≤ tt)) ∙ get_or-set_other (set m.cells 14 x) 15 i y nan (other 15 (lit≤ tt)) ∙ get_or-set_other m.cells 14 i x nan (other 14 (lit≤ tt))

  pub bearing_holds : Holds (with_xY x y t) (with_cells (set (set (set m.cells 14 x) 15 y) 16 w) m) (with_bearing (point_at x y) w s)
  unfolding abs
  bearing_holds =
      let F = H.fit in
      let n = F.cells in
      let c1 = length-set m.cells 14 x in
      let c2 = length-set (set m.cells 14 x) 15 y in
      let c3 = length-set (set (set m.cells 14 x) 15 y) 16 w in
      let e14 : get_or borne 14 nan ≡ x = get_or-set_other (set (set m.cells 14 x) 15 y) 16 14 w nan (λ e. let z : ⊥ = omega arith in z) ∙ get_or-set_other (set m.cells 14 x) 15 14 y nan (λ e. let z : ⊥ = omega arith in z) ∙ get_or-set_same m.cells 14 x nan (omega arith) in
      let e15 : get_or borne 15 nan ≡ y = get_or-set_other (set (set m.cells 14 x) 15 y) 16 15 w nan (λ e. let z : ⊥ = omega arith in z) ∙ get_or-set_same (set m.cells 14 x) 15 y nan (omega arith) in
      let e16 : get_or borne 16 nan ≡ w = get_or-set_same (set (set m.cells 14 x) 15 y) 16 w nan (omega arith) in
      let fl = flex_same t.flexing t.points borne m.cells borne_flex in
      record {
        is = ap₂ (λ (b : Point) (v : Float). cells_as b v (flex_in t.flexing t.points borne) (with_point (point_at x y) (abs t m))) (ap₂ point_at e14 e15) e16 ∙ ap (λ (f : Option (List Point)). cells_as (point_at x y) w f (with_point (point_at x y) (abs t m))) fl ∙ ap (with_bearing (point_at x y) w) H.is;
        fit = small_fit t m F _ _ _ _ _ _ _ _ _ _ _ _ _ _ F.bounds.operands F.bounds.postscript F.bounds.points F.bounds.hints F.bounds.ran F.ops F.ps (c3 ∙ c2 ∙ c1 ∙ F.cells);
      }

pub bearing_of_four : (t : St) (m : Mem) (s : State) → Holds t m s → 4 ≤ t.operands
    → going (with_bearing (point_at (top 4 s) (top 3 s)) (top 2 s) (cleared s)) ≡ going (with_bearing (point_at (get_or m.ops (t.operands - 4) nan) (get_or m.ops (t.operands - 3) nan)) (get_or m.ops (t.operands - 2) nan) (cleared s))
bearing_of_four t m s H h =
    ap₂ (λ (p : Point) (w : Float). going (with_bearing p w (cleared s))) (ap₂ point_at (top_is t m s H 4 (omega arith) h) (top_is t m s H 3 (omega arith) (omega arith))) (top_is t m s H 2 (omega arith) (omega arith))

pub bearing_set : (t : St) (m : Mem) (s : State) → Holds t m s → (x y w : Float) (u : St) (r : Ran) → r ≡ ran_of u 0 → u ≡ with_xY x y t → Meets r (with_cells (set (set (set m.cells 14 x) 15 y) 16 w) m) (going (with_bearing (point_at x y) w s))
bearing_set t m s H x y w u r e d =
    (ap (λ (q : Ran). q.flow) e, subst (λ (v : St). Holds v (with_cells (set (set (set m.cells 14 x) 15 y) 16 w) m) (with_bearing (point_at x y) w s)) (sym (ap (λ (q : Ran). q.st) e ∙ d)) (bearing_holds t m s H x y w))

-- ---- `div`
abbrev pub divided : St → St
divided t = small (t.operands - 1) t.postscript t.x t.y t.opened t.flexing t.points t.hints t.changed true t.ran t

module _ (t : St) (m : Mem) (s : State) (H : Holds t m s) (h : 2 ≤ t.operands) where
  abbrev a : Float
  a = get_or m.ops (t.operands - 2) nan

  abbrev b : Float
  b = get_or m.ops (t.operands - 1) nan

  abbrev outcome : Float → Float → List Float → Outcome
  outcome x y l = check (not (eq y plus_zero)) 10 (check (finite (div binary64 x y)) 14 (going (with_divided (with_operands (l ++ (div binary64 x y ∷ [])) s))))

  div_is : div_d s ≡ outcome a b (take (t.operands - 2) m.ops)
  unfolding div_d
  div_is =
      ap (λ (k : Bool). check k 7 (outcome (top 2 s) (top 1 s) (without 2 s).operands)) (le-leb 2 (length s.operands) (let n = operand_count t m s H in omega arith))
      ∙ ap₂ (λ (x y : Float). outcome x y (without 2 s).operands) (top_is t m s H 2 (omega arith) h) (top_is t m s H 1 (omega arith) (omega arith))
      ∙ ap (outcome a b) (without_is t m s H 2 h)

  pub div-zero : (r : Ran) → r ≡ ran_of t 10 → eq b plus_zero ≡ true → Meets r m (div_d s)
  div-zero r e z = subst (Meets r m) (sym (div_is ∙ ap (λ (k : Bool). check (not k) 10 (check (finite (div binary64 a b)) 14 (going (with_divided (with_operands (take (t.operands - 2) m.ops ++ (div binary64 a b ∷ [])) s))))) z)) (ap (λ (q : Ran). q.flow) e, lit≤ tt)

  module _ (z : eq b plus_zero ≡ false) where
    past_zero : div_d s ≡ check (finite (div binary64 a b)) 14 (going (with_divided (with_operands (take (t.operands - 2) m.ops ++ (div binary64 a b ∷ [])) s)))
    past_zero = div_is ∙ ap (λ (k : Bool). check (not k) 10 (check (finite (div binary64 a b)) 14 (going (with_divided (with_operands (take (t.operands - 2) m.ops ++ (div binary64 a b ∷ [])) s))))) z

    pub div_infinite : (r : Ran) → r ≡ ran_of t 14 → finite (div binary64 a b) ≡ false → Meets r m (div_d s)
    div_infinite r e f = subst (Meets r m) (sym (past_zero ∙ ap (λ (k : Bool). check k 14 (going (with_divided (with_operands (take (t.operands - 2) m.ops ++ (div binary64 a b ∷ [])) s)))) f)) (ap (λ (q : Ran). q.flow) e, lit≤ tt)

    pub div_done : (r : Ran) → r ≡ ran_of (divided t) 0 → finite (div binary64 a b) ≡ true → Meets r (with_ops (set m.ops (t.operands - 2) (div binary64 a b)) m) (div_d s)
    unfolding abs
    div_done r e f =
        let F = H.fit in
        let lo = F.ops in
        let lb = F.bounds.operands in
        let new = set m.ops (t.operands - 2) (div binary64 a b) in
        let l : take (t.operands - 1) new ≡ take (t.operands - 2) m.ops ++ (div binary64 a b ∷ []) = ap (λ (n : ℕ). take n new) (let z : t.operands - 1 ≡ suc (t.operands - 2) = omega arith in z) ∙ take-suc-set m.ops (t.operands - 2) (div binary64 a b) (omega arith) in
        subst (Meets r (with_ops new m)) (sym (past_zero ∙ ap (λ (k : Bool). check k 14 (going (with_divided (with_operands (take (t.operands - 2) m.ops ++ (div binary64 a b ∷ [])) s)))) f)) (
          ap (λ (q : Ran). q.flow) e,
          subst (λ (q : Ran). Holds q.st (with_ops new m) (with_divided (with_operands (take (t.operands - 2) m.ops ++ (div binary64 a b ∷ [])) s))) (sym e) (record {
            is = ap (λ (o : List Float). with_divided (with_operands o (abs t m))) l ∙ ap (λ (u : State). with_divided (with_operands (take (t.operands - 2) m.ops ++ (div binary64 a b ∷ [])) u)) H.is;
            fit = small_fit t m F _ _ _ _ _ _ _ _ _ _ _ _ _ _ (omega arith) F.bounds.postscript F.bounds.points F.bounds.hints F.bounds.ran (length-set m.ops (t.operands - 2) (div binary64 a b) ∙ F.ops) F.ps F.cells;
          }),
        )

-- ---- `pop`
abbrev pub popped : St → St
popped t = small (t.operands + 1) (t.postscript - 1) t.x t.y t.opened t.flexing t.points t.hints t.changed t.divided t.ran t

module _ (t : St) (m : Mem) (s : State) (H : Holds t m s) where
  pub postscript_are : s.postscript ≡ take t.postscript m.ps
  unfolding abs
  postscript_are = sym (ap (λ (u : State). u.postscript) H.is)

  pub postscript_count : length s.postscript ≡ t.postscript
  postscript_count = ap length postscript_are ∙ length-take-le t.postscript m.ps (let a = H.fit.ps in let b = H.fit.bounds.postscript in omega arith)

  module _ (reading : Reading) (room words : ℕ) where
    abbrev lim : Limits
    lim = limits_of reading (within room words)

    abbrev next : Float → List Float → Outcome
    next v l = going (with_operands (s.operands ++ (v ∷ [])) (with_postscript l s))

    abbrev pushed : Float → List Float → Outcome
    pushed v l = allowed (lim.operands (length s.operands + 1)) (next v l)

    abbrev pushes : Float → List Float → Outcome
    pushes v l = allowed (operand_refusal reading.strict (t.operands + 1)) (next v l)

    pop_none : (r : Ran) → r ≡ ran_of t 11 → t.postscript ≡ 0 → Meets r m (pop_d lim s)
    unfolding pop_d push
    pop_none r e z = subst (λ (k : Bool). Meets r m (check k 11 (pushed (get_or s.postscript (length s.postscript - 1) nan) (take (length s.postscript - 1) s.postscript)))) (sym (le-ltb 0 (length s.postscript) (let n = postscript_count in omega arith))) (ap (λ (q : Ran). q.flow) e, lit≤ tt)

    module _ (ne : t.postscript ≡ 0 → ⊥) where
      abbrev v : Float
      v = get_or m.ps (t.postscript - 1) nan

      abbrev left : List Float
      left = take (t.postscript - 1) m.ps

      pop_is : pop_d lim s ≡ pushes v left
      unfolding pop_d push
      pop_is =
          let h = pos_of_ne-zero ne in
          ap (λ (k : Bool). check k 11 (pushed (get_or s.postscript (length s.postscript - 1) nan) (take (length s.postscript - 1) s.postscript))) (lt-ltb 0 (length s.postscript) (let n = postscript_count in omega arith))
          ∙ ap (λ (n : ℕ). allowed n (next (get_or s.postscript (length s.postscript - 1) nan) (take (length s.postscript - 1) s.postscript))) (ap (λ (n : ℕ). lim.operands (n + 1)) (operand_count t m s H) ∙ limit_is reading room words (t.operands + 1))
          ∙ ap₂ (λ (l : List Float) (n : ℕ). pushes (get_or l (n - 1) nan) (take (n - 1) l)) postscript_are postscript_count
          ∙ ap₂ pushes (get_or-take t.postscript m.ps (t.postscript - 1) nan (omega arith)) (take-take (t.postscript - 1) t.postscript m.ps (omega arith))

      pop_full : (r : Ran) → r ≡ ran_of t (operand_refusal reading.strict (t.operands + 1)) → (operand_refusal reading.strict (t.operands + 1) ≡ 0 → ⊥) → Meets r m (pop_d lim s)
      pop_full r e h = subst (Meets r m) (sym (pop_is ∙ allowed_not (operand_refusal reading.strict (t.operands + 1)) _ h)) (ap (λ (q : Ran). q.flow) e, refusal-above reading.strict (t.operands + 1) h)

      pop_more : (r : Ran) → r ≡ ran_of (popped t) 0 → operand_refusal reading.strict (t.operands + 1) ≡ 0 → Meets r (with_ops (set m.ops t.operands (get_or m.ps (t.postscript - 1) nan)) m) (pop_d lim s)
      unfolding abs
      pop_more r e z =
          let F = H.fit in
          let lo = F.ops in
          let lt : t.operands + 1 ≤ 256 = operands_fit reading.strict (t.operands + 1) z in
          let lp = F.bounds.postscript in
          let new = set m.ops t.operands v in
          let l : take (t.operands + 1) new ≡ take t.operands m.ops ++ (v ∷ []) = ap (λ (n : ℕ). take n new) (add-one t.operands) ∙ take-suc-set m.ops t.operands v (omega arith) in
          subst (Meets r (with_ops new m)) (sym (pop_is ∙ allowed-none (operand_refusal reading.strict (t.operands + 1)) _ z)) (
            ap (λ (q : Ran). q.flow) e,
            subst (λ (q : Ran). Holds q.st (with_ops new m) (with_operands (s.operands ++ (v ∷ [])) (with_postscript left s))) (sym e) (record {
              is = ap (λ (o : List Float). with_operands o (with_postscript left (abs t m))) l ∙ ap (λ (u : State). with_operands (u.operands ++ (v ∷ [])) (with_postscript left u)) H.is;
              fit = small_fit t m F _ _ _ _ _ _ _ _ _ _ _ _ _ _ (omega arith) (omega arith) F.bounds.points F.bounds.hints F.bounds.ran (length-set m.ops t.operands v ∙ F.ops) F.ps F.cells;
            }),
          )

    -- what `pop` is refused with
    abbrev pop_refusal : ℕ
    pop_refusal = first_refusal (number_if (eqb t.postscript 0) 11) (operand_refusal reading.strict (t.operands + 1))

    pub pop_refused : (r : Ran) (f : ℕ) → f ≡ pop_refusal → (f ≡ 0 → ⊥) → r ≡ ran_of t f → Meets r m (pop_d lim s)
    pop_refused r f ef nf e = go (eqb t.postscript 0) refl
      where
        go : (c : Bool) → eqb t.postscript 0 ≡ c → Meets r m (pop_d lim s)
        go true z = pop_none r (e ∙ ap (ran_of t) (ef ∙ first_is (eqb t.postscript 0) 11 (operand_refusal reading.strict (t.operands + 1)) z (λ q. let w : ⊥ = omega (arith, q) in w))) (eqb-true t.postscript 0 z)
        go false z =
            let full = ef ∙ second_is (eqb t.postscript 0) 11 (operand_refusal reading.strict (t.operands + 1)) z in
            pop_full (eqb-false t.postscript 0 z) r (e ∙ ap (ran_of t) full) (λ q. nf (full ∙ q))

    pub pop_done : (r : Ran) (f : ℕ) → f ≡ pop_refusal → f ≡ 0 → r ≡ ran_of (popped t) 0 → Meets r (with_ops (set m.ops t.operands (get_or m.ps (t.postscript - 1) nan)) m) (pop_d lim s)
    pop_done r f ef nf e =
        let (left, room) = none_refused (eqb t.postscript 0) 11 (operand_refusal reading.strict (t.operands + 1)) (λ q. let w : ⊥ = omega (arith, q) in w) (sym ef ∙ nf) in
        pop_more (eqb-false t.postscript 0 left) r e room

pub groups-kept : (t : St) (r : Ran) (n : ℕ) → r ≡ ran_of t n → r.st.groups ≡ t.groups
groups-kept t r n e = ap (λ (q : Ran). q.st.groups) e

-- ---- a flex collects a point
module _ (s : State) where
  no_flex_lem : s.flexing ≡ none → other_subr2 s ≡ refused 9
  unfolding other_subr2
  no_flex_lem e = rw e

  one_more : (l : List Point) → s.flexing ≡ some l → other_subr2 s ≡ going (with_flex (some (collected l s.point)) s)
  unfolding other_subr2
  one_more l e = rw e

pub points-length : (k : ℕ) (l : List Float) → length (points_at k l) ≡ k
unfolding points_at
points-length zero l = refl
points-length (suc k) l = length-append (points_at k l) (point_at (get_or l (2 * k) nan) (get_or l (2 * k + 1) nan) ∷ []) ∙ (let z = points-length k l in let y : length (points_at k l) + 1 ≡ suc k = omega arith in y)

abbrev pub with_points : ℕ → St → St
with_points k t = small t.operands t.postscript t.x t.y t.opened t.flexing k t.hints t.changed t.divided t.ran t

abbrev is_none : Option (List Point) → Bool
is_none none = true
is_none (some l) = false

abbrev list_of : Option (List Point) → List Point
list_of none = []
list_of (some l) = l

-- how many are held
held-length : (n : ℕ) (l : List Point) → length l ≡ n → length (at_most_seven n l) ≡ min n 8
held-length n l e = go (ltb n 8) refl
  where
    go : (b : Bool) → ltb n 8 ≡ b → length (at_most_seven n l) ≡ min n 8
    go true h = let k = ltb-true n 8 h in ap length (few_held n l k) ∙ e ∙ (let z : n ≡ min n 8 = omega arith in z)
    go false h = let k = ltb-false n 8 h in ap length (many_held n l k) ∙ length-replicate 8 origin ∙ (let z : 8 ≡ min n 8 = omega arith in z)

-- what is held of what is held is all of it
pub held_again : (t : St) (m : Mem) → abs t m ≡ held_of (abs t m)
unfolding abs
held_again t m = ap (λ (f : Option (List Point)). with_flex f (abs t m)) (go t.flexing)
  where
    n : ℕ
    n = t.points

    l : List Point
    l = points_at n m.cells

    twice : (b : Bool) → ltb n 8 ≡ b → at_most_seven n l ≡ at_most_seven (length (at_most_seven n l)) (at_most_seven n l)
    twice true h = let k = ltb-true n 8 h in let c = held-length n l (points-length n m.cells) in sym (few_held (length (at_most_seven n l)) (at_most_seven n l) (omega arith))
    twice false h = let k = ltb-false n 8 h in let c = held-length n l (points-length n m.cells) in many_held n l k ∙ sym (many_held (length (at_most_seven n l)) (at_most_seven n l) (omega arith))

    go : (b : Bool) → flex_in b n m.cells ≡ flex_held (flex_in b n m.cells)
    go true = ap some (twice (ltb n 8) refl)
    go false = refl

-- the state that the arrays hold is one
pub holds_itself : (t : St) (m : Mem) → Fit t m → Holds t m (abs t m)
holds_itself t m F = record { is = held_again t m; fit = F }

module _ (t : St) (m : Mem) (s : State) (H : Holds t m s) where
  held_flex : (b : Bool) → t.flexing ≡ b → flex_held s.flexing ≡ flex_in b t.points m.cells
  unfolding abs
  held_flex b e = sym (ap (λ (u : State). u.flexing) H.is) ∙ ap (λ (f : Bool). flex_in f t.points m.cells) e

  pub no_flex_held : t.flexing ≡ false → s.flexing ≡ none
  no_flex_held e = go s.flexing (held_flex false e)
    where
      go : (o : Option (List Point)) → flex_held o ≡ none → o ≡ none
      go none h = refl
      go (some l) h = absurd (subst T (ap is_none (sym h)) tt)

  -- a flex's points: as many as are counted, eight standing for more; fewer than eight stand in the cells
  pub flex_points : t.flexing ≡ true → (l : List Point) × (s.flexing ≡ some l) × (t.points ≡ min (length l) 8) × (t.points < 8 → l ≡ points_at t.points m.cells)
  flex_points e = go s.flexing refl (held_flex true e)
    where
      n : ℕ
      n = t.points

      p : List Point
      p = points_at n m.cells

      go : (o : Option (List Point)) → s.flexing ≡ o → flex_held o ≡ some (at_most_seven n p) → (l : List Point) × (s.flexing ≡ some l) × (n ≡ min (length l) 8) × (n < 8 → l ≡ p)
      go none f h = absurd (subst T (ap is_none h) tt)
      go (some l) f h =
          let q : at_most_seven (length l) l ≡ at_most_seven n p = ap (λ (o : Option (List Point)). list_of o) h in
          let b = H.fit.bounds.points in
          let c : length (at_most_seven n p) ≡ min n 8 = held-length n p (points-length n m.cells) in
          let d : length (at_most_seven (length l) l) ≡ min (length l) 8 = held-length (length l) l refl in
          let w = ap length q in
          let k : n ≡ min (length l) 8 = omega arith in
          (l, f, k, λ few. sym (few_held (length l) l (omega arith)) ∙ q ∙ few_held n p few)

  point_is : s.point ≡ point_at t.x t.y
  unfolding abs
  point_is = sym (ap (λ (u : State). u.point) H.is)

  pub collect-none : (r : Ran) → r ≡ ran_of t 9 → t.flexing ≡ false → Meets r m (other_subr2 s)
  collect-none r e f = subst (Meets r m) (sym (no_flex_lem s (no_flex_held f))) (ap (λ (q : Ran). q.flow) e, lit≤ tt)

  module _ (f : t.flexing ≡ true) where
    -- an eighth point is counted, not kept
    pub collect_more : (r : Ran) → r ≡ ran_of (with_points 8 t) 0 → 7 ≤ t.points → Meets r m (other_subr2 s)
    unfolding abs
    collect_more r e h =
        let F = H.fit in
        let (l, fl, n, same) = flex_points f in
        let c = length-append l (s.point ∷ []) in
        subst (Meets r m) (sym (one_more s l fl)) (
          ap (λ (q : Ran). q.flow) e,
          subst (λ (q : Ran). Holds q.st m (with_flex (some (l ++ (s.point ∷ []))) s)) (sym e) (record {
            is = ap (λ (b : Bool). with_flex (flex_in b 8 m.cells) (abs t m)) f ∙ ap₂ (λ (g : List Point) (u : State). with_flex (some g) u) (sym (many_held (length (l ++ (s.point ∷ []))) (l ++ (s.point ∷ [])) (omega arith))) H.is;
            fit = small_fit t m F _ _ _ _ _ _ _ _ _ _ _ _ _ _ F.bounds.operands F.bounds.postscript (omega arith) F.bounds.hints F.bounds.ran F.ops F.ps F.cells;
          }),
        )

    pub collect-kept : (r : Ran) → r ≡ ran_of (with_points (t.points + 1) t) 0 → t.points < 7 → Meets r (with_cells (set (set m.cells (2 * t.points) t.x) (2 * t.points + 1) t.y) m) (other_subr2 s)
    unfolding abs
    collect-kept r e lt =
        let F = H.fit in
        let k = t.points in
        let n = F.cells in
        let d = set m.cells (2 * k) t.x in
        let c = set d (2 * k + 1) t.y in
        let n1 = length-set m.cells (2 * k) t.x in
        let n2 = length-set d (2 * k + 1) t.y in
        let other : (i : ℕ) → (i ≡ 2 * k → ⊥) → (i ≡ 2 * k + 1 → ⊥) → get_or c i nan ≡ get_or m.cells i nan = (λ i a b. get_or-set_other d (2 * k + 1) i t.y nan b ∙ get_or-set_other m.cells (2 * k) i t.x nan a) in
        let far : (i : ℕ) → 14 ≤ i → get_or c i nan ≡ get_or m.cells i nan = (λ i h. other i (λ q. let z : ⊥ = omega arith in z) (λ q. let z : ⊥ = omega arith in z)) in
        let near : (i : ℕ) → i < 2 * k → get_or c i nan ≡ get_or m.cells i nan = (λ i h. other i (λ q. let z : ⊥ = omega arith in z) (λ q. let z : ⊥ = omega arith in z)) in
        let ex : get_or c (2 * k) nan ≡ t.x = get_or-set_other d (2 * k + 1) (2 * k) t.y nan (λ q. let z : ⊥ = omega arith in z) ∙ get_or-set_same m.cells (2 * k) t.x nan (omega arith) in
        let ey : get_or c (2 * k + 1) nan ≡ t.y = get_or-set_same d (2 * k + 1) t.y nan (omega arith) in
        let (l, fl, count, same) = flex_points f in
        let p = point_at t.x t.y in
        let is-l : l ≡ points_at k m.cells = same (omega arith) in
        let more : points_at (k + 1) c ≡ l ++ (s.point ∷ []) = ap (λ (j : ℕ). points_at j c) (add-one k) ∙ points-suc k c ∙ ap₂ (λ (ps : List Point) (p : Point). ps ++ (p ∷ [])) (points_same k c m.cells near ∙ sym is-l) (ap₂ point_at ex ey ∙ sym point_is) in
        let a = length-append l (s.point ∷ []) in
        let held : flex_in t.flexing (k + 1) c ≡ flex_held (some (l ++ (s.point ∷ []))) = ap (λ (b : Bool). flex_in b (k + 1) c) f ∙ ap some (few_held (k + 1) (points_at (k + 1) c) (omega arith) ∙ more ∙ sym (few_held (length (l ++ (s.point ∷ []))) (l ++ (s.point ∷ [])) (omega arith))) in
        subst (Meets r (with_cells c m)) (sym (one_more s l fl)) (
          ap (λ (q : Ran). q.flow) e,
          subst (λ (q : Ran). Holds q.st (with_cells c m) (with_flex (some (l ++ (s.point ∷ []))) s)) (sym e) (record {
            is = ap₂ (λ (b : Point) (w : Float). cells_as b w (flex_in t.flexing (k + 1) c) (abs t m)) (ap₂ point_at (far 14 (lit≤ tt)) (far 15 (lit≤ tt))) (far 16 (lit≤ tt)) ∙ ap₂ with_flex held H.is;
            fit = small_fit t m F _ _ _ _ _ _ _ _ _ _ _ _ _ _ F.bounds.operands F.bounds.postscript (omega arith) F.bounds.hints F.bounds.ran F.ops F.ps (n2 ∙ n1 ∙ n);
          }),
        )

-- ---- numbers are handed back, the last operand first
backwards_is : (l : List Float) → backwards l ≡ reverse l
unfolding backwards
backwards_is [] = refl
backwards_is (x ∷ l) = ap (λ (q : List Float). q ++ (x ∷ [])) (backwards_is l) ∙ sym (reverse-cons x l)

abbrev pub with_postscripts : ℕ → St → St
with_postscripts p t = small t.operands p t.x t.y t.opened t.flexing t.points t.hints t.changed t.divided t.ran t

module _ (t : St) (m : Mem) (s : State) (H : Holds t m s) (room words : ℕ) (v : List Float) where
  back_is : (b : Bool) → leb (t.postscript + length v) 256 ≡ b → hand_back (within room words) v s ≡ check b 15 (going (with_postscript (s.postscript ++ v) s))
  unfolding hand_back
  back_is b e = limit_check (leb (length s.postscript + length v) 256) 15 _ refl ∙ ap (λ (k : Bool). check k 15 (going (with_postscript (s.postscript ++ v) s))) (ap (λ (n : ℕ). leb (n + length v) 256) (postscript_count t m s H) ∙ e)

  pub back_full : (r : Ran) → r.flow ≡ 15 → 256 < t.postscript + length v → Meets r m (hand_back (within room words) v s)
  back_full r e h = subst (Meets r m) (sym (back_is false (lt-leb (t.postscript + length v) 256 h))) (e, lit≤ tt)

  pub back_done : (ps : List Float) (n : ℕ) (r : Ran) → r ≡ ran_of (with_postscripts (t.postscript + n) t) 0 → n ≡ length v → t.postscript + n ≤ 256 → length ps ≡ length m.ps → take (t.postscript + n) ps ≡ take t.postscript m.ps ++ v → Meets r (with_ps ps m) (hand_back (within room words) v s)
  unfolding abs
  back_done ps n r e k h l q =
      let F = H.fit in
      subst (Meets r (with_ps ps m)) (sym (back_is true (le-leb (t.postscript + length v) 256 (omega arith)))) (
        ap (λ (q : Ran). q.flow) e,
        subst (λ (q : Ran). Holds q.st (with_ps ps m) (with_postscript (s.postscript ++ v) s)) (sym e) (record {
          is = ap (λ (o : List Float). with_postscript o (abs t m)) q ∙ ap (λ (u : State). with_postscript (u.postscript ++ v) u) H.is;
          fit = small_fit t m F _ _ _ _ _ _ _ _ _ _ _ _ _ _ F.bounds.operands h F.bounds.points F.bounds.hints F.bounds.ran F.ops (l ∙ F.ps) F.cells;
        }),
      )

module _ (o : List Float) (from to : ℕ) (h : from ≤ to) (k : to ≤ 256) (l : length o ≡ 256) where
  abbrev args : List Float
  args = take (to - from) (drop from o)

  args_count : length args ≡ to - from
  args_count = length-take-le (to - from) (drop from o) (let n = length-drop from o in omega arith)

  back_count : length (backwards args) ≡ to - from
  back_count = ap length (backwards_is args) ∙ length-reverse args ∙ args_count

  -- what `othersubrs::hand_back` answers
  module _ (t : St) (m : Mem) (s : State) (H : Holds t m s) (room words : ℕ) (r : Ran) (f : ℕ) (is : f ≡ hand_number t.postscript (length args)) where
    pub hand_refused : (M : Mem) → (f ≡ 0 → ⊥) → r ≡ ran_of t f → Meets r M (hand_back (within room words) (backwards args) s)
    hand_refused M ne e = by_test (leb (t.postscript + length args) 256) refl
      where
        by_test : (b : Bool) → leb (t.postscript + length args) 256 ≡ b → Meets r M (hand_back (within room words) (backwards args) s)
        by_test true q = absurd (ne (is ∙ ap (λ (b : Bool). cond b 0 15) q))
        by_test false q =
            let g = leb-false (t.postscript + length args) 256 q in
            let a = args_count in
            let b = back_count in
            subst (Meets r M) (sym (back_is t m s H room words (backwards args) false (lt-leb (t.postscript + length (backwards args)) 256 (omega arith)))) (ap (λ (x : Ran). x.flow) e ∙ is ∙ ap (λ (b : Bool). cond b 0 15) q, lit≤ tt)

    pub hand_done : f ≡ 0 → (ps : List Float) → ps ≡ handed_back args t.postscript m.ps → r ≡ ran_of (with_postscripts (t.postscript + (to - from)) t) 0 → Meets r (with_ps ps m) (hand_back (within room words) (backwards args) s)
    hand_done z ps p e = by_test (leb (t.postscript + length args) 256) refl
      where
        by_test : (b : Bool) → leb (t.postscript + length args) 256 ≡ b → Meets r (with_ps ps m) (hand_back (within room words) (backwards args) s)
        by_test true q =
            let g = leb-true (t.postscript + length args) 256 q in
            let a = args_count in
            let b = length-reverse args in
            let c = H.fit.ps in
            let v : ps ≡ paste m.ps t.postscript (reverse args) (length args) = p ∙ handed_all args m.ps t.postscript g in
            let u : take (t.postscript + (to - from)) ps ≡ take t.postscript m.ps ++ backwards args =
            ap₂ (λ (n : ℕ) (x : List Float). take (t.postscript + n) x) (sym a) v
            ∙ take-paste m.ps t.postscript (reverse args) (length args) (omega arith) (omega arith)
            ∙ ap (λ (x : List Float). take t.postscript m.ps ++ x) (take_all (length args) (reverse args) (omega arith) ∙ sym (backwards_is args)) in
            back_done t m s H room words (backwards args) ps (to - from) r e (sym back_count) (omega arith)
            (ap length v ∙ length-paste m.ps t.postscript (reverse args) (length args) (omega arith) (omega arith)) u
        by_test false q = absurd (let y : 15 ≡ 0 = sym (ap (λ (b : Bool). cond b 0 15) q) ∙ sym is ∙ z in let x : ⊥ = omega arith in x)

-- ---- a subpath is open where the step before goes on

pub fewer_bounds : (t : St) (n words : ℕ) → Bounds t words → n ≤ t.operands → Bounds (with_count n t) words
fewer_bounds t n words b h = record { operands = (let o = b.operands in omega arith); postscript = b.postscript; points = b.points; hints = b.hints; last = b.last; groups = b.groups; entries = b.entries; ran = b.ran }
