-- Laws: path operators take their operands from the top, and clear the stack.
use mathlib.Core.Path.{◌≡◌, refl, sym, ap, ap₂, ◌∙◌, subst}
use Prim.Native.Nat.{ℕ, ◌-◌, ◌≤◌, ◌<◌}
use native.Mathlib.Omega.{arith}
use mathlib.Core.Bool.{Bool, true, false}
use mathlib.Core.List.{List}
use borrow.Author.Tests.{le-leb, lt-leb}
use lib.Dec.{T, leb, lit≤}
use lib.ListN.{length, get_or, take}
use lib.Ieee.{Float, nan}
use lib.Ieee.Scale.{finite}
use Rattle.type1.specs.declared.St.{St}
use Rattle.type1.specs.declared.Ran.{Ran}
use Rattle.std.specs.Prelude.{Option, Some, None, is_some, unwrap_or}
use Rattle.geometry.specs.declared.Point.{Point}
use Rattle.outline.specs.Outline.{origin, plus_zero}
use Rattle.type1.specs.declared.Deltas.{Deltas}
use Rattle.type1.specs.Operator as op
use Rattle.type1.specs.State.{State}
use Rattle.type1.specs.Run.{Limits, within, Outcome, refused, check, top, cleared, set_point, point_at, operate}
use Rattle.type1.specs.Memory.{Mem, Bounds, Holds, Meets, kept, after, with_cmds, with_ops, Step, Takes}
use Rattle.type1.specs.Deltas.{Axes, Tangents, deltas_of, by, point_delta, curve_deltas, by_point, by_deltas, by_curve}
use Rattle.type1.specs.Reading.{with_count}
use Rattle.type1.specs.Small.{ran_of, Space}
use Rattle.type1.proofs.Stacks.{operands_are, operand_count, top_is, cleared_holds}

-- ---- an operator that takes its operands and clears the stack
module _ (same : Bool) (t : St) (r : Ran) (o : List Float) (c : List ℕ) (room : ℕ) (D : Limits → State → Outcome) (b : List Float → Bool) (F : Limits → List Float → State → Outcome)
    (is : (lim : Limits) (s : State) → D lim s ≡ check (b s.operands) 7 (F lim s.operands (cleared s))) where
  abbrev held : List Float
  held = take t.operands o

  said : (lim : Limits) (m : Mem) (s : State) → Holds t (with_ops o m) s → (d : Bool) → b held ≡ d → D lim s ≡ check d 7 (F lim held (cleared s))
  said lim m s H d e = is lim s ∙ ap (λ (l : List Float). check (b l) 7 (F lim l (cleared s))) (operands_are t (with_ops o m) s H) ∙ ap (λ (x : Bool). check x 7 (F lim held (cleared s))) e

  pub short : b held ≡ false → r ≡ ran_of t 7 → Takes same t r o c c room D
  short e p m s q w H = subst (Meets r (with_ops o (after t r c m))) (sym (said (within room (length c)) (with_cmds c m) s H false e)) (ap (λ (z : Ran). z.flow) p, lit≤ tt)

  pub does : (u : St) (c' : List ℕ) → u ≡ with_count 0 t → b held ≡ true → Step same u r c c' room (λ lim. F lim held) → Takes same t r o c c' room D
  unfolding kept
  does u c' p e S m s q w H =
      subst (Meets r (with_ops o (after t r c' m))) (sym (said (within room (length c)) (with_cmds c m) s H true e))
      (subst (λ (v : St). Step same v r c c' room (λ lim. F lim held)) p S (with_ops o m) (cleared s) q w (cleared_holds t (with_ops o (with_cmds c m)) s H))

pub clear_space : (t u : St) (r : Ran) (room : ℕ) → u ≡ with_count 0 t → Space u r.st room → Space t r.st room
clear_space t u r room e S = subst (λ (v : St). Space v r.st room) e S

pub clear_bounds : (t u : St) (words room : ℕ) → u ≡ with_count 0 t → Bounds t words → t.stems ≤ room → Bounds u words × (u.stems ≤ room)
clear_bounds t u words room e b h = subst (λ (v : St). Bounds v words × (v.stems ≤ room)) (sym e) (record { operands = lit≤ tt; postscript = b.postscript; points = b.points; hints = b.hints; last = b.last; groups = b.groups; entries = b.entries; ran = b.ran }, h)

-- ---- what f does by the operands that there are
by_given : {A : Type 0} (f : A → Outcome) (d : A) (o : Option A) → by f o ≡ check (is_some o) 7 (f (unwrap_or o d))
by_given f d None = refl
by_given f d (Some x) = refl

-- ---- moves and lines, as f does them by the delta that was made of the operands
module _ (same : Bool) (t : St) (r : Ran) (o : List Float) (c : List ℕ) (room : ℕ) (f : Limits → Float → Float → State → Outcome) (a : Axes) where
  abbrev delta : List Float → Point
  delta l = unwrap_or (point_delta a l) origin

  point_is : (d : Option Point) → d ≡ point_delta a (take (t.operands - 0) o) → d ≡ point_delta a (take t.operands o)
  point_is d is = is ∙ ap (λ (n : ℕ). point_delta a (take n o)) (let z : t.operands - 0 ≡ t.operands = omega arith in z)

  unfolded : (lim : Limits) (s : State) → by_point f a lim s ≡ check (is_some (point_delta a s.operands)) 7 (f lim (delta s.operands).x (delta s.operands).y (cleared s))
  unfolding by_point
  unfolded lim s = by_given (λ (d : Point). f lim d.x d.y (cleared s)) origin (point_delta a s.operands)

  pub point-short : None ≡ point_delta a (take (t.operands - 0) o) → r ≡ ran_of t 7 → Takes same t r o c c room (by_point f a)
  point-short is = short same t r o c room (by_point f a) (λ l. is_some (point_delta a l)) (λ lim l. f lim (delta l).x (delta l).y) unfolded (sym (ap is_some (point_is None is)))

  pub point-does : (d : Point) → Some d ≡ point_delta a (take (t.operands - 0) o) → (u : St) (c' : List ℕ) → u ≡ with_count 0 t → Step same u r c c' room (λ lim. f lim d.x d.y) → Takes same t r o c c' room (by_point f a)
  point-does d is u c' p S =
      does same t r o c room (by_point f a) (λ l. is_some (point_delta a l)) (λ lim l. f lim (delta l).x (delta l).y) unfolded u c' p (sym (ap is_some (point_is (Some d) is)))
      (subst (λ (z : Option Point). Step same u r c c' room (λ lim. f lim (unwrap_or z origin).x (unwrap_or z origin).y)) (point_is (Some d) is) S)

-- ---- curves likewise
module _ (same : Bool) (t : St) (r : Ran) (o : List Float) (c : List ℕ) (room : ℕ) (a : Tangents) where
  abbrev none : Deltas
  none = deltas_of plus_zero plus_zero plus_zero plus_zero plus_zero plus_zero

  curve_is : (d : Option Deltas) → d ≡ curve_deltas a (take (t.operands - 0) o) → d ≡ curve_deltas a (take t.operands o)
  curve_is d is = is ∙ ap (λ (n : ℕ). curve_deltas a (take n o)) (let z : t.operands - 0 ≡ t.operands = omega arith in z)

  opened : (lim : Limits) (s : State) → by_curve a lim s ≡ check (is_some (curve_deltas a s.operands)) 7 (by_deltas lim (unwrap_or (curve_deltas a s.operands) none) (cleared s))
  unfolding by_curve
  opened lim s = by_given (λ (d : Deltas). by_deltas lim d (cleared s)) none (curve_deltas a s.operands)

  pub curve_short : None ≡ curve_deltas a (take (t.operands - 0) o) → r ≡ ran_of t 7 → Takes same t r o c c room (by_curve a)
  curve_short is = short same t r o c room (by_curve a) (λ l. is_some (curve_deltas a l)) (λ lim l. by_deltas lim (unwrap_or (curve_deltas a l) none)) opened (sym (ap is_some (curve_is None is)))

  pub curve_does : (d : Deltas) → Some d ≡ curve_deltas a (take (t.operands - 0) o) → (u : St) (c' : List ℕ) → u ≡ with_count 0 t → Step same u r c c' room (λ lim. by_deltas lim d) → Takes same t r o c c' room (by_curve a)
  curve_does d is u c' p S =
      does same t r o c room (by_curve a) (λ l. is_some (curve_deltas a l)) (λ lim l. by_deltas lim (unwrap_or (curve_deltas a l) none)) opened u c' p (sym (ap is_some (curve_is (Some d) is)))
      (subst (λ (z : Option Deltas). Step same u r c c' room (λ lim. by_deltas lim (unwrap_or z none))) (curve_is (Some d) is) S)

-- ---- 12 33
abbrev pub sets_point : Limits → State → Outcome
sets_point lim = operate lim (refused 6) op.setcurrentpoint

sets : (lim : Limits) (s : State) → sets_point lim s ≡ check (leb 2 (length s.operands)) 7 (set_point lim (point_at (top 2 s) (top 1 s)) (cleared s))
unfolding operate
sets lim s = refl

module _ (same : Bool) (t : St) (r : Ran) (o : List Float) (c : List ℕ) (room : ℕ) where
  pub short_setcurrentpoint : t.operands < 2 → r ≡ ran_of t 7 → Takes same t r o c c room sets_point
  short_setcurrentpoint h p m s q w H =
      let n = operand_count t (with_ops o (with_cmds c m)) s H in
      subst (Meets r (with_ops o (after t r c m))) (sym (sets (within room (length c)) s ∙ ap (λ (b : Bool). check b 7 (set_point (within room (length c)) (point_at (top 2 s) (top 1 s)) (cleared s))) (lt-leb 2 (length s.operands) (omega arith)))) (ap (λ (z : Ran). z.flow) p, lit≤ tt)

  pub does_setcurrentpoint : (u : St) (c' : List ℕ) → u ≡ with_count 0 t → 2 ≤ t.operands → Step same u r c c' room (λ lim. set_point lim (point_at (get_or o (t.operands - 2) nan) (get_or o (t.operands - 1) nan))) → Takes same t r o c c' room sets_point
  unfolding kept
  does_setcurrentpoint u c' p h S m s q w H =
      let M = with_ops o (with_cmds c m) in
      let lim = within room (length c) in
      let n = operand_count t M s H in
      subst (Meets r (with_ops o (after t r c' m))) (sym (sets lim s ∙ ap (λ (b : Bool). check b 7 (set_point lim (point_at (top 2 s) (top 1 s)) (cleared s))) (le-leb 2 (length s.operands) (omega arith))
      ∙ ap₂ (λ (x y : Float). set_point lim (point_at x y) (cleared s)) (top_is t M s H 2 (omega arith) (omega arith)) (top_is t M s H 1 (omega arith) (omega arith))))
      (subst (λ (v : St). Step same v r c c' room (λ lim. set_point lim (point_at (get_or o (t.operands - 2) nan) (get_or o (t.operands - 1) nan)))) p S (with_ops o m) (cleared s) q w (cleared_holds t M s H))

pub clear_finite : (t u : St) → u ≡ with_count 0 t → T (finite t.x) × T (finite t.y) → T (finite u.x) × T (finite u.y)
clear_finite t u e h = subst (λ (v : St). T (finite v.x) × T (finite v.y)) (sym e) h
