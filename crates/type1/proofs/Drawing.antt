-- Laws: a line or a curve of an open subpath is one entry, where the stems in force did not change.
use mathlib.Core.Path.{◌≡◌, refl, sym, ap, subst}
use Prim.Native.Nat.{ℕ, ◌+◌, ◌-◌, ◌*◌, ◌≤◌, ◌<◌}
use native.Mathlib.Omega.{arith}
use mathlib.Core.Bool.{Bool, true, false, true≢false, ◌&&◌}
use mathlib.Core.List.{List}
use mathlib.Core.Logic.{◌⊎◌, inl, inr}
use lib.Dec.{T}
use lib.ListN.{length, set, take}
use lib.Ieee.{Float, binary64, add, fits, to_bits}
use Rattle.outline.specs.declared.Stem.{Stem}
use Rattle.type1.specs.declared.St.{St}
use Rattle.type1.specs.declared.Ran.{Ran}
use Rattle.std.specs.Prelude.{Option, Some, None}
use Rattle.geometry.specs.declared.Point.{Point}
use Rattle.type1.specs.declared.Deltas.{Deltas}
use Rattle.type1.specs.Operator as op
use Rattle.outline.specs.Outline.{Command, line, curve}
use Rattle.outline.specs.Store.{point_command}
use Rattle.type1.specs.State.{State}
use Rattle.type1.specs.Run.{Limits, within, Outcome, refused, point_at, is_finite, enter, list, line_by, curve_by, operate}
use Rattle.type1.specs.Memory.{Mem, Holds, Meets, operator_of, with_ops, with_cmds, with_stems, Step, Takes}
use Rattle.type1.specs.Small.{ran_of}
use Rattle.type1.specs.Reading.{placed, drawn_to, is_read, Stores, Adds, Draws}
use Rattle.type1.proofs.Store.{with_entries, enter_full, wrote_3, wrote_7, point_entered, curve_entered}
use Rattle.type1.proofs.Groups.{kept-none, commits_none, quiet_told}
use Rattle.type1.proofs.PathLaws.{lists_on, lines_listed, line_open, curves_listed, curve_open}
use Rattle.type1.specs.Deltas.{axes_of, tangents_of, point_delta, curve_deltas, by_point, by_deltas, by_curve}
use Rattle.type1.specs.DeltaLaws.{lines, curves}
use Rattle.type1.proofs.OperandLaws.{point-does, curve_does}

-- ---- entries
pub stores-none : (X : Command) (k : ℕ) (c : List ℕ) → length c - 14 * k < 14 → Stores X k c false c
stores-none X k c h = record { done = λ w. absurd (true≢false (sym w)); space = λ w. absurd (true≢false (sym w)); full = λ w. (refl, h); same = refl }

module _ (k : ℕ) (c : List ℕ) (b : 14 * k ≤ length c) (h : 14 ≤ length c - 14 * k) where
  stores_more : (X : Command) (at : ℕ → List ℕ) → ((t : St) (m : Mem) (s : State) (room : ℕ) → 14 ≤ length c - 14 * t.entries → Holds t (with_cmds c m) s → Meets (ran_of (with_entries (t.entries + 1) t) 0) (with_cmds (at t.entries) m) (enter (within room (length c)) X s)) → length (at k) ≡ length c → Stores X k c true (at k)
  stores_more X at E l = record {
    done = λ w t m s room e H.
        subst (λ (j : ℕ). Meets (ran_of (placed t.operands t.x t.y (j + 1) t) 0) (with_cmds (at j) m) (enter (within room (length c)) X s)) e (E t m s room (subst (λ (j : ℕ). 14 ≤ length c - 14 * j) (sym e) h) H);
    space = λ w. omega arith;
    full = λ w. absurd (true≢false w);
    same = l;
  }

  pub stores-point : (kind : ℕ) (x y : Float) → T (fits binary64 x) → T (fits binary64 y) → 0 < kind → kind < 3 → Stores (point_command kind (point_at x y)) k c true (set (set (set c (14 * k) kind) (14 * k + 1) (to_bits binary64 x)) (14 * k + 2) (to_bits binary64 y))
  stores-point kind x y fx fy lo hi =
      stores_more (point_command kind (point_at x y)) (λ j. set (set (set c (14 * j) kind) (14 * j + 1) (to_bits binary64 x)) (14 * j + 2) (to_bits binary64 y))
      (λ t m s room g H. point_entered t (with_cmds c m) s H room (ran_of (with_entries (t.entries + 1) t) 0) refl g kind x y fx fy lo hi) (wrote_3 (14 * k) c kind (to_bits binary64 x) (to_bits binary64 y) (omega arith)).same

  pub stores_curve : (x1 y1 x2 y2 x3 y3 : Float) → T (fits binary64 x1) → T (fits binary64 y1) → T (fits binary64 x2) → T (fits binary64 y2) → T (fits binary64 x3) → T (fits binary64 y3)
      → Stores (curve (point_at x1 y1) (point_at x2 y2) (point_at x3 y3)) k c true (set (set (set (set (set (set (set c (14 * k) 3) (14 * k + 1) (to_bits binary64 x1)) (14 * k + 2) (to_bits binary64 y1)) (14 * k + 3) (to_bits binary64 x2)) (14 * k + 4) (to_bits binary64 y2)) (14 * k + 5) (to_bits binary64 x3)) (14 * k + 6) (to_bits binary64 y3))
  stores_curve x1 y1 x2 y2 x3 y3 f1 f2 f3 f4 f5 f6 =
      stores_more (curve (point_at x1 y1) (point_at x2 y2) (point_at x3 y3)) (λ j. set (set (set (set (set (set (set c (14 * j) 3) (14 * j + 1) (to_bits binary64 x1)) (14 * j + 2) (to_bits binary64 y1)) (14 * j + 3) (to_bits binary64 x2)) (14 * j + 4) (to_bits binary64 y2)) (14 * j + 5) (to_bits binary64 x3)) (14 * j + 6) (to_bits binary64 y3))
      (λ t m s room g H. curve_entered t (with_cmds c m) s H room (ran_of (with_entries (t.entries + 1) t) 0) refl g x1 y1 x2 y2 x3 y3 f1 f2 f3 f4 f5 f6) (wrote_7 (14 * k) c 3 (to_bits binary64 x1) (to_bits binary64 y1) (to_bits binary64 x2) (to_bits binary64 y2) (to_bits binary64 x3) (to_bits binary64 y3) (omega arith)).same

-- what an entry did to the whole state
pub entered_so : (X : Command) (t : St) (c d : List ℕ) (b : Bool) (r : Ran) → Stores X t.entries c b d → b ≡ true → r ≡ ran_of (with_entries (t.entries + 1) t) 0 → (m : Mem) (s : State) (room : ℕ) → Holds t (with_cmds c m) s → Meets r (with_cmds d m) (enter (within room (length c)) X s)
entered_so X t c d b r S z e m s room H = subst (λ (q : Ran). Meets q (with_cmds d m) (enter (within room (length c)) X s)) (sym e) (S.done z t m s room refl H)

pub entered_not : (X : Command) (t : St) (c d : List ℕ) (b : Bool) (r : Ran) → Stores X t.entries c b d → b ≡ false → r ≡ ran_of t 17 → (m : Mem) (s : State) (room : ℕ) → Holds t (with_cmds c m) s → Meets r (with_cmds d m) (enter (within room (length c)) X s)
entered_not X t c d b r S z e m s room H =
    subst (λ (q : List ℕ). Meets r (with_cmds q m) (enter (within room (length c)) X s)) (sym (S.full z).0) (enter_full t (with_cmds c m) s H room X r e (S.full z).1)

-- ---- nothing was done
pub adds_none : (D : Limits → State → Outcome) (x y : Float) (k : ℕ) (c d : List ℕ) → d ≡ c → Adds D x y k c None d
adds_none D x y k c d e = record { done = tt; space = tt; none = e; same = ap length e }

pub draws-none : (v n : ℕ) (x y : Float) (k : ℕ) (ops : List Float) (c d : List ℕ) → d ≡ c → Draws v n x y k ops c None d
draws-none v n x y k ops c d e = record { done = tt; drawn = tt; space = tt; none = e; same = ap length e }

abbrev drawn_of : Float → Float → Option Point
drawn_of x y = Some (point_at x y)

-- ---- an entry, after a commit that has nothing to do
module _ (X : Command) (x y : Float) (k : ℕ) (c d : List ℕ) (b : Bool) (S : Stores X k c b d) (z : b ≡ true) (same : Bool) (t : St) (room : ℕ) (ch : t.changed ≡ false) where
  abbrev at : St
  at = placed 0 x y k t

  abbrev next : Ran
  next = ran_of (placed 0 x y (k + 1) t) 0

  lists : Step same at next c d room (λ lim. list lim X)
  lists = lists_on same at (ran_of at 0) next c c d room X (commits_none same at (ran_of at 0) c room refl ch) refl refl (λ m s n H. S.done z at m s n refl H) (record { hints = refl; changed = refl; last = refl; groups = refl; stems = refl })

pub line_added : (dx dy x y : Float) (k : ℕ) (c d : List ℕ) (b : Bool) → is_finite (point_at (add binary64 x dx) (add binary64 y dy)) ≡ true → Stores (line (point_at (add binary64 x dx) (add binary64 y dy))) k c b d → b ≡ true → Adds (λ lim. line_by lim dx dy) x y k c (drawn_of (add binary64 x dx) (add binary64 y dy)) d
line_added dx dy x y k c d b f S z = record {
  done = λ t room o ch m s q H.
      let T0 = placed 0 x y k t in
      let r = ran_of (placed 0 (add binary64 x dx) (add binary64 y dy) (k + 1) t) 0 in
      line_open false T0 c d room dx dy r o (lines_listed false T0 (placed 0 (add binary64 x dx) (add binary64 y dy) k t) r r c d room dx dy refl f (lists (line (point_at (add binary64 x dx) (add binary64 y dy))) (add binary64 x dx) (add binary64 y dy) k c d b S z false t room ch)) m s q (quiet_told false T0 (with_cmds c m) s H ch) H;
  space = S.space z;
  none = tt;
  same = S.same;
}

pub curve_added : (x y dx1 dy1 dx2 dy2 dx3 dy3 x1 y1 x2 y2 x3 y3 : Float) (k : ℕ) (c d : List ℕ) (b : Bool) → (x1 ≡ add binary64 x dx1) × ((y1 ≡ add binary64 y dy1) × ((x2 ≡ add binary64 x1 dx2) × ((y2 ≡ add binary64 y1 dy2) × ((x3 ≡ add binary64 x2 dx3) × (y3 ≡ add binary64 y2 dy3)))))
    → (is_finite (point_at x1 y1) && (is_finite (point_at x2 y2) && is_finite (point_at x3 y3))) ≡ true → Stores (curve (point_at x1 y1) (point_at x2 y2) (point_at x3 y3)) k c b d → b ≡ true → Adds (λ lim. curve_by lim dx1 dy1 dx2 dy2 dx3 dy3) x y k c (drawn_of x3 y3) d
curve_added x y dx1 dy1 dx2 dy2 dx3 dy3 x1 y1 x2 y2 x3 y3 k c d b is f S z = record {
  done = λ t room o ch m s q H.
      let T0 = placed 0 x y k t in
      let r = ran_of (placed 0 x3 y3 (k + 1) t) 0 in
      curve_open false T0 c d room dx1 dy1 dx2 dy2 dx3 dy3 r o (curves_listed T0 x1 y1 x2 y2 x3 y3 dx1 dy1 dx2 dy2 dx3 dy3 is false (placed 0 x3 y3 k t) r c d room refl f (lists (curve (point_at x1 y1) (point_at x2 y2) (point_at x3 y3)) x3 y3 k c d b S z false t room ch)) m s q (quiet_told false T0 (with_cmds c m) s H ch) H;
  space = S.space z;
  none = tt;
  same = S.same;
}

-- ---- lines and curves are read
abbrev IsRead : ℕ → Type 0
IsRead w = T (is_read (operator_of w)) × (w ≡ 12 → ⊥)

read_as : (w k : ℕ) → w ≡ k → T (is_read (operator_of k)) → (k ≡ 12 → ⊥) → IsRead w
read_as w k e t n = subst IsRead (sym e) (t, n)

line_read : (w : ℕ) → (w ≡ 5) ⊎ ((w ≡ 6) ⊎ (w ≡ 7)) → IsRead w
unfolding operator_of op.of_byte
line_read w (inl e) = read_as w 5 e tt (λ q. let z : ⊥ = omega arith in z)
line_read w (inr (inl e)) = read_as w 6 e tt (λ q. let z : ⊥ = omega arith in z)
line_read w (inr (inr e)) = read_as w 7 e tt (λ q. let z : ⊥ = omega arith in z)

curve_read : (w : ℕ) → (w ≡ 8) ⊎ ((w ≡ 30) ⊎ (w ≡ 31)) → IsRead w
unfolding operator_of op.of_byte
curve_read w (inl e) = read_as w 8 e tt (λ q. let z : ⊥ = omega arith in z)
curve_read w (inr (inl e)) = read_as w 30 e tt (λ q. let z : ⊥ = omega arith in z)
curve_read w (inr (inr e)) = read_as w 31 e tt (λ q. let z : ⊥ = omega arith in z)

-- ---- the operators, in which E is done by the deltas of the operands
module _ (n : ℕ) (x y : Float) (k : ℕ) (ops : List Float) (c d : List ℕ) where
  drawn_by : (w : ℕ) (D E : Limits → State → Outcome) → ((lim : Limits) (s : State) → operate lim (refused 6) (operator_of w) s ≡ D lim s) → T (is_read (operator_of w)) × (w ≡ 12 → ⊥)
      → ((p : Point) (t : St) (room : ℕ) → Step false (placed 0 x y k t) (ran_of (drawn_to p k t) 0) c d room E → Takes false (placed n x y k t) (ran_of (drawn_to p k t) 0) ops c d room D)
      → (r : Option Point) → Adds E x y k c r d → (v : ℕ) → w ≡ v → Draws v n x y k ops c r d
  drawn_by w D E is read does None A v e = draws-none v n x y k ops c d A.none
  drawn_by w D E is read does (Some p) A v e = subst (λ (v : ℕ). Draws v n x y k ops c (Some p) d) e (record {
    done = λ t m s op ch H.
        let room = length m.stems in
        let q = ran_of (drawn_to p k t) 0 in
        let got = does p t room (λ n u q j K. A.done t room op ch n u q K) m s refl (quiet_told false (placed n x y k t) (with_ops ops (with_cmds c m)) s H ch) H in
        subst (Meets q (with_ops ops (with_cmds d m))) (sym (is (within room (length c)) s))
        (subst (λ (z : List Stem). Meets q (with_ops ops (with_cmds d (with_stems z m))) (D (within room (length c)) s)) (kept-none (placed n x y k t) (drawn_to p k t) m.edges m.across m.stems refl) got);
    drawn = read;
    space = A.space;
    none = tt;
    same = A.same;
  })

  pub line_drawn : (v w : ℕ) → w ≡ v → (w ≡ 5) ⊎ ((w ≡ 6) ⊎ (w ≡ 7)) → (e : Point) → Some e ≡ point_delta (axes_of w) (take (n - 0) ops) → (r : Option Point) → Adds (λ lim. line_by lim e.x e.y) x y k c r d → Draws v n x y k ops c r d
  line_drawn v w p key e is r A =
      drawn_by w (by_point line_by (axes_of w)) (λ lim. line_by lim e.x e.y) (λ lim s. lines lim (refused 6) s w key) (line_read w key)
      (λ q t room S. point-does false (placed n x y k t) _ ops c room line_by (axes_of w) e is (placed 0 x y k t) d refl S) r A v p

  pub curve_drawn : (v w : ℕ) → w ≡ v → (w ≡ 8) ⊎ ((w ≡ 30) ⊎ (w ≡ 31)) → (e : Deltas) → Some e ≡ curve_deltas (tangents_of w) (take (n - 0) ops) → (r : Option Point) → Adds (λ lim. by_deltas lim e) x y k c r d → Draws v n x y k ops c r d
  curve_drawn v w p key e is r A =
      drawn_by w (by_curve (tangents_of w)) (λ lim. by_deltas lim e) (λ lim s. curves lim (refused 6) s w key) (curve_read w key)
      (λ q t room S. curve_does false (placed n x y k t) _ ops c room (tangents_of w) e is (placed 0 x y k t) d refl S) r A v p
