-- Laws: path commands: a step of the code is the run's step, with its group and its entries.
use mathlib.Core.Path.{◌≡◌, refl, sym, ap, ap₂, ◌∙◌, subst}
use Prim.Native.Nat.{ℕ, suc, ◌+◌, ◌*◌, ◌≤◌}
use native.Mathlib.Omega.{arith}
use mathlib.Core.Bool.{Bool, true, false, not, ◌&&◌}
use mathlib.Core.Option.{Option, none, some}
use mathlib.Core.List.{List}
use mathlib.Core.Logic.{◌⊎◌, inl, inr}
use borrow.Author.Tests.{eq-eqb, ne_eqb, eqb-true, eqb-false}
use lib.Dec.{T, eqb, lit≤}
use lib.ListN.{length}
use lib.Seq.{paste, length-paste}
use lib.Ieee.{Float, binary64, add, eq}
use lib.Ieee.Scale.{finite}
use lib.Ieee.Fits.{and_l, and_r}
use Rattle.geometry.specs.declared.Point.{Point}
use Rattle.outline.specs.declared.Stem.{Stem}
use Rattle.type1.specs.declared.St.{St}
use Rattle.type1.specs.declared.Ran.{Ran}
use Rattle.outline.specs.Outline.{Command, move, line, curve, pick}
use Rattle.type1.specs.State.{State, with_point, with_open}
use Rattle.type1.specs.Run.{Limits, within, Outcome, going, returning, ending, refused, and_then, check, commit, enter, list, point_at, is_finite, shifted, no_flex, move_by, open_subpath, line_to, line_by, curve_to, curve_by, same_point, set_point}
use Rattle.type1.specs.Memory.{Mem, stems_at, flex_in, flex_held, abs, Bounds, Fit, Holds, Meets, kept, after, with_cmds, with_stems, Plain, Path, Step}
use Rattle.type1.specs.Small.{ran_of, with_xY, with_opened, opened_ran, Grown, Entered, Space}
use Rattle.type1.proofs.Hints.{stems_length}
use Rattle.type1.proofs.Groups.{kept-none, after_none, quiet_told}

-- ---- one step after another
pub stop_then : (r : Ran) (M : Mem) (o : Outcome) (k : State → Outcome) → Meets r M o → (r.flow ≡ 0 → ⊥) → Meets r M (and_then o k)
stop_then r M (going s) k h n = absurd (n h.0)
stop_then r M (returning s) k h n = h
stop_then r M (ending s) k h n = h
stop_then r M (refused i) k h n = h

pub go_then : (r : Ran) (M : Mem) (o : Outcome) (k : State → Outcome) → Meets r M o → r.flow ≡ 0 → (u : State) × Holds r.st M u × (and_then o k ≡ k u)
go_then r M (going s) k h z = (s, h.1, refl)
go_then r M (returning s) k h z = absurd (let y : 1 ≡ 0 = sym h.0 ∙ z in let x : ⊥ = omega arith in x)
go_then r M (ending s) k h z = absurd (let y : 2 ≡ 0 = sym h.0 ∙ z in let x : ⊥ = omega arith in x)
go_then r M (refused i) k h z = absurd (let a = h.0 in let b = h.1 in let x : ⊥ = omega arith in x)

-- the stem store depends on the groups of the later state alone
pub kept_same : (t u v : St) (e : List Float) (a : List Bool) (z : List Stem) → u.groups ≡ v.groups → kept t u e a z ≡ kept t v e a z
unfolding kept
kept_same t u v e a z h = ap (λ (g : ℕ). pick (eqb t.groups g) z (paste z t.stems (stems_at 0 t.hints e a) t.hints)) h

kept-length : (t u : St) (e : List Float) (a : List Bool) (z : List Stem) → ((u.groups ≡ t.groups → ⊥) → t.stems + t.hints ≤ length z) → length (kept t u e a z) ≡ length z
unfolding kept
kept-length t u e a z h = go (eqb t.groups u.groups) refl
  where
    go : (b : Bool) → eqb t.groups u.groups ≡ b → length (pick b z (paste z t.stems (stems_at 0 t.hints e a) t.hints)) ≡ length z
    go true q = refl
    go false q = length-paste z t.stems (stems_at 0 t.hints e a) t.hints (h (λ g. eqb-false t.groups u.groups q (sym g))) (let k = stems_length 0 t.hints e a in omega arith)

-- ---- `commit`, then an entry
abbrev pub Enters : St → Ran → List ℕ → List ℕ → Command → Type 0
Enters t r c c' x = (m : Mem) (s : State) (room : ℕ) → Holds t (with_cmds c m) s → Meets r (with_cmds c' m) (enter (within room (length c)) x s)

pub lists_stop : (same : Bool) (t : St) (r : Ran) (c c' : List ℕ) (room : ℕ) (x : Command) → Step same t r c c' room commit → (r.flow ≡ 0 → ⊥) → Step same t r c c' room (λ lim. list lim x)
unfolding list
lists_stop same t r c c' room x C n m s q w H = stop_then r (after t r c' m) (commit (within room (length c)) s) (enter (within room (length c)) x) (C m s q w H) n

pub lists_on : (same : Bool) (t : St) (d r : Ran) (c c' c'' : List ℕ) (room : ℕ) (x : Command) → Step same t d c c' room commit → d.flow ≡ 0 → length c' ≡ length c → Enters d.st r c' c'' x → Plain d.st r.st → Step same t r c c'' room (λ lim. list lim x)
unfolding list
lists_on same t d r c c' c'' room x C z len E P m s q w H =
    let M = after t d c' m in
    let (u, h, k) = go_then d M (commit (within room (length c)) s) (enter (within room (length c)) x) (C m s q w H) z in
    subst (Meets r (after t r c'' m)) (sym k)
    (subst (λ (y : List Stem). Meets r (with_cmds c'' (with_stems y m)) (enter (within room (length c)) x u)) (sym (kept_same t r.st d.st m.edges m.across m.stems P.groups))
    (subst (λ (n : ℕ). Meets r (with_cmds c'' M) (enter (within room n) x u)) len (E M u room h)))

-- ---- the small state over two steps

pub path_enter : (t : St) (d r : Ran) (room : ℕ) → Path t d room → d.flow ≡ 0 → Plain d.st r.st → Path t r room
path_enter t d r room P z E = record {
  quiet = λ h. E.groups ∙ P.quiet h;
  settled = λ h. E.changed ∙ P.settled z;
  space = λ n. P.space (λ h. n (E.groups ∙ h));
}

pub grown_enter : (t d r : St) (words room n : ℕ) → Grown t d words room → Plain d r → Entered d r n → n ≡ words → Grown t r words room
grown_enter t d r words room n G P E q = record {
  bounds = subst (Bounds r) q (E.bounds (subst (Bounds d) (sym q) G.bounds));
  stems = subst (λ (k : ℕ). k ≤ room) (sym P.stems) G.stems;
  hints = P.hints ∙ G.hints;
  x = E.x ∙ G.x;
  y = E.y ∙ G.y;
}

-- ---- one field of the small state
moved_fit : (t : St) (m : Mem) (x y : Float) → Fit t m → Fit (with_xY x y t) m
moved_fit t m x y F = record { bounds = record { operands = F.bounds.operands; postscript = F.bounds.postscript; points = F.bounds.points; hints = F.bounds.hints; last = F.bounds.last; groups = F.bounds.groups; entries = F.bounds.entries; ran = F.bounds.ran }; ops = F.ops; ps = F.ps; cells = F.cells; edges = F.edges; across = F.across; stems = F.stems; groups = F.groups; entries = F.entries; used = F.used; below = F.below; last = F.last }

pub moved : (t : St) (m : Mem) (s : State) (x y : Float) → Holds t m s → Holds (with_xY x y t) m (with_point (point_at x y) s)
unfolding abs
moved t m s x y H = record { is = ap (with_point (point_at x y)) H.is; fit = moved_fit t m x y H.fit }

opened_fit : (t : St) (m : Mem) (b : Bool) → Fit t m → Fit (with_opened b t) m
opened_fit t m b F = record { bounds = record { operands = F.bounds.operands; postscript = F.bounds.postscript; points = F.bounds.points; hints = F.bounds.hints; last = F.bounds.last; groups = F.bounds.groups; entries = F.bounds.entries; ran = F.bounds.ran }; ops = F.ops; ps = F.ps; cells = F.cells; edges = F.edges; across = F.across; stems = F.stems; groups = F.groups; entries = F.entries; used = F.used; below = F.below; last = F.last }

pub opens : (t : St) (m : Mem) (s : State) (b : Bool) → Holds t m s → Holds (with_opened b t) m (with_open b s)
unfolding abs
opens t m s b H = record { is = ap (with_open b) H.is; fit = opened_fit t m b H.fit }

pub point_is : (t : St) (m : Mem) (s : State) → Holds t m s → s.point ≡ point_at t.x t.y
unfolding abs
point_is t m s H = sym (ap (λ (u : State). u.point) H.is)

pub opened_is : (t : St) (m : Mem) (s : State) → Holds t m s → s.opened ≡ t.opened
unfolding abs
opened_is t m s H = sym (ap (λ (u : State). u.opened) H.is)

pub flex_is : (t : St) (m : Mem) (s : State) → Holds t m s → no_flex s.flexing ≡ not t.flexing
unfolding abs
flex_is t m s H = same s.flexing ∙ sym (ap (λ (u : State). no_flex u.flexing) H.is) ∙ go t.flexing
  where
    same : (o : Option (List Point)) → no_flex o ≡ no_flex (flex_held o)
    same none = refl
    same (some l) = refl

    go : (b : Bool) → no_flex (flex_in b t.points m.cells) ≡ not b
    go true = refl
    go false = refl

-- ---- `opened`: the subpath is open after a step that goes on
pub opened_meets : (r q : Ran) (M : Mem) (o : Outcome) → q ≡ opened_ran r → Meets r M o → Meets q M (and_then o (λ t. going (with_open true t)))
opened_meets r q M (going s) e h = subst (λ (x : Ran). Meets x M (going (with_open true s))) (sym (e ∙ ap (λ (b : Bool). pick b (ran_of (with_opened true r.st) 0) r) (eq-eqb r.flow 0 h.0))) (refl, opens r.st M s true h.1)
opened_meets r q M (returning s) e h = subst (λ (x : Ran). Meets x M (returning s)) (sym (e ∙ ap (λ (b : Bool). pick b (ran_of (with_opened true r.st) 0) r) (ne_eqb r.flow 0 (λ z. let y : 1 ≡ 0 = sym h.0 ∙ z in let x : ⊥ = omega arith in x)))) h
opened_meets r q M (ending s) e h = subst (λ (x : Ran). Meets x M (ending s)) (sym (e ∙ ap (λ (b : Bool). pick b (ran_of (with_opened true r.st) 0) r) (ne_eqb r.flow 0 (λ z. let y : 2 ≡ 0 = sym h.0 ∙ z in let x : ⊥ = omega arith in x)))) h
opened_meets r q M (refused n) e h = subst (λ (x : Ran). Meets x M (refused n)) (sym (e ∙ ap (λ (b : Bool). pick b (ran_of (with_opened true r.st) 0) r) (ne_eqb r.flow 0 (λ z. let a = h.0 in let b = h.1 in let x : ⊥ = omega arith in x)))) h

opened_like : (r q : Ran) → q ≡ opened_ran r → (q.flow ≡ r.flow) × ((q.st.groups ≡ r.st.groups) × (q.st.changed ≡ r.st.changed))
opened_like r q e = subst (λ (x : Ran). (x.flow ≡ r.flow) × ((x.st.groups ≡ r.st.groups) × (x.st.changed ≡ r.st.changed))) (sym e) (go (eqb r.flow 0) refl)
  where
    go : (b : Bool) → eqb r.flow 0 ≡ b → ((pick b (ran_of (with_opened true r.st) 0) r).flow ≡ r.flow) × (((pick b (ran_of (with_opened true r.st) 0) r).st.groups ≡ r.st.groups) × ((pick b (ran_of (with_opened true r.st) 0) r).st.changed ≡ r.st.changed))
    go true z = (sym (eqb-true r.flow 0 z), (refl, refl))
    go false z = (refl, (refl, refl))

pub opened_step : (same : Bool) (t : St) (r q : Ran) (c c' : List ℕ) (room : ℕ) (D : Limits → State → Outcome) → q ≡ opened_ran r → Step same t r c c' room D → Step same t q c c' room (λ lim s. and_then (D lim s) (λ u. going (with_open true u)))
opened_step same t r q c c' room D p S m s z w H =
    subst (λ (y : List Stem). Meets q (with_cmds c' (with_stems y m)) (and_then (D (within room (length c)) s) (λ u. going (with_open true u)))) (sym (kept_same t q.st r.st m.edges m.across m.stems (opened_like r q p).1.0))
    (opened_meets r q (after t r c' m) (D (within room (length c)) s) p (S m s z w H))

pub opened_path : (t : St) (r q : Ran) (room : ℕ) → q ≡ opened_ran r → Path t r room → Path t q room
opened_path t r q room e P =
    let L = opened_like r q e in
    record { quiet = λ h. L.1.0 ∙ P.quiet h; settled = λ h. L.1.1 ∙ P.settled (sym L.0 ∙ h); space = λ n. P.space (λ h. n (L.1.0 ∙ h)) }

pub opened_grown : (t : St) (r q : Ran) (words room : ℕ) → q ≡ opened_ran r → Grown t r.st words room → Grown t q.st words room
opened_grown t r q words room e G = subst (λ (x : Ran). Grown t x.st words room) (sym e) (go (eqb r.flow 0))
  where
    go : (b : Bool) → Grown t (pick b (ran_of (with_opened true r.st) 0) r).st words room
    go true = let b = G.bounds in record { bounds = record { operands = b.operands; postscript = b.postscript; points = b.points; hints = b.hints; last = b.last; groups = b.groups; entries = b.entries; ran = b.ran }; stems = G.stems; hints = G.hints; x = G.x; y = G.y }
    go false = G

after-moved : (t : St) (r : Ran) (c : List ℕ) (m : Mem) (o : Outcome) (x y : Float) → Meets r (after (with_xY x y t) r c m) o → Meets r (after t r c m) o
unfolding kept
after-moved t r c m o x y M = M

-- ---- 21, 22, 4
module _ (t : St) (m : Mem) (s : State) (H : Holds t m s) (lim : Limits) (dx dy : Float) where
  abbrev there : Point
  there = point_at (add binary64 t.x dx) (add binary64 t.y dy)

  shifted_is : shifted s.point dx dy ≡ there
  shifted_is = ap (λ (p : Point). shifted p dx dy) (point_is t m s H)

  move_is : move_by lim dx dy s ≡ check (is_finite there) 14 (pick (not t.flexing) (and_then (list lim (move there) (with_point there s)) (λ u. going (with_open true u))) (going (with_point there s)))
  unfolding move_by
  move_is =
      ap (λ (p : Point). check (is_finite p) 14 (pick (no_flex s.flexing) (and_then (list lim (move p) (with_point p s)) (λ u. going (with_open true u))) (going (with_point p s)))) shifted_is
      ∙ ap (λ (b : Bool). check (is_finite there) 14 (pick b (and_then (list lim (move there) (with_point there s)) (λ u. going (with_open true u))) (going (with_point there s)))) (flex_is t m s H)

  line_is : line_to lim dx dy s ≡ check (is_finite there) 14 (list lim (line there) (with_point there s))
  unfolding line_to
  line_is = ap (λ (p : Point). check (is_finite p) 14 (list lim (line p) (with_point p s))) shifted_is

refused_meets : (r : Ran) (M : Mem) (t : St) (n : ℕ) (o : Outcome) → r ≡ ran_of t n → o ≡ refused n → 3 ≤ n → Meets r M o
refused_meets r M t n o e p h = subst (Meets r M) (sym p) (ap (λ (q : Ran). q.flow) e, h)

module _ (same : Bool) (t : St) (r : Ran) (c : List ℕ) (room : ℕ) (dx dy : Float) where
  pub moves_infinite : r ≡ ran_of t 14 → is_finite (point_at (add binary64 t.x dx) (add binary64 t.y dy)) ≡ false → Step same t r c c room (λ lim. move_by lim dx dy)
  moves_infinite p f m s q w H = refused_meets r (after t r c m) t 14 (move_by (within room (length c)) dx dy s) p (move_is t (with_cmds c m) s H (within room (length c)) dx dy ∙ ap (λ (b : Bool). check b 14 (pick (not t.flexing) (and_then (list (within room (length c)) (move (there t (with_cmds c m) s H (within room (length c)) dx dy)) (with_point (there t (with_cmds c m) s H (within room (length c)) dx dy) s)) (λ u. going (with_open true u))) (going (with_point (there t (with_cmds c m) s H (within room (length c)) dx dy) s)))) f) (lit≤ tt)

  pub lines_infinite : r ≡ ran_of t 14 → is_finite (point_at (add binary64 t.x dx) (add binary64 t.y dy)) ≡ false → Step same t r c c room (λ lim. line_to lim dx dy)
  lines_infinite p f m s q w H = refused_meets r (after t r c m) t 14 (line_to (within room (length c)) dx dy s) p (line_is t (with_cmds c m) s H (within room (length c)) dx dy ∙ ap (λ (b : Bool). check b 14 (list (within room (length c)) (line (there t (with_cmds c m) s H (within room (length c)) dx dy)) (with_point (there t (with_cmds c m) s H (within room (length c)) dx dy) s))) f) (lit≤ tt)

  pub moves_flexing : r ≡ ran_of (with_xY (add binary64 t.x dx) (add binary64 t.y dy) t) 0 → is_finite (point_at (add binary64 t.x dx) (add binary64 t.y dy)) ≡ true → t.flexing ≡ true → Step same t r c c room (λ lim. move_by lim dx dy)
  moves_flexing p f g m s q w H =
      let M = with_cmds c m in
      let lim = within room (length c) in
      let P = there t M s H lim dx dy in
      subst (Meets r (after t r c m)) (sym (move_is t M s H lim dx dy ∙ ap₂ (λ (b d : Bool). check b 14 (pick (not d) (and_then (list lim (move P) (with_point P s)) (λ u. going (with_open true u))) (going (with_point P s)))) f g))
      (after_none t r c m (going (with_point P s)) (ap (λ (x : Ran). x.st.groups) p) (ap (λ (x : Ran). x.flow) p, subst (λ (x : Ran). Holds x.st M (with_point P s)) (sym p) (moved t M s (add binary64 t.x dx) (add binary64 t.y dy) H)))

module _ (same : Bool) (t : St) (r : Ran) (c c' : List ℕ) (room : ℕ) (dx dy : Float) where
  pub moves_on : is_finite (point_at (add binary64 t.x dx) (add binary64 t.y dy)) ≡ true → t.flexing ≡ false
      → Step same (with_xY (add binary64 t.x dx) (add binary64 t.y dy) t) r c c' room (λ lim s. and_then (list lim (move (point_at (add binary64 t.x dx) (add binary64 t.y dy))) s) (λ u. going (with_open true u)))
      → Step same t r c c' room (λ lim. move_by lim dx dy)
  moves_on f g S m s q w H =
      let M = with_cmds c m in
      let lim = within room (length c) in
      let P = there t M s H lim dx dy in
      subst (Meets r (after t r c' m)) (sym (move_is t M s H lim dx dy ∙ ap₂ (λ (b d : Bool). check b 14 (pick (not d) (and_then (list lim (move P) (with_point P s)) (λ u. going (with_open true u))) (going (with_point P s)))) f g))
      (after-moved t r c' m (and_then (list lim (move P) (with_point P s)) (λ u. going (with_open true u))) (add binary64 t.x dx) (add binary64 t.y dy) (S m (with_point P s) q w (moved t M s (add binary64 t.x dx) (add binary64 t.y dy) H)))

  pub lines_on : is_finite (point_at (add binary64 t.x dx) (add binary64 t.y dy)) ≡ true
      → Step same (with_xY (add binary64 t.x dx) (add binary64 t.y dy) t) r c c' room (λ lim. list lim (line (point_at (add binary64 t.x dx) (add binary64 t.y dy))))
      → Step same t r c c' room (λ lim. line_to lim dx dy)
  lines_on f S m s q w H =
      let M = with_cmds c m in
      let lim = within room (length c) in
      let P = there t M s H lim dx dy in
      subst (Meets r (after t r c' m)) (sym (line_is t M s H lim dx dy ∙ ap (λ (b : Bool). check b 14 (list lim (line P) (with_point P s))) f))
      (after-moved t r c' m (list lim (line P) (with_point P s)) (add binary64 t.x dx) (add binary64 t.y dy) (S m (with_point P s) q w (moved t M s (add binary64 t.x dx) (add binary64 t.y dy) H)))

-- ---- a line or curve with no subpath open: D with a subpath open, after its first move
module _ (same : Bool) (D : Limits → State → Outcome) (t : St) (c c' : List ℕ) (room : ℕ) where
  pub begins_open : (r : Ran) → t.opened ≡ true → Step same t r c c' room D → Step same t r c c' room (λ lim s. and_then (open_subpath lim s) (D lim))
  unfolding open_subpath
  begins_open r o S m s q w H =
      let lim = within room (length c) in
      subst (λ (b : Bool). Meets r (after t r c' m) (and_then (pick b (going s) (and_then (list lim (move s.point) s) (λ u. going (with_open true u)))) (D lim))) (sym (opened_is t (with_cmds c m) s H ∙ o)) (S m s q w H)

  first_move : (lim : Limits) (m : Mem) (s : State) → Holds t (with_cmds c m) s → t.opened ≡ false → open_subpath lim s ≡ and_then (list lim (move (point_at t.x t.y)) s) (λ u. going (with_open true u))
  unfolding open_subpath
  first_move lim m s H o =
      ap (λ (b : Bool). pick b (going s) (and_then (list lim (move s.point) s) (λ u. going (with_open true u)))) (opened_is t (with_cmds c m) s H ∙ o)
      ∙ ap (λ (p : Point). and_then (list lim (move p) s) (λ u. going (with_open true u))) (point_is t (with_cmds c m) s H)

  pub begins_stop : (r : Ran) → t.opened ≡ false → Step same t r c c' room (λ lim s. and_then (list lim (move (point_at t.x t.y)) s) (λ u. going (with_open true u))) → (r.flow ≡ 0 → ⊥) → Step same t r c c' room (λ lim s. and_then (open_subpath lim s) (D lim))
  begins_stop r o S n m s q w H =
      let lim = within room (length c) in
      subst (λ (x : Outcome). Meets r (after t r c' m) (and_then x (D lim))) (sym (first_move lim m s H o)) (stop_then r (after t r c' m) (and_then (list lim (move (point_at t.x t.y)) s) (λ u. going (with_open true u))) (D lim) (S m s q w H) n)

  pub begins_move : (d r : Ran) (c'' : List ℕ) → t.opened ≡ false → Step same t d c c' room (λ lim s. and_then (list lim (move (point_at t.x t.y)) s) (λ u. going (with_open true u))) → d.flow ≡ 0 → Path t d room → length c' ≡ length c
      → Step same d.st r c' c'' room D → Path d.st r room → Step same t r c c'' room (λ lim s. and_then (open_subpath lim s) (D lim))
  begins_move d r c'' o S z P len N Q m s q w H =
      let lim = within room (length c) in
      let M = after t d c' m in
      let Z = kept t d.st m.edges m.across m.stems in
      let (u, h, k) = go_then d M (and_then (list lim (move (point_at t.x t.y)) s) (λ u. going (with_open true u))) (D lim) (S m s q w H) z in
      let quiet : d.st.changed ≡ false = P.settled z in
      let same_groups : r.st.groups ≡ d.st.groups = Q.quiet quiet in
      let n : Meets r (after d.st r c'' (with_stems Z m)) (D (within room (length c')) u) = N (with_stems Z m) u (kept-length t d.st m.edges m.across m.stems (λ g. subst (λ (j : ℕ). t.stems + t.hints ≤ j) (sym q) (P.space g)) ∙ q) (quiet_told same d.st M u h quiet) h in
      let stems_are : kept d.st r.st m.edges m.across Z ≡ kept t r.st m.edges m.across m.stems = kept-none d.st r.st m.edges m.across Z same_groups ∙ kept_same t d.st r.st m.edges m.across m.stems (sym same_groups) in
      subst (Meets r (after t r c'' m)) (sym (ap (λ (x : Outcome). and_then x (D lim)) (first_move lim m s H o) ∙ k))
      (subst (λ (y : List Stem). Meets r (with_cmds c'' (with_stems y m)) (D lim u)) stems_are
      (subst (λ (j : ℕ). Meets r (after d.st r c'' (with_stems Z m)) (D (within room j) u)) len n))

-- ---- what is said of groups
pub space_of : (t : St) (r : Ran) (room : ℕ) → Path t r room → Space t r.st room
space_of t r room P = P.space

pub space_move : (t : St) (d r : Ran) (room : ℕ) → Path t d room → d.flow ≡ 0 → Path d.st r room → Space t r.st room
space_move t d r room P z Q n = P.space (λ h. n (Q.quiet (P.settled z) ∙ h))

-- ---- with what `at_point` and `opened` gave
module _ (same : Bool) (t u : St) (d r : Ran) (c c' : List ℕ) (room : ℕ) (dx dy : Float) (is : u ≡ with_xY (add binary64 t.x dx) (add binary64 t.y dy) t) where
  pub moves_listed : is_finite (point_at (add binary64 t.x dx) (add binary64 t.y dy)) ≡ true → t.flexing ≡ false → Step same u d c c' room (λ lim. list lim (move (point_at (add binary64 t.x dx) (add binary64 t.y dy)))) → r ≡ opened_ran d → Step same t r c c' room (λ lim. move_by lim dx dy)
  moves_listed f g S p =
      moves_on same t r c c' room dx dy f g (opened_step same (with_xY (add binary64 t.x dx) (add binary64 t.y dy) t) d r c c' room (λ lim. list lim (move (point_at (add binary64 t.x dx) (add binary64 t.y dy)))) p
      (subst (λ (v : St). Step same v d c c' room (λ lim. list lim (move (point_at (add binary64 t.x dx) (add binary64 t.y dy))))) is S))

  pub lines_listed : is_finite (point_at (add binary64 t.x dx) (add binary64 t.y dy)) ≡ true → Step same u d c c' room (λ lim. list lim (line (point_at (add binary64 t.x dx) (add binary64 t.y dy)))) → Step same t d c c' room (λ lim. line_to lim dx dy)
  lines_listed f S = lines_on same t d c c' room dx dy f (subst (λ (v : St). Step same v d c c' room (λ lim. list lim (line (point_at (add binary64 t.x dx) (add binary64 t.y dy))))) is S)

-- what was said of the state at the new point is said of the state
pub moved_path : (t u : St) (x y : Float) (d : Ran) (room : ℕ) → u ≡ with_xY x y t → Path u d room → Path t d room
moved_path t u x y d room is P = let Q = subst (λ (v : St). Path v d room) is P in record { quiet = Q.quiet; settled = Q.settled; space = Q.space }

pub moved-bounds : (t u : St) (x y : Float) (words room : ℕ) → u ≡ with_xY x y t → Bounds t words → t.stems ≤ room → Bounds u words × (u.stems ≤ room)
moved-bounds t u x y words room e b h = subst (λ (v : St). Bounds v words × (v.stems ≤ room)) (sym e) (record { operands = b.operands; postscript = b.postscript; points = b.points; hints = b.hints; last = b.last; groups = b.groups; entries = b.entries; ran = b.ran }, h)

pub finite-both : (x y : Float) (b : Bool) → b ≡ is_finite (point_at x y) → b ≡ true → T (finite x) × T (finite y)
finite-both x y b e h = let t = subst T (sym (sym e ∙ h)) tt in (and_l (finite x) (finite y) t, and_r (finite x) (finite y) t)

pub both_fine : (a b : Bool) → T a × T b → T (a && b)
both_fine true true h = tt
both_fine true false h = h.1
both_fine false b h = h.0

pub path_infinite : (t : St) (r : Ran) (n room : ℕ) → r ≡ ran_of t (suc n) → Path t r room
path_infinite t r n room e = record { quiet = λ z. ap (λ (q : Ran). q.st.groups) e; settled = λ z. absurd (let y : suc n ≡ 0 = sym (ap (λ (q : Ran). q.flow) e) ∙ z in let x : ⊥ = omega arith in x); space = λ z. absurd (z (ap (λ (q : Ran). q.st.groups) e)) }

pub space_opened : (t u : St) (d r : Ran) (room : ℕ) (x y : Float) → u ≡ with_xY x y t → r ≡ opened_ran d → Path u d room → Space t r.st room
space_opened t u d r room x y e p P n = (subst (λ (v : St). Path v d room) e P).space (λ h. n ((opened_like d r p).1.0 ∙ h))

pub space_moved : (t u : St) (r : Ran) (x y : Float) (n room : ℕ) → r ≡ ran_of u n → u ≡ with_xY x y t → Space t r.st room
space_moved t u r x y n room e p z = absurd (z (ap (λ (q : Ran). q.st.groups) e ∙ ap (λ (v : St). v.groups) p))

pub opens-first : (same : Bool) (t : St) (r q : Ran) (c c' : List ℕ) (room : ℕ) → q ≡ opened_ran r → Step same t r c c' room (λ lim. list lim (move (point_at t.x t.y))) → Step same t q c c' room (λ lim s. and_then (list lim (move (point_at t.x t.y)) s) (λ u. going (with_open true u)))
opens-first same t r q c c' room p S = opened_step same t r q c c' room (λ lim. list lim (move (point_at t.x t.y))) p S

-- ---- 5, 6, 7 and 8, 30, 31, with their first move
module _ (same : Bool) (t : St) (c c' : List ℕ) (room : ℕ) (dx dy : Float) where
  pub line_open : (r : Ran) → t.opened ≡ true → Step same t r c c' room (λ lim. line_to lim dx dy) → Step same t r c c' room (λ lim. line_by lim dx dy)
  unfolding line_by
  line_open r o S = begins_open same (λ lim. line_to lim dx dy) t c c' room r o S

  pub line_stop : (r : Ran) → t.opened ≡ false → Step same t r c c' room (λ lim s. and_then (list lim (move (point_at t.x t.y)) s) (λ u. going (with_open true u))) → (r.flow ≡ 0 → ⊥) → Step same t r c c' room (λ lim. line_by lim dx dy)
  unfolding line_by
  line_stop r o S n = begins_stop same (λ lim. line_to lim dx dy) t c c' room r o S n

  pub line_move : (d r : Ran) (c'' : List ℕ) → t.opened ≡ false → Step same t d c c' room (λ lim s. and_then (list lim (move (point_at t.x t.y)) s) (λ u. going (with_open true u))) → d.flow ≡ 0 → Path t d room → length c' ≡ length c
      → Step same d.st r c' c'' room (λ lim. line_to lim dx dy) → Path d.st r room → Step same t r c c'' room (λ lim. line_by lim dx dy)
  unfolding line_by
  line_move d r c'' o S z P len N Q = begins_move same (λ lim. line_to lim dx dy) t c c' room d r c'' o S z P len N Q

module _ (same : Bool) (t : St) (c c' : List ℕ) (room : ℕ) (p q u v w z : Float) where
  pub curve_open : (r : Ran) → t.opened ≡ true → Step same t r c c' room (λ lim. curve_to lim p q u v w z) → Step same t r c c' room (λ lim. curve_by lim p q u v w z)
  unfolding curve_by
  curve_open r o S = begins_open same (λ lim. curve_to lim p q u v w z) t c c' room r o S

  pub curve_stop : (r : Ran) → t.opened ≡ false → Step same t r c c' room (λ lim s. and_then (list lim (move (point_at t.x t.y)) s) (λ u. going (with_open true u))) → (r.flow ≡ 0 → ⊥) → Step same t r c c' room (λ lim. curve_by lim p q u v w z)
  unfolding curve_by
  curve_stop r o S n = begins_stop same (λ lim. curve_to lim p q u v w z) t c c' room r o S n

  pub curve_move : (d r : Ran) (c'' : List ℕ) → t.opened ≡ false → Step same t d c c' room (λ lim s. and_then (list lim (move (point_at t.x t.y)) s) (λ u. going (with_open true u))) → d.flow ≡ 0 → Path t d room → length c' ≡ length c
      → Step same d.st r c' c'' room (λ lim. curve_to lim p q u v w z) → Path d.st r room → Step same t r c c'' room (λ lim. curve_by lim p q u v w z)
  unfolding curve_by
  curve_move d r c'' o S k P len N Q = begins_move same (λ lim. curve_to lim p q u v w z) t c c' room d r c'' o S k P len N Q

-- ---- a curve's three points
module _ (t : St) (x1 y1 x2 y2 x3 y3 : Float) (dx1 dy1 dx2 dy2 dx3 dy3 : Float) (is : (x1 ≡ add binary64 t.x dx1) × ((y1 ≡ add binary64 t.y dy1) × ((x2 ≡ add binary64 x1 dx2) × ((y2 ≡ add binary64 y1 dy2) × ((x3 ≡ add binary64 x2 dx3) × (y3 ≡ add binary64 y2 dy3)))))) where
  abbrev p1 : Point
  p1 = point_at x1 y1

  abbrev p2 : Point
  p2 = point_at x2 y2

  abbrev p3 : Point
  p3 = point_at x3 y3

  curve_is : (m : Mem) (s : State) → Holds t m s → (lim : Limits) → curve_to lim dx1 dy1 dx2 dy2 dx3 dy3 s ≡ check (is_finite p1 && (is_finite p2 && is_finite p3)) 14 (list lim (curve p1 p2 p3) (with_point p3 s))
  unfolding curve_to
  curve_is m s H lim =
      let q1 : shifted s.point dx1 dy1 ≡ p1 = ap (λ (p : Point). shifted p dx1 dy1) (point_is t m s H) ∙ ap₂ point_at (sym is.0) (sym is.1.0) in
      let q2 : shifted p1 dx2 dy2 ≡ p2 = ap₂ point_at (sym is.1.1.0) (sym is.1.1.1.0) in
      let q3 : shifted p2 dx3 dy3 ≡ p3 = ap₂ point_at (sym is.1.1.1.1.0) (sym is.1.1.1.1.1) in
      ap (λ (p : Point). check (is_finite p && (is_finite (shifted p dx2 dy2) && is_finite (shifted (shifted p dx2 dy2) dx3 dy3))) 14 (list lim (curve p (shifted p dx2 dy2) (shifted (shifted p dx2 dy2) dx3 dy3)) (with_point (shifted (shifted p dx2 dy2) dx3 dy3) s))) q1
      ∙ ap (λ (p : Point). check (is_finite p1 && (is_finite p && is_finite (shifted p dx3 dy3))) 14 (list lim (curve p1 p (shifted p dx3 dy3)) (with_point (shifted p dx3 dy3) s))) q2
      ∙ ap (λ (p : Point). check (is_finite p1 && (is_finite p2 && is_finite p)) 14 (list lim (curve p1 p2 p) (with_point p s))) q3

  pub curves_infinite : (same : Bool) (r : Ran) (c : List ℕ) (room : ℕ) → r ≡ ran_of t 14 → (is_finite p1 && (is_finite p2 && is_finite p3)) ≡ false → Step same t r c c room (λ lim. curve_to lim dx1 dy1 dx2 dy2 dx3 dy3)
  curves_infinite same r c room p f m s q w H =
      let lim = within room (length c) in
      refused_meets r (after t r c m) t 14 (curve_to lim dx1 dy1 dx2 dy2 dx3 dy3 s) p (curve_is (with_cmds c m) s H lim ∙ ap (λ (b : Bool). check b 14 (list lim (curve p1 p2 p3) (with_point p3 s))) f) (lit≤ tt)

  pub curves_listed : (same : Bool) (u : St) (d : Ran) (c c' : List ℕ) (room : ℕ) → u ≡ with_xY x3 y3 t → (is_finite p1 && (is_finite p2 && is_finite p3)) ≡ true → Step same u d c c' room (λ lim. list lim (curve p1 p2 p3)) → Step same t d c c' room (λ lim. curve_to lim dx1 dy1 dx2 dy2 dx3 dy3)
  curves_listed same u d c c' room at f S m s q w H =
      let M = with_cmds c m in
      let lim = within room (length c) in
      subst (Meets d (after t d c' m)) (sym (curve_is M s H lim ∙ ap (λ (b : Bool). check b 14 (list lim (curve p1 p2 p3) (with_point p3 s))) f))
      (after-moved t d c' m (list lim (curve p1 p2 p3) (with_point p3 s)) x3 y3 (subst (λ (v : St). Step same v d c c' room (λ lim. list lim (curve p1 p2 p3))) at S m (with_point p3 s) q w (moved t M s x3 y3 H)))

-- ---- 12 33
module _ (t : St) (x y : Float) where
  same_is : (m : Mem) (s : State) → Holds t m s → same_point (point_at x y) s.point ≡ (eq x t.x && eq y t.y)
  same_is m s H = ap (same_point (point_at x y)) (point_is t m s H)

  set_is : (m : Mem) (s : State) → Holds t m s → (lim : Limits) → set_point lim (point_at x y) s ≡ pick (eq x t.x && eq y t.y) (going s) (pick (t.opened && not t.flexing) (list lim (move (point_at x y)) (with_point (point_at x y) s)) (going (with_point (point_at x y) s)))
  unfolding set_point
  set_is m s H lim =
      ap₂ (λ (b d : Bool). pick b (going s) (pick d (list lim (move (point_at x y)) (with_point (point_at x y) s)) (going (with_point (point_at x y) s)))) (same_is m s H) (ap₂ (λ (b d : Bool). b && d) (opened_is t m s H) (flex_is t m s H))

  pub sets_same : (same : Bool) (r : Ran) (c : List ℕ) (room : ℕ) → r ≡ ran_of t 0 → (eq x t.x && eq y t.y) ≡ true → Step same t r c c room (λ lim. set_point lim (point_at x y))
  sets_same same r c room p f m s q w H =
      let M = with_cmds c m in
      let lim = within room (length c) in
      subst (Meets r (after t r c m)) (sym (set_is M s H lim ∙ ap (λ (b : Bool). pick b (going s) (pick (t.opened && not t.flexing) (list lim (move (point_at x y)) (with_point (point_at x y) s)) (going (with_point (point_at x y) s)))) f))
      (after_none t r c m (going s) (ap (λ (z : Ran). z.st.groups) p) (ap (λ (z : Ran). z.flow) p, subst (λ (z : Ran). Holds z.st M s) (sym p) H))

  pub sets_silent : (same : Bool) (r : Ran) (c : List ℕ) (room : ℕ) → r ≡ ran_of (with_xY x y t) 0 → (eq x t.x && eq y t.y) ≡ false → (t.opened && not t.flexing) ≡ false → Step same t r c c room (λ lim. set_point lim (point_at x y))
  sets_silent same r c room p f g m s q w H =
      let M = with_cmds c m in
      let lim = within room (length c) in
      subst (Meets r (after t r c m)) (sym (set_is M s H lim ∙ ap₂ (λ (b d : Bool). pick b (going s) (pick d (list lim (move (point_at x y)) (with_point (point_at x y) s)) (going (with_point (point_at x y) s)))) f g))
      (after_none t r c m (going (with_point (point_at x y) s)) (ap (λ (z : Ran). z.st.groups) p) (ap (λ (z : Ran). z.flow) p, subst (λ (z : Ran). Holds z.st M (with_point (point_at x y) s)) (sym p) (moved t M s x y H)))

  pub sets_listed : (same : Bool) (u : St) (d : Ran) (c c' : List ℕ) (room : ℕ) → u ≡ with_xY x y t → (eq x t.x && eq y t.y) ≡ false → (t.opened && not t.flexing) ≡ true → Step same u d c c' room (λ lim. list lim (move (point_at x y))) → Step same t d c c' room (λ lim. set_point lim (point_at x y))
  sets_listed same u d c c' room at f g S m s q w H =
      let M = with_cmds c m in
      let lim = within room (length c) in
      subst (Meets d (after t d c' m)) (sym (set_is M s H lim ∙ ap₂ (λ (b d : Bool). pick b (going s) (pick d (list lim (move (point_at x y)) (with_point (point_at x y) s)) (going (with_point (point_at x y) s)))) f g))
      (after-moved t d c' m (list lim (move (point_at x y)) (with_point (point_at x y) s)) x y (subst (λ (v : St). Step same v d c c' room (λ lim. list lim (move (point_at x y)))) at S m (with_point (point_at x y) s) q w (moved t M s x y H)))

pub grown_bounds : (t u : St) (words n room : ℕ) → Grown t u words room → n ≡ words → Bounds u n × (u.stems ≤ room)
grown_bounds t u words n room G e = (subst (Bounds u) (sym e) G.bounds, G.stems)

-- ---- tests as the code makes them
pub both_false : (p q : Bool) → ((p ≡ true) × (q ≡ false)) ⊎ (p ≡ false) → (p && q) ≡ false
both_false p q (inl (h, k)) = ap₂ (λ (a b : Bool). a && b) h k
both_false p q (inr h) = ap (λ (a : Bool). a && q) h

pub both_true : (p q : Bool) → p ≡ true → q ≡ true → (p && q) ≡ true
both_true p q h k = ap₂ (λ (a b : Bool). a && b) h k

pub one_false : (p q r : Bool) → (p ≡ true → q ≡ true → r ≡ true → ⊥) → (p && (q && r)) ≡ false
one_false true true true h = absurd (h refl refl refl)
one_false true true false h = refl
one_false true false r h = refl
one_false false q r h = refl

pub three_all : (p q r : Bool) → p ≡ true → q ≡ true → r ≡ true → (p && (q && r)) ≡ true
three_all p q r h k l = ap₂ (λ (a b : Bool). a && (b && r)) h k ∙ l

pub true_of : (b d : Bool) → b ≡ d → b ≡ true → T d
true_of b d e h = subst T (sym (sym e ∙ h)) tt

pub curve_after : (t u : St) (words n room : ℕ) → Grown t u words room → n ≡ words → 14 * u.entries ≤ n
curve_after t u words n room G e = subst (λ (j : ℕ). 14 * u.entries ≤ j) (sym e) G.bounds.entries
