-- Laws: the command store and the stem store. What an entry holds depends on its own words alone, and an entry that is added adds its command.
use mathlib.Core.Path.{◌≡◌, refl, sym, ap, ap₂, ◌∙◌, subst}
use Prim.Native.Nat.{ℕ, zero, suc, ◌+◌, ◌-◌, ◌*◌, ◌≤◌, ◌<◌}
use native.Mathlib.Numerals.{add-one}
use native.Mathlib.Omega.{arith}
use mathlib.Core.Bool.{Bool, true, false, not}
use mathlib.Core.List.{List, [], ◌∷◌, ◌++◌, append-nil}
use borrow.Author.Tests.{eq-eqb, ne_eqb, le-leb, lt-leb, eqb-true, eqb-false}
use lib.Dec.{T, eqb, lit≤}
use lib.Arith.{lt_of_le-ne}
use lib.ListN.{length, get_or, take, drop, set, length-set, length-append}
use lib.Seq.{get_or-set_same, get_or-set_other}
use lib.Ieee.{Float, nan, inf, fin, binary64, of_bits, to_bits, fits, is_nan}
use lib.Ieee.Scale.{finite}
use lib.Ieee.Bits.{of_bits-to_bits}
use Rattle.geometry.specs.declared.Point.{Point}
use Rattle.outline.specs.declared.Stem.{Stem}
use Rattle.type1.specs.declared.St.{St}
use Rattle.type1.specs.declared.Ran.{Ran}
use Rattle.outline.specs.Outline.{Command, move, line, curve, flex, Group, stem_count, last_is, pick}
use Rattle.outline.specs.Store.{word, coordinate, command_in, drawn_in, group_in, groups_in, point_command}
use Rattle.type1.specs.State.{State, with_drawn}
use Rattle.type1.specs.Run.{within, going, allowed, enter, point_at}
use Rattle.type1.specs.Memory.{Mem, abs, Holds, Meets, with_cells, with_cmds, Plain}
use Rattle.type1.specs.Small.{ran_of, cell_point, flex_of, GoodPoint, point_put, Entered}

-- two stores with the same words below n
abbrev pub Alike : ℕ → List ℕ → List ℕ → Type 0
Alike n c d = (i : ℕ) → i < n → get_or c i 0 ≡ get_or d i 0

-- the first words
alike_less : (m n : ℕ) (c d : List ℕ) → m ≤ n → Alike n c d → Alike m c d
alike_less m n c d l h i k = h i (omega arith)

module _ (c d : List ℕ) (k : ℕ) (h : Alike (14 * suc k) c d) where
  word_same : (i : ℕ) → i < 14 → word c k i ≡ word d k i
  word_same i l = h (14 * k + i) (omega arith)

  command_same : command_in c k ≡ command_in d k
  unfolding command_in
  command_same =
      let e0 = word_same 0 (omega arith) in
      let e1 = word_same 1 (omega arith) in
      let e2 = word_same 2 (omega arith) in
      let e3 = word_same 3 (omega arith) in
      let e4 = word_same 4 (omega arith) in
      let e5 = word_same 5 (omega arith) in
      let e6 = word_same 6 (omega arith) in
      let e7 = word_same 7 (omega arith) in
      let e8 = word_same 8 (omega arith) in
      let e9 = word_same 9 (omega arith) in
      let e10 = word_same 10 (omega arith) in
      let e11 = word_same 11 (omega arith) in
      let e12 = word_same 12 (omega arith) in
      let e13 = word_same 13 (omega arith) in
      cc

  group_same : (z : List Stem) (n : ℕ) → group_in c z k n ≡ group_in d z k n
  unfolding group_in
  group_same z n =
      let e0 = word_same 0 (omega arith) in
      let e1 = word_same 1 (omega arith) in
      let e2 = word_same 2 (omega arith) in
      cc

pub drawn_same : (k : ℕ) (c d : List ℕ) → Alike (14 * k) c d → drawn_in k c ≡ drawn_in k d
unfolding drawn_in
drawn_same zero c d h = refl
drawn_same (suc k) c d h = ap₂ ◌++◌ (drawn_same k c d (alike_less (14 * k) (14 * suc k) c d (omega arith) h)) (command_same c d k h)

pub groups_same : (k : ℕ) (c d : List ℕ) (z : List Stem) → Alike (14 * k) c d → groups_in k c z ≡ groups_in k d z
unfolding groups_in
groups_same zero c d z h = refl
groups_same (suc k) c d z h =
    let l = alike_less (14 * k) (14 * suc k) c d (omega arith) h in
    ap₂ ◌++◌ (groups_same k c d z l) (group_same c d k h z (length (drawn_in k c)) ∙ ap (group_in d z k) (ap length (drawn_same k c d l)))

-- ---- one entry more, which is no group's start
abbrev pub with_entries : ℕ → St → St
with_entries k t = record { operands = t.operands; postscript = t.postscript; x = t.x; y = t.y; opened = t.opened; flexing = t.flexing; points = t.points; hints = t.hints; changed = t.changed; last = t.last; groups = t.groups; stems = t.stems; entries = k; divided = t.divided; ran = t.ran }

module _ (t : St) (m : Mem) (s : State) (H : Holds t m s) (d : List ℕ) (x : Command) (len : length d ≡ length m.cmds) (room : 14 * suc t.entries ≤ length m.cmds) (below : Alike (14 * t.entries) d m.cmds) (is : command_in d t.entries ≡ x ∷ []) (other : word d t.entries 0 ≡ 5 → ⊥) where
  abbrev k : ℕ
  k = t.entries

  more_drawn : drawn_in (suc k) d ≡ drawn_in k m.cmds ++ (x ∷ [])
  unfolding drawn_in
  more_drawn = ap₂ ◌++◌ (drawn_same k d m.cmds below) is

  same_groups : groups_in (suc k) d m.stems ≡ groups_in k m.cmds m.stems
  unfolding groups_in group_in
  same_groups = ap₂ ◌++◌ (groups_same k d m.cmds m.stems below) (ap (λ (b : Bool). pick b (record { stems = take (word d k 2) (drop (word d k 1) m.stems); before = length (drawn_in k d) } ∷ []) []) (ne_eqb (word d k 0) 5 other)) ∙ append-nil (groups_in k m.cmds m.stems)

  pub entered : Holds (with_entries (t.entries + 1) t) (with_cmds d m) (with_drawn (s.drawn ++ (x ∷ [])) s)
  unfolding abs
  entered =
      let F = H.fit in
      let e : t.entries + 1 ≡ suc k = add-one t.entries in
      let dr : drawn_in (t.entries + 1) d ≡ drawn_in k m.cmds ++ (x ∷ []) = ap (λ (j : ℕ). drawn_in j d) e ∙ more_drawn in
      let gr : groups_in (t.entries + 1) d m.stems ≡ groups_in k m.cmds m.stems = ap (λ (j : ℕ). groups_in j d m.stems) e ∙ same_groups in
      record {
        is = ap₂ (λ (a : List Group) (b : List Command). record { operands = take t.operands m.ops; postscript = take t.postscript m.ps; point = record { x = t.x; y = t.y }; bearing = (abs t m).bearing; width = (abs t m).width; opened = t.opened; flexing = (abs t m).flexing; hints = (abs t m).hints; changed = t.changed; groups = a; drawn = b; divided = t.divided; ran = t.ran }) gr dr ∙ ap (λ (u : State). with_drawn (u.drawn ++ (x ∷ [])) u) H.is;
        fit = record {
          bounds = record { operands = F.bounds.operands; postscript = F.bounds.postscript; points = F.bounds.points; hints = F.bounds.hints; last = F.bounds.last; groups = F.bounds.groups; entries = fits; ran = F.bounds.ran };
          ops = F.ops;
          ps = F.ps;
          cells = F.cells;
          edges = F.edges;
          across = F.across;
          stems = F.stems;
          groups = ap length gr ∙ F.groups;
          entries = count;
          used = ap stem_count gr ∙ F.used;
          below = ranges;
          last = λ h l. ap (λ (g : List Group). last_is g l) gr ∙ F.last h l;
        };
      }
    where
      fits : 14 * (t.entries + 1) ≤ length d
      fits = omega arith

      count : length (drawn_in (t.entries + 1) d) + t.groups ≡ t.entries + 1
      count =
          let a : length (drawn_in (t.entries + 1) d) ≡ length (drawn_in k m.cmds) + 1 = ap (λ (j : ℕ). length (drawn_in j d)) (add-one t.entries) ∙ ap length more_drawn ∙ length-append (drawn_in k m.cmds) (x ∷ []) in
          let b = H.fit.entries in
          omega arith

      ranges : (j : ℕ) → j < t.entries + 1 → word d j 0 ≡ 5 → word d j 1 + word d j 2 ≤ t.stems
      ranges j l e = split (eqb j t.entries) refl
        where
          split : (b : Bool) → eqb j t.entries ≡ b → word d j 1 + word d j 2 ≤ t.stems
          split true q = absurd (other (subst (λ (i : ℕ). word d i 0 ≡ 5) (eqb-true j t.entries q) e))
          split false q =
              let n : j < t.entries = (let g : j ≤ t.entries = omega arith in lt_of_le-ne g (eqb-false j t.entries q)) in
              let w : (i : ℕ) → i < 14 → word d j i ≡ word m.cmds j i = (λ i g. below (14 * j + i) (omega arith)) in
              let a = H.fit.below j n (sym (w 0 (omega arith)) ∙ e) in
              let b1 = w 1 (omega arith) in
              let b2 = w 2 (omega arith) in
              omega arith

-- ---- words that were written one after the other
pub record Wrote (at : ℕ) (vs c d : List ℕ) : Type 0 where
  pub below : Alike at d c
  pub words : (i : ℕ) → i < length vs → get_or d (at + i) 0 ≡ get_or vs i 0
  pub same : length d ≡ length c

pub wrote_none : (at : ℕ) (c : List ℕ) → Wrote at [] c c
wrote_none at c = record { below = λ i h. refl; words = λ i h. absurd (let z : ⊥ = omega arith in z); same = refl }

snoc_last : (vs : List ℕ) (v : ℕ) → get_or (vs ++ (v ∷ [])) (length vs) 0 ≡ v
snoc_last [] v = refl
snoc_last (a ∷ vs) v = snoc_last vs v

snoc_front : (vs : List ℕ) (v i : ℕ) → i < length vs → get_or (vs ++ (v ∷ [])) i 0 ≡ get_or vs i 0
snoc_front [] v i h = absurd (let z : ⊥ = omega arith in z)
snoc_front (a ∷ vs) v zero h = refl
snoc_front (a ∷ vs) v (suc i) h = snoc_front vs v i (omega arith)

pub wrote_more : (at : ℕ) (vs c d : List ℕ) (j v : ℕ) → Wrote at vs c d → j ≡ at + length vs → j < length c → Wrote at (vs ++ (v ∷ [])) c (set d j v)
wrote_more at vs c d j v W e h = record {
  below = λ i l. get_or-set_other d j i v 0 (λ (q : i ≡ j). let z : ⊥ = omega arith in z) ∙ W.below i l;
  words = words;
  same = length-set d j v ∙ W.same;
}
  where
    words : (i : ℕ) → i < length (vs ++ (v ∷ [])) → get_or (set d j v) (at + i) 0 ≡ get_or (vs ++ (v ∷ [])) i 0
    words i l = split (eqb i (length vs)) refl
      where
        split : (b : Bool) → eqb i (length vs) ≡ b → get_or (set d j v) (at + i) 0 ≡ get_or (vs ++ (v ∷ [])) i 0
        split true q =
            let p = eqb-true i (length vs) q in
            ap (λ (k : ℕ). get_or (set d j v) k 0) (let z : at + i ≡ j = omega arith in z) ∙ get_or-set_same d j v 0 (let s = W.same in omega arith) ∙ sym (ap (λ (k : ℕ). get_or (vs ++ (v ∷ [])) k 0) p ∙ snoc_last vs v)
        split false q =
            let n = length-append vs (v ∷ []) in
            let g : i ≤ length vs = omega arith in
            let k = lt_of_le-ne g (eqb-false i (length vs) q) in
            get_or-set_other d j (at + i) v 0 (λ (y : at + i ≡ j). let z : ⊥ = omega arith in z) ∙ W.words i k ∙ sym (snoc_front vs v i k)

-- ---- commands by their words
module _ (k : ℕ) (vs c d : List ℕ) (W : Wrote (14 * k) vs c d) where
  pub word_is : (i v : ℕ) → i < length vs → get_or vs i 0 ≡ v → word d k i ≡ v
  word_is i v h e = W.words i h ∙ e

float_is : (d : List ℕ) (k i v : ℕ) (x : Float) → word d k i ≡ v → v ≡ to_bits binary64 x → T (fits binary64 x) → coordinate d k i ≡ x
float_is d k i v x e p t = ap (of_bits binary64) (e ∙ p) ∙ of_bits-to_bits binary64 x t

pub point_command_lem : (k kind bx by : ℕ) (x y : Float) (c d : List ℕ) → Wrote (14 * k) (kind ∷ bx ∷ by ∷ []) c d → bx ≡ to_bits binary64 x → by ≡ to_bits binary64 y → T (fits binary64 x) → T (fits binary64 y) → 0 < kind → kind < 3 → command_in d k ≡ point_command kind (point_at x y) ∷ []
unfolding command_in
point_command_lem k kind bx by x y c d W p q a b h l =
    let e0 : word d k 0 ≡ kind = W.words 0 (omega arith) in
    let e1 = float_is d k 1 bx x (W.words 1 (omega arith)) p a in
    let e2 = float_is d k 2 by y (W.words 2 (omega arith)) q b in
    split (eqb kind 1) refl e0 e1 e2
  where
    split : (t : Bool) → eqb kind 1 ≡ t → word d k 0 ≡ kind → coordinate d k 1 ≡ x → coordinate d k 2 ≡ y → command_in d k ≡ pick (eqb kind 1) (move (point_at x y)) (line (point_at x y)) ∷ []
    split true t e0 e1 e2 = let z : eqb (word d k 0) 1 ≡ true = ap (λ (n : ℕ). eqb n 1) e0 ∙ t in simp (z, t, e1, e2)
    split false t e0 e1 e2 =
        let z : eqb (word d k 0) 1 ≡ false = ap (λ (n : ℕ). eqb n 1) e0 ∙ t in
        let w : eqb (word d k 0) 2 ≡ true = ap (λ (n : ℕ). eqb n 2) e0 ∙ eq-eqb kind 2 (let ne = eqb-false kind 1 t in let g : 1 < kind = lt_of_le-ne h (λ (y : 1 ≡ kind). ne (sym y)) in omega arith) in
        simp (z, w, t, e1, e2)

pub curve_command : (k b1 b2 b3 b4 b5 b6 : ℕ) (x1 y1 x2 y2 x3 y3 : Float) (c d : List ℕ) → Wrote (14 * k) (3 ∷ b1 ∷ b2 ∷ b3 ∷ b4 ∷ b5 ∷ b6 ∷ []) c d
    → b1 ≡ to_bits binary64 x1 → b2 ≡ to_bits binary64 y1 → b3 ≡ to_bits binary64 x2 → b4 ≡ to_bits binary64 y2 → b5 ≡ to_bits binary64 x3 → b6 ≡ to_bits binary64 y3
    → T (fits binary64 x1) → T (fits binary64 y1) → T (fits binary64 x2) → T (fits binary64 y2) → T (fits binary64 x3) → T (fits binary64 y3)
    → command_in d k ≡ curve (point_at x1 y1) (point_at x2 y2) (point_at x3 y3) ∷ []
unfolding command_in
curve_command k b1 b2 b3 b4 b5 b6 x1 y1 x2 y2 x3 y3 c d W p1 p2 p3 p4 p5 p6 f1 f2 f3 f4 f5 f6 =
    let e0 : word d k 0 ≡ 3 = W.words 0 (omega arith) in
    let e1 = float_is d k 1 b1 x1 (W.words 1 (omega arith)) p1 f1 in
    let e2 = float_is d k 2 b2 y1 (W.words 2 (omega arith)) p2 f2 in
    let e3 = float_is d k 3 b3 x2 (W.words 3 (omega arith)) p3 f3 in
    let e4 = float_is d k 4 b4 y2 (W.words 4 (omega arith)) p4 f4 in
    let e5 = float_is d k 5 b5 x3 (W.words 5 (omega arith)) p5 f5 in
    let e6 = float_is d k 6 b6 y3 (W.words 6 (omega arith)) p6 f6 in
    simp (e0, e1, e2, e3, e4, e5, e6)

-- the six points of a flex, and its height
pub flex_command : (k : ℕ) (p1 p2 p3 p4 p5 p6 : Point) (h : Float) (c d : List ℕ)
    → Wrote (14 * k) (4 ∷ to_bits binary64 p1.x ∷ to_bits binary64 p1.y ∷ to_bits binary64 p2.x ∷ to_bits binary64 p2.y ∷ to_bits binary64 p3.x ∷ to_bits binary64 p3.y ∷ to_bits binary64 p4.x ∷ to_bits binary64 p4.y ∷ to_bits binary64 p5.x ∷ to_bits binary64 p5.y ∷ to_bits binary64 p6.x ∷ to_bits binary64 p6.y ∷ to_bits binary64 h ∷ []) c d
    → GoodPoint p1 → GoodPoint p2 → GoodPoint p3 → GoodPoint p4 → GoodPoint p5 → GoodPoint p6 → T (fits binary64 h) → command_in d k ≡ flex p1 p2 p3 p4 p5 p6 h ∷ []
unfolding command_in
flex_command k p1 p2 p3 p4 p5 p6 h c d W g1 g2 g3 g4 g5 g6 fh =
    let e0 : word d k 0 ≡ 4 = W.words 0 (omega arith) in
    let e1 = float_is d k 1 _ _ (W.words 1 (omega arith)) refl g1.0.fit in
    let e2 = float_is d k 2 _ _ (W.words 2 (omega arith)) refl g1.1.fit in
    let e3 = float_is d k 3 _ _ (W.words 3 (omega arith)) refl g2.0.fit in
    let e4 = float_is d k 4 _ _ (W.words 4 (omega arith)) refl g2.1.fit in
    let e5 = float_is d k 5 _ _ (W.words 5 (omega arith)) refl g3.0.fit in
    let e6 = float_is d k 6 _ _ (W.words 6 (omega arith)) refl g3.1.fit in
    let e7 = float_is d k 7 _ _ (W.words 7 (omega arith)) refl g4.0.fit in
    let e8 = float_is d k 8 _ _ (W.words 8 (omega arith)) refl g4.1.fit in
    let e9 = float_is d k 9 _ _ (W.words 9 (omega arith)) refl g5.0.fit in
    let e10 = float_is d k 10 _ _ (W.words 10 (omega arith)) refl g5.1.fit in
    let e11 = float_is d k 11 _ _ (W.words 11 (omega arith)) refl g6.0.fit in
    let e12 = float_is d k 12 _ _ (W.words 12 (omega arith)) refl g6.1.fit in
    let e13 = float_is d k 13 _ _ (W.words 13 (omega arith)) refl fh in
    simp (e0, e1, e2, e3, e4, e5, e6, e7, e8, e9, e10, e11, e12, e13)

-- ---- `enter`: the entry is listed, or the store is full
pub entries_is : (t : St) (m : Mem) (s : State) → Holds t m s → length s.drawn + length s.groups ≡ t.entries
unfolding abs
entries_is t m s H = sym (ap (λ (u : State). length u.drawn + length u.groups) H.is) ∙ ap (λ (n : ℕ). length (drawn_in t.entries m.cmds) + n) H.fit.groups ∙ H.fit.entries

module _ (t : St) (m : Mem) (s : State) (H : Holds t m s) (room : ℕ) (x : Command) where
  pub enter_full : (r : Ran) → r ≡ ran_of t 17 → length m.cmds - 14 * t.entries < 14 → Meets r m (enter (within room (length m.cmds)) x s)
  unfolding enter
  enter_full r e h =
      let n = entries_is t m s H in
      let l = H.fit.bounds.entries in
      subst (λ (b : Bool). Meets r m (allowed (pick b 0 17) (going (with_drawn (s.drawn ++ (x ∷ [])) s)))) (sym (lt-leb (14 * (length s.drawn + length s.groups + 1)) (length m.cmds) (omega arith))) (ap (λ (q : Ran). q.flow) e, lit≤ tt)

  pub enter_more : (r : Ran) (d : List ℕ) → r ≡ ran_of (with_entries (t.entries + 1) t) 0 → 14 ≤ length m.cmds - 14 * t.entries → length d ≡ length m.cmds → Alike (14 * t.entries) d m.cmds → command_in d t.entries ≡ x ∷ [] → (word d t.entries 0 ≡ 5 → ⊥) → Meets r (with_cmds d m) (enter (within room (length m.cmds)) x s)
  unfolding enter
  enter_more r d e h len low is other =
      let n = entries_is t m s H in
      let l = H.fit.bounds.entries in
      subst (λ (b : Bool). Meets r (with_cmds d m) (allowed (pick b 0 17) (going (with_drawn (s.drawn ++ (x ∷ [])) s)))) (sym (le-leb (14 * (length s.drawn + length s.groups + 1)) (length m.cmds) (omega arith)))
      (ap (λ (q : Ran). q.flow) e, subst (λ (q : Ran). Holds q.st (with_cmds d m) (with_drawn (s.drawn ++ (x ∷ [])) s)) (sym e) (entered t m s H d x len (omega arith) low is other))

pub plain_same : (t : St) (r : Ran) (n : ℕ) → r ≡ ran_of t n → Plain t r.st
plain_same t r n e = subst (λ (q : Ran). Plain t q.st) (sym e) (record { hints = refl; changed = refl; last = refl; groups = refl; stems = refl })

pub plain_more : (t : St) (r : Ran) (k : ℕ) → r ≡ ran_of (with_entries k t) 0 → Plain t r.st
plain_more t r k e = subst (λ (q : Ran). Plain t q.st) (sym e) (record { hints = refl; changed = refl; last = refl; groups = refl; stems = refl })

pub no_nan : (x : Float) → T (finite x) → T (not (is_nan x))
unfolding is_nan
no_nan nan h = absurd h
no_nan (inf s) h = absurd h
no_nan (fin s m e) h = tt

-- ---- a few words
pub wrote_3 : (at : ℕ) (c : List ℕ) (a0 a1 a2 : ℕ) → at + 2 < length c → Wrote at (a0 ∷ a1 ∷ a2 ∷ []) c (set (set (set c at a0) (at + 1) a1) (at + 2) a2)
wrote_3 at c a0 a1 a2 h =
    wrote_more at (a0 ∷ a1 ∷ []) c _ (at + 2) a2
    (wrote_more at (a0 ∷ []) c _ (at + 1) a1 (wrote_more at [] c c at a0 (wrote_none at c) (omega arith) (omega arith)) (omega arith) (omega arith)) (omega arith) (omega arith)

pub wrote_7 : (at : ℕ) (c : List ℕ) (a0 a1 a2 a3 a4 a5 a6 : ℕ) → at + 6 < length c → Wrote at (a0 ∷ a1 ∷ a2 ∷ a3 ∷ a4 ∷ a5 ∷ a6 ∷ []) c (set (set (set (set (set (set (set c at a0) (at + 1) a1) (at + 2) a2) (at + 3) a3) (at + 4) a4) (at + 5) a5) (at + 6) a6)
wrote_7 at c a0 a1 a2 a3 a4 a5 a6 h =
    wrote_more at (a0 ∷ a1 ∷ a2 ∷ a3 ∷ a4 ∷ a5 ∷ []) c _ (at + 6) a6
    (wrote_more at (a0 ∷ a1 ∷ a2 ∷ a3 ∷ a4 ∷ []) c _ (at + 5) a5
    (wrote_more at (a0 ∷ a1 ∷ a2 ∷ a3 ∷ []) c _ (at + 4) a4
    (wrote_more at (a0 ∷ a1 ∷ a2 ∷ []) c _ (at + 3) a3 (wrote_3 at c a0 a1 a2 (omega arith)) (omega arith) (omega arith)) (omega arith) (omega arith)) (omega arith) (omega arith)) (omega arith) (omega arith)

module _ (t : St) (m : Mem) (s : State) (H : Holds t m s) (room : ℕ) (r : Ran) (e : r ≡ ran_of (with_entries (t.entries + 1) t) 0) (h : 14 ≤ length m.cmds - 14 * t.entries) where
  abbrev at : ℕ
  at = 14 * t.entries

  pub point_entered : (kind : ℕ) (x y : Float) → T (fits binary64 x) → T (fits binary64 y) → 0 < kind → kind < 3
      → Meets r (with_cmds (set (set (set m.cmds (14 * t.entries) kind) (14 * t.entries + 1) (to_bits binary64 x)) (14 * t.entries + 2) (to_bits binary64 y)) m) (enter (within room (length m.cmds)) (point_command kind (point_at x y)) s)
  point_entered kind x y fx fy lo hi =
      let W = wrote_3 at m.cmds kind (to_bits binary64 x) (to_bits binary64 y) (omega arith) in
      enter_more t m s H room (point_command kind (point_at x y)) r _ e h W.same W.below (point_command_lem t.entries kind _ _ x y m.cmds _ W refl refl fx fy lo hi)
      (λ z. let w = W.words 0 (omega arith) in let q : kind ≡ 5 = sym w ∙ z in let n : ⊥ = omega arith in n)

  pub curve_entered : (x1 y1 x2 y2 x3 y3 : Float) → T (fits binary64 x1) → T (fits binary64 y1) → T (fits binary64 x2) → T (fits binary64 y2) → T (fits binary64 x3) → T (fits binary64 y3)
      → Meets r (with_cmds (set (set (set (set (set (set (set m.cmds (14 * t.entries) 3) (14 * t.entries + 1) (to_bits binary64 x1)) (14 * t.entries + 2) (to_bits binary64 y1)) (14 * t.entries + 3) (to_bits binary64 x2)) (14 * t.entries + 4) (to_bits binary64 y2)) (14 * t.entries + 5) (to_bits binary64 x3)) (14 * t.entries + 6) (to_bits binary64 y3)) m)
      (enter (within room (length m.cmds)) (curve (point_at x1 y1) (point_at x2 y2) (point_at x3 y3)) s)
  curve_entered x1 y1 x2 y2 x3 y3 f1 f2 f3 f4 f5 f6 =
      let W = wrote_7 at m.cmds 3 (to_bits binary64 x1) (to_bits binary64 y1) (to_bits binary64 x2) (to_bits binary64 y2) (to_bits binary64 x3) (to_bits binary64 y3) (omega arith) in
      enter_more t m s H room (curve (point_at x1 y1) (point_at x2 y2) (point_at x3 y3)) r _ e h W.same W.below (curve_command t.entries _ _ _ _ _ _ x1 y1 x2 y2 x3 y3 m.cmds _ W refl refl refl refl refl refl f1 f2 f3 f4 f5 f6)
      (λ z. let w = W.words 0 (omega arith) in let q : 3 ≡ 5 = sym w ∙ z in let n : ⊥ = omega arith in n)

-- ---- a flex: its points are written one after the other
wrote_point : (at : ℕ) (vs c d : List ℕ) (j : ℕ) (p : Point) (d' : List ℕ) → Wrote at vs c d → j ≡ at + length vs → j + 1 < length c → d' ≡ point_put j p d → Wrote at ((vs ++ (to_bits binary64 p.x ∷ [])) ++ (to_bits binary64 p.y ∷ [])) c d'
wrote_point at vs c d j p d' W e h is =
    let n = length-append vs (to_bits binary64 p.x ∷ []) in
    subst (Wrote at ((vs ++ (to_bits binary64 p.x ∷ [])) ++ (to_bits binary64 p.y ∷ [])) c) (sym is)
    (wrote_more at (vs ++ (to_bits binary64 p.x ∷ [])) c (set d j (to_bits binary64 p.x)) (j + 1) (to_bits binary64 p.y) (wrote_more at vs c d j (to_bits binary64 p.x) W e (omega arith)) (omega arith) h)

module _ (t : St) (m : Mem) (s : State) (H : Holds t m s) (room : ℕ) (r : Ran) (e : r ≡ ran_of (with_entries (t.entries + 1) t) 0) (h : 14 ≤ length m.cmds - 14 * t.entries) (p1 p2 p3 p4 p5 p6 : Point) (height : Float) where
  abbrev begins : ℕ
  begins = 14 * t.entries

  pub flex_entered : (d1 d2 d3 d4 d5 d6 : List ℕ)
      → d1 ≡ point_put (begins + 1) p1 (set m.cmds begins 4)
      → d2 ≡ point_put (begins + 3) p2 d1
      → d3 ≡ point_put (begins + 5) p3 d2
      → d4 ≡ point_put (begins + 7) p4 d3
      → d5 ≡ point_put (begins + 9) p5 d4
      → d6 ≡ point_put (begins + 11) p6 d5
      → GoodPoint p1 × (GoodPoint p2 × GoodPoint p3) → GoodPoint p4 × (GoodPoint p5 × GoodPoint p6) → T (fits binary64 height)
      → Meets r (with_cmds (set d6 (begins + 13) (to_bits binary64 height)) m) (enter (within room (length m.cmds)) (flex p1 p2 p3 p4 p5 p6 height) s)
  flex_entered d1 d2 d3 d4 d5 d6 q1 q2 q3 q4 q5 q6 g k fh =
      let at = begins in
      let W0 = wrote_more at [] m.cmds m.cmds at 4 (wrote_none at m.cmds) (omega arith) (omega arith) in
      let W1 = wrote_point at (4 ∷ []) m.cmds (set m.cmds at 4) (at + 1) p1 d1 W0 refl (omega arith) q1 in
      let W2 = wrote_point at (4 ∷ to_bits binary64 p1.x ∷ to_bits binary64 p1.y ∷ []) m.cmds d1 (at + 3) p2 d2 W1 refl (omega arith) q2 in
      let W3 = wrote_point at (4 ∷ to_bits binary64 p1.x ∷ to_bits binary64 p1.y ∷ to_bits binary64 p2.x ∷ to_bits binary64 p2.y ∷ []) m.cmds d2 (at + 5) p3 d3 W2 refl (omega arith) q3 in
      let W4 = wrote_point at (4 ∷ to_bits binary64 p1.x ∷ to_bits binary64 p1.y ∷ to_bits binary64 p2.x ∷ to_bits binary64 p2.y ∷ to_bits binary64 p3.x ∷ to_bits binary64 p3.y ∷ []) m.cmds d3 (at + 7) p4 d4 W3 refl (omega arith) q4 in
      let W5 = wrote_point at (4 ∷ to_bits binary64 p1.x ∷ to_bits binary64 p1.y ∷ to_bits binary64 p2.x ∷ to_bits binary64 p2.y ∷ to_bits binary64 p3.x ∷ to_bits binary64 p3.y ∷ to_bits binary64 p4.x ∷ to_bits binary64 p4.y ∷ []) m.cmds d4 (at + 9) p5 d5 W4 refl (omega arith) q5 in
      let W6 = wrote_point at (4 ∷ to_bits binary64 p1.x ∷ to_bits binary64 p1.y ∷ to_bits binary64 p2.x ∷ to_bits binary64 p2.y ∷ to_bits binary64 p3.x ∷ to_bits binary64 p3.y ∷ to_bits binary64 p4.x ∷ to_bits binary64 p4.y ∷ to_bits binary64 p5.x ∷ to_bits binary64 p5.y ∷ []) m.cmds d5 (at + 11) p6 d6 W5 refl (omega arith) q6 in
      let W = wrote_more at (4 ∷ to_bits binary64 p1.x ∷ to_bits binary64 p1.y ∷ to_bits binary64 p2.x ∷ to_bits binary64 p2.y ∷ to_bits binary64 p3.x ∷ to_bits binary64 p3.y ∷ to_bits binary64 p4.x ∷ to_bits binary64 p4.y ∷ to_bits binary64 p5.x ∷ to_bits binary64 p5.y ∷ to_bits binary64 p6.x ∷ to_bits binary64 p6.y ∷ []) m.cmds d6 (at + 13) (to_bits binary64 height) W6 refl (omega arith) in
      enter_more t m s H room (flex p1 p2 p3 p4 p5 p6 height) r _ e h W.same W.below
      (flex_command t.entries p1 p2 p3 p4 p5 p6 height m.cmds _ W g.0 g.1.0 g.1.1 k.0 k.1.0 k.1.1 fh)
      (λ z. let w = W.words 0 (omega arith) in let q : 4 ≡ 5 = sym w ∙ z in let y : ⊥ = omega arith in y)

put-length : (at : ℕ) (p : Point) (c : List ℕ) → length (point_put at p c) ≡ length c
put-length at p c = length-set (set c at (to_bits binary64 p.x)) (at + 1) (to_bits binary64 p.y) ∙ length-set c at (to_bits binary64 p.x)

pub flex_length :
    (at v : ℕ) (c d1 d2 d3 d4 d5 d6 : List ℕ) (p1 p2 p3 p4 p5 p6 : Point)
    → d1 ≡ point_put (at + 1) p1 (set c at 4) → d2 ≡ point_put (at + 3) p2 d1 → d3 ≡ point_put (at + 5) p3 d2 → d4 ≡ point_put (at + 7) p4 d3 → d5 ≡ point_put (at + 9) p5 d4 → d6 ≡ point_put (at + 11) p6 d5
    → length (set d6 (at + 13) v) ≡ length c
flex_length at v c d1 d2 d3 d4 d5 d6 p1 p2 p3 p4 p5 p6 q1 q2 q3 q4 q5 q6 =
    length-set d6 (at + 13) v
    ∙ ap length q6 ∙ put-length (at + 11) p6 d5
    ∙ ap length q5 ∙ put-length (at + 9) p5 d4
    ∙ ap length q4 ∙ put-length (at + 7) p4 d3
    ∙ ap length q3 ∙ put-length (at + 5) p3 d2
    ∙ ap length q2 ∙ put-length (at + 3) p2 d1
    ∙ ap length q1 ∙ put-length (at + 1) p1 (set c at 4)
    ∙ length-set c at 4

-- the points of a flex that stand in an array
pub enters_cells :
    (t : St) (r : Ran) (x : List Float) (c c' : List ℕ) (h : Float) (p1 p2 p3 p4 p5 p6 : Point)
    → p1 ≡ cell_point x 1 → p2 ≡ cell_point x 2 → p3 ≡ cell_point x 3 → p4 ≡ cell_point x 4 → p5 ≡ cell_point x 5 → p6 ≡ cell_point x 6
    → ((m : Mem) (s : State) (room : ℕ) → Holds t (with_cmds c m) s → Meets r (with_cmds c' m) (enter (within room (length c)) (flex p1 p2 p3 p4 p5 p6 h) s))
    → (m : Mem) (s : State) (room : ℕ) → Holds t (with_cells x (with_cmds c m)) s → Meets r (with_cells x (with_cmds c' m)) (enter (within room (length c)) (flex_of x h) s)
enters_cells t r x c c' h p1 p2 p3 p4 p5 p6 e1 e2 e3 e4 e5 e6 E m s room H =
    let is : flex p1 p2 p3 p4 p5 p6 h ≡ flex_of x h = cc in
    subst (λ (z : Command). Meets r (with_cells x (with_cmds c' m)) (enter (within room (length c)) z s)) is (E (with_cells x m) s room H)

pub entered_same : (t : St) (r : Ran) (n words : ℕ) → r ≡ ran_of t n → Entered t r.st words
entered_same t r n words e = subst (λ (q : Ran). Entered t q.st words) (sym e) (record { bounds = λ b. b; x = refl; y = refl })

pub entered_more : (t : St) (r : Ran) (words : ℕ) → r ≡ ran_of (with_entries (t.entries + 1) t) 0 → 14 ≤ words - 14 * t.entries → Entered t r.st words
entered_more t r words e h = subst (λ (q : Ran). Entered t q.st words) (sym e) (record {
  bounds = λ b. record { operands = b.operands; postscript = b.postscript; points = b.points; hints = b.hints; last = b.last; groups = b.groups; entries = (let l = b.entries in let z : 14 * (t.entries + 1) ≤ words = omega arith in z); ran = b.ran };
  x = refl;
  y = refl;
})
