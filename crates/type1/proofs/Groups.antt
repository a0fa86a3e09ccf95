-- Laws: the stems in force become a group.
use mathlib.Core.Path.{◌≡◌, refl, sym, ap, ap₂, ◌∙◌, subst}
use Prim.Native.Nat.{ℕ, zero, suc, ◌+◌, ◌-◌, ◌*◌, ◌≤◌, ◌<◌, min}
use native.Mathlib.Numerals.{add-one}
use native.Mathlib.Omega.{arith}
use mathlib.Core.Bool.{Bool, true, false, cond, ◌&&◌, true≢false}
use mathlib.Core.List.{List, [], ◌∷◌, ◌++◌, append-nil, append_assoc}
use borrow.Author.Tests.{eq-eqb, ne_eqb, le-leb, leb-true, eqb-true, eqb-false, ltb-true, ltb-false}
use lib.Dec.{eqb, leb, ltb, lit≤}
use lib.Arith.{lt_of_le-ne}
use lib.ListN.{length, take, drop, length-append, length-take}
use lib.Seq.{paste, length-paste, take-paste, take-append-le, drop_at}
use lib.Ieee.{Float}
use Rattle.hints.specs.Hints as Hints
use Rattle.hints.specs.Laws.{group_number_lem}
use Rattle.outline.specs.declared.Stem.{Stem}
use Rattle.type1.specs.declared.St.{St}
use Rattle.type1.specs.declared.Ran.{Ran}
use Rattle.outline.specs.Outline.{Command, Group, stem_count, last_is, same_stems, pick}
use Rattle.outline.specs.Store.{word, command_in, drawn_in, group_in, groups_in}
use Rattle.type1.specs.State.{State, settled}
use Rattle.type1.specs.Run.{Limits, within, Outcome, going, check, allowed, entries, new_group, commit}
use Rattle.type1.specs.Memory.{Mem, stems_at, abs, Bounds, Fit, Holds, Meets, kept, after, with_cmds, with_stems, Told, Path, Step}
use Rattle.type1.specs.Small.{ran_of, Grown, Space}
use Rattle.type1.proofs.Store.{Wrote, drawn_same, groups_same, entries_is}
use Rattle.type1.proofs.Hints.{stems_length}

-- ---- groups at the end of the list
last_snoc : (gs : List Group) (g : Group) (l : List Stem) → last_is (gs ++ (g ∷ [])) l ≡ same_stems g.stems l
unfolding last_is
last_snoc [] g l = refl
last_snoc (h ∷ []) g l = refl
last_snoc (h ∷ i ∷ gs) g l = last_snoc (i ∷ gs) g l

count_snoc : (gs : List Group) (g : Group) → stem_count (gs ++ (g ∷ [])) ≡ stem_count gs + length g.stems
unfolding stem_count
count_snoc [] g = (let z : length g.stems + 0 ≡ 0 + length g.stems = omega arith in z)
count_snoc (h ∷ gs) g = let e = count_snoc gs g in (let z : length h.stems + stem_count (gs ++ (g ∷ [])) ≡ length h.stems + stem_count gs + length g.stems = omega arith in z)

-- ---- a group's records lie below those used: what is stored above leaves them
take-take : (n used : ℕ) (l : List Stem) → n ≤ used → take n (take used l) ≡ take n l
take-take zero used l h = refl
take-take (suc n) zero l h = absurd (let z : ⊥ = omega arith in z)
take-take (suc n) (suc used) [] h = refl
take-take (suc n) (suc used) (x ∷ l) h = ap (λ (r : List Stem). x ∷ r) (take-take n used l (omega arith))

take-drop-take : (n a used : ℕ) (l : List Stem) → a + n ≤ used → take n (drop a (take used l)) ≡ take n (drop a l)
take-drop-take n zero used l h = take-take n used l (omega arith)
take-drop-take n (suc a) zero l h = absurd (let z : ⊥ = omega arith in z)
take-drop-take n (suc a) (suc used) [] h = refl
take-drop-take n (suc a) (suc used) (x ∷ l) h = take-drop-take n a used l (omega arith)

part_same : (z y : List Stem) (used a n : ℕ) → take used y ≡ take used z → a + n ≤ used → take n (drop a y) ≡ take n (drop a z)
part_same z y used a n e h = sym (take-drop-take n a used y h) ∙ ap (λ (l : List Stem). take n (drop a l)) e ∙ take-drop-take n a used z h

groups-kept : (k : ℕ) (c : List ℕ) (z y : List Stem) (used : ℕ) → take used y ≡ take used z → ((j : ℕ) → j < k → word c j 0 ≡ 5 → word c j 1 + word c j 2 ≤ used) → groups_in k c y ≡ groups_in k c z
unfolding groups_in group_in
groups-kept zero c z y used e h = refl
groups-kept (suc k) c z y used e h = ap₂ ◌++◌ (groups-kept k c z y used e (λ j l. h j (omega arith))) (split (eqb (word c k 0) 5) refl)
  where
    split : (b : Bool) → eqb (word c k 0) 5 ≡ b → pick {A = List Group} b (record { stems = take (word c k 2) (drop (word c k 1) y); before = length (drawn_in k c) } ∷ []) [] ≡ pick {A = List Group} b (record { stems = take (word c k 2) (drop (word c k 1) z); before = length (drawn_in k c) } ∷ []) []
    split true q = ap (λ (l : List Stem). record { stems = l; before = length (drawn_in k c) } ∷ []) (part_same z y used (word c k 1) (word c k 2) e (h k (omega arith) (eqb-true (word c k 0) 5 q)))
    split false q = refl

-- ---- the records of a group that was stored
paste_front : (z s : List Stem) (used n : ℕ) → used ≤ length z → n ≤ length s → take used (paste z used s n) ≡ take used z
paste_front z s used n h k =
    sym (take-take used (used + n) (paste z used s n) (omega arith)) ∙ ap (take used) (take-paste z used s n h k) ∙ front used (take used z) (take n s) (length-take used z ∙ (let y : min used (length z) ≡ used = omega arith in y)) ∙ (take-take used used z (omega arith))
  where
    front : (used : ℕ) (l r : List Stem) → length l ≡ used → take used (l ++ r) ≡ take used l
    front used l r e = take-append-le used l r (let y : used ≤ length l = omega arith in y)

paste_part : (z s : List Stem) (used n : ℕ) → used + n ≤ length z → length s ≡ n → take n (drop used (paste z used s n)) ≡ s
paste_part z s used n h e =
    let a : length (take used z) ≡ used = length-take used z ∙ (let y : min used (length z) ≡ used = omega arith in y) in
    ap (λ (l : List Stem). take n (drop used l)) (append_assoc (take used z) (take n s) (drop (used + n) z)) ∙ ap (take n) (drop_at (take used z) (take n s ++ drop (used + n) z) used a) ∙ take-append-le n (take n s) (drop (used + n) z) (let b = length-take n s in let y : n ≤ length (take n s) = omega arith in y) ∙ take-take n n s (omega arith) ∙ all n s e
  where
    all : (n : ℕ) (l : List Stem) → length l ≡ n → take n l ≡ l
    all zero [] e = refl
    all zero (x ∷ l) e = absurd (let z : ⊥ = omega arith in z)
    all (suc n) [] e = refl
    all (suc n) (x ∷ l) e = ap (λ (r : List Stem). x ∷ r) (all n l (let z : length l ≡ n = omega arith in z))

abbrev pub with_group : St → St
with_group t = record { operands = t.operands; postscript = t.postscript; x = t.x; y = t.y; opened = t.opened; flexing = t.flexing; points = t.points; hints = t.hints; changed = false; last = t.hints; groups = t.groups + 1; stems = t.stems + t.hints; entries = t.entries + 1; divided = t.divided; ran = t.ran }

group_command : (k : ℕ) (d : List ℕ) → word d k 0 ≡ 5 → command_in d k ≡ []
unfolding command_in
group_command k d e = simp e

module _ (t : St) (m : Mem) (s : State) (H : Holds t m s) (c : List ℕ) (W : Wrote (14 * t.entries) (5 ∷ t.stems ∷ t.hints ∷ []) m.cmds c)
    (few : t.groups < 256) (room : t.stems + t.hints ≤ length m.stems) (space : 14 * (t.entries + 1) ≤ length m.cmds) where
  abbrev k : ℕ
  k = t.entries

  abbrev n : ℕ
  n = t.hints

  abbrev S : List Stem
  S = stems_at 0 n m.edges m.across

  abbrev y : List Stem
  y = paste m.stems t.stems S n

  S-length : length S ≡ n
  S-length = stems_length 0 n m.edges m.across

  drawn_is : drawn_in (t.entries + 1) c ≡ drawn_in k m.cmds
  unfolding drawn_in
  drawn_is = ap (λ (j : ℕ). drawn_in j c) (add-one k) ∙ ap₂ ◌++◌ (drawn_same k c m.cmds W.below) (group_command k c (W.words 0 (omega arith))) ∙ append-nil (drawn_in k m.cmds)

  groups_is : groups_in (t.entries + 1) c y ≡ groups_in k m.cmds m.stems ++ (record { stems = stems_at 0 n m.edges m.across; before = length (drawn_in k m.cmds) } ∷ [])
  unfolding groups_in group_in
  groups_is =
      ap (λ (j : ℕ). groups_in j c y) (add-one k)
      ∙ ap₂ ◌++◌ (groups_same k c m.cmds y W.below ∙ groups-kept k m.cmds m.stems y t.stems (paste_front m.stems S t.stems n (omega arith) (let z = S-length in omega arith)) H.fit.below)
      (ap (λ (b : Bool). pick {A = List Group} b (record { stems = take (word c k 2) (drop (word c k 1) y); before = length (drawn_in k c) } ∷ []) []) (eq-eqb (word c k 0) 5 (W.words 0 (omega arith)))
      ∙ ap₂ (λ (l : List Stem) (j : ℕ). record { stems = l; before = j } ∷ [])
      (ap₂ (λ (i j : ℕ). take i (drop j y)) (W.words 2 (omega arith)) (W.words 1 (omega arith)) ∙ paste_part m.stems S t.stems n room S-length)
      (ap length (drawn_same k c m.cmds W.below)))

  pub grouped : Holds (with_group t) (with_cmds c (with_stems y m)) (settled (s.groups ++ (record { stems = s.hints; before = length s.drawn } ∷ [])) s)
  unfolding abs
  grouped =
      let F = H.fit in
      let g : Group = record { stems = stems_at 0 n m.edges m.across; before = length (drawn_in k m.cmds) } in
      record {
        is = step ∙ ap (λ (u : State). settled (u.groups ++ (record { stems = u.hints; before = length u.drawn } ∷ [])) u) H.is;
        fit = record {
          bounds = record { operands = F.bounds.operands; postscript = F.bounds.postscript; points = F.bounds.points; hints = F.bounds.hints; last = (let z : t.hints ≤ t.stems + t.hints = omega arith in z); groups = (let z : t.groups + 1 ≤ 256 = omega arith in z); entries = (let w = W.same in let z : 14 * (t.entries + 1) ≤ length c = omega arith in z); ran = F.bounds.ran };
          ops = F.ops;
          ps = F.ps;
          cells = F.cells;
          edges = F.edges;
          across = F.across;
          stems = (let w = length-paste m.stems t.stems S n room (let z = S-length in omega arith) in let z : t.stems + t.hints ≤ length y = omega arith in z);
          groups = ap length groups_is ∙ length-append (groups_in k m.cmds m.stems) (g ∷ []) ∙ ap (λ (j : ℕ). j + 1) F.groups;
          entries = ap (λ (l : List Command). length l + (t.groups + 1)) drawn_is ∙ (let w = F.entries in let z : length (drawn_in k m.cmds) + (t.groups + 1) ≡ t.entries + 1 = omega arith in z);
          used = ap stem_count groups_is ∙ count_snoc (groups_in k m.cmds m.stems) g ∙ ap₂ ◌+◌ F.used (stems_length 0 n m.edges m.across);
          below = ranges;
          last = λ h l. ap (λ (q : List Group). last_is q l) groups_is ∙ last_snoc (groups_in k m.cmds m.stems) g l ∙ ap (λ (q : List Stem). same_stems q l) (sym (ap (λ (j : ℕ). take n (drop j y)) (let z : t.stems + t.hints - t.hints ≡ t.stems = omega arith in z) ∙ paste_part m.stems S t.stems n room S-length));
        };
      }
    where
      step : abs (with_group t) (with_cmds c (with_stems y m)) ≡ settled (groups_in k m.cmds m.stems ++ (record { stems = stems_at 0 n m.edges m.across; before = length (drawn_in k m.cmds) } ∷ [])) (abs t m)
      step =
          ap₂ (λ (q : List Group) (d : List Command). record { operands = (abs t m).operands; postscript = (abs t m).postscript; point = (abs t m).point; bearing = (abs t m).bearing; width = (abs t m).width; opened = t.opened; flexing = (abs t m).flexing; hints = (abs t m).hints; changed = false; groups = q; drawn = d; divided = t.divided; ran = t.ran }) groups_is drawn_is

      ranges : (j : ℕ) → j < t.entries + 1 → word c j 0 ≡ 5 → word c j 1 + word c j 2 ≤ t.stems + t.hints
      ranges j l q = split (eqb j t.entries) refl
        where
          split : (b : Bool) → eqb j t.entries ≡ b → word c j 1 + word c j 2 ≤ t.stems + t.hints
          split true z =
              let p = eqb-true j t.entries z in
              subst (λ (i : ℕ). word c i 1 + word c i 2 ≤ t.stems + t.hints) (sym p) (let w1 : word c k 1 ≡ t.stems = W.words 1 (omega arith) in let w2 : word c k 2 ≡ t.hints = W.words 2 (omega arith) in omega arith)
          split false z =
              let b : j < t.entries = (let g : j ≤ t.entries = omega arith in lt_of_le-ne g (eqb-false j t.entries z)) in
              let w : (i : ℕ) → i < 14 → word c j i ≡ word m.cmds j i = (λ i g. W.below (14 * j + i) (omega arith)) in
              let x = H.fit.below j b (sym (w 0 (omega arith)) ∙ q) in
              let w1 = w 1 (omega arith) in
              let w2 = w 2 (omega arith) in
              omega arith

-- ---- `new_group` and `commit`
module _ (t : St) (m : Mem) (s : State) (H : Holds t m s) where
  groups-count : length s.groups ≡ t.groups
  unfolding abs
  groups-count = sym (ap (λ (u : State). length u.groups) H.is) ∙ H.fit.groups

  stems_count : stem_count s.groups ≡ t.stems
  unfolding abs
  stems_count = sym (ap (λ (u : State). stem_count u.groups) H.is) ∙ H.fit.used

  hints_count : length s.hints ≡ t.hints
  unfolding abs
  hints_count = sym (ap (λ (u : State). length u.hints) H.is) ∙ stems_length 0 t.hints m.edges m.across

  abbrev next : State
  next = settled (s.groups ++ (record { stems = s.hints; before = length s.drawn } ∷ [])) s

  limits-check : (a b d : Bool) (o : Outcome) → allowed (Hints.group_refusal (pick a 0 16) (pick b 0 16) (pick d 0 17)) o ≡ check (a && b) 16 (check d 17 o)
  limits-check true true true o = refl
  limits-check true true false o = refl
  limits-check true false d o = refl
  limits-check false b d o = refl

  unfolded : (room words : ℕ) (b d : Bool) → (leb (t.groups + 1) 256 && leb (t.stems + t.hints) room) ≡ b → leb (14 * (t.entries + 1)) words ≡ d → new_group (within room words) s ≡ check b 16 (check d 17 (going next))
  unfolding new_group
  unfolded room words b d p q =
      let g = groups-count in
      let u = stems_count in
      let h = hints_count in
      let n = entries_is t m s H in
      limits-check (leb (length s.groups + 1) 256) (leb (stem_count s.groups + length s.hints) room) (leb (14 * (entries s + 1)) words) (going next)
      ∙ ap₂ (λ (x y : Bool). check x 16 (check y 17 (going next))) (ap₂ (λ (i j : ℕ). leb (i + 1) 256 && leb j room) g (ap₂ ◌+◌ u h) ∙ p) (ap (λ (i : ℕ). leb (14 * (i + 1)) words) n ∙ q)

  -- what `hints::new_group` answers
  abbrev number : ℕ → ℕ → ℕ
  number room words = Hints.refused_group t.groups room t.stems t.hints words t.entries

  pub no_group : (r : Ran) (M : Mem) (room words n : ℕ) → n ≡ number room words → (n ≡ 0 → ⊥) → r ≡ ran_of t n → Meets r M (new_group (within room words) s)
  no_group r M room words n p q e =
      let b = leb (t.groups + 1) 256 && leb (t.stems + t.hints) room in
      let d = leb (14 * (t.entries + 1)) words in
      subst (Meets r M) (sym (unfolded room words b d refl refl)) (by_tests b d (ap (λ (x : Ran). x.flow) e ∙ p ∙ group_number_lem t.groups room t.stems t.hints words t.entries b d refl refl) (λ z. q (sym (ap (λ (x : Ran). x.flow) e) ∙ z)))
    where
      by_tests : (b d : Bool) → r.flow ≡ cond b (cond d 0 17) 16 → (r.flow ≡ 0 → ⊥) → Meets r M (check b 16 (check d 17 (going next)))
      by_tests true true f z = absurd (z f)
      by_tests true false f z = (f, lit≤ tt)
      by_tests false d f z = (f, lit≤ tt)

  kept_is : (r : Ran) → r ≡ ran_of (with_group t) 0 → kept t r.st m.edges m.across m.stems ≡ paste m.stems t.stems (stems_at 0 t.hints m.edges m.across) t.hints
  unfolding kept
  kept_is r p = ap (λ (b : Bool). pick b m.stems (paste m.stems t.stems (stems_at 0 t.hints m.edges m.across) t.hints)) (ne_eqb t.groups r.st.groups (λ q. let z : r.st.groups ≡ t.groups + 1 = ap (λ (x : Ran). x.st.groups) p in let y : ⊥ = omega arith in y))

  pub made_group : (r : Ran) (c : List ℕ) → r ≡ ran_of (with_group t) 0 → Wrote (14 * t.entries) (5 ∷ t.stems ∷ t.hints ∷ []) m.cmds c
      → t.groups < 256 → t.stems + t.hints ≤ length m.stems → 14 * (t.entries + 1) ≤ length m.cmds → Meets r (after t r c m) (new_group (within (length m.stems) (length m.cmds)) s)
  made_group r c p W g u w =
      subst (Meets r (after t r c m)) (sym (unfolded (length m.stems) (length m.cmds) true true (ap₂ (λ (x y : Bool). x && y) (le-leb (t.groups + 1) 256 (omega arith)) (le-leb (t.stems + t.hints) (length m.stems) u)) (le-leb (14 * (t.entries + 1)) (length m.cmds) w)))
      (ap (λ (q : Ran). q.flow) p, subst (λ (z : List Stem). Holds r.st (with_cmds c (with_stems z m)) next) (sym (kept_is r p)) (subst (λ (q : Ran). Holds q.st (with_cmds c (with_stems (paste m.stems t.stems (stems_at 0 t.hints m.edges m.across) t.hints) m)) next) (sym p) (grouped t m s H c W g u w)))

-- ---- what is said of the small state
pub grown_same : (t : St) (r : Ran) (n words room : ℕ) → r ≡ ran_of t n → Bounds t words → t.stems ≤ room → Grown t r.st words room
grown_same t r n words room e b h = subst (λ (q : Ran). Grown t q.st words room) (sym e) (record { bounds = b; stems = h; hints = refl; x = refl; y = refl })

pub space_same : (t : St) (r : Ran) (n room : ℕ) → r ≡ ran_of t n → Space t r.st room
space_same t r n room e no_same = absurd (no_same (ap (λ (q : Ran). q.st.groups) e))

pub grown_group : (t : St) (r : Ran) (words room : ℕ) → r ≡ ran_of (with_group t) 0 → Bounds t words → t.groups < 256 → t.stems + t.hints ≤ room → 14 * (t.entries + 1) ≤ words → Grown t r.st words room
grown_group t r words room e b g u w = subst (λ (q : Ran). Grown t q.st words room) (sym e) (record {
  bounds = record { operands = b.operands; postscript = b.postscript; points = b.points; hints = b.hints; last = (let z : t.hints ≤ t.stems + t.hints = omega arith in z); groups = (let z : t.groups + 1 ≤ 256 = omega arith in z); entries = w; ran = b.ran };
  stems = u;
  hints = refl;
  x = refl;
  y = refl;
})

-- where `hints::new_group` answers 0 there is room
pub group_room : (groups room used n words entries f : ℕ) → f ≡ Hints.refused_group groups room used n words entries → f ≡ 0 → (groups < 256) × (used + n ≤ room) × (14 * (entries + 1) ≤ words)
group_room groups room used n words entries f p q = by_tests (leb (groups + 1) 256) (leb (used + n) room) (leb (14 * (entries + 1)) words) refl refl refl (sym q ∙ p)
  where
    by_tests : (a b d : Bool) → leb (groups + 1) 256 ≡ a → leb (used + n) room ≡ b → leb (14 * (entries + 1)) words ≡ d → 0 ≡ Hints.refused_group groups room used n words entries → (groups < 256) × (used + n ≤ room) × (14 * (entries + 1) ≤ words)
    by_tests true true true x y z e = (let g = leb-true (groups + 1) 256 x in omega arith, leb-true (used + n) room y, leb-true (14 * (entries + 1)) words z)
    by_tests true true false x y z e = absurd (let g = group_number_lem groups room used n words entries true false (ap₂ (λ (k l : Bool). k && l) x y) z in let h : ⊥ = omega arith in h)
    by_tests true false d x y z e = absurd (let g = group_number_lem groups room used n words entries false d (ap₂ (λ (k l : Bool). k && l) x y) z in let h : ⊥ = omega arith in h)
    by_tests false b d x y z e = absurd (let g = group_number_lem groups room used n words entries false d (ap₂ (λ (k l : Bool). k && l) x y) z in let h : ⊥ = omega arith in h)

-- with the room as a number
pub made_in : (t : St) (m : Mem) (s : State) (room : ℕ) → length m.stems ≡ room → (H : Holds t m s) → (r : Ran) (c : List ℕ) → r ≡ ran_of (with_group t) 0 → Wrote (14 * t.entries) (5 ∷ t.stems ∷ t.hints ∷ []) m.cmds c
    → t.groups < 256 → t.stems + t.hints ≤ room → 14 * (t.entries + 1) ≤ length m.cmds → Meets r (after t r c m) (new_group (within room (length m.cmds)) s)
made_in t m s room q H r c p W g u w = subst (λ (n : ℕ). Meets r (after t r c m) (new_group (within n (length m.cmds)) s)) q (made_group t m s H r c p W g (omega arith) w)

-- a refusal does not go on
pub refused_not : (t : St) (r : Ran) (n : ℕ) {A : Type 0} → r ≡ ran_of t n → (n ≡ 0 → ⊥) → r.flow ≡ 0 → A
refused_not t r n e q z = absurd (q (sym (ap (λ (x : Ran). x.flow) e) ∙ z))

pub goes-settled : (t : St) (r : Ran) → r ≡ ran_of (with_group t) 0 → r.st.changed ≡ false
goes-settled t r e = ap (λ (q : Ran). q.st.changed) e

-- ---- a step that makes no group leaves the stem store
pub kept-none : (t u : St) (e : List Float) (a : List Bool) (z : List Stem) → u.groups ≡ t.groups → kept t u e a z ≡ z
unfolding kept
kept-none t u e a z h = ap (λ (b : Bool). pick b z (paste z t.stems (stems_at 0 t.hints e a) t.hints)) (eq-eqb t.groups u.groups (sym h))

pub after_none : (t : St) (r : Ran) (c : List ℕ) (m : Mem) (o : Outcome) → r.st.groups ≡ t.groups → Meets r (with_cmds c m) o → Meets r (after t r c m) o
after_none t r c m o h M = subst (λ (z : List Stem). Meets r (with_cmds c (with_stems z m)) o) (sym (kept-none t r.st m.edges m.across m.stems h)) M

last_is_lem : (t : St) (m : Mem) (s : State) → Holds t m s → last_is s.groups s.hints ≡ (ltb 0 t.groups && same_stems (take t.last (drop (t.stems - t.last) m.stems)) (stems_at 0 t.hints m.edges m.across))
unfolding abs last_is
last_is_lem t m s H =
    sym (ap (λ (u : State). last_is u.groups u.hints) H.is) ∙ split (ltb 0 t.groups) refl
  where
    none : (l : List Group) → length l ≡ 0 → (h : List Stem) → last_is l h ≡ false
    none [] e h = refl
    none (g ∷ l) e h = absurd (let z : ⊥ = omega arith in z)

    split : (b : Bool) → ltb 0 t.groups ≡ b → last_is (groups_in t.entries m.cmds m.stems) (stems_at 0 t.hints m.edges m.across) ≡ (b && same_stems (take t.last (drop (t.stems - t.last) m.stems)) (stems_at 0 t.hints m.edges m.across))
    split true q = H.fit.last (ltb-true 0 t.groups q) (stems_at 0 t.hints m.edges m.across)
    split false q = none (groups_in t.entries m.cmds m.stems) (let a = ltb-false 0 t.groups q in let b = H.fit.groups in omega arith) (stems_at 0 t.hints m.edges m.across)

-- what `is_last` found
pub found_told : (t : St) (m : Mem) (s : State) → Holds t m s → (same : Bool) → same ≡ (t.changed && (ltb 0 t.groups && same_stems (take t.last (drop (t.stems - t.last) m.stems)) (stems_at 0 t.hints m.edges m.across))) → Told same s
unfolding abs
found_told t m s H same e h = e ∙ ap (λ (b : Bool). b && (ltb 0 t.groups && same_stems (take t.last (drop (t.stems - t.last) m.stems)) (stems_at 0 t.hints m.edges m.across))) (ap (λ (u : State). u.changed) H.is ∙ h) ∙ sym (last_is_lem t m s H)

abbrev pub unchanged : St → St
unchanged t = record { operands = t.operands; postscript = t.postscript; x = t.x; y = t.y; opened = t.opened; flexing = t.flexing; points = t.points; hints = t.hints; changed = false; last = t.last; groups = t.groups; stems = t.stems; entries = t.entries; divided = t.divided; ran = t.ran }

unchanged_fit : (t : St) (m : Mem) → Fit t m → Fit (unchanged t) m
unchanged_fit t m F = record {
  bounds = record { operands = F.bounds.operands; postscript = F.bounds.postscript; points = F.bounds.points; hints = F.bounds.hints; last = F.bounds.last; groups = F.bounds.groups; entries = F.bounds.entries; ran = F.bounds.ran };
  ops = F.ops;
  ps = F.ps;
  cells = F.cells;
  edges = F.edges;
  across = F.across;
  stems = F.stems;
  groups = F.groups;
  entries = F.entries;
  used = F.used;
  below = F.below;
  last = F.last;
}

changed_is : (t : St) (m : Mem) (s : State) → Holds t m s → s.changed ≡ t.changed
unfolding abs
changed_is t m s H = sym (ap (λ (u : State). u.changed) H.is)

-- stems in force that did not change are not asked about
pub quiet_told : (same : Bool) (t : St) (m : Mem) (s : State) → Holds t m s → t.changed ≡ false → Told same s
quiet_told same t m s H h k = absurd (true≢false (sym k ∙ changed_is t m s H ∙ h))

module _ (t : St) (m : Mem) (s : State) (H : Holds t m s) (lim : Limits) where
  pub commit-none : (r : Ran) → r ≡ ran_of t 0 → t.changed ≡ false → Meets r m (commit lim s)
  unfolding commit
  commit-none r e h = subst (λ (b : Bool). Meets r m (pick b (pick (last_is s.groups s.hints) (going (settled s.groups s)) (new_group lim s)) (going s))) (sym (changed_is t m s H ∙ h)) (ap (λ (q : Ran). q.flow) e, subst (λ (q : Ran). Holds q.st m s) (sym e) H)

  module _ (same : Bool) (told : Told same s) (h : t.changed ≡ true) where
    changed_so : (b : Bool) → same ≡ b → commit lim s ≡ pick b (going (settled s.groups s)) (new_group lim s)
    unfolding commit
    changed_so b k = ap₂ (λ (x y : Bool). pick x (pick y (going (settled s.groups s)) (new_group lim s)) (going s)) (changed_is t m s H ∙ h) (sym (told (changed_is t m s H ∙ h)) ∙ k)

    pub commit_last : (r : Ran) → r ≡ ran_of (unchanged t) 0 → same ≡ true → Meets r m (commit lim s)
    unfolding abs
    commit_last r e k =
        subst (Meets r m) (sym (changed_so true k)) (ap (λ (q : Ran). q.flow) e, subst (λ (q : Ran). Holds q.st m (settled s.groups s)) (sym e) (record { is = ap (λ (u : State). settled u.groups u) H.is; fit = unchanged_fit t m H.fit }))

    pub commit_new : (r : Ran) (M : Mem) → same ≡ false → Meets r M (new_group lim s) → Meets r M (commit lim s)
    commit_new r M k N = subst (Meets r M) (sym (changed_so false k)) N

-- ---- what is said of the small state at a path command
pub path_none : (t : St) (r : Ran) (room : ℕ) → r ≡ ran_of t 0 → t.changed ≡ false → Path t r room
path_none t r room e h = record { quiet = λ z. ap (λ (q : Ran). q.st.groups) e; settled = λ z. ap (λ (q : Ran). q.st.changed) e ∙ h; space = λ z. absurd (z (ap (λ (q : Ran). q.st.groups) e)) }

pub path_last : (t : St) (r : Ran) (room : ℕ) → r ≡ ran_of (unchanged t) 0 → Path t r room
path_last t r room e = record { quiet = λ z. ap (λ (q : Ran). q.st.groups) e; settled = λ z. ap (λ (q : Ran). q.st.changed) e; space = λ z. absurd (z (ap (λ (q : Ran). q.st.groups) e)) }

pub path_new : (t : St) (r : Ran) (room : ℕ) → t.changed ≡ true → (r.flow ≡ 0 → r.st.changed ≡ false) → Space t r.st room → Path t r room
path_new t r room h f g = record { quiet = λ z. absurd (true≢false (sym h ∙ z)); settled = f; space = g }

pub grown_last : (t : St) (r : Ran) (words room : ℕ) → r ≡ ran_of (unchanged t) 0 → Bounds t words → t.stems ≤ room → Grown t r.st words room
grown_last t r words room e b h = subst (λ (q : Ran). Grown t q.st words room) (sym e) (record { bounds = record { operands = b.operands; postscript = b.postscript; points = b.points; hints = b.hints; last = b.last; groups = b.groups; entries = b.entries; ran = b.ran }; stems = h; hints = refl; x = refl; y = refl })

-- ---- as `commit` says it
pub commits_none : (same : Bool) (t : St) (r : Ran) (c : List ℕ) (room : ℕ) → r ≡ ran_of t 0 → t.changed ≡ false → Step same t r c c room commit
commits_none same t r c room p h m s q w H = after_none t r c m (commit (within room (length c)) s) (ap (λ (x : Ran). x.st.groups) p) (commit-none t (with_cmds c m) s H (within room (length c)) r p h)

pub commits_last : (same : Bool) (t : St) (r : Ran) (c : List ℕ) (room : ℕ) → r ≡ ran_of (unchanged t) 0 → t.changed ≡ true → same ≡ true → Step same t r c c room commit
commits_last same t r c room p h k m s q w H = after_none t r c m (commit (within room (length c)) s) (ap (λ (x : Ran). x.st.groups) p) (commit_last t (with_cmds c m) s H (within room (length c)) same w h r p k)

pub commits_new : (same : Bool) (t : St) (r : Ran) (c c' : List ℕ) (room : ℕ) → t.changed ≡ true → same ≡ false → ((m : Mem) (s : State) → length m.stems ≡ room → Holds t (with_cmds c m) s → Meets r (after t r c' m) (new_group (within room (length c)) s)) → Step same t r c c' room commit
commits_new same t r c c' room h k N m s q w H = commit_new t (with_cmds c m) s H (within room (length c)) same w h r (after t r c' m) k (N m s q H)
