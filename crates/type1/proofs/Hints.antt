-- Laws: the stems in force, as the arrays hold them, and whether they are a group's.
use mathlib.Core.Path.{◌≡◌, refl, sym, ap, ap₂, ◌∙◌, subst}
use Prim.Native.Nat.{ℕ, zero, suc, ◌+◌, ◌-◌, ◌*◌, ◌≤◌, ◌<◌}
use native.Mathlib.Nat.{zero-add}
use native.Mathlib.Numerals.{add-one}
use native.Mathlib.Omega.{arith}
use mathlib.Core.Bool.{Bool, true, false, not, ◌&&◌, ◌||◌}
use mathlib.Core.List.{List, [], ◌∷◌, ◌++◌}
use borrow.Author.Tests.{le-leb, lt-leb, eqb-true, eqb-false}
use lib.Dec.{T, eqb, leb, ltb, lit≤}
use lib.Arith.{lt_of_le-ne}
use lib.ListN.{length, get_or, set, take, drop, length-set, length-append, length-drop}
use lib.Seq.{get_or-set_same, get_or-set_other, get_or-drop, take-suc, length-take-le}
use lib.Ieee.{Float, nan}
use lib.Ieee.Scale.{finite}
use Rattle.hints.specs.Hints.{at_most, is_among, in_force, may_be_last}
use Rattle.hints.specs.Laws.{cut_below}
use Rattle.outline.specs.declared.Stem.{Stem}
use Rattle.std.proofs.lemmas.List.{get_or_default}
use Rattle.type1.specs.declared.St.{St}
use Rattle.type1.specs.declared.Ran.{Ran}
use Rattle.outline.specs.Outline.{same_stem, is_in, same_stems, pick, stem_of, zero_stem}
use Rattle.type1.specs.State.{State, with_hints}
use Rattle.type1.specs.Outcomes.{limit_check}
use Rattle.type1.specs.Run.{within, going, check, allowed, stem}
use Rattle.hints.specs.Hints.{stem_at}
use Rattle.type1.specs.Memory.{Mem, stems_at, abs, Holds, Meets}
use Rattle.type1.specs.Memory as Memory
use Rattle.type1.specs.Small.{ran_of}

-- ---- a stem more at the end
in_more : (l : List Stem) (t s : Stem) → is_in (l ++ (t ∷ [])) s ≡ (is_in l s || same_stem t s)
unfolding is_in
in_more [] t s = or-false (same_stem t s)
  where
    or-false : (b : Bool) → (b || false) ≡ b
    or-false true = refl
    or-false false = refl
in_more (u ∷ l) t s = ap (λ (b : Bool). same_stem u s || b) (in_more l t s) ∙ assoc (same_stem u s) (is_in l s) (same_stem t s)
  where
    assoc : (a b c : Bool) → (a || (b || c)) ≡ ((a || b) || c)
    assoc true b c = refl
    assoc false b c = refl

stems_suc : (e : List Float) (a : List Bool) (i : ℕ) → stems_at 0 (suc i) e a ≡ stems_at 0 i e a ++ (stem_at e a i ∷ [])
unfolding stems_at
stems_suc e a i = ap (λ (n : ℕ). stems_at 0 i e a ++ (stem_at e a n ∷ [])) (zero-add i)

-- what `hints::in_force` says of a stem
among_is : (e : List Float) (a : List Bool) (n : ℕ) (s : Stem) → is_among n e a s ≡ is_in (stems_at 0 n e a) s
unfolding is_among is_in stems_at
among_is e a zero s = refl
among_is e a (suc n) s = ap (λ (b : Bool). b || same_stem (stem_at e a n) s) (among_is e a n s) ∙ sym (ap (λ (l : List Stem). is_in l s) (stems_suc e a n) ∙ in_more (stems_at 0 n e a) (stem_at e a n) s)

pub in_force_is : (e : List Float) (a : List Bool) (n : ℕ) (s : Stem) → n ≤ 256 → in_force n e a s ≡ is_in (stems_at 0 n e a) s
unfolding in_force
in_force_is e a n s l = ap (λ (k : ℕ). is_among k e a s) (cut_below n l) ∙ among_is e a n s

-- ---- the same stems in other arrays
pub stems_same : (from k : ℕ) (e e' : List Float) (a a' : List Bool) → ((i : ℕ) → i < k → stem_at e a (from + i) ≡ stem_at e' a' (from + i)) → stems_at from k e a ≡ stems_at from k e' a'
unfolding stems_at
stems_same from zero e e' a a' h = refl
stems_same from (suc k) e e' a a' h = ap₂ (λ (l : List Stem) (t : Stem). l ++ (t ∷ [])) (stems_same from k e e' a a' (λ i l. h i (omega arith))) (h k (omega arith))

pub stems_length : (from k : ℕ) (e : List Float) (a : List Bool) → length (stems_at from k e a) ≡ k
unfolding stems_at
stems_length from zero e a = refl
stems_length from (suc k) e a = length-append (stems_at from k e a) (stem_at e a (from + k) ∷ []) ∙ (let z = stems_length from k e a in let y : length (stems_at from k e a) + 1 ≡ suc k = omega arith in y)

-- ---- a stem comes in force
abbrev pub with_stem : St → St
with_stem t = record { operands = t.operands; postscript = t.postscript; x = t.x; y = t.y; opened = t.opened; flexing = t.flexing; points = t.points; hints = t.hints + 1; changed = true; last = t.last; groups = t.groups; stems = t.stems; entries = t.entries; divided = t.divided; ran = t.ran }

abbrev edges_with : ℕ → Float → Float → List Float → List Float
edges_with n p w e = set (set e (2 * n) p) (2 * n + 1) w

stem_other : (n i : ℕ) (h : Bool) (p w : Float) (e : List Float) (a : List Bool) → (i ≡ n → ⊥) → stem_at (edges_with n p w e) (set a n h) i ≡ stem_at e a i
stem_other n i h p w e a ne =
    let x : get_or (edges_with n p w e) (2 * i) nan ≡ get_or e (2 * i) nan = get_or-set_other (set e (2 * n) p) (2 * n + 1) (2 * i) w nan (λ (q : 2 * i ≡ 2 * n + 1). let z : ⊥ = omega arith in z) ∙ get_or-set_other e (2 * n) (2 * i) p nan (λ (q : 2 * i ≡ 2 * n). ne (let z : i ≡ n = omega arith in z)) in
    let y : get_or (edges_with n p w e) (2 * i + 1) nan ≡ get_or e (2 * i + 1) nan = get_or-set_other (set e (2 * n) p) (2 * n + 1) (2 * i + 1) w nan (λ (q : 2 * i + 1 ≡ 2 * n + 1). ne (let z : i ≡ n = omega arith in z)) ∙ get_or-set_other e (2 * n) (2 * i + 1) p nan (λ (q : 2 * i + 1 ≡ 2 * n). let z : ⊥ = omega arith in z) in
    let b : get_or (set a n h) i false ≡ get_or a i false = get_or-set_other a n i h false ne in
    cc

stem_here : (n : ℕ) (h : Bool) (p w : Float) (e : List Float) (a : List Bool) → 2 * n + 1 < length e → n < length a → stem_at (edges_with n p w e) (set a n h) n ≡ stem_of h p w
stem_here n h p w e a l k =
    let x : get_or (edges_with n p w e) (2 * n) nan ≡ p = get_or-set_other (set e (2 * n) p) (2 * n + 1) (2 * n) w nan (λ (q : 2 * n ≡ 2 * n + 1). let z : ⊥ = omega arith in z) ∙ get_or-set_same e (2 * n) p nan (omega arith) in
    let y : get_or (edges_with n p w e) (2 * n + 1) nan ≡ w = get_or-set_same (set e (2 * n) p) (2 * n + 1) w nan (subst (λ (j : ℕ). 2 * n + 1 < j) (sym (length-set e (2 * n) p)) l) in
    let b : get_or (set a n h) n false ≡ h = get_or-set_same a n h false k in
    cc

module _ (t : St) (m : Mem) (s : State) (H : Holds t m s) (room words : ℕ) (h : Bool) (p w : Float) where
  pub add_infinite : (r : Ran) → r ≡ ran_of t 14 → finite p ≡ false → Meets r m (stem (within room words) h p w s)
  unfolding stem
  add_infinite r e f = subst (λ (b : Bool). Meets r m (check b 14 (pick (is_in s.hints (stem_of h p w)) (going s) (allowed (at_most 256 16 (length s.hints + 1)) (going (with_hints (s.hints ++ (stem_of h p w ∷ [])) s)))))) (sym f) (ap (λ (q : Ran). q.flow) e, lit≤ tt)

  hints_are : s.hints ≡ stems_at 0 t.hints m.edges m.across
  unfolding abs
  hints_are = sym (ap (λ (u : State). u.hints) H.is)

  module _ (f : finite p ≡ true) where
    past : stem (within room words) h p w s ≡ pick (is_in s.hints (stem_of h p w)) (going s) (check (leb (length s.hints + 1) 256) 16 (going (with_hints (s.hints ++ (stem_of h p w ∷ [])) s)))
    unfolding stem
    past =
        ap (λ (b : Bool). check b 14 (pick (is_in s.hints (stem_of h p w)) (going s) (allowed (at_most 256 16 (length s.hints + 1)) (going (with_hints (s.hints ++ (stem_of h p w ∷ [])) s))))) f
        ∙ ap (pick (is_in s.hints (stem_of h p w)) (going s)) (limit_check (leb (length s.hints + 1) 256) 16 _ refl)

    pub add_same : (r : Ran) → r ≡ ran_of t 0 → is_in (stems_at 0 t.hints m.edges m.across) (stem_of h p w) ≡ true → Meets r m (stem (within room words) h p w s)
    add_same r e i =
        subst (Meets r m) (sym (past ∙ ap (λ (b : Bool). pick b (going s) (check (leb (length s.hints + 1) 256) 16 (going (with_hints (s.hints ++ (stem_of h p w ∷ [])) s)))) (ap (λ (l : List Stem). is_in l (stem_of h p w)) hints_are ∙ i)))
        (ap (λ (q : Ran). q.flow) e, subst (λ (q : Ran). Holds q.st m s) (sym e) H)

    count_is : length s.hints ≡ t.hints
    count_is = ap length hints_are ∙ stems_length 0 t.hints m.edges m.across

    new : is_in (stems_at 0 t.hints m.edges m.across) (stem_of h p w) ≡ false → (b : Bool) → leb (t.hints + 1) 256 ≡ b → stem (within room words) h p w s ≡ check b 16 (going (with_hints (s.hints ++ (stem_of h p w ∷ [])) s))
    new i b q =
        past ∙ ap (λ (b : Bool). pick b (going s) (check (leb (length s.hints + 1) 256) 16 (going (with_hints (s.hints ++ (stem_of h p w ∷ [])) s)))) (ap (λ (l : List Stem). is_in l (stem_of h p w)) hints_are ∙ i)
        ∙ ap (λ (b : Bool). check b 16 (going (with_hints (s.hints ++ (stem_of h p w ∷ [])) s))) (ap (λ (n : ℕ). leb (n + 1) 256) count_is ∙ q)

    pub add_full : (r : Ran) → r ≡ ran_of t 16 → is_in (stems_at 0 t.hints m.edges m.across) (stem_of h p w) ≡ false → t.hints ≡ 256 → Meets r m (stem (within room words) h p w s)
    add_full r e i n = subst (Meets r m) (sym (new i false (lt-leb (t.hints + 1) 256 (omega arith)))) (ap (λ (q : Ran). q.flow) e, lit≤ tt)

    pub add_new : (r : Ran) → r ≡ ran_of (with_stem t) 0 → is_in (stems_at 0 t.hints m.edges m.across) (stem_of h p w) ≡ false → (t.hints ≡ 256 → ⊥)
        → Meets r (Memory.with_hints (set (set m.edges (2 * t.hints) p) (2 * t.hints + 1) w) (set m.across t.hints h) m) (stem (within room words) h p w s)
    unfolding abs
    add_new r e i ne =
        let F = H.fit in
        let n = t.hints in
        let le : n < 256 = lt_of_le-ne F.bounds.hints ne in
        let E = m.edges in
        let A = m.across in
        let E' = edges_with n p w E in
        let A' = set A n h in
        let le1 = F.edges in
        let le2 = F.across in
        let same : (from k : ℕ) → ((j : ℕ) → j < k → from + j ≡ n → ⊥) → stems_at from k E' A' ≡ stems_at from k E A = (λ from k d. stems_same from k E' E A' A (λ j l. stem_other n (from + j) h p w E A (d j l))) in
        let more : stems_at 0 (n + 1) E' A' ≡ stems_at 0 n E A ++ (stem_of h p w ∷ []) = ap (λ (j : ℕ). stems_at 0 j E' A') (add-one n) ∙ stems_suc E' A' n ∙ ap₂ (λ (l : List Stem) (u : Stem). l ++ (u ∷ [])) (same 0 n (λ j l q. let z : ⊥ = omega arith in z)) (stem_here n h p w E A (omega arith) (omega arith)) in
        subst (Meets r (Memory.with_hints E' A' m)) (sym (new i true (le-leb (n + 1) 256 (omega arith)))) (
          ap (λ (q : Ran). q.flow) e,
          subst (λ (q : Ran). Holds q.st (Memory.with_hints E' A' m) (with_hints (s.hints ++ (stem_of h p w ∷ [])) s)) (sym e) (record {
            is = ap (λ (l : List Stem). with_hints l (abs t m)) more ∙ ap (λ (u : State). with_hints (u.hints ++ (stem_of h p w ∷ [])) u) H.is;
            fit = record {
              bounds = record { operands = F.bounds.operands; postscript = F.bounds.postscript; points = F.bounds.points; hints = omega arith; last = F.bounds.last; groups = F.bounds.groups; entries = F.bounds.entries; ran = F.bounds.ran };
              ops = F.ops;
              ps = F.ps;
              cells = F.cells;
              edges = length-set (set E (2 * n) p) (2 * n + 1) w ∙ length-set E (2 * n) p ∙ F.edges;
              across = length-set A n h ∙ F.across;
              stems = F.stems;
              groups = F.groups;
              entries = F.entries;
              used = F.used;
              below = F.below;
              last = F.last;
            };
          }),
        )

pub in_bounds : (t : St) (r : Ran) (n : ℕ) → r ≡ ran_of t n → t.hints ≤ 256 → (r.st.hints ≤ 256) × (r.st.groups ≡ t.groups)
in_bounds t r n e h = (subst (λ (q : Ran). q.st.hints ≤ 256) (sym e) h, ap (λ (q : Ran). q.st.groups) e)

pub one_more : (t : St) (r : Ran) → r ≡ ran_of (with_stem t) 0 → t.hints ≤ 256 → (t.hints ≡ 256 → ⊥) → (r.st.hints ≤ 256) × (r.st.groups ≡ t.groups)
one_more t r e h ne = (subst (λ (q : Ran). q.st.hints ≤ 256) (sym e) (let l = lt_of_le-ne h ne in let z : t.hints + 1 ≤ 256 = omega arith in z), ap (λ (q : Ran). q.st.groups) e)

-- ---- the same stems, one by one
sames_more : (l m : List Stem) (s t : Stem) → length l ≡ length m → same_stems (l ++ (s ∷ [])) (m ++ (t ∷ [])) ≡ (same_stems l m && same_stem s t)
unfolding same_stems
sames_more [] [] s t e = and-true (same_stem s t)
  where
    and-true : (b : Bool) → (b && true) ≡ b
    and-true true = refl
    and-true false = refl
sames_more [] (v ∷ m) s t e = absurd (let z : ⊥ = omega arith in z)
sames_more (u ∷ l) [] s t e = absurd (let z : ⊥ = omega arith in z)
sames_more (u ∷ l) (v ∷ m) s t e = ap (λ (b : Bool). same_stem u v && b) (sames_more l m s t (let z : length l ≡ length m = omega arith in z)) ∙ assoc (same_stem u v) (same_stems l m) (same_stem s t)
  where
    assoc : (a b c : Bool) → (a && (b && c)) ≡ ((a && b) && c)
    assoc true b c = refl
    assoc false b c = refl

sames_length : (l m : List Stem) → (length l ≡ length m → ⊥) → same_stems l m ≡ false
unfolding same_stems
sames_length [] [] n = absurd (n refl)
sames_length [] (v ∷ m) n = refl
sames_length (u ∷ l) [] n = refl
sames_length (u ∷ l) (v ∷ m) n = ap (λ (b : Bool). same_stem u v && b) (sames_length l m (λ e. n (ap suc e))) ∙ none (same_stem u v)
  where
    none : (b : Bool) → (b && false) ≡ false
    none true = refl
    none false = refl

-- ---- a group's records against the stems in force, one by one
module _ (z : List Stem) (first : ℕ) (e : List Float) (a : List Bool) where
  abbrev both : ℕ → Bool
  both n = same_stems (take n (drop first z)) (stems_at 0 n e a)

  part_length : (n : ℕ) → first + n ≤ length z → length (take n (drop first z)) ≡ n
  part_length n h = length-take-le n (drop first z) (let k = length-drop first z in omega arith)

  both-suc : (n : ℕ) → first + n < length z → both (suc n) ≡ (both n && same_stem (get_or z (first + n) zero_stem) (stem_at e a n))
  both-suc n h =
      ap₂ same_stems (take-suc (drop first z) n zero_stem (let k = length-drop first z in omega arith) ∙ ap (λ (v : Stem). take n (drop first z) ++ (v ∷ [])) (get_or-drop first z n zero_stem)) (stems_suc e a n)
      ∙ sames_more (take n (drop first z)) (stems_at 0 n e a) (get_or z (first + n) zero_stem) (stem_at e a n) (part_length n (omega arith) ∙ sym (stems_length 0 n e a))

  both_not : (i n : ℕ) → i < n → first + n ≤ length z → same_stem (get_or z (first + i) zero_stem) (stem_at e a i) ≡ false → both n ≡ false
  both_not i zero l h k = absurd (let y : ⊥ = omega arith in y)
  both_not i (suc n) l h k = both-suc n (omega arith) ∙ split (eqb i n) refl (λ b. both_not i n b (omega arith) k)
    where
      and-false : (b : Bool) → (b && false) ≡ false
      and-false true = refl
      and-false false = refl

      split : (b : Bool) → eqb i n ≡ b → (i < n → both n ≡ false) → (both n && same_stem (get_or z (first + n) zero_stem) (stem_at e a n)) ≡ false
      split true q rec = ap (λ (x : Bool). both n && x) (ap (λ (j : ℕ). same_stem (get_or z (first + j) zero_stem) (stem_at e a j)) (sym (eqb-true i n q)) ∙ k) ∙ and-false (both n)
      split false q rec = let g : i ≤ n = omega arith in ap (λ (x : Bool). x && same_stem (get_or z (first + n) zero_stem) (stem_at e a n)) (rec (lt_of_le-ne g (eqb-false i n q)))

  pub same_begun : both 0 ≡ true
  unfolding same_stems stems_at
  same_begun = refl

  -- a turn of `all_same`: what it read at a place of the store
  module _ (i : ℕ) (d v : Stem) (b : Bool) (inside : first + i < length z) (ev : v ≡ stem_at e a i) (eb : b ≡ same_stem (get_or z (first + i) d) v) where
    read_is : b ≡ same_stem (get_or z (first + i) zero_stem) (stem_at e a i)
    read_is = eb ∙ ap₂ same_stem (get_or_default z (first + i) d zero_stem inside) ev

    pub same_turn : b ≡ true → both i ≡ true → both (i + 1) ≡ true
    same_turn t p = ap both (add-one i) ∙ both-suc i inside ∙ ap₂ (λ (x y : Bool). x && y) p (sym read_is ∙ t)

    pub same_stop : (n : ℕ) → i < n → first + n ≤ length z → b ≡ false → false ≡ both n
    same_stop n l room t = sym (both_not i n l room (sym read_is ∙ t))

-- ---- what `is_last` answers, by `hints::may_be_last` and `all_same`
module _ (t : St) (z : List Stem) (e : List Float) (a : List Bool) (low : t.last ≤ t.stems) (room : t.stems ≤ length z) where
  abbrev found : Bool
  found = t.changed && (ltb 0 t.groups && same_stems (take t.last (drop (t.stems - t.last) z)) (stems_at 0 t.hints e a))

  all_three : (c g d : Bool) → T (c && (g && d)) → (c ≡ true) × (g ≡ true) × (d ≡ true)
  all_three true true true h = (refl, refl, refl)
  all_three true true false h = absurd h
  all_three true false d h = absurd h
  all_three false g d h = absurd h

  module _ (b : Bool) (r : ℕ) (is : b ≡ may_be_last t.changed t.groups t.last t.hints) (er : r ≡ t.stems - t.last) (so : T b) where
    three : (t.changed ≡ true) × (ltb 0 t.groups ≡ true) × (eqb t.last t.hints ≡ true)
    unfolding may_be_last
    three = all_three t.changed (ltb 0 t.groups) (eqb t.last t.hints) (subst T is so)

    as_many : t.last ≡ t.hints
    as_many = eqb-true t.last t.hints three.2

    pub last_room : r + t.hints ≤ length z
    last_room = omega (arith, as_many, low, room, er)

    pub last_found : (d : Bool) → d ≡ same_stems (take t.hints (drop r z)) (stems_at 0 t.hints e a) → d ≡ found
    last_found d ed =
        ed ∙ ap₂ (λ (j k : ℕ). same_stems (take j (drop k z)) (stems_at 0 t.hints e a)) (sym as_many) er
        ∙ sym (ap₂ (λ (x y : Bool). x && (y && same_stems (take t.last (drop (t.stems - t.last) z)) (stems_at 0 t.hints e a))) three.0 three.1)

  pub last_not : (b : Bool) → b ≡ may_be_last t.changed t.groups t.last t.hints → T (not b) → false ≡ found
  unfolding may_be_last
  last_not b is h = by_tests t.changed (ltb 0 t.groups) (eqb t.last t.hints) refl (subst (λ (x : Bool). T (not x)) is h)
    where
      by_tests : (c g d : Bool) → eqb t.last t.hints ≡ d → T (not (c && (g && d))) → false ≡ (c && (g && same_stems (take t.last (drop (t.stems - t.last) z)) (stems_at 0 t.hints e a)))
      by_tests true true true q n = absurd n
      by_tests true true false q n =
          sym (sames_length (take t.last (drop (t.stems - t.last) z)) (stems_at 0 t.hints e a) (λ k. eqb-false t.last t.hints q (sym (part_length z (t.stems - t.last) e a t.last (omega (arith, low, room))) ∙ k ∙ stems_length 0 t.hints e a)))
      by_tests true false d q n = refl
      by_tests false g d q n = refl
