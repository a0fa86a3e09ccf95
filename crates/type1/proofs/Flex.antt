-- Laws: the end of a flex: it is listed, and its end point handed back.
use mathlib.Core.Path.{◌≡◌, refl, sym, ap, ap₂, ◌∙◌, subst}
use Prim.Native.Nat.{ℕ, suc, ◌+◌, ◌≤◌, ◌<◌}
use native.Mathlib.Numerals.{add-one}
use native.Mathlib.Omega.{arith}
use mathlib.Core.Bool.{Bool, true, false, ◌&&◌}
use mathlib.Core.List.{List, [], ◌∷◌, ◌++◌, append_assoc}
use mathlib.Core.Option.{none, some}
use borrow.Author.Tests.{ne_eqb, eqb-false}
use lib.Dec.{eqb, lit≤}
use lib.ListN.{length, take, set, length-set}
use lib.Seq.{take-suc-set}
use lib.Ieee.{Float}
use Rattle.geometry.specs.declared.Point.{Point}
use Rattle.othersubrs.specs.OtherSubrs.{whole_flex}
use Rattle.outline.specs.declared.Stem.{Stem}
use Rattle.type1.specs.declared.St.{St}
use Rattle.type1.specs.declared.Ran.{Ran}
use Rattle.type1.specs.State.{State, with_point, with_flex}
use Rattle.type1.specs.Run.{Limits, within, Outcome, refused, and_then, commit, enter, list, hand_back, height_of, end_flex, other_subr0}
use Rattle.type1.specs.Memory.{Mem, points_at, abs, Holds, Meets, kept, after, with_ps, with_cells, with_cmds, with_stems, Told, Path, Step}
use Rattle.type1.specs.Small.{ran_of, with_xY, cell_point, flex_of, Space}
use Rattle.type1.proofs.Stacks.{small, small_fit, no_flex_held, flex_points, with_postscripts, back_full, back_done}
use Rattle.type1.proofs.PathLaws.{stop_then, kept_same, moved}
use Rattle.type1.proofs.Steps.{then_goes}

abbrev pub flex_off : St → St
flex_off t = small t.operands t.postscript t.x t.y t.opened false t.points t.hints t.changed t.divided t.ran t

off_holds : (t : St) (m : Mem) (s : State) → Holds t m s → Holds (flex_off t) m (with_flex none s)
unfolding abs
off_holds t m s H =
    let F = H.fit in
    record {
      is = ap (with_flex none) H.is;
      fit = small_fit t m F _ _ _ _ _ _ _ _ _ _ _ _ _ _ F.bounds.operands F.bounds.postscript F.bounds.points F.bounds.hints F.bounds.ran F.ops F.ps F.cells;
    }

-- ---- what the run does
module _ (lim : Limits) (args : List Float) (s : State) where
  no_flex_lem : s.flexing ≡ none → other_subr0 lim args s ≡ refused 9
  unfolding other_subr0
  no_flex_lem e = rw e

  a_flex : (l : List Point) → s.flexing ≡ some l → other_subr0 lim args s ≡ end_flex lim (height_of args) l s
  unfolding other_subr0
  a_flex l e = rw e

end_not : (lim : Limits) (h : Float) (l : List Point) (s : State) → (length l ≡ 7 → ⊥) → end_flex lim h l s ≡ refused 9
unfolding end_flex
end_not lim h l s n = rw (ne_eqb (length l) 7 n)

-- the end point
abbrev pub end : List Float → Point
end x = cell_point x 6

abbrev ended : Limits → List Float → Float → State → Outcome
ended lim x h s = and_then (and_then (commit lim (with_flex none s)) (enter lim (flex_of x h))) (λ (v : State). hand_back lim ((end x).y ∷ (end x).x ∷ []) (with_point (end x) v))

end_is : (lim : Limits) (h : Float) (x : List Float) (s : State) → end_flex lim h (points_at 7 x) s ≡ ended lim x h s
unfolding end_flex list points_at
end_is lim h x s = refl

-- two numbers more
two : (l : List Float) (n : ℕ) (y x : Float) → n + 1 < length l → take (n + 2) (set (set l n y) (n + 1) x) ≡ take n l ++ (y ∷ x ∷ [])
two l n y x h =
    let k = length-set l n y in
    ap (λ (j : ℕ). take j (set (set l n y) (n + 1) x)) (let z : n + 2 ≡ suc (n + 1) = omega arith in z)
    ∙ take-suc-set (set l n y) (n + 1) x (omega arith)
    ∙ ap (λ (q : List Float). q ++ (x ∷ [])) (ap (λ (j : ℕ). take j (set l n y)) (add-one n) ∙ take-suc-set l n y (omega arith))
    ∙ append_assoc (take n l) (y ∷ []) (x ∷ [])

-- ---- as the code says it
abbrev pub Ends : Bool → St → Ran → List Float → List Float → List ℕ → List Float → List ℕ → ℕ → Float → Type 0
Ends same t r ps x c ps' c' room h = (m : Mem) (s : State) (args : List Float) → h ≡ height_of args → length m.stems ≡ room → Told same s → Holds t (with_ps ps (with_cells x (with_cmds c m))) s → Meets r (with_ps ps' (with_cells x (after t r c' m))) (other_subr0 (within room (length c)) args s)

abbrev pub EntersFlex : St → Ran → List Float → List ℕ → List ℕ → Float → Type 0
EntersFlex t r x c c' h = (m : Mem) (s : State) (room : ℕ) → Holds t (with_cells x (with_cmds c m)) s → Meets r (with_cells x (with_cmds c' m)) (enter (within room (length c)) (flex_of x h) s)

module _ (same : Bool) (t : St) (ps x : List Float) (c : List ℕ) (room : ℕ) (h : Float) where
  ends_none : (r : Ran) (ps' : List Float) (c' : List ℕ) → r ≡ ran_of t 9 → t.flexing ≡ false → Ends same t r ps x c ps' c' room h
  ends_none r ps' c' p f m s args g q w H = subst (Meets r (with_ps ps' (with_cells x (after t r c' m)))) (sym (no_flex_lem (within room (length c)) args s (no_flex_held t _ s H f))) (ap (λ (z : Ran). z.flow) p, lit≤ tt)

  module _ (f : t.flexing ≡ true) where
    ends_count : (r : Ran) (ps' : List Float) (c' : List ℕ) → r ≡ ran_of t 9 → (t.points ≡ 7 → ⊥) → Ends same t r ps x c ps' c' room h
    ends_count r ps' c' p n m s args g q w H =
        let (l, fl, count, same) = flex_points t _ s H f in
        subst (Meets r (with_ps ps' (with_cells x (after t r c' m)))) (sym (a_flex (within room (length c)) args s l fl ∙ end_not (within room (length c)) (height_of args) l s (λ z. n (let y : t.points ≡ 7 = omega arith in y))))
        (ap (λ (z : Ran). z.flow) p, lit≤ tt)

    module _ (seven : t.points ≡ 7) where
      flex_is : (m : Mem) (s : State) (args : List Float) → h ≡ height_of args → Holds t (with_ps ps (with_cells x (with_cmds c m))) s → other_subr0 (within room (length c)) args s ≡ ended (within room (length c)) x h s
      flex_is m s args g H =
          let (l, fl, count, same) = flex_points t _ s H f in
          a_flex (within room (length c)) args s l fl
          ∙ ap₂ (λ (k : Float) (n : List Point). end_flex (within room (length c)) k n s) (sym g) (same (omega arith) ∙ ap (λ (n : ℕ). points_at n x) seven) ∙ end_is (within room (length c)) h x s

      -- the mem after `commit`, with a command store that may be longer
      abbrev held : Ran → List ℕ → Mem → Mem
      held d c' m = with_ps ps (with_cells x (with_cmds c' (with_stems (kept t d.st m.edges m.across m.stems) m)))

      module _ (d : Ran) (c' : List ℕ) (C : Step same (flex_off t) d c c' room commit) where
        committed : (m : Mem) (s : State) → length m.stems ≡ room → Told same s → Holds t (with_ps ps (with_cells x (with_cmds c m))) s → Meets d (held d c' m) (commit (within room (length c)) (with_flex none s))
        unfolding kept
        committed m s q w H = C (with_ps ps (with_cells x m)) (with_flex none s) q w (off_holds t _ s H)

        pub ends_commit : (d.flow ≡ 0 → ⊥) → Ends same t d ps x c ps c' room h
        ends_commit n m s args g q w H =
            let lim = within room (length c) in
            subst (Meets d (held d c' m)) (sym (flex_is m s args g H))
            (stop_then d (held d c' m) (and_then (commit lim (with_flex none s)) (enter lim (flex_of x h))) (λ (v : State). hand_back lim ((end x).y ∷ (end x).x ∷ []) (with_point (end x) v))
            (stop_then d (held d c' m) (commit lim (with_flex none s)) (enter lim (flex_of x h)) (committed m s q w H) n) n)

        module _ (z : d.flow ≡ 0) (len : length c' ≡ length c) (r : Ran) (c'' : List ℕ) (E : EntersFlex d.st r x c' c'' h) where
          listed : (m : Mem) (s : State) → length m.stems ≡ room → Told same s → Holds t (with_ps ps (with_cells x (with_cmds c m))) s → Meets r (held d c'' m) (and_then (commit (within room (length c)) (with_flex none s)) (enter (within room (length c)) (flex_of x h)))
          listed m s q w H =
              then_goes (commit (within room (length c)) (with_flex none s)) d (held d c' m) (enter (within room (length c)) (flex_of x h)) r (held d c'' m) (committed m s q w H) z
              (λ v K. subst (λ (n : ℕ). Meets r (held d c'' m) (enter (within room n) (flex_of x h) v)) len (E (held d c' m) v room K))

          -- the stem store that r or a later state tells is the one that d held
          tell : (u : Ran) (ps' : List Float) (m : Mem) (o : Outcome) → u.st.groups ≡ d.st.groups → Meets u (with_ps ps' (held d c'' m)) o → Meets u (with_ps ps' (with_cells x (after t u c'' m))) o
          tell u ps' m o p M = subst (λ (y : List Stem). Meets u (with_ps ps' (with_cells x (with_cmds c'' (with_stems y m)))) o) (sym (kept_same t u.st d.st m.edges m.across m.stems p)) M

          pub ends_enter : r.st.groups ≡ d.st.groups → (r.flow ≡ 0 → ⊥) → Ends same t r ps x c ps c'' room h
          ends_enter p n m s args g q w H =
              let lim = within room (length c) in
              tell r ps m (other_subr0 lim args s) p
              (subst (Meets r (held d c'' m)) (sym (flex_is m s args g H))
              (stop_then r (held d c'' m) (and_then (commit lim (with_flex none s)) (enter lim (flex_of x h))) (λ (v : State). hand_back lim ((end x).y ∷ (end x).x ∷ []) (with_point (end x) v)) (listed m s q w H) n))

          module _ (p : r.st.groups ≡ d.st.groups) (y : r.flow ≡ 0) (u : Ran) where
            ends_back : (ps' : List Float) → u.st.groups ≡ d.st.groups → ((n : Mem) (v : State) → Holds r.st (with_ps ps n) v → Meets u (with_ps ps' n) (hand_back (within room (length c)) ((end x).y ∷ (end x).x ∷ []) (with_point (end x) v))) → Ends same t u ps x c ps' c'' room h
            ends_back ps' k B m s args g q w H =
                let lim = within room (length c) in
                tell u ps' m (other_subr0 lim args s) k
                (subst (Meets u (with_ps ps' (held d c'' m))) (sym (flex_is m s args g H))
                (then_goes (and_then (commit lim (with_flex none s)) (enter lim (flex_of x h))) r (held d c'' m) (λ (v : State). hand_back lim ((end x).y ∷ (end x).x ∷ []) (with_point (end x) v)) u (with_ps ps' (held d c'' m)) (listed m s q w H) y (λ v K. B (held d c'' m) v K)))

            pub ends_full : u ≡ ran_of r.st 15 → 254 < r.st.postscript → Ends same t u ps x c ps c'' room h
            ends_full k l = ends_back ps (ap (λ (q : Ran). q.st.groups) k ∙ p) (λ n v K. back_full (with_xY (end x).x (end x).y r.st) (with_ps ps n) (with_point (end x) v) (moved r.st (with_ps ps n) v (end x).x (end x).y K) room (length c) ((end x).y ∷ (end x).x ∷ []) u (ap (λ (q : Ran). q.flow) k) (omega arith))

            pub ends_done : u ≡ ran_of (with_postscripts (r.st.postscript + 2) (with_xY (end x).x (end x).y r.st)) 0 → r.st.postscript ≤ 254 → Ends same t u ps x c (set (set ps r.st.postscript (end x).y) (r.st.postscript + 1) (end x).x) c'' room h
            ends_done k l =
                let w = r.st.postscript in
                ends_back (set (set ps w (end x).y) (w + 1) (end x).x) (ap (λ (q : Ran). q.st.groups) k ∙ p)
                (λ n v K. back_done (with_xY (end x).x (end x).y r.st) (with_ps ps n) (with_point (end x) v) (moved r.st (with_ps ps n) v (end x).x (end x).y K) room (length c) ((end x).y ∷ (end x).x ∷ []) (set (set ps w (end x).y) (w + 1) (end x).x) 2 u k refl (omega arith) (length-set (set ps w (end x).y) (w + 1) (end x).x ∙ length-set ps w (end x).y) (two ps w (end x).y (end x).x (let b = K.fit.ps in omega arith)))

-- as `othersubrs::is_whole_flex` refuses
pub ends_not : (same : Bool) (t : St) (ps x : List Float) (c : List ℕ) (room : ℕ) (h : Float) (r : Ran) (ps' : List Float) (c' : List ℕ) → r ≡ ran_of t 9 → whole_flex t.flexing t.points ≡ false → Ends same t r ps x c ps' c' room h
ends_not same t ps x c room h r ps' c' p w = by_flex t.flexing refl
  where
    by_flex : (b : Bool) → t.flexing ≡ b → Ends same t r ps x c ps' c' room h
    by_flex true f = ends_count same t ps x c room h f r ps' c' p (eqb-false t.points 7 (sym (ap (λ (b : Bool). b && eqb t.points 7) f) ∙ w))
    by_flex false f = ends_none same t ps x c room h r ps' c' p f

-- a group that `commit` made has its room
pub flex_space : (t : St) (d : Ran) (u : St) (room : ℕ) → Path (flex_off t) d room → u.groups ≡ d.st.groups → Space t u room
flex_space t d u room P p n = P.space (λ q. n (p ∙ q))
