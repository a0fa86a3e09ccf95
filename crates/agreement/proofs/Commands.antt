-- Laws: the commands of a drawn list and its groups have the list's entries, and one mask a group.
use Rattle.std.specs.Prelude.{◌≡◌, refl, ℕ, suc, ◌+◌, ◌≤◌, ◌<◌, Bool, true, false, not, cond, List, [], ◌∷◌, ◌++◌, length, T, eqb}
use Rattle.std.proofs.Common.{sym, ap, ap₂, ◌∙◌, subst, lt_of_not-le, arith, append-nil, eqb→eq}
use Rattle.outline.specs.declared.Stem.{Stem}
use Rattle.outline.specs.Outline.{Command, move, line, curve, flex, Group}
use Rattle.type1.specs.Sound.{All, Rising, points}
use Rattle.type1.specs.Sound as Sound
use Rattle.renderer.specs.Machine.{Mask}
use Rattle.type2.specs.Bools.{choose, is_eq, not_eq}
use Rattle.type1_to_type2.specs.Stems.{mask_of}
use Rattle.type1_to_type2.specs.Emission.{points_of, Cmd, hints, shape, starts_at, commands}
use Rattle.agreement.specs.Simulation.{ListCoordinates, entries_of, point_count, CommandCoordinates, masks_from, group_masks}

-- ---- the starts of groups have no entries
starts_entries : (n : ℕ) (gs : List Group) (cs : List Cmd) → entries_of (starts_at n gs ++ cs) ≡ entries_of cs
unfolding starts_at entries_of
starts_entries n [] cs = refl
starts_entries n (g ∷ gs) cs =
    choose (eqb g.before n) (λ (l : List Cmd). entries_of (l ++ cs) ≡ entries_of cs) (hints g.stems ∷ starts_at n gs) (starts_at n gs)
    (λ t. starts_entries n gs cs) (λ t. starts_entries n gs cs)

starts_points : (n : ℕ) (gs : List Group) (cs : List Cmd) → point_count (starts_at n gs ++ cs) ≡ point_count cs
unfolding starts_at point_count
starts_points n [] cs = refl
starts_points n (g ∷ gs) cs =
    choose (eqb g.before n) (λ (l : List Cmd). point_count (l ++ cs) ≡ point_count cs) (hints g.stems ∷ starts_at n gs) (starts_at n gs)
    (λ t. starts_points n gs cs) (λ t. starts_points n gs cs)

starts_coordinates : (b : Bool) (n : ℕ) (gs : List Group) (cs : List Cmd) → CommandCoordinates b cs → CommandCoordinates b (starts_at n gs ++ cs)
unfolding starts_at CommandCoordinates
starts_coordinates b n [] cs r = r
starts_coordinates b n (g ∷ gs) cs r =
    choose (eqb g.before n) (λ (l : List Cmd). CommandCoordinates b (l ++ cs)) (hints g.stems ∷ starts_at n gs) (starts_at n gs)
    (λ t. starts_coordinates b n gs cs r) (λ t. starts_coordinates b n gs cs r)

-- ---- the entries
last_start : (n : ℕ) (gs : List Group) → starts_at n gs ≡ starts_at n gs ++ []
last_start n gs = sym (append-nil (starts_at n gs))

pub commands-entries : (n : ℕ) (gs : List Group) (cs : List Command) → entries_of (commands n gs cs) ≡ cs
unfolding commands entries_of
commands-entries n gs [] = ap entries_of (last_start n gs) ∙ starts_entries n gs []
commands-entries n gs (c ∷ cs) = starts_entries n gs (shape c ∷ commands (suc n) gs cs) ∙ ap (λ (l : List Command). c ∷ l) (commands-entries (suc n) gs cs)

points-length : (c : Command) → length (points_of c) ≡ points c
points-length (move p) = refl
points-length (line p) = refl
points-length (curve p q r) = refl
points-length (flex p q r s t u h) = refl

pub commands-points : (n : ℕ) (gs : List Group) (cs : List Command) → point_count (commands n gs cs) ≡ Sound.points_of cs
unfolding commands point_count Sound.points_of
commands-points n gs [] = ap point_count (last_start n gs) ∙ starts_points n gs []
commands-points n gs (c ∷ cs) = starts_points n gs (shape c ∷ commands (suc n) gs cs) ∙ ap₂ ◌+◌ (points-length c) (commands-points (suc n) gs cs)

pub commands_coordinates : (b : Bool) (n : ℕ) (gs : List Group) (cs : List Command) → All (λ c. ListCoordinates b (points_of c)) cs → CommandCoordinates b (commands n gs cs)
unfolding commands CommandCoordinates All
commands_coordinates b n gs [] r = subst (CommandCoordinates b) (sym (last_start n gs)) (starts_coordinates b n gs [] tt)
commands_coordinates b n gs (c ∷ cs) r = starts_coordinates b n gs (shape c ∷ commands (suc n) gs cs) (r.0, commands_coordinates b (suc n) gs cs r.1)

-- ---- the masks
-- no group starts before the first
none_starts : (n from : ℕ) (gs : List Group) (end : ℕ) → Rising from gs end → n < from → starts_at n gs ≡ []
unfolding starts_at Rising
none_starts n from [] end r h = refl
none_starts n from (g ∷ gs) end r h =
    ap (λ (b : Bool). cond b (hints g.stems ∷ starts_at n gs) (starts_at n gs)) (not_eq g.before n (λ e. later g.before e r.0 h))
    ∙ none_starts n (suc g.before) gs end r.2 (let a = r.0 in omega arith)
  where
    later : (m : ℕ) → m ≡ n → from ≤ m → n < from → ⊥
    later m e a b = omega arith

-- a group that has started does so no more
started : (n : ℕ) (g : Group) (gs : List Group) (cs : List Command) → g.before < n → commands n (g ∷ gs) cs ≡ commands n gs cs
unfolding commands starts_at
started n g gs [] h = ap (λ (b : Bool). cond b (hints g.stems ∷ starts_at n gs) (starts_at n gs)) (not_eq g.before n (λ e. let z : ⊥ = omega arith in z))
started n g gs (c ∷ cs) h =
    ap (λ (b : Bool). cond b (hints g.stems ∷ starts_at n gs) (starts_at n gs) ++ (shape c ∷ commands (suc n) (g ∷ gs) cs)) (not_eq g.before n (λ e. let z : ⊥ = omega arith in z))
    ∙ ap (λ (l : List Cmd). starts_at n gs ++ (shape c ∷ l)) (started (suc n) g gs cs (omega arith))

-- the groups that start here, then one entry, then the rest
one_entry : (ss : List Stem) (n : ℕ) (g : Group) (gs : List Group) (c : Command) (cs : List Command) → Rising n (g ∷ gs) (n + suc (length cs))
    → ((l : List Group) → Rising (suc n) l (suc n + length cs) → masks_from ss (suc n) (commands (suc n) l cs) ≡ group_masks ss l)
    → masks_from ss n (starts_at n (g ∷ gs) ++ (shape c ∷ commands (suc n) (g ∷ gs) cs)) ≡ group_masks ss (g ∷ gs)
unfolding starts_at Rising masks_from group_masks
one_entry ss n g gs c cs r on = go (eqb g.before n) (λ t. eqb→eq g.before n t) (λ t e. eqb_no g.before n t e)
  where
    eqb_no : (a b : ℕ) → T (not (eqb a b)) → a ≡ b → ⊥
    eqb_no a b t e = subst (λ (x : Bool). T (not x)) (is_eq a b e) t

    end : (l : List Group) (k : ℕ) → Rising k l (n + suc (length cs)) → Rising k l (suc n + length cs)
    end l k q = subst (Rising k l) (let z : n + suc (length cs) ≡ suc n + length cs = omega arith in z) q

    here : g.before ≡ n → masks_from ss n (starts_at n (g ∷ gs) ++ (shape c ∷ commands (suc n) (g ∷ gs) cs)) ≡ group_masks ss (g ∷ gs)
    here e =
        let q : Rising (suc n) gs (n + suc (length cs)) = subst (λ (k : ℕ). Rising (suc k) gs (n + suc (length cs))) e r.2 in
        ap (λ (b : Bool). masks_from ss n (cond b (hints g.stems ∷ starts_at n gs) (starts_at n gs) ++ (shape c ∷ commands (suc n) (g ∷ gs) cs))) (is_eq g.before n e)
        ∙ ap (λ (l : List Cmd). masks_from ss n (hints g.stems ∷ l ++ (shape c ∷ commands (suc n) (g ∷ gs) cs))) (none_starts n (suc n) gs (n + suc (length cs)) q (omega arith))
        ∙ ap (λ (l : List Cmd). record { bits = mask_of g.stems ss; before = n } ∷ masks_from ss (suc n) l) (started (suc n) g gs cs (omega arith))
        ∙ ap₂ (λ (k : ℕ) (l : List Mask). record { bits = mask_of g.stems ss; before = k } ∷ l) (sym e) (on gs (end gs (suc n) q))

    later : (g.before ≡ n → ⊥) → masks_from ss n (starts_at n (g ∷ gs) ++ (shape c ∷ commands (suc n) (g ∷ gs) cs)) ≡ group_masks ss (g ∷ gs)
    later h =
        let q : Rising (suc n) (g ∷ gs) (n + suc (length cs)) = (above g.before r.0 h, r.1, r.2) in
        ap (λ (l : List Cmd). masks_from ss n (l ++ (shape c ∷ commands (suc n) (g ∷ gs) cs))) (none_starts n (suc n) (g ∷ gs) (n + suc (length cs)) q (omega arith))
        ∙ on (g ∷ gs) (end (g ∷ gs) (suc n) q)
      where
        above : (m : ℕ) → n ≤ m → (m ≡ n → ⊥) → suc n ≤ m
        above m a b = lt_of_not-le (λ (k : m ≤ n). b (let z : m ≡ n = omega arith in z))

    go : (b : Bool) → (T b → g.before ≡ n) → (T (not b) → g.before ≡ n → ⊥) → masks_from ss n (starts_at n (g ∷ gs) ++ (shape c ∷ commands (suc n) (g ∷ gs) cs)) ≡ group_masks ss (g ∷ gs)
    go true f h = here (f tt)
    go false f h = later (h tt)

pub commands_masks : (ss : List Stem) (n : ℕ) (gs : List Group) (cs : List Command) → Rising n gs (n + length cs) → masks_from ss n (commands n gs cs) ≡ group_masks ss gs
unfolding commands starts_at Rising masks_from group_masks
commands_masks ss n [] [] r = refl
commands_masks ss n (g ∷ gs) [] r = absurd (let a = r.0 in let b = r.1 in let z : ⊥ = omega arith in z)
commands_masks ss n [] (c ∷ cs) r = commands_masks ss (suc n) [] cs tt
commands_masks ss n (g ∷ gs) (c ∷ cs) r = one_entry ss n g gs c cs r (λ l q. commands_masks ss (suc n) l cs q)
