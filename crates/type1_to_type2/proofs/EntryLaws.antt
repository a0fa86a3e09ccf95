-- Laws: the stores' entries are the drawn list with each group's start where it stands. Assumes nothing.
use mathlib.Core.Path.{◌≡◌, refl, sym, ◌∙◌, ap, ap₂, subst}
use Prim.Native.Nat.{ℕ, zero, suc, ◌+◌, ◌<◌, ◌≤◌}
use native.Mathlib.Omega.{arith}
use mathlib.Core.Bool.{Bool, true, false, cond}
use mathlib.Core.List.{List, [], ◌∷◌, ◌++◌, append-nil, append_assoc}
use lib.ListN.{length, take, drop, length-append}
use lib.Dec.{T, eqb, eqb→eq, eqb_refl}
use Rattle.folding.specs.declared.Fold.{Fold}
use Rattle.outline.specs.declared.Stem.{Stem}
use Rattle.outline.specs.Outline.{Command, Group, pick}
use Rattle.outline.specs.Store.{word, command_in, drawn_in, group_in, groups_in}
use Rattle.type1.specs.Sound.{All}
use Rattle.folding.specs.Folding.{folded_command, folded_list, folded_stems, folded_group, folded_groups}
use Rattle.type1_to_type2.specs.Stems.{all_stems}
use Rattle.type1_to_type2.specs.Emission.{Cmd, hints, shape, starts_at, commands}
use Rattle.type1_to_type2.specs.Streaming.{cmds_in, shapes}
use Rattle.type1_to_type2.specs.Collecting.{first_of, count_of}
use Rattle.type1_to_type2.specs.Passes.{group_at, stems_to, cmds_from}
use Rattle.type1_to_type2.specs.Entry.{group_count}
use Rattle.type1_to_type2.proofs.Folds.{folded-none, groups-join, all_join}

no_eqb : (a b : ℕ) → (a ≡ b → ⊥) → eqb a b ≡ false
no_eqb a b h = go (eqb a b) refl
  where
    go : (c : Bool) → eqb a b ≡ c → c ≡ false
    go true e = absurd (h (eqb→eq a b (subst T (sym e) tt)))
    go false e = refl

eqb_same : (a : ℕ) → eqb a a ≡ true
eqb_same a = go (eqb a a) (eqb_refl a)
  where
    go : (b : Bool) → T b → b ≡ true
    go true t = refl
    go false t = absurd t

-- ---- the groups' numbers are at most n
abbrev AtMost : ℕ → List Group → Type 0
AtMost n gs = All (λ (g : Group). g.before ≤ n) gs

at_most_more : (n k : ℕ) (gs : List Group) → n ≤ k → AtMost n gs → AtMost k gs
unfolding All
at_most_more n k [] h a = tt
at_most_more n k (g ∷ gs) h a = (let z = a.0 in omega (arith, h, z), at_most_more n k gs h a.1)

at_most_end : (n : ℕ) (gs hs : List Group) → AtMost n gs → AtMost n hs → AtMost n (gs ++ hs)
unfolding All
at_most_end n [] hs a b = b
at_most_end n (g ∷ gs) hs a b = (a.0, at_most_end n gs hs a.1 b)

starts_none : (n k : ℕ) (gs : List Group) → AtMost n gs → n < k → starts_at k gs ≡ []
unfolding starts_at All
starts_none n k [] a h = refl
starts_none n k (g ∷ gs) a h = rw (no_eqb g.before k (λ (e : g.before ≡ k). let z = a.0 in let y : ⊥ = omega (arith, h, z, e) in y)) (starts_none n k gs a.1 h)

starts_end : (k : ℕ) (gs hs : List Group) → starts_at k (gs ++ hs) ≡ starts_at k gs ++ starts_at k hs
unfolding starts_at
starts_end k [] hs = refl
starts_end k (g ∷ gs) hs = go (eqb g.before k) (starts_end k gs hs)
  where
    go : (b : Bool) → starts_at k (gs ++ hs) ≡ starts_at k gs ++ starts_at k hs → cond b (hints g.stems ∷ starts_at k (gs ++ hs)) (starts_at k (gs ++ hs)) ≡ cond b (hints g.stems ∷ starts_at k gs) (starts_at k gs) ++ starts_at k hs
    go true e = ap (λ (x : List Cmd). hints g.stems ∷ x) e
    go false e = e

starts_here : (k : ℕ) (g : Group) → g.before ≡ k → starts_at k (g ∷ []) ≡ hints g.stems ∷ []
unfolding starts_at
starts_here k g e = rw (subst (λ (n : ℕ). eqb g.before n ≡ true) e (eqb_same g.before)) refl

starts_not : (k : ℕ) (g : Group) → (g.before ≡ k → ⊥) → starts_at k (g ∷ []) ≡ []
unfolding starts_at
starts_not k g h = rw (no_eqb g.before k h) refl

-- a command more, or a group more
command_end : (gs : List Group) (c : Command) (ds : List Command) (k : ℕ) → AtMost (k + length ds) gs → commands k gs (ds ++ (c ∷ [])) ≡ commands k gs ds ++ (shape c ∷ [])
unfolding commands
command_end gs c [] k a = ap (λ (x : List Cmd). starts_at k gs ++ (shape c ∷ x)) (starts_none (k + 0) (suc k) gs a (omega arith))
command_end gs c (d ∷ ds) k a =
    ap (λ (x : List Cmd). starts_at k gs ++ (shape d ∷ x)) (command_end gs c ds (suc k) (subst (λ (n : ℕ). AtMost n gs) (let z : k + suc (length ds) ≡ suc k + length ds = omega arith in z) a))
    ∙ sym (append_assoc (starts_at k gs) (shape d ∷ commands (suc k) gs ds) (shape c ∷ []))

group_end : (gs : List Group) (g : Group) (ds : List Command) (k : ℕ) → g.before ≡ k + length ds → commands k (gs ++ (g ∷ [])) ds ≡ commands k gs ds ++ (hints g.stems ∷ [])
unfolding commands
group_end gs g [] k e = starts_end k gs (g ∷ []) ∙ ap (λ (x : List Cmd). starts_at k gs ++ x) (starts_here k g (let z : g.before ≡ k = omega (arith, e) in z))
group_end gs g (d ∷ ds) k e =
    ap₂ (λ (x y : List Cmd). x ++ (shape d ∷ y)) (starts_end k gs (g ∷ []) ∙ ap (λ (x : List Cmd). starts_at k gs ++ x) (starts_not k g (λ (q : g.before ≡ k). let z : ⊥ = omega (arith, e, q) in z)) ∙ append-nil (starts_at k gs))
    (group_end gs g ds (suc k) (let z : g.before ≡ suc k + length ds = omega (arith, e) in z))
    ∙ sym (append_assoc (starts_at k gs) (shape d ∷ commands (suc k) gs ds) (hints g.stems ∷ []))

-- ---- folded lists, one more
pub list_end : (fold : Fold) (cs ds : List Command) → folded_list fold (cs ++ ds) ≡ folded_list fold cs ++ folded_list fold ds
unfolding folded_list
list_end fold [] ds = refl
list_end fold (c ∷ cs) ds = ap (λ (x : List Command). folded_command fold c ∷ x) (list_end fold cs ds)

list_length : (fold : Fold) (cs : List Command) → length (folded_list fold cs) ≡ length cs
unfolding folded_list
list_length fold [] = refl
list_length fold (c ∷ cs) = ap suc (list_length fold cs)

groups-length : (fold : Fold) (gs : List Group) → length (folded_groups fold gs) ≡ length gs
unfolding folded_groups
groups-length fold [] = refl
groups-length fold (g ∷ gs) = ap suc (groups-length fold gs)

groups_at_most : (fold : Fold) (n : ℕ) (gs : List Group) → AtMost n gs → AtMost n (folded_groups fold gs)
unfolding folded_groups All
groups_at_most fold n [] a = tt
groups_at_most fold n (g ∷ gs) a = (a.0, groups_at_most fold n gs a.1)

-- ---- entries
module _ (fold : Fold) (c : List ℕ) (z : List Stem) where
  cmds_end : (e n : ℕ) → cmds_from fold c z e (suc n) ≡ cmds_from fold c z e n ++ cmds_in fold c (e + n) (group_at fold c z (e + n))
  unfolding cmds_from
  cmds_end e zero = append-nil _ ∙ ap (λ (k : ℕ). cmds_in fold c k (group_at fold c z k)) (let q : e ≡ e + 0 = omega arith in q)
  cmds_end e (suc n) =
      ap (λ (x : List Cmd). cmds_in fold c e (group_at fold c z e) ++ x) (cmds_end (suc e) n ∙ ap (λ (k : ℕ). cmds_from fold c z (suc e) n ++ cmds_in fold c k (group_at fold c z k)) (let q : suc e + n ≡ e + suc n = omega arith in q))
      ∙ sym (append_assoc (cmds_in fold c e (group_at fold c z e)) (cmds_from fold c z (suc e) n) (cmds_in fold c (e + suc n) (group_at fold c z (e + suc n))))

  groups-below : (n : ℕ) → AtMost (length (drawn_in n c)) (groups_in n c z)
  unfolding groups_in drawn_in All group_in
  groups-below zero = tt
  groups-below (suc n) =
      let l = length-append (drawn_in n c) (command_in c n) in
      at_most_end (length (drawn_in n c ++ command_in c n)) (groups_in n c z) (group_in c z n (length (drawn_in n c))) (at_most_more (length (drawn_in n c)) (length (drawn_in n c ++ command_in c n)) (groups_in n c z) (omega (arith, l)) (groups-below n))
      (one n (length (drawn_in n c)) (length (drawn_in n c ++ command_in c n)) (omega (arith, l)))
    where
      one : (e k j : ℕ) → k ≤ j → AtMost j (group_in c z e k)
      one e k j h = go (eqb (word c e 0) 5)
        where
          go : (b : Bool) → AtMost j (pick b (record { stems = take (word c e 2) (drop (word c e 1) z); before = k } ∷ []) [])
          go true = (h, tt)
          go false = tt

  -- the kind of an entry: a group's start, or a command, or nothing
  abbrev whole : ℕ → List Cmd
  whole n = commands 0 (folded_groups fold (groups_in n c z)) (folded_list fold (drawn_in n c))

  group_stems : (e : ℕ) → eqb (word c e 0) 5 ≡ true → group_at fold c z e ≡ folded_stems fold (take (word c e 2) (drop (word c e 1) z))
  unfolding group_at first_of count_of
  group_stems e q = ap₂ (λ (a b : ℕ). folded_stems fold (take b (drop a z))) (ap (λ (b : Bool). cond b (word c e 1) 0) q) (ap (λ (b : Bool). cond b (word c e 2) 0) q)

  no_command : (e : ℕ) → eqb (word c e 0) 5 ≡ true → command_in c e ≡ []
  unfolding command_in
  no_command e q = let is = eqb→eq (word c e 0) 5 (subst T (sym q) tt) in rw is refl

  shapes_end : (gs : List Group) (cs ds : List Command) → AtMost (length ds) gs → commands 0 gs (ds ++ folded_list fold cs) ≡ commands 0 gs ds ++ shapes fold cs
  unfolding folded_list
  shapes_end gs [] ds a = ap (commands 0 gs) (append-nil ds) ∙ sym (append-nil (commands 0 gs ds))
  shapes_end gs (x ∷ cs) ds a =
      let l = length-append ds (folded_command fold x ∷ []) in
      ap (commands 0 gs) (sym (append_assoc ds (folded_command fold x ∷ []) (folded_list fold cs)))
      ∙ shapes_end gs cs (ds ++ (folded_command fold x ∷ [])) (at_most_more (length ds) (length (ds ++ (folded_command fold x ∷ []))) gs (omega (arith, l)) a)
      ∙ ap (λ (y : List Cmd). y ++ shapes fold cs) (command_end gs (folded_command fold x) ds 0 (subst (λ (k : ℕ). AtMost k gs) (let q : length ds ≡ 0 + length ds = omega arith in q) a))
      ∙ append_assoc (commands 0 gs ds) (shape (folded_command fold x) ∷ []) (shapes fold cs)

  group_case : (n : ℕ) → eqb (word c n 0) 5 ≡ true
      → commands 0 (folded_groups fold (groups_in n c z ++ (record { stems = take (word c n 2) (drop (word c n 1) z); before = length (drawn_in n c) } ∷ []))) (folded_list fold (drawn_in n c ++ command_in c n))
      ≡ whole n ++ (hints (group_at fold c z n) ∷ [])
  unfolding folded_groups
  group_case n q =
      let g : Group = record { stems = take (word c n 2) (drop (word c n 1) z); before = length (drawn_in n c) } in
      ap₂ (λ (x : List Group) (y : List Command). commands 0 x y) (groups-join fold (groups_in n c z) (g ∷ [])) (ap (folded_list fold) (ap (λ (x : List Command). drawn_in n c ++ x) (no_command n q) ∙ append-nil (drawn_in n c)))
      ∙ group_end (folded_groups fold (groups_in n c z)) (folded_group fold g) (folded_list fold (drawn_in n c)) 0 (let l = list_length fold (drawn_in n c) in let r : length (drawn_in n c) ≡ 0 + length (folded_list fold (drawn_in n c)) = omega (arith, l) in r)
      ∙ ap (λ (x : List Stem). whole n ++ (hints x ∷ [])) (sym (group_stems n q))

  command_case : (n : ℕ) → commands 0 (folded_groups fold (groups_in n c z ++ [])) (folded_list fold (drawn_in n c ++ command_in c n)) ≡ whole n ++ shapes fold (command_in c n)
  command_case n =
      ap₂ (λ (x : List Group) (y : List Command). commands 0 (folded_groups fold x) y) (append-nil (groups_in n c z)) (list_end fold (drawn_in n c) (command_in c n))
      ∙ shapes_end (folded_groups fold (groups_in n c z)) (command_in c n) (folded_list fold (drawn_in n c)) (subst (λ (k : ℕ). AtMost k (folded_groups fold (groups_in n c z))) (sym (list_length fold (drawn_in n c))) (groups_at_most fold (length (drawn_in n c)) (groups_in n c z) (groups-below n)))

  entry_end : (n : ℕ) → whole (suc n) ≡ whole n ++ cmds_in fold c n (group_at fold c z n)
  unfolding groups_in drawn_in group_in cmds_in
  entry_end n = go (eqb (word c n 0) 5) refl
    where
      go : (b : Bool) → eqb (word c n 0) 5 ≡ b
          → commands 0 (folded_groups fold (groups_in n c z ++ pick b (record { stems = take (word c n 2) (drop (word c n 1) z); before = length (drawn_in n c) } ∷ []) [])) (folded_list fold (drawn_in n c ++ command_in c n))
          ≡ whole n ++ pick b (hints (group_at fold c z n) ∷ []) (shapes fold (command_in c n))
      go true q = group_case n q
      go false q = command_case n

  pub commands_are : (n : ℕ) → cmds_from fold c z 0 n ≡ commands 0 (folded_groups fold (groups_in n c z)) (folded_list fold (drawn_in n c))
  unfolding cmds_from
  commands_are zero = unfold groups_in drawn_in folded_groups folded_list commands starts_at in refl
  commands_are (suc n) = cmds_end 0 n ∙ ap (λ (k : ℕ). cmds_from fold c z 0 n ++ cmds_in fold c k (group_at fold c z k)) (let q : 0 + n ≡ n = omega arith in q) ∙ ap (λ (x : List Cmd). x ++ cmds_in fold c n (group_at fold c z n)) (commands_are n) ∙ sym (entry_end n)

  -- the stems of every group
  group_all : (n : ℕ) → all_stems (folded_groups fold (group_in c z n (length (drawn_in n c)))) ≡ group_at fold c z n
  unfolding group_in
  group_all n = go (eqb (word c n 0) 5) refl
    where
      none : all_stems (folded_groups fold []) ≡ []
      none = unfold all_stems folded_groups in refl

      one : (g : Group) → all_stems (folded_groups fold (g ∷ [])) ≡ folded_stems fold g.stems
      one g = unfold all_stems folded_groups in append-nil (folded_stems fold g.stems)

      nothing : eqb (word c n 0) 5 ≡ false → [] ≡ group_at fold c z n
      nothing q = unfold group_at first_of count_of in sym (ap₂ (λ (a b : ℕ). folded_stems fold (take b (drop a z))) (ap (λ (b : Bool). cond b (word c n 1) 0) q) (ap (λ (b : Bool). cond b (word c n 2) 0) q) ∙ folded-none fold)

      go : (b : Bool) → eqb (word c n 0) 5 ≡ b → all_stems (folded_groups fold (pick b (record { stems = take (word c n 2) (drop (word c n 1) z); before = length (drawn_in n c) } ∷ []) [])) ≡ group_at fold c z n
      go true q = one (record { stems = take (word c n 2) (drop (word c n 1) z); before = length (drawn_in n c) }) ∙ sym (group_stems n q)
      go false q = none ∙ nothing q

  pub stems_are : (n : ℕ) → stems_to fold c z n ≡ all_stems (folded_groups fold (groups_in n c z))
  unfolding stems_to groups_in
  stems_are zero = unfold folded_groups all_stems in refl
  stems_are (suc n) =
      ap₂ (λ (x y : List Stem). x ++ y) (stems_are n) (sym (group_all n))
      ∙ sym (all_join (folded_groups fold (groups_in n c z)) (folded_groups fold (group_in c z n (length (drawn_in n c)))))
      ∙ ap all_stems (sym (groups-join fold (groups_in n c z) (group_in c z n (length (drawn_in n c)))))

  pub count_is : (n : ℕ) → group_count n c ≡ length (folded_groups fold (groups_in n c z))
  unfolding group_count groups_in group_in
  count_is zero = sym (groups-length fold [])
  count_is (suc n) =
      ap₂ ◌+◌ (count_is n ∙ groups-length fold (groups_in n c z)) (go (eqb (word c n 0) 5))
      ∙ sym (length-append (groups_in n c z) (pick (eqb (word c n 0) 5) (record { stems = take (word c n 2) (drop (word c n 1) z); before = length (drawn_in n c) } ∷ []) []))
      ∙ sym (groups-length fold (groups_in n c z ++ pick (eqb (word c n 0) 5) (record { stems = take (word c n 2) (drop (word c n 1) z); before = length (drawn_in n c) } ∷ []) []))
    where
      go : (b : Bool) → pick b 1 0 ≡ length {A = Group} (pick b (record { stems = take (word c n 2) (drop (word c n 1) z); before = length (drawn_in n c) } ∷ []) [])
      go true = refl
      go false = refl
