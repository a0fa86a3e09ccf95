-- Laws: what the parts of `convert_run` answer is the conversion of what the run has left. Assumes nothing.
use mathlib.Core.Path.{◌≡◌, refl, sym, ◌∙◌, ap, ap₂, subst}
use Prim.Native.Nat.{ℕ, zero, suc, ◌+◌, ◌<◌, ◌≤◌}
use native.Mathlib.Omega.{arith}
use mathlib.Core.Bool.{Bool, true, false, not, ◌&&◌, cond, true≢false}
use mathlib.Core.List.{List, [], ◌∷◌, ◌++◌}
use lib.ListN.{length, replicate, length-replicate}
use lib.Dec.{T, eqb, eqb-suc-zero, ltb, ltb→lt, nltb→le}
use lib.Ieee.{Float}
use lib.Ieee.Scale.{finite}
use Rattle.geometry.specs.declared.Matrix.{Matrix}
use Rattle.folding.specs.declared.Fold.{Fold}
use Rattle.outline.specs.declared.Stem.{Stem}
use Rattle.type1.specs.declared.Reading.{Reading}
use Rattle.type1.specs.declared.Interpreted.{Interpreted}
use Rattle.outline.specs.Outline.{Command, Group, pick, plus_zero, zero_stem}
use borrow.Author.Tests.{ne_eqb}
use Rattle.outline.specs.Store.{command_in, drawn_in, groups_in}
use Rattle.type1.specs.State.{State}
use Rattle.type1.specs.Run as Run
use Rattle.type1.specs.Run.{Outcome}
use Rattle.type1.specs.Interpret.{Source, outcome, Left, refused_with, Leaves}
use Rattle.type1.specs.Sound.{All, OfCommand}
use Rattle.type1.specs.Memory.{Good}
use Rattle.type1_to_type2.specs.declared.Collected.{Collected}
use Rattle.type1_to_type2.specs.declared.Plan.{Plan}
use Rattle.type1_to_type2.specs.declared.Writer.{Writer}
use Rattle.type1_to_type2.specs.declared.Type2Glyph.{Type2Glyph}
use Rattle.folding.specs.Folding as Folding
use Rattle.folding.specs.Folding.{finite_matrix, fold_of, folded_width, folded_list, folded_groups, finite_list, finite_groups}
use Rattle.type2.specs.Bools.{yes}
use Rattle.type1_to_type2.specs.Stems.{Declared, declared, all_stems}
use Rattle.type1_to_type2.specs.Emission.{Cmd, items, commands, program}
use Rattle.type1_to_type2.specs.Writing as Writing
use Rattle.type1_to_type2.specs.Writing.{Written, write}
use Rattle.type1_to_type2.specs.Convert as Convert
use Rattle.type1_to_type2.specs.Convert.{folds_finite, Glyph, glyph_of, Conversion, instructions, writes, folded, ended, rooms_of, convert, answer, output}
use Rattle.type1_to_type2.specs.Table.{table_stems}
use Rattle.type1_to_type2.specs.Collecting.{Ascending, Collects, Counted, none_collected}
use Rattle.type1_to_type2.specs.Streaming.{point_of, resumed, streamed, resumed_all}
use Rattle.type1_to_type2.specs.Passes.{both, BothTables, Gathers, stems_to, cmds_from, Stored}
use Rattle.type1_to_type2.specs.Entry.{group_count, none_of, tables, Declares, Planned, nothing_planned, Opens, left_state, from_run, settles, told, Gives, GivesAfter, Answers, ConvertsFrom, first_number}
use Rattle.std.specs.Prelude.{Result, Ok, Err, IfOk, is_ok, IsErr, MatchResult}
use Rattle.std.specs.Result.{result_and, result_unwrap_or}
use Rattle.refusal.specs.declared.Refusal.{Refusal}
use Rattle.refusal.specs.declared.Refusal.TheVariants.{NotFinite}
use Rattle.refusal.specs.Refusal as Refusals
use Rattle.type1_to_type2.specs.Fine.{written-finite}
use Rattle.type1_to_type2.specs.Nonzero.{folded_nonzero}
use Rattle.type1_to_type2.proofs.Folds.{finite_all}
use Rattle.type1_to_type2.proofs.Ordering.{collects_first, collects_group}
use Rattle.type1_to_type2.proofs.EntryLaws.{commands_are, stems_are, count_is}

and_right : (a b : Bool) → (a && b) ≡ true → b ≡ true
and_right true b e = e
and_right false true e = refl
and_right false false e = e

nothing_left : (masked : Bool) (ss : List Stem) (w : Writer) (out : List ℕ) → resumed_all false [] w out [] ≡ resumed_all masked ss w out []
unfolding items
nothing_left true ss w out = refl
nothing_left false ss w out = refl

pub few_none : (k : ℕ) (c : Collected) → c ≡ none_of k → Counted c
few_none k c e = subst Counted (sym e) (record { across = omega arith; upright = omega arith })

-- by whether the width, the points and the stems are finite: what is written was then not refused
settled : (f s points : Bool) (x y : Written) (v : List ℕ → Glyph) → (f && s) ≡ true → x ≡ y → ((c : List ℕ) → y ≡ Writing.wrote c → points ≡ true)
    → settles points (writes v x) ≡ pick (f && (points && s)) (writes v y) (Convert.refused 14)
settled true true points x y v e h g = ap (λ (z : Written). settles points (writes v z)) h ∙ late points y g
  where
    late : (points : Bool) (y : Written) → ((c : List ℕ) → y ≡ Writing.wrote c → points ≡ true) → settles points (writes v y) ≡ pick (points && true) (writes v y) (Convert.refused 14)
    late true (Writing.refused j) g = refl
    late true (Writing.wrote c) g = refl
    late false (Writing.refused j) g = refl
    late false (Writing.wrote c) g = absurd (true≢false (sym (g c refl)))
settled true false points x y v e h g = absurd (true≢false (sym e))
settled false s points x y v e h g = absurd (true≢false (sym e))

not_settled : (f s points : Bool) (x : Conversion) → (f && s) ≡ false → pick (f && (points && s)) x (Convert.refused 14) ≡ Convert.refused 14
not_settled true true points x e = absurd (true≢false e)
not_settled true false true x e = refl
not_settled true false false x e = refl
not_settled false s points x e = refl

module _ (m : Matrix) (fold : Fold) (made : fold ≡ fold_of m) (r : Interpreted) (c : List ℕ) (z : List Stem) (room : ℕ) where
  abbrev gs : List Group
  gs = folded_groups fold (groups_in r.entries c z)

  -- what `folded` says, by what is folded by
  abbrev folds : Fold → Conversion
  folds by =
      let gs = folded_groups by (groups_in r.entries c z) in
      let ds = folded_list by (drawn_in r.entries c) in
      let w = folded_width m r.width in
      pick (finite w && (finite_list ds && finite_groups gs)) (writes (glyph_of w r.ran) (write (program (declared gs) (commands 0 gs ds)) room)) (Convert.refused 14)

  from_made : folded m room (left_state r c z) ≡ folds (fold_of m)
  unfolding folded folds_finite instructions
  from_made = refl

  -- what was collected of all groups, and the tables of the plan
  collected_all : (k : ℕ) (c₀ cc : Collected) (l : List Stem) (ta tu ta₁ tu₁ : List Float) → length ta ≡ 192 → length tu ≡ 192 → c₀ ≡ none_of k → Gathers l c₀ ta tu cc ta₁ tu₁ → Collects l cc ta₁ tu₁
  collected_all k c₀ cc l ta tu ta₁ tu₁ la lu e₀ G = G.0 [] (subst (λ (x : Collected). Collects [] x ta tu) (sym e₀) (collects_group none_collected k ta tu [] (collects_first ta tu la lu)))

  pub run-tables : (k : ℕ) (c₀ cc : Collected) (l : List Stem) (ta tu ta₁ tu₁ : List Float) (p : Plan) → length ta ≡ 192 → length tu ≡ 192 → c₀ ≡ none_of k → Gathers l c₀ ta tu cc ta₁ tu₁ → Planned cc m r.width p → BothTables p.across p.upright ta₁ tu₁
  run-tables k c₀ cc l ta tu ta₁ tu₁ p la lu e₀ G P = P.order l ta₁ tu₁ (collected_all k c₀ cc l ta tu ta₁ tu₁ la lu e₀ G)

  -- the stems that were collected are finite where all groups are
  same_stems : (k : ℕ) (c₀ cc : Collected) (ta tu ta₁ tu₁ : List Float) → length ta ≡ 192 → length tu ≡ 192 → c₀ ≡ none_of k → Gathers (stems_to fold c z r.entries) c₀ ta tu cc ta₁ tu₁ → cc.finite ≡ finite_groups gs
  same_stems k c₀ cc ta tu ta₁ tu₁ la lu e₀ G =
      let C = collected_all k c₀ cc (stems_to fold c z r.entries) ta tu ta₁ tu₁ la lu e₀ G in
      let C' : Collects (all_stems gs) cc ta₁ tu₁ = subst (λ (x : List Stem). Collects x cc ta₁ tu₁) (stems_are fold c z r.entries) C in
      C'.fine ∙ sym (finite_all gs)

  -- no plan: the width or a stem is not finite
  pub run_refused : (k : ℕ) (c₀ cc : Collected) (ta tu ta₁ tu₁ : List Float) (e : Refusal) (out : List ℕ)
      → length ta ≡ 192 → length tu ≡ 192 → c₀ ≡ none_of k → Gathers (stems_to fold c z r.entries) c₀ ta tu cc ta₁ tu₁ → e ≡ NotFinite → (finite (folded_width m r.width) && cc.finite) ≡ false → out ≡ replicate room 0
      → Gives (folded m room (left_state r c z)) room (Err e) out
  run_refused k c₀ cc ta tu ta₁ tu₁ e out la lu e₀ G ee not zeros =
      let s = same_stems k c₀ cc ta tu ta₁ tu₁ la lu e₀ G in
      let ds = folded_list fold (drawn_in r.entries c) in
      let x : folded m room (left_state r c z) ≡ Convert.refused 14 =
      from_made ∙ ap folds (sym made) ∙ not_settled (finite (folded_width m r.width)) (finite_groups gs) (finite_list ds) (writes (glyph_of (folded_width m r.width) r.ran) (write (program (declared gs) (commands 0 gs ds)) room)) (ap (λ (b : Bool). finite (folded_width m r.width) && b) (sym s) ∙ not) in
      record { glyph = ap (λ (i : Refusal). told (Err i)) ee ∙ ap answer (sym x); bytes = zeros ∙ ap (output room) (sym x); same = ap length zeros ∙ length-replicate room 0 }

  pub run_answers : (k : ℕ) (c₀ cc : Collected) (ta tu ta₁ tu₁ : List Float) (p : Plan) (w v : Writer) (out₁ out₂ out₃ : List ℕ) (g : Result Type2Glyph Refusal) (z' : List Stem)
      → length ta ≡ 192 → length tu ≡ 192 → k ≡ group_count r.entries c → c₀ ≡ none_of k → Gathers (stems_to fold c z r.entries) c₀ ta tu cc ta₁ tu₁ → Planned cc m r.width p → Declares p.masked p.across p.upright ta₁ tu₁ room w out₁ → z' ≡ z
      → resumed_all p.masked (both p.across p.upright ta₁ tu₁) v out₂ [] ≡ resumed_all p.masked (both p.across p.upright ta₁ tu₁) w out₁ (cmds_from fold c z' 0 r.entries) → length out₂ ≡ room
      → Gives (settles (finite_list (folded_list fold (drawn_in r.entries c))) (writes (glyph_of p.width r.ran) (resumed_all false [] v out₂ []))) (length out₂) g out₃ → Gives (folded m room (left_state r c z)) room g out₃
  run_answers k c₀ cc ta tu ta₁ tu₁ p w v out₁ out₂ out₃ g z' la lu K e₀ G P B ez e l A =
      let C = collected_all k c₀ cc (stems_to fold c z r.entries) ta tu ta₁ tu₁ la lu e₀ G in
      let C' : Collects (all_stems gs) cc ta₁ tu₁ = subst (λ (x : List Stem). Collects x cc ta₁ tu₁) (stems_are fold c z r.entries) C in
      let fw = finite (folded_width m r.width) in
      let ds = folded_list fold (drawn_in r.entries c) in
      let same : (fw && cc.finite) ≡ (fw && finite_groups gs) = ap (λ (x : Bool). fw && x) (C'.fine ∙ sym (finite_all gs)) in
      let counted : cc.groups ≡ length gs = G.1.0 ∙ ap (λ (x : Collected). x.groups) e₀ ∙ K ∙ count_is fold c z r.entries in
      let left = nothing_left p.masked (both p.across p.upright ta₁ tu₁) v out₂ ∙ e ∙ ap (λ (x : List Stem). resumed_all p.masked (both p.across p.upright ta₁ tu₁) w out₁ (cmds_from fold c x 0 r.entries)) ez ∙ B (cmds_from fold c z 0 r.entries) in
      let x : settles (finite_list ds) (writes (glyph_of p.width r.ran) (resumed_all false [] v out₂ [])) ≡ folded m room (left_state r c z) =
      ap₂ (λ (a : Float) (b : Written). settles (finite_list ds) (writes (glyph_of a r.ran) b)) P.width_is left
      ∙ settled fw (finite_groups gs) (finite_list ds) (write (program (tables p ta₁ tu₁) (cmds_from fold c z 0 r.entries)) room) (write (program (declared gs) (commands 0 gs ds)) room) (glyph_of (folded_width m r.width) r.ran)
      (sym same ∙ P.fine)
      (ap₂ (λ (d : Declared) (cs : List Cmd). write (program d cs) room) (sym (P.stems gs ta₁ tu₁ C' counted)) (commands_are fold c z r.entries))
      (λ b q. yes (finite_list ds) (written-finite (declared gs) gs ds room b q))
      ∙ ap folds made ∙ sym from_made in
      record { glyph = A.glyph ∙ ap answer x; bytes = A.bytes ∙ ap₂ output l x; same = A.same ∙ l }

  -- what `make_plan` answers of the stems collected
  abbrev Made : Collected → Result Plan Refusal → Type 0
  Made cc made = MatchResult made (Planned cc m r.width) (λ e. (e ≡ NotFinite) × ((finite (folded_width m r.width) && cc.finite) ≡ false))

  -- a plan that was not refused, and nothing planned, are written in order
  pub planned-few : (cc : Collected) (early : Result (Unit {0}) Refusal) (made planned : Result Plan Refusal) → planned ≡ result_and early made → Made cc made → IfOk planned (λ p. p.across + p.upright ≤ 96)
  planned-few cc early made planned e M = rw e (go early made M)
    where
      go : (early : Result (Unit {0}) Refusal) (made : Result Plan Refusal) → Made cc made → IfOk (result_and early made) (λ p. p.across + p.upright ≤ 96)
      go (Err x) made M = tt
      go (Ok u) (Ok p) M = M.few
      go (Ok u) (Err x) M = tt

  pub planned-tables : (k : ℕ) (c₀ cc : Collected) (l : List Stem) (ta tu ta₁ tu₁ : List Float) (early : Result (Unit {0}) Refusal) (made planned : Result Plan Refusal) (p : Plan) → length ta ≡ 192 → length tu ≡ 192 → c₀ ≡ none_of k → Gathers l c₀ ta tu cc ta₁ tu₁
      → planned ≡ result_and early made → p ≡ result_unwrap_or planned nothing_planned → Made cc made → BothTables p.across p.upright ta₁ tu₁
  planned-tables k c₀ cc l ta tu ta₁ tu₁ early made planned p la lu e₀ G e q M =
      subst (λ (x : Plan). BothTables x.across x.upright ta₁ tu₁) (sym (q ∙ ap (λ (x : Result Plan Refusal). result_unwrap_or x nothing_planned) e)) (go early made M)
    where
      none : BothTables 0 0 ta₁ tu₁
      none = unfold Ascending table_stems in record { few = omega arith; across = tt; upright = tt }

      go : (early : Result (Unit {0}) Refusal) (made : Result Plan Refusal) → Made cc made → let x = result_unwrap_or (result_and early made) nothing_planned in BothTables x.across x.upright ta₁ tu₁
      go (Err x) made M = none
      go (Ok u) (Ok p) M = run-tables k c₀ cc l ta tu ta₁ tu₁ p la lu e₀ G M
      go (Ok u) (Err x) M = none

  -- a refusal, given early or by the plan, is kept
  pub run_after : (k : ℕ) (c₀ cc : Collected) (ta tu ta₁ tu₁ : List Float) (early : Result (Unit {0}) Refusal) (made planned : Result Plan Refusal) (p : Plan) (w v : Writer) (out₁ out₂ out₃ : List ℕ) (done g : Result Type2Glyph Refusal) (z' : List Stem)
      → length ta ≡ 192 → length tu ≡ 192 → k ≡ group_count r.entries c → c₀ ≡ none_of k → Gathers (stems_to fold c z r.entries) c₀ ta tu cc ta₁ tu₁ → Made cc made → planned ≡ result_and early made → p ≡ result_unwrap_or planned nothing_planned
      → Opens planned ta₁ tu₁ room w out₁ → z' ≡ z
      → resumed_all p.masked (both p.across p.upright ta₁ tu₁) v out₂ [] ≡ resumed_all p.masked (both p.across p.upright ta₁ tu₁) w out₁ (cmds_from fold c z' 0 r.entries) → length out₂ ≡ room
      → Gives (settles (finite_list (folded_list fold (drawn_in r.entries c))) (writes (glyph_of p.width r.ran) (resumed_all false [] v out₂ []))) (length out₂) done out₃ → g ≡ result_and planned done
      → GivesAfter early (folded m room (left_state r c z)) room g out₃
  unfolding resumed
  run_after k c₀ cc ta tu ta₁ tu₁ early made planned p w v out₁ out₂ out₃ done g z' la lu K e₀ G M e q B ez t l A h =
      go early made M (subst (λ (x : Result Plan Refusal). Opens x ta₁ tu₁ room w out₁) e B) (q ∙ ap (λ (x : Result Plan Refusal). result_unwrap_or x nothing_planned) e) (h ∙ ap (λ (x : Result Plan Refusal). result_and x done) e)
    where
      -- nothing more is written
      zeros : (x : Refusal) → w.next ≡ Err x → out₃ ≡ replicate room 0
      zeros x B =
          let left : resumed_all false [] v out₂ [] ≡ Writing.refused (Refusals.number_of x) =
          nothing_left p.masked (both p.across p.upright ta₁ tu₁) v out₂ ∙ t ∙ ap (λ (n : Result ℕ Refusal). resumed n out₁ (streamed (items p.masked (both p.across p.upright ta₁ tu₁) (point_of w) (cmds_from fold c z' 0 r.entries)) w.waits w.held)) B in
          A.bytes ∙ ap₂ (λ (n : ℕ) (y : Written). output n (settles (finite_list (folded_list fold (drawn_in r.entries c))) (writes (glyph_of p.width r.ran) y))) l left

      go : (early : Result (Unit {0}) Refusal) (made : Result Plan Refusal) → Made cc made → Opens (result_and early made) ta₁ tu₁ room w out₁ → p ≡ result_unwrap_or (result_and early made) nothing_planned → g ≡ result_and (result_and early made) done
          → GivesAfter early (folded m room (left_state r c z)) room g out₃
      go (Err x) made M B q h = (h, zeros x B)
      go (Ok u) (Ok x) M B q h =
          subst (λ (y : Result Type2Glyph Refusal). Gives (folded m room (left_state r c z)) room y out₃) (sym h)
          (run_answers k c₀ cc ta tu ta₁ tu₁ p w v out₁ out₂ out₃ done z' la lu K e₀ G (subst (Planned cc m r.width) (sym q) M) (subst (λ (y : Plan). Declares y.masked y.across y.upright ta₁ tu₁ room w out₁) (sym q) B) ez t l A)
      go (Ok u) (Err x) M B q h =
          subst (λ (y : Result Type2Glyph Refusal). Gives (folded m room (left_state r c z)) room y out₃) (sym h) (run_refused k c₀ cc ta tu ta₁ tu₁ x out₃ la lu e₀ G M.0 M.1 (zeros x B))

-- what is told of a result
gives_answers : (x : Conversion) (room : ℕ) (g : Result Type2Glyph Refusal) (out : List ℕ) → Gives x room g out → Answers x room (told g) out
gives_answers x room g out G = record { glyph = G.glyph; bytes = G.bytes }

-- from a run that was not refused, and from one that was
from_run_on : (n : ℕ) (m : Matrix) (room : ℕ) (r : Interpreted) (c : List ℕ) (z : List Stem) → n ≡ 0 → folded m room (left_state r c z) ≡ from_run n m room r c z
unfolding from_run
from_run_on n m room r c z h = sym (ap (λ (k : ℕ). pick (eqb k 0) (folded m room (left_state r c z)) (Convert.refused k)) h)

from_run_refused : (n : ℕ) (m : Matrix) (room : ℕ) (r : Interpreted) (c : List ℕ) (z : List Stem) (out : List ℕ) → (n ≡ 0 → ⊥) → out ≡ replicate room 0 → Answers (from_run n m room r c z) room (record { number = n; len = 0; width = plus_zero; ran = 0 }) out
unfolding from_run
from_run_refused n m room r c z out h e =
    let q : from_run n m room r c z ≡ Convert.refused n = ap (λ (b : Bool). pick b (folded m room (left_state r c z)) (Convert.refused n)) (ne_eqb n 0 h) in
    record { glyph = ap answer (sym q); bytes = e ∙ ap (output room) (sym q) }

-- the number before comes first, if there is one
not_zero : (n : ℕ) → suc n ≡ 0 → ⊥
not_zero n e = let y : ⊥ = omega (arith, e) in y

none_before : (j : ℕ) → Folding.refusal 0 j true ≡ j
unfolding Folding.refusal
none_before j = refl

one_before : (n j : ℕ) → Folding.refusal (suc n) j true ≡ suc n
unfolding Folding.refusal
one_before n j = ap (λ (b : Bool). cond b j (suc n)) (ne_eqb (suc n) 0 (not_zero n))

-- with the number n so far, and what it is as a refusal
abbrev Early : ℕ → Result (Unit {0}) Refusal → Type 0
Early n early = (n ≡ 0 → early ≡ Ok tt) × ((n ≡ 0 → ⊥) → IsErr early)

module _ (m : Matrix) (room : ℕ) (r : Interpreted) (c : List ℕ) (z : List Stem) where
  pub told_glyph : (n : ℕ) (early : Result (Unit {0}) Refusal) (g : Type2Glyph) (out : List ℕ) → Early n early → GivesAfter early (folded m room (left_state r c z)) room (Ok g) out → Answers (from_run n m room r c z) room g out
  told_glyph zero early g out E G =
      subst (λ (x : Conversion). Answers x room g out) (from_run_on 0 m room r c z refl)
      (gives_answers (folded m room (left_state r c z)) room (Ok g) out (subst (λ (x : Result (Unit {0}) Refusal). GivesAfter x (folded m room (left_state r c z)) room (Ok g) out) (E.0 refl) G))
  told_glyph (suc n) early g out E G = absurd (kept early (E.1 (not_zero n)) G)
    where
      kept : (early : Result (Unit {0}) Refusal) → IsErr early → GivesAfter early (folded m room (left_state r c z)) room (Ok g) out → ⊥
      kept (Ok u) h G = true≢false (sym h)
      kept (Err e) h G = true≢false (ap is_ok G.0)

  -- k is the number that comes first
  pub told_refused : (n : ℕ) (early : Result (Unit {0}) Refusal) (e : Refusal) (k : ℕ) (out : List ℕ) → Early n early → GivesAfter early (folded m room (left_state r c z)) room (Err e) out → k ≡ Folding.refusal n (Refusals.number_of e) true
      → Answers (from_run n m room r c z) room (record { number = k; len = 0; width = plus_zero; ran = 0 }) out
  told_refused zero early e k out E G K =
      subst (λ (i : ℕ). Answers (from_run 0 m room r c z) room (record { number = i; len = 0; width = plus_zero; ran = 0 }) out) (sym (K ∙ none_before (Refusals.number_of e)))
      (subst (λ (x : Conversion). Answers x room (record { number = Refusals.number_of e; len = 0; width = plus_zero; ran = 0 }) out) (from_run_on 0 m room r c z refl)
      (gives_answers (folded m room (left_state r c z)) room (Err e) out (subst (λ (x : Result (Unit {0}) Refusal). GivesAfter x (folded m room (left_state r c z)) room (Err e) out) (E.0 refl) G)))
  told_refused (suc n) early e k out E G K =
      subst (λ (i : ℕ). Answers (from_run (suc n) m room r c z) room (record { number = i; len = 0; width = plus_zero; ran = 0 }) out) (sym (K ∙ one_before n (Refusals.number_of e))) (from_run_refused (suc n) m room r c z out (not_zero n) (zeros early (E.1 (not_zero n)) G))
    where
      zeros : (early : Result (Unit {0}) Refusal) → IsErr early → GivesAfter early (folded m room (left_state r c z)) room (Err e) out → out ≡ replicate room 0
      zeros (Ok u) h G = absurd (true≢false (sym h))
      zeros (Err x) h G = G.1

-- ---- the entry

-- what a run leaves in the stores is as the parts ask
all_front : (l k : List Command) → All (OfCommand Good) (l ++ k) → All (OfCommand Good) l × All (OfCommand Good) k
unfolding All
all_front [] k a = (tt, a)
all_front (x ∷ l) k a = let r = all_front l k a.1 in ((a.0, r.0), r.1)

finite_at : (n e : ℕ) (c : List ℕ) → e < n → All (OfCommand Good) (drawn_in n c) → All (OfCommand Good) (command_in c e)
unfolding drawn_in
finite_at zero e c h a = absurd (let z : ⊥ = omega (arith, h) in z)
finite_at (suc n) e c h a = go (ltb e n) refl (all_front (drawn_in n c) (command_in c n) a) (finite_at n e c)
  where
    go : (b : Bool) → ltb e n ≡ b → All (OfCommand Good) (drawn_in n c) × All (OfCommand Good) (command_in c n) → (e < n → All (OfCommand Good) (drawn_in n c) → All (OfCommand Good) (command_in c e)) → All (OfCommand Good) (command_in c e)
    go true q r f = f (ltb→lt e n (subst T (sym q) tt)) r.0
    go false q r f = subst (λ (k : ℕ). All (OfCommand Good) (command_in c k)) (let z : n ≡ e = omega (arith, h, nltb→le e n (subst (λ (b : Bool). T (not b)) (sym q) tt)) in z) r.1

left_is : (r : Interpreted) (c : List ℕ) (z : List Stem) (s : State) → Left r c z s → Stored r.entries c z
left_is r c z s L = record {
  words = L.words_within;
  groups = λ e h k. let a = L.below e h k in let b = L.records-within in omega (arith, a, b);
  finite = λ e h. finite_at r.entries e c h (subst (All (OfCommand Good)) (sym L.drawn) L.sound.drawn);
}

none_stored : (r : Interpreted) (c : List ℕ) (z : List Stem) (n : ℕ) → r ≡ refused_with n → Stored r.entries c z
none_stored r c z n e = subst (λ (x : Interpreted). Stored x.entries c z) (sym e) (record { words = omega arith; groups = λ i h. absurd (let y : ⊥ = omega (arith, h) in y); finite = λ i h. absurd (let y : ⊥ = omega (arith, h) in y) })

pub left_stored : (r : Interpreted) (c : List ℕ) (z : List Stem) (c₀ : List ℕ) (z₀ : List Stem) (o : Outcome) → Leaves r c z c₀ z₀ o → Stored r.entries c z
left_stored r c z c₀ z₀ (Run.going s) L = left_is r c z s L
left_stored r c z c₀ z₀ (Run.ending s) L = left_is r c z s L
left_stored r c z c₀ z₀ (Run.returning s) L = absurd L
left_stored r c z c₀ z₀ (Run.refused n) L = none_stored r c z n L.1.0

-- folding asks for the width, the bytes run, the groups and the drawn list alone
same_fold : (m : Matrix) (room : ℕ) (s t : State) → s.width ≡ t.width → s.ran ≡ t.ran → s.groups ≡ t.groups → s.drawn ≡ t.drawn → folded m room s ≡ folded m room t
unfolding folded folds_finite instructions
same_fold m room s t a b g d = λ i.
    pick (finite (folded_width m (a i)) && (finite_list (folded_list (fold_of m) (d i)) && finite_groups (folded_groups (fold_of m) (g i))))
    (writes (glyph_of (folded_width m (a i)) (b i)) (write (program (declared (folded_groups (fold_of m) (g i))) (commands 0 (folded_groups (fold_of m) (g i)) (folded_list (fold_of m) (d i)))) room)) (Convert.refused 14)

left_fold : (m : Matrix) (room : ℕ) (r : Interpreted) (c : List ℕ) (z : List Stem) (s : State) → Left r c z s → folded m room (left_state r c z) ≡ folded m room s
left_fold m room r c z s L = same_fold m room (left_state r c z) s L.width L.ran L.groups L.drawn

module _ (m : Matrix) (room : ℕ) (r : Interpreted) (c : List ℕ) (z : List Stem) where
  from_is : (n : ℕ) → from_run n m room r c z ≡ pick (eqb n 0) (folded m room (left_state r c z)) (Convert.refused n)
  from_is n = unfold from_run in refl

  ran_on : (s : State) → Left r c z s → (b : Bool) → from_run (pick b r.number 1) m room r c z ≡ pick b (folded m room s) (Convert.refused 1)
  ran_on s L true = ap (λ (n : ℕ). from_run n m room r c z) L.number ∙ from_is 0 ∙ left_fold m room r c z s L
  ran_on s L false = from_is 1

  away : (n : ℕ) → 0 < n → r ≡ refused_with n → (b : Bool) → from_run (pick b r.number 1) m room r c z ≡ pick b (Convert.refused n) (Convert.refused 1)
  away n h e true = ap (λ (x : Interpreted). from_run x.number m room r c z) e ∙ from_is n ∙ nonzero n h
    where
      nonzero : (n : ℕ) → 0 < n → pick (eqb n 0) (folded m room (left_state r c z)) (Convert.refused n) ≡ Convert.refused n
      nonzero zero h = absurd (let y : ⊥ = omega (arith, h) in y)
      nonzero (suc n) h = ap (λ (b : Bool). pick b (folded m room (left_state r c z)) (Convert.refused (suc n))) (eqb-suc-zero n)
  away n h e false = from_is 1

  from_outcome : (o : Outcome) (c₀ : List ℕ) (z₀ : List Stem) → Leaves r c z c₀ z₀ o → (b : Bool) → from_run (pick b r.number 1) m room r c z ≡ pick b (ended m room o) (Convert.refused 1)
  from_outcome (Run.going s) c₀ z₀ L b = ran_on s L b
  from_outcome (Run.ending s) c₀ z₀ L b = ran_on s L b
  from_outcome (Run.returning s) c₀ z₀ L b = absurd L
  from_outcome (Run.refused n) c₀ z₀ L b = away n L.0 L.1.0 b

-- no refusal has the number 0
abbrev number_of : Conversion → ℕ
number_of (Convert.refused n) = n
number_of (Convert.converted g) = 1

abbrev Real : Conversion → Type 0
Real x = x ≡ Convert.refused 0 → ⊥

real_refused : (n : ℕ) → 0 < n → Real (Convert.refused n)
real_refused n h e = let z : n ≡ 0 = ap number_of e in let y : ⊥ = omega (arith, z, h) in y

real_ended : (m : Matrix) (room : ℕ) (r : Interpreted) (c : List ℕ) (z : List Stem) (c₀ : List ℕ) (z₀ : List Stem) (o : Outcome) → Leaves r c z c₀ z₀ o → Real (ended m room o)
real_ended m room r c z c₀ z₀ (Run.going s) L = folded_nonzero m room s
real_ended m room r c z c₀ z₀ (Run.ending s) L = folded_nonzero m room s
real_ended m room r c z c₀ z₀ (Run.returning s) L = absurd L
real_ended m room r c z c₀ z₀ (Run.refused n) L = real_refused n L.0

real_picked : (b : Bool) (x : Conversion) → Real x → Real (pick b x (Convert.refused 1))
real_picked true x h = h
real_picked false x h = real_refused 1 (omega arith)

pub entry_answers : (x : Source) (reading : Reading) (m : Matrix) (stems : List Stem) (words : List ℕ) (bytes : List ℕ) (r : Interpreted) (c : List ℕ) (z : List Stem) → Leaves r c z words stems (outcome x reading (length stems) (length words))
    → (n : ℕ) → n ≡ first_number m r.number → (g : Type2Glyph) (z₃ : List Stem) (c₃ out : List ℕ) → Answers (from_run n m (length bytes) r c z) (length bytes) g out
    → (z₄ : List Stem) (c₅ : List ℕ) → z₄ ≡ replicate (length stems) zero_stem → c₅ ≡ replicate (length words) 0
    → ConvertsFrom x reading m (rooms_of stems words bytes) g z₄ c₅ out
unfolding convert
entry_answers x reading m stems words bytes r c z L n e g z₃ c₃ out A z₄ c₅ ez ec =
    let room = length bytes in
    let o = outcome x reading (length stems) (length words) in
    let y : from_run n m room r c z ≡ pick (finite_matrix m) (ended m room o) (Convert.refused 1) = ap (λ (k : ℕ). from_run k m room r c z) e ∙ from_outcome m room r c z o words stems L (finite_matrix m) in
    record { refusal = real_picked (finite_matrix m) (ended m room o) (real_ended m room r c z words stems o L); glyph = A.glyph ∙ ap answer y; bytes = A.bytes ∙ ap (output room) y; records = ez; words = ec }
