-- Laws: `callothersubr`: its operands, its number, and what each number does.
use mathlib.Core.Path.{◌≡◌, refl, sym, ap, ap₂, ◌∙◌, subst}
use Prim.Native.Nat.{ℕ, zero, suc, ◌+◌, ◌-◌, ◌≤◌, ◌<◌}
use native.Mathlib.Nat.{pos_of_ne-zero}
use native.Mathlib.Omega.{arith}
use mathlib.Core.Bool.{Bool, true, false, ◌&&◌}
use mathlib.Core.List.{List, [], ◌∷◌}
use mathlib.Core.Option.{some}
use borrow.Author.Tests.{eq-eqb, ne_eqb, le-leb, lt-leb}
use mir.Syntax.{w64}
use mir.Val.{of_z}
use lib.Signed.{mag}
use lib.Dec.{leb, lit≤}
use lib.IntN.{ℤ, pos, negsuc}
use lib.ListN.{length, get_or, take, drop}
use lib.Seq.{take-take, slice_empty, slice-cons, drop-nil, take-nil, length-take-le}
use lib.Ieee.{Float, nan, fin, le, to_unsigned, to_signed}
use Rattle.std.specs.Prelude.{Err}
use Rattle.refusal.specs.declared.Refusal.{Refusal}
use Rattle.refusal.specs.Refusal.{number_of}
use Rattle.othersubrs.specs.OtherSubrs.{may_take, taken}
use Rattle.othersubrs.specs.Laws.{not_taken}
use Rattle.type1.specs.declared.St.{St}
use Rattle.type1.specs.declared.Ran.{Ran}
use Rattle.outline.specs.Outline.{plus_zero}
use Rattle.type1.specs.State.{State, with_operands, with_flex}
use Rattle.type1.specs.State as State
use Rattle.type1.specs.Run.{Limits, within, Outcome, going, refused, check, top, without, is, backwards, hand_back, height_of, other_subr0, other_subr2, other_subr, call_other_subr}
use Rattle.type1.specs.Memory.{Mem, points_at, stems_at, abs, Holds, Meets, kept, after, with_ops, with_ps, with_cells, with_cmds, Told}
use Rattle.type1.specs.Reading.{with_count}
use Rattle.type1.specs.Small.{ran_of}
use Rattle.type1.proofs.Stacks.{small, small_fit, operand_count, top_is, without_is, counted}
use Rattle.type1.proofs.Groups.{after_none}
use Rattle.type1.proofs.Flex.{Ends}

-- ---- the number, which the code reads by its bits
pub is_so : (z : ℤ) (n : ℕ) → mag z < 9223372036854775808 → n < 4 → of_z w64 z ≡ n → is n z ≡ true
is_so (pos k) n h l e = eq-eqb k n e
is_so (negsuc k) n h l e = absurd (let f : 18446744073709551616 - suc k ≡ n = e in let z : ⊥ = omega arith in z)

pub is_not : (z : ℤ) (n : ℕ) → (of_z w64 z ≡ n → ⊥) → is n z ≡ false
is_not (pos k) n e = ne_eqb k n e
is_not (negsuc k) n e = refl

module _ (lim : Limits) (z : ℤ) (args : List Float) (s : State) where
  pub other_0 : is 0 z ≡ true → other_subr lim z args s ≡ other_subr0 lim args s
  unfolding other_subr
  other_0 e = rw e

  pub other_1 : is 0 z ≡ false → is 1 z ≡ true → other_subr lim z args s ≡ going (with_flex (some []) s)
  unfolding other_subr
  other_1 e0 e1 = rw (e0, e1)

  pub other_2 : is 0 z ≡ false → is 1 z ≡ false → is 2 z ≡ true → other_subr lim z args s ≡ other_subr2 s
  unfolding other_subr
  other_2 e0 e1 e2 = rw (e0, e1, e2)

  pub other_3 : is 0 z ≡ false → is 1 z ≡ false → is 2 z ≡ false → is 3 z ≡ true → other_subr lim z args s ≡ hand_back lim (backwards args) (State.with_hints [] s)
  unfolding other_subr
  other_3 e0 e1 e2 e3 = rw (e0, e1, e2, e3)

  pub other_else : is 0 z ≡ false → is 1 z ≡ false → is 2 z ≡ false → is 3 z ≡ false → other_subr lim z args s ≡ hand_back lim (backwards args) s
  unfolding other_subr
  other_else e0 e1 e2 e3 = rw (e0, e1, e2, e3)

-- ---- the arguments are the operands before the two on top
module _ (t : St) (m : Mem) (s : State) (H : Holds t m s) (lim : Limits) (h : 2 ≤ t.operands) where
  abbrev pub left : ℕ
  left = t.operands - 2

  abbrev pub count : Float
  count = get_or m.ops (t.operands - 2) nan

  abbrev pub number : Float
  number = get_or m.ops (t.operands - 2 + 1) nan

  abbrev does : Float → Float → List Float → ℕ → Outcome
  does a b l n = check (le plus_zero a && leb (to_unsigned 64 a) n) 7 (other_subr lim (to_signed 63 b) (drop (n - to_unsigned 64 a) l) (with_operands (take (n - to_unsigned 64 a) l) s))

  call_is : call_other_subr lim s ≡ does count number (take left m.ops) left
  unfolding call_other_subr
  call_is =
      let n = operand_count t m s H in
      let b = H.fit.bounds.operands in
      let o = H.fit.ops in
      let w = without_is t m s H 2 h in
      let k : length (without 2 s).operands ≡ left = ap length w ∙ length-take-le left m.ops (omega arith) in
      ap (λ (q : Bool). check q 7 (does (top 2 s) (top 1 s) (without 2 s).operands (length (without 2 s).operands))) (le-leb 2 (length s.operands) (omega arith))
      ∙ ap₂ (λ (x y : Float). does x y (without 2 s).operands (length (without 2 s).operands)) (top_is t m s H 2 (omega arith) h) (top_is t m s H 1 (omega arith) (omega arith) ∙ ap (λ (i : ℕ). get_or m.ops i nan) (let z : t.operands - 1 ≡ t.operands - 2 + 1 = omega arith in z))
      ∙ ap₂ (does count number) w k

  other_not : may_take t.operands count ≡ false → call_other_subr lim s ≡ refused 7
  other_not e = call_is ∙ ap (λ (b : Bool). check b 7 (other_subr lim (to_signed 63 number) (drop (left - to_unsigned 64 count) (take left m.ops)) (with_operands (take (left - to_unsigned 64 count) (take left m.ops)) s))) (sym (ap (λ (b : Bool). b && (le plus_zero count && leb (to_unsigned 64 count) left)) (le-leb 2 t.operands h)) ∙ e)

  other_is : (k : ℕ) (z : ℤ) → le plus_zero count ≡ true → k ≡ to_unsigned 64 count → k ≤ left → z ≡ to_signed 63 number → call_other_subr lim s ≡ other_subr lim z (drop (left - k) (take left m.ops)) (with_operands (take (left - k) m.ops) s)
  other_is k z e q l p =
      call_is ∙ ap₂ (λ (b d : Bool). check (b && d) 7 (other_subr lim (to_signed 63 number) (drop (left - to_unsigned 64 count) (take left m.ops)) (with_operands (take (left - to_unsigned 64 count) (take left m.ops)) s))) e (le-leb (to_unsigned 64 count) left (omega arith))
      ∙ ap₂ (λ (n : ℕ) (y : ℤ). other_subr lim y (drop (left - n) (take left m.ops)) (with_operands (take (left - n) (take left m.ops)) s)) (sym q) (sym p)
      ∙ ap (λ (o : List Float). other_subr lim z (drop (left - k) (take left m.ops)) (with_operands o s)) (take-take (left - k) left m.ops (omega arith))

drop-take : (f n : ℕ) (l : List Float) → drop f (take n l) ≡ take (n - f) (drop f l)
drop-take zero n l = ap (λ (k : ℕ). take k l) (let z : n ≡ n - 0 = omega arith in z)
drop-take (suc f) zero l = sym (ap (λ (k : ℕ). take k (drop (suc f) l)) (let z : 0 - suc f ≡ 0 = omega arith in z))
drop-take (suc f) (suc n) [] = drop-nil (suc f) ∙ sym (take-nil (suc n - suc f))
drop-take (suc f) (suc n) (x ∷ l) = drop-take f n l ∙ ap (λ (k : ℕ). take k (drop f l)) (let z : n - f ≡ suc n - suc f = omega arith in z)

-- ---- as the code says it
abbrev pub Others : Bool → St → Ran → List Float → List Float → List Float → List ℕ → List Float → List Float → List ℕ → ℕ → Type 0
Others same t r o ps x c ps' x' c' room = (m : Mem) (s : State) → length m.stems ≡ room → Told same s → Holds t (with_ops o (with_ps ps (with_cells x (with_cmds c m)))) s → Meets r (with_ops o (with_ps ps' (with_cells x' (after t r c' m)))) (call_other_subr (within room (length c)) s)

-- what `collect` and `hand_back` say
abbrev pub Collects : St → Ran → List Float → List Float → Type 0
Collects t r x x' = (m : Mem) (s : State) → Holds t (with_cells x m) s → Meets r (with_cells x' m) (other_subr2 s)

abbrev pub Hands : St → Ran → List Float → ℕ → ℕ → List Float → List Float → Type 0
Hands t r o from to ps ps' = (m : Mem) (s : State) (room words : ℕ) → length o ≡ 256 → Holds t (with_ps ps m) s → Meets r (with_ps ps' m) (hand_back (within room words) (backwards (take (to - from) (drop from o))) s)

abbrev pub flex_begun : St → St
flex_begun t = small t.operands t.postscript t.x t.y t.opened true 0 t.hints t.changed t.divided t.ran t

begun_holds : (t : St) (m : Mem) (s : State) → Holds t m s → Holds (flex_begun t) m (with_flex (some []) s)
unfolding abs points_at
begun_holds t m s H =
    let F = H.fit in
    record {
      is = ap (with_flex (some [])) H.is;
      fit = small_fit t m F _ _ _ _ _ _ _ _ _ _ _ _ _ _ F.bounds.operands F.bounds.postscript (omega arith) F.bounds.hints F.bounds.ran F.ops F.ps F.cells;
    }

abbrev pub hints_off : St → St
hints_off t = small t.operands t.postscript t.x t.y t.opened t.flexing t.points 0 true t.divided t.ran t

off_holds : (t : St) (m : Mem) (s : State) → Holds t m s → Holds (hints_off t) m (State.with_hints [] s)
unfolding abs stems_at
off_holds t m s H =
    let F = H.fit in
    record {
      is = ap (State.with_hints []) H.is;
      fit = small_fit t m F _ _ _ _ _ _ _ _ _ _ _ _ _ _ F.bounds.operands F.bounds.postscript F.bounds.points (omega arith) F.bounds.ran F.ops F.ps F.cells;
    }

module _ (same : Bool) (t : St) (r : Ran) (o ps x : List Float) (c : List ℕ) (room : ℕ) where
  others_few : (ps' x' : List Float) (c' : List ℕ) → r ≡ ran_of t 7 → ((m : Mem) (s : State) → Holds t (with_ops o (with_ps ps (with_cells x (with_cmds c m)))) s → call_other_subr (within room (length c)) s ≡ refused 7) → Others same t r o ps x c ps' x' c' room
  others_few ps' x' c' p f m s q w H = subst (Meets r (with_ops o (with_ps ps' (with_cells x' (after t r c' m))))) (sym (f m s H)) (ap (λ (z : Ran). z.flow) p, lit≤ tt)

  needs_two : t.operands < 2 → (m : Mem) (s : State) → Holds t (with_ops o (with_ps ps (with_cells x (with_cmds c m)))) s → call_other_subr (within room (length c)) s ≡ refused 7
  unfolding call_other_subr
  needs_two l m s H = rw (lt-leb 2 (length s.operands) (let n = operand_count t (with_ops o (with_ps ps (with_cells x (with_cmds c m)))) s H in omega arith))

  pub others-none : (ps' x' : List Float) (c' : List ℕ) → r ≡ ran_of t 7 → t.operands < 2 → Others same t r o ps x c ps' x' c' room
  others-none ps' x' c' p l = others_few ps' x' c' p (needs_two l)

  module _ (h : 2 ≤ t.operands) where
    -- as `othersubrs::arguments` refuses
    pub others_refused : (ps' x' : List Float) (c' : List ℕ) (k : Refusal) → Err k ≡ taken t.operands (get_or o (t.operands - 2) nan) → r ≡ ran_of t (number_of k) → Others same t r o ps x c ps' x' c' room
    others_refused ps' x' c' k is p = others_few ps' x' c' (p ∙ ap (ran_of t) seven) (λ m s H. other_not t (with_ops o (with_ps ps (with_cells x (with_cmds c m)))) s H (within room (length c)) h refusal)
      where
        v : Float
        v = get_or o (t.operands - 2) nan

        refusal : may_take t.operands v ≡ false
        refusal = (not_taken t.operands v k is).0

        seven : number_of k ≡ 7
        seven = ap number_of (not_taken t.operands v k is).1

    module _ (ge : le plus_zero (get_or o (t.operands - 2) nan) ≡ true) (k : ℕ) (is-k : k ≡ to_unsigned 64 (get_or o (t.operands - 2) nan)) where
      module _ (l : k ≤ t.operands - 2) (z : ℤ) (is-z : z ≡ to_signed 63 (get_or o (t.operands - 2 + 1) nan)) (fit-z : mag z < 9223372036854775808) where
        abbrev from : ℕ
        from = t.operands - 2 - k

        abbrev args : List Float
        args = drop from (take (t.operands - 2) o)

        abbrev left_state_lem : State → State
        left_state_lem s = with_operands (take from o) s

        call_is' : (m : Mem) (s : State) → Holds t (with_ops o (with_ps ps (with_cells x (with_cmds c m)))) s → call_other_subr (within room (length c)) s ≡ other_subr (within room (length c)) z args (left_state_lem s)
        call_is' m s H = other_is t (with_ops o (with_ps ps (with_cells x (with_cmds c m)))) s H (within room (length c)) h k z ge is-k l is-z

        left_holds : (m : Mem) (s : State) → Holds t (with_ops o (with_ps ps (with_cells x (with_cmds c m)))) s → Holds (with_count from t) (with_ops o (with_ps ps (with_cells x (with_cmds c m)))) (left_state_lem s)
        left_holds m s H = counted t (with_ops o (with_ps ps (with_cells x (with_cmds c m)))) s H from (omega arith)

        -- 0
        pub others_flex : (hh : Float) (ps' : List Float) (c' : List ℕ) → of_z w64 z ≡ 0 → (length o ≡ 256 → t.operands ≤ 256 → hh ≡ height_of args) → Ends same (with_count from t) r ps x c ps' c' room hh → Others same t r o ps x c ps' x c' room
        unfolding kept
        others_flex hh ps' c' q g E m s n w H =
            subst (Meets r (with_ops o (with_ps ps' (with_cells x (after t r c' m))))) (sym (call_is' m s H ∙ other_0 (within room (length c)) z args (left_state_lem s) (is_so z 0 fit-z (omega arith) q)))
            (E (with_ops o m) (left_state_lem s) args (g H.fit.ops H.fit.bounds.operands) n w (left_holds m s H))

        -- another: no group is made
        others-plain : (ps' x' : List Float) (out : State → Outcome) → r.st.groups ≡ t.groups → ((s : State) → other_subr (within room (length c)) z args (left_state_lem s) ≡ out s) → ((m : Mem) (s : State) → Holds t (with_ops o (with_ps ps (with_cells x (with_cmds c m)))) s → Meets r (with_ops o (with_ps ps' (with_cells x' (with_cmds c m)))) (out s)) → Others same t r o ps x c ps' x' c room
        others-plain ps' x' out g f M m s n w H =
            subst (Meets r (with_ops o (with_ps ps' (with_cells x' (after t r c m))))) (sym (call_is' m s H ∙ f s))
            (after_none t r c (with_ops o (with_ps ps' (with_cells x' m))) (out s) g (M m s H))

        module _ (n0 : of_z w64 z ≡ 0 → ⊥) where
          pub others-begin : r ≡ ran_of (flex_begun (with_count from t)) 0 → of_z w64 z ≡ 1 → Others same t r o ps x c ps x c room
          others-begin p q =
              others-plain ps x (λ s. going (with_flex (some []) (left_state_lem s))) (ap (λ (v : Ran). v.st.groups) p) (λ s. other_1 (within room (length c)) z args (left_state_lem s) (is_not z 0 n0) (is_so z 1 fit-z (omega arith) q))
              (λ m s H. (ap (λ (v : Ran). v.flow) p, subst (λ (v : Ran). Holds v.st (with_ops o (with_ps ps (with_cells x (with_cmds c m)))) (with_flex (some []) (left_state_lem s))) (sym p) (begun_holds (with_count from t) _ (left_state_lem s) (left_holds m s H))))

          module _ (n1 : of_z w64 z ≡ 1 → ⊥) where
            pub others-collect : (x' : List Float) → of_z w64 z ≡ 2 → r.st.groups ≡ t.groups → Collects (with_count from t) r x x' → Others same t r o ps x c ps x' c room
            others-collect x' q g C =
                others-plain ps x' (λ s. other_subr2 (left_state_lem s)) g (λ s. other_2 (within room (length c)) z args (left_state_lem s) (is_not z 0 n0) (is_not z 1 n1) (is_so z 2 fit-z (omega arith) q))
                (λ m s H. C (with_ops o (with_ps ps (with_cmds c m))) (left_state_lem s) (left_holds m s H))

            module _ (n2 : of_z w64 z ≡ 2 → ⊥) where
              back : (u : St) (ps' : List Float) (v : State) (m : Mem) → length o ≡ 256 → Holds u (with_ops o (with_ps ps (with_cells x (with_cmds c m)))) v → Hands u r o from (t.operands - 2) ps ps' → Meets r (with_ops o (with_ps ps' (with_cells x (with_cmds c m)))) (hand_back (within room (length c)) (backwards args) v)
              back u ps' v m n K B = subst (λ (b : List Float). Meets r (with_ops o (with_ps ps' (with_cells x (with_cmds c m)))) (hand_back (within room (length c)) (backwards b) v)) (sym (drop-take from (t.operands - 2) o)) (B (with_ops o (with_cells x (with_cmds c m))) v room (length c) n K)

              pub others_hints : (ps' : List Float) → of_z w64 z ≡ 3 → r.st.groups ≡ t.groups → Hands (hints_off (with_count from t)) r o from (t.operands - 2) ps ps' → Others same t r o ps x c ps' x c room
              others_hints ps' q g B =
                  others-plain ps' x (λ s. hand_back (within room (length c)) (backwards args) (State.with_hints [] (left_state_lem s))) g (λ s. other_3 (within room (length c)) z args (left_state_lem s) (is_not z 0 n0) (is_not z 1 n1) (is_not z 2 n2) (is_so z 3 fit-z (omega arith) q))
                  (λ m s H. back (hints_off (with_count from t)) ps' (State.with_hints [] (left_state_lem s)) m H.fit.ops (off_holds (with_count from t) _ (left_state_lem s) (left_holds m s H)) B)

              pub others_unknown : (ps' : List Float) → (of_z w64 z ≡ 3 → ⊥) → r.st.groups ≡ t.groups → Hands (with_count from t) r o from (t.operands - 2) ps ps' → Others same t r o ps x c ps' x c room
              others_unknown ps' n3 g B =
                  others-plain ps' x (λ s. hand_back (within room (length c)) (backwards args) (left_state_lem s)) g (λ s. other_else (within room (length c)) z args (left_state_lem s) (is_not z 0 n0) (is_not z 1 n1) (is_not z 2 n2) (is_not z 3 n3))
                  (λ m s H. back (with_count from t) ps' (left_state_lem s) m H.fit.ops (left_holds m s H) B)

-- ---- the flex height
pub height_none : (o : List Float) (n k : ℕ) → k ≡ 0 → fin false 25 (pos 1) ≡ height_of (drop (n - k) (take n o))
height_none o n k e = sym (ap height_of (ap (λ (i : ℕ). drop i (take n o)) (let z : n - k ≡ n = omega arith in z) ∙ slice_empty n o))

pub height_first : (o : List Float) (n k : ℕ) → (k ≡ 0 → ⊥) → k ≤ n → n ≤ length o → get_or o (n - k) nan ≡ height_of (drop (n - k) (take n o))
height_first o n k ne l h = sym (ap height_of (slice-cons (n - k) n o nan (let p = pos_of_ne-zero ne in omega arith) h))
