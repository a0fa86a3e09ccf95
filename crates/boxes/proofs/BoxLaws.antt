-- Laws: the box of a program, operator by operator.
use mathlib.Core.Path.{◌≡◌, refl, sym, ap, ◌∙◌, subst}
use Prim.Native.Nat.{ℕ, zero, suc, ◌+◌, ◌-◌, ◌*◌, ◌/◌}
use native.Mathlib.Nat.{suc-mul, zero-mul}
use native.Mathlib.Omega.{arith}
use mathlib.Core.Bool.{true, false}
use mathlib.Core.List.{List, [], ◌∷◌, ◌++◌, append-nil, append_assoc}
use mathlib.Core.Option.{Option, none}
use lib.ListN.{length, take, drop, length-drop}
use lib.IntN.{ℤ}
use Rattle.type2.specs.Path.{Kind, moves, lines, curves, flexes}
use Rattle.renderer.specs.Machine.{Point, Entry, State, Result, ended, start, run, machine, reach, last_of}
use Rattle.renderer.specs.Reader.{Stands, first_reader, is_drawing, Taken, operands_of, settled_by, acted_each, acts_by, acts, goes_by, goes, Came, Comes}
use Rattle.std.specs.Prelude.{Option as OptionOf, Some, None, IfSome}
use Rattle.renderer.specs.declared.Operation.{Operation}
use Rattle.renderer.specs.declared.Operation.TheVariants.{Stems, Mask, Move, Lines, Curves, Flex, End}
use Rattle.renderer.specs.Operators.{acted}
use Rattle.renderer.proofs.ReaderLaws.{part_length, slice_part, by_drawing, by_still, Splits, split_2, split_6, nil_of, possible_near}
use Rattle.renderer.specs.declared.Reader.{Reader}
use Rattle.renderer.specs.declared.Operator.{Operator}
use Rattle.boxes.specs.Box.{grow, box_from, points, box_of}
use Rattle.boxes.specs.Answers.{Answer, refused, answer_of, answer}
use Rattle.boxes.specs.Extent.{HoldsBox, Limited, SmallFrom, Extends}
use Rattle.boxes.specs.declared.Bounds.{Bounds}
use Rattle.boxes.specs.declared.Extent.{Extent}
use Rattle.boxes.proofs.ExtentLaws.{limited}

-- ---- points and boxes of a list that grows at its end
points_more : (es : List (Entry Point)) (e : Entry Point) → points (es ++ (e ∷ [])) ≡ points es ++ e.points
unfolding points
points_more [] e = append-nil e.points
points_more (d ∷ es) e = ap (λ (x : List Point). d.points ++ x) (points_more es e) ∙ sym (append_assoc d.points (points es) e.points)

box_append : (b : Option Bounds) (l m : List Point) → box_from b (l ++ m) ≡ box_from (box_from b l) m
unfolding box_from
box_append b [] m = refl
box_append b (p ∷ l) m = box_append (grow b p) l m

-- ---- what an operator draws is the points that its operands go to
one_points : (c : Kind) (l : List ℤ) (s : State) → points (acted c l s).drawn ≡ points s.drawn ++ reach s.at l
one_points c l s = points_more s.drawn (record { kind = c; points = reach s.at l })

each_points : (c : Kind) (k : ℕ) → Splits k → (n : ℕ) (l : List ℤ) (s : State) → length l ≡ n * k → points (acted_each c k n l s).drawn ≡ points s.drawn ++ reach s.at l
unfolding acted_each reach
each_points c k split zero l s e = sym (ap (λ (m : List ℤ). points s.drawn ++ reach s.at m) (nil_of l (e ∙ zero-mul k)) ∙ append-nil (points s.drawn))
each_points c k split (suc n) l s e =
    let w : length l ≡ n * k + k = e ∙ suc-mul n k in
    let d = each_points c k split n (drop k l) (acted c (take k l) s) (length-drop k l ∙ (let z : length l - k ≡ n * k = omega arith in z)) in
    d ∙ ap (λ (ps : List Point). ps ++ reach (last_of s.at (reach s.at (take k l))) (drop k l)) (one_points c (take k l) s)
    ∙ append_assoc (points s.drawn) (reach s.at (take k l)) _
    ∙ ap (λ (ps : List Point). points s.drawn ++ ps) (sym (split s.at l (omega arith)))

-- ---- the loop: what is left from where the reader stands is the whole
pub record Draws (P : List ℕ) (t : Reader) (e : OptionOf Extent) : Type 0 where
  pub state : State
  pub stands : Stands state t
  pub box : HoldsBox (box_from none (points state.drawn)) e
  pub runs : run (drop t.at P) 0 state ≡ machine P

pub draws_first : {P : List ℕ} {t : Reader} → t ≡ first_reader → Draws P t None
unfolding points box_from
draws_first p = rw p (record { state = start; stands = record { begun_is = refl; stems_is = refl; at_is = refl; cleared = refl; possible = refl }; box = tt; runs = refl })

module _ {P : List ℕ} {t : Reader} {e : OptionOf Extent} (d : Draws P t e) where
  pub draws-limited : IfSome e Limited
  draws-limited = limited (box_from none (points d.state.drawn)) e d.box

  whole : {o : List ℕ} {x : OptionOf Operator} → Comes P t o x → machine P ≡ goes x o P d.state
  whole k = sym d.runs ∙ k.runs d.state d.stands

  pub fault_answer : {o : List ℕ} → Comes P t o None → (w : Bounds) → refused ≡ answer P w
  fault_answer k w = ap (λ (x : Result). answer_of (box_of x) w) (sym (whole k))

  module _ {o : List ℕ} {r : Operator} (k : Comes P t o (Some r)) where
    pub end_answer : r.operation ≡ End → (w : Bounds) (x : Answer) → ((b : Option Bounds) → HoldsBox b e → x ≡ answer_of b w) → x ≡ answer P w
    unfolding goes_by
    end_answer c w x h =
        let q : machine P ≡ ended (settled_by r o d.state) (drop r.after.at P) = whole k ∙ rw c in
        h (box_from none (points d.state.drawn)) d.box ∙ ap (λ (y : Result). answer_of (box_of y) w) (sym q)

    abbrev came : Came P t o r
    came = k.came

    -- the operands as a slice
    abbrev deltas : List ℕ
    deltas = take (r.end - r.first) (drop r.first o)

    deltas_are : deltas ≡ drop r.first (take r.end o)
    deltas_are = slice_part r.first r.end o came.order

    pub small_from : is_drawing r.operation ≡ true → (n : ℕ) → n ≡ r.end → SmallFrom (take (n - r.first) (drop r.first o)) t.position
    small_from s n q = rw q (record { near = possible_near t d.stands.possible; small = rw deltas_are (came.small s) })

    module _ (n14 : r.operation ≡ End → ⊥) where
      goes_on : (c : Operation) → (c ≡ End → ⊥) → (s u : State) (rest : List ℕ) → goes_by c s u rest ≡ run rest 0 u
      unfolding goes_by
      goes_on Stems n s u rest = refl
      goes_on Mask n s u rest = refl
      goes_on Move n s u rest = refl
      goes_on Lines n s u rest = refl
      goes_on Curves n s u rest = refl
      goes_on Flex n s u rest = refl
      goes_on End n s u rest = absurd (n refl)

      onward : run (drop r.after.at P) 0 (acts r P (settled_by r o d.state)) ≡ machine P
      onward = sym (whole k ∙ goes_on r.operation n14 _ _ _)

      draws_on : (f : OptionOf Extent) → HoldsBox (box_from none (points (acts r P (settled_by r o d.state)).drawn)) f → Draws P r.after f
      draws_on f h = record { state = acts r P (settled_by r o d.state); stands = came.stands d.state d.stands n14; box = h; runs = onward }

      pub still_on : is_drawing r.operation ≡ false → Draws P r.after e
      still_on s = draws_on e (subst (λ (es : List (Entry Point)). HoldsBox (box_from none (points es)) e) (sym same) d.box)
        where
          same : (acts r P (settled_by r o d.state)).drawn ≡ d.state.drawn
          same = unfold acts_by in by_still r.operation s ((acts r P (settled_by r o d.state)).drawn ≡ d.state.drawn) (λ c. rw c) (λ c. rw c) (λ c. absurd (n14 c))

      pub drawn_on : is_drawing r.operation ≡ true → (n : ℕ) → n ≡ r.end → (f : OptionOf Extent) → Extends (take (n - r.first) (drop r.first o)) t.position e f → Draws P r.after f
      drawn_on s n q f g =
          let h : Extends deltas t.position e f = subst (λ (m : ℕ). Extends (take (m - r.first) (drop r.first o)) t.position e f) q g in
          draws_on f
          (subst (λ (b : Option Bounds). HoldsBox b f) (sym (ap (box_from none) drawn ∙ box_append none (points d.state.drawn) _ ∙ ap (λ (p : Point). box_from (box_from none (points d.state.drawn)) (reach p (operands_of r o))) d.stands.at_is ∙ rw deltas_are))
          (h (box_from none (points d.state.drawn)) d.box))
        where
          taken : Taken r.operation (length (operands_of r o))
          taken = subst (Taken r.operation) (sym (part_length r.first r.end o (let a = came.few in let b = k.size in omega arith))) came.taken

          drawn : points (acts r P (settled_by r o d.state)).drawn ≡ points d.state.drawn ++ reach d.state.at (operands_of r o)
          drawn = unfold acts_by in
              by_drawing r.operation (length (operands_of r o)) s taken (points (acts r P (settled_by r o d.state)).drawn ≡ points d.state.drawn ++ reach d.state.at (operands_of r o))
              (λ c. rw c (one_points moves (operands_of r o) (settled_by r o d.state)))
              (λ c n. rw c (each_points lines 2 split_2 (length (operands_of r o) / 2) (operands_of r o) (settled_by r o d.state) n))
              (λ c n. rw c (each_points curves 6 split_6 (length (operands_of r o) / 6) (operands_of r o) (settled_by r o d.state) n))
              (λ c. rw c (one_points flexes (operands_of r o) (settled_by r o d.state)))
