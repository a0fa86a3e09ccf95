-- Laws: what a reader holds, and the points that its operands go to.
use Rattle.std.specs.Prelude.{◌≡◌, Bool, ◌&&◌, length, take, drop, get_or, T, leb, ℤ, pos, negsuc, ◌+ℤ◌}
use Rattle.std.proofs.Math.Path.{refl, sym, ap}
use Rattle.std.proofs.Common.{ap₂, ◌∙◌, subst, add-one, suc-mul, arith, true≢false, length-take, length-drop, drop-cons, get_or-take, leb→le, leb-false}
use Prim.Native.Nat.{ℕ, zero, suc, ◌+◌, ◌-◌, ◌*◌, ◌/◌, ◌^◌, ◌≤◌, ◌<◌, min}
use Rattle.std.proofs.Math.Nat.{zero-mul}
use Rattle.std.proofs.lemmas.List.{drop-take}
use Rattle.std.proofs.Math.Bool.{true, false}
use mathlib.Core.List.{List, [], ◌∷◌, ◌++◌}
use Rattle.type2.specs.Number.{zp, zm}
use Rattle.type2.specs.Bools.{is_lt, not_lt, and_both}
use Rattle.type2.specs.Signed.{sub_bal, sub_is, add_bal}
use Rattle.type2.specs.Path.{Kind}
use Rattle.renderer.specs.Machine.{Point, State, fault, on, small, moved, reach, last_of, all_small, draw, draws, and_then}
use Rattle.renderer.specs.Operators.{acted}
use Rattle.renderer.proofs.InstructionLaws.{draw_is}
use Rattle.renderer.specs.declared.path.Position.{Position}
use Rattle.renderer.specs.declared.Reader.{Reader}
use Rattle.renderer.specs.declared.Operation.{Operation}
use Rattle.renderer.specs.declared.Operation.TheVariants.{Stems, Mask, Move, Lines, Curves, Flex, End}
use Rattle.renderer.specs.Reads.{moved_by}
use Rattle.renderer.specs.Reader.{unit, held, part, coordinate, point_at, is_within, is_near, Near, is_possible, is_drawing, Taken, acted_each, code_of, number_draws}

-- ---- a list of bytes or operands at a place
pub cons_at : (l : List ℕ) (i : ℕ) → i < length l → drop i l ≡ get_or l i 0 ∷ drop (i + 1) l
cons_at l i h = rw (add-one, drop-cons l i 0)

pub held-length : (l : List ℕ) → length (held l) ≡ length l
unfolding held
held-length [] = refl
held-length (n ∷ l) = ap suc (held-length l)

-- ---- a coordinate is small where it is near
pub near_of : (n : ℕ) → is_within n ≡ true → Near n
near_of n e =
    let w = and_both (leb 1152921504606846976 n) (leb n 3458764513820540928) (subst T (sym e) tt) in
    record { above = leb→le 1152921504606846976 n w.0; below = leb→le n 3458764513820540928 w.1 }

-- z and n with 2 ^ 61 between them
abbrev Holds : ℤ → ℕ → Type 0
Holds z n = zp z + 2305843009213693952 ≡ zm z + n

near_small : (z : ℤ) (n : ℕ) → Holds z n → is_within n ≡ true → small z ≡ true
near_small (pos m) n h e = let k = near_of n e in is_lt (m + 0) (2 ^ 60 + 1) (omega arith)
near_small (negsuc m) n h e = let k = near_of n e in is_lt (0 + suc m) (2 ^ 60 + 1) (omega arith)

far_large : (z : ℤ) (n : ℕ) → Holds z n → is_within n ≡ false → small z ≡ false
far_large z n h e = go (leb 1152921504606846976 n) refl e z h
  where
    go : (x : Bool) → leb 1152921504606846976 n ≡ x → (x && leb n 3458764513820540928) ≡ false → (z : ℤ) → Holds z n → small z ≡ false
    go true p q (pos m) h = let k = leb-false n 3458764513820540928 q in not_lt (m + 0) (2 ^ 60 + 1) (omega arith)
    go true p q (negsuc m) h = let k = leb-false n 3458764513820540928 q in absurd (let y : ⊥ = omega arith in y)
    go false p q (pos m) h = let k = leb-false 1152921504606846976 n p in absurd (let y : ⊥ = omega arith in y)
    go false p q (negsuc m) h = let k = leb-false 1152921504606846976 n p in not_lt (0 + suc m) (2 ^ 60 + 1) (omega arith)

pub small_is : (n : ℕ) → small (coordinate n) ≡ is_within n
small_is n = go (is_within n) refl
  where
    go : (x : Bool) → is_within n ≡ x → small (coordinate n) ≡ x
    go true e = near_small (coordinate n) n (sub_bal n 2305843009213693952) e
    go false e = far_large (coordinate n) n (sub_bal n 2305843009213693952) e

pub near_parts : (p : Position) → is_near p ≡ true → (is_within p.x ≡ true) × (is_within p.y ≡ true)
near_parts p = go (is_within p.x) (is_within p.y)
  where
    go : (a b : Bool) → (a && b) ≡ true → (a ≡ true) × (b ≡ true)
    go true b e = (refl, e)
    go false b e = absurd (true≢false (sym e))

-- ---- a delta more
pub coordinate_more : (x d : ℕ) → is_within x ≡ true → coordinate x +ℤ unit d ≡ coordinate (x + d - 2147483648)
coordinate_more x d e =
    let k = near_of x e in
    let a = add_bal (coordinate x) (unit d) in
    let b = sub_bal d 2147483648 in
    let c = sub_bal x 2305843009213693952 in
    sym (sub_is (coordinate x +ℤ unit d) (x + d - 2147483648) 2305843009213693952 (omega arith))

-- ---- the points that pairs of operands go to
pub reach-short : (p : Point) (l : List ℤ) → length l ≤ 1 → reach p l ≡ []
unfolding reach
reach-short p [] h = refl
reach-short p (a ∷ []) h = refl
reach-short p (a ∷ b ∷ l) h = absurd (let z : ⊥ = omega arith in z)

reach-pair : (p : Point) (a b : ℤ) (l : List ℤ) → reach p (a ∷ b ∷ l) ≡ moved p a b ∷ reach (moved p a b) l
unfolding reach
reach-pair p a b l = refl

-- the first of them, and those after it
pub reach_more : (p : Position) (v u : ℕ) (d : List ℕ) → is_near p ≡ true → reach (point_at p) (held (v ∷ u ∷ d)) ≡ point_at (moved_by p v u) ∷ reach (point_at (moved_by p v u)) (held d)
unfolding held
reach_more p v u d e =
    let n = near_parts p e in
    let q : moved (point_at p) (unit v) (unit u) ≡ point_at (moved_by p v u) = ap₂ (λ (a b : ℤ). record { x = a; y = b }) (coordinate_more p.x v n.0) (coordinate_more p.y u n.1) in
    reach-pair (point_at p) (unit v) (unit u) (held d) ∙ ap (λ (q : Point). q ∷ reach q (held d)) q

pub reach_done : (p : Position) (d : List ℕ) → length d ≤ 1 → reach (point_at p) (held d) ≡ []
reach_done p d h = let l = held-length d in reach-short (point_at p) (held d) (omega arith)

-- the operands from `i` to before `end`
pair_at : (o : List ℕ) (i end : ℕ) → i + 1 < end → end ≤ length o → drop i (take end o) ≡ get_or o i 0 ∷ get_or o (i + 1) 0 ∷ drop (i + 1 + 1) (take end o)
pair_at o i end h k =
    let l : length (take end o) ≡ end = length-take end o ∙ (let z : min end (length o) ≡ end = omega arith in z) in
    cons_at (take end o) i (omega arith) ∙ ap₂ (λ (x : ℕ) (m : List ℕ). x ∷ m) (get_or-take end o i 0 (omega arith)) (cons_at (take end o) (i + 1) (omega arith) ∙ ap (λ (x : ℕ). x ∷ drop (i + 1 + 1) (take end o)) (get_or-take end o (i + 1) 0 h))

part_pair : (o : List ℕ) (i end : ℕ) → i + 1 < end → end ≤ length o → part i end o ≡ unit (get_or o i 0) ∷ unit (get_or o (i + 1) 0) ∷ part (i + 1 + 1) end o
unfolding held
part_pair o i end h k = ap held (pair_at o i end h k)

-- the first of them, and those after it
pub reach_part : (o : List ℕ) (i end : ℕ) (p : Position) (v u : ℕ) → i + 1 < end → end ≤ length o → is_near p ≡ true → v ≡ get_or o i 0 → u ≡ get_or o (i + 1) 0
    → reach (point_at p) (part i end o) ≡ point_at (moved_by p v u) ∷ reach (point_at (moved_by p v u)) (part (i + 2) end o)
reach_part o i end p v u h k n e f =
    let j : i + 1 + 1 ≡ i + 2 = omega arith in
    ap (λ (l : List ℕ). reach (point_at p) (held l)) (pair_at o i end h k ∙ ap₂ (λ (x : ℕ) (m : List ℕ). x ∷ m) (sym e) (ap₂ (λ (x : ℕ) (m : List ℕ). x ∷ m) (sym f) (ap (λ (m : ℕ). drop m (take end o)) j))) ∙ reach_more p v u (drop (i + 2) (take end o)) n

-- ---- entries one after another: the first m operands are pairs
abbrev pub Splits : ℕ → Type 0
Splits m = (p : Point) (l : List ℤ) → m ≤ length l → reach p l ≡ reach p (take m l) ++ reach (last_of p (reach p (take m l))) (drop m l)

split_none : Splits 0
unfolding reach last_of
split_none p l h = refl

split_pair : (m : ℕ) → Splits m → Splits (suc (suc m))
unfolding reach last_of
split_pair m s p [] h = absurd (let z : ⊥ = omega arith in z)
split_pair m s p (a ∷ []) h = absurd (let z : ⊥ = omega arith in z)
split_pair m s p (a ∷ b ∷ l) h = ap (λ (ps : List Point). moved p a b ∷ ps) (s (moved p a b) l (omega arith))

pub split_2 : Splits 2
split_2 = split_pair 0 split_none

pub split_6 : Splits 6
split_6 = split_pair 4 (split_pair 2 split_2)

small-append : (ps qs : List Point) → all_small (ps ++ qs) ≡ (all_small ps && all_small qs)
unfolding all_small
small-append [] qs = refl
small-append (p ∷ ps) qs = ap (λ (x : Bool). (small p.x && small p.y) && x) (small-append ps qs) ∙ regroup (small p.x && small p.y) (all_small ps) (all_small qs)
  where
    regroup : (a b c : Bool) → (a && (b && c)) ≡ ((a && b) && c)
    regroup true b c = refl
    regroup false b c = refl

pub last_append : (p : Point) (ps qs : List Point) → last_of p (ps ++ qs) ≡ last_of (last_of p ps) qs
unfolding last_of
last_append p [] qs = refl
last_append p (q ∷ ps) qs = last_append q ps qs

pub nil_of : (l : List ℤ) → length l ≡ 0 → l ≡ []
nil_of [] e = refl
nil_of (a ∷ l) e = absurd (let z : ⊥ = omega arith in z)

pub draw_faults : (c : Kind) (l : List ℤ) (s : State) → all_small (reach s.at l) ≡ false → draw c l s ≡ fault
unfolding draw
draw_faults c l s e = rw e

pub draw_drew : (c : Kind) (l : List ℤ) (s : State) → all_small (reach s.at l) ≡ true → draw c l s ≡ on 0 (acted c l s)
draw_drew c l s e = draw_is c l s (subst T (sym e) tt)

module _ (c : Kind) (k : ℕ) (split : Splits k) where
  -- the first k operands, and those after them
  rest_of : (n : ℕ) (l : List ℤ) → length l ≡ suc n * k → (k ≤ length l) × (length (drop k l) ≡ n * k)
  rest_of n l e =
      let w : length l ≡ n * k + k = e ∙ suc-mul n k in
      (omega arith, length-drop k l ∙ (let z : length l - k ≡ n * k = omega arith in z))

  parts_of : (p : Point) (l : List ℤ) → k ≤ length l → all_small (reach p l) ≡ (all_small (reach p (take k l)) && all_small (reach (last_of p (reach p (take k l))) (drop k l)))
  parts_of p l h = ap all_small (split p l h) ∙ small-append (reach p (take k l)) _

  pub each_drew : (n : ℕ) (l : List ℤ) (s : State) → length l ≡ n * k → all_small (reach s.at l) ≡ true → draws c k n l s ≡ on 0 (acted_each c k n l s)
  unfolding draws acted_each
  each_drew zero l s e t = refl
  each_drew (suc n) l s e t =
      let w = rest_of n l e in
      let a = all_small (reach s.at (take k l)) in
      let z = all_small (reach (last_of s.at (reach s.at (take k l))) (drop k l)) in
      let b = sym (parts_of s.at l w.0) ∙ t in
      rw (draw_drew c (take k l) s (left_of a z b)) (each_drew n (drop k l) (acted c (take k l) s) w.1 (right_of a z b))
    where
      left_of : (x y : Bool) → (x && y) ≡ true → x ≡ true
      left_of true y e = refl
      left_of false y e = e

      right_of : (x y : Bool) → (x && y) ≡ true → y ≡ true
      right_of true y e = e
      right_of false y e = absurd (true≢false (sym e))

  pub each_faults : (n : ℕ) (l : List ℤ) (s : State) → length l ≡ n * k → all_small (reach s.at l) ≡ false → draws c k n l s ≡ fault
  unfolding draws reach all_small
  each_faults zero l s e t = absurd (true≢false (sym (ap (λ (m : List ℤ). all_small (reach s.at m)) (nil_of l (e ∙ zero-mul k))) ∙ t))
  each_faults (suc n) l s e t =
      let w = rest_of n l e in
      go (all_small (reach s.at (take k l))) refl (sym (parts_of s.at l w.0) ∙ t) (each_faults n (drop k l) (acted c (take k l) s) w.1)
    where
      go : (x : Bool) → all_small (reach s.at (take k l)) ≡ x → (x && all_small (reach (last_of s.at (reach s.at (take k l))) (drop k l))) ≡ false
          → (all_small (reach (last_of s.at (reach s.at (take k l))) (drop k l)) ≡ false → draws c k n (drop k l) (acted c (take k l) s) ≡ fault)
          → and_then (draw c (take k l) s) (draws c k n (drop k l)) ≡ fault
      go true p q h = rw (draw_drew c (take k l) s p) (h q)
      go false p q h = rw (draw_faults c (take k l) s p)

  -- what stays, and where the path ends
  pub record Drawn (n : ℕ) (l : List ℤ) (s : State) : Type 0 where
    pub at_is : (acted_each c k n l s).at ≡ last_of s.at (reach s.at l)
    pub begun_is : (acted_each c k n l s).begun ≡ s.begun
    pub stems_is : (acted_each c k n l s).stems ≡ s.stems
    pub cleared : (acted_each c k n l s).ops ≡ []

  pub each_drawn : (n : ℕ) (l : List ℤ) (s : State) → length l ≡ n * k → Drawn n l s
  unfolding acted_each reach last_of
  each_drawn zero l s e = record { at_is = ap (λ (m : List ℤ). last_of s.at (reach s.at m)) (sym (nil_of l (e ∙ zero-mul k))); begun_is = refl; stems_is = refl; cleared = refl }
  each_drawn (suc n) l s e =
      let w = rest_of n l e in
      let d = each_drawn n (drop k l) (acted c (take k l) s) w.1 in
      record {
        at_is = d.at_is ∙ sym (ap (last_of s.at) (split s.at l w.0) ∙ last_append s.at (reach s.at (take k l)) _);
        begun_is = d.begun_is;
        stems_is = d.stems_is;
        cleared = d.cleared;
      }

-- ---- where a run can stand
pub possible_stems : (t : Reader) → is_possible t ≡ true → t.stems ≤ 96
possible_stems t e = leb→le t.stems 96 (and_both (leb t.stems 96) _ (subst T (sym e) tt)).0

pub possible_near : (t : Reader) → is_possible t ≡ true → is_near t.position ≡ true
possible_near t = go (leb t.stems 96) (is_near t.position)
  where
    go : (a b : Bool) → (a && b) ≡ true → b ≡ true
    go true b e = e
    go false b e = absurd (true≢false (sym e))

-- ---- by the operator

-- one that draws n / 2 or n / 6 entries by n operands, or one entry
pub by_drawing : (c : Operation) (n : ℕ) → is_drawing c ≡ true → Taken c n → (Q : Type 0) → (c ≡ Move → Q) → (c ≡ Lines → n ≡ n / 2 * 2 → Q) → (c ≡ Curves → n ≡ n / 6 * 6 → Q) → (c ≡ Flex → Q) → Q
by_drawing Stems n e t Q move line curve flex = absurd (true≢false (sym e))
by_drawing Mask n e t Q move line curve flex = absurd (true≢false (sym e))
by_drawing Move n e t Q move line curve flex = move refl
by_drawing Lines n e t Q move line curve flex = let w = t.spared in line refl (omega arith)
by_drawing Curves n e t Q move line curve flex = let w = t.spared in curve refl (omega arith)
by_drawing Flex n e t Q move line curve flex = flex refl
by_drawing End n e t Q move line curve flex = absurd (true≢false (sym e))

-- stems, a mask or the end
pub by_still : (c : Operation) → is_drawing c ≡ false → (Q : Type 0) → (c ≡ Stems → Q) → (c ≡ Mask → Q) → (c ≡ End → Q) → Q
by_still Stems e Q stems mask end = stems refl
by_still Mask e Q stems mask end = mask refl
by_still Move e Q stems mask end = absurd (true≢false e)
by_still Lines e Q stems mask end = absurd (true≢false e)
by_still Curves e Q stems mask end = absurd (true≢false e)
by_still Flex e Q stems mask end = absurd (true≢false e)
by_still End e Q stems mask end = end refl

-- how many operands there are
pub part_length : (i end : ℕ) (o : List ℕ) → end ≤ length o → length (part i end o) ≡ end - i
part_length i end o h =
    let a = held-length (drop i (take end o)) in
    let b = length-drop i (take end o) in
    let c = length-take end o in
    omega arith

-- the operands as a slice
pub slice_part : (i end : ℕ) (o : List ℕ) → i ≤ end → take (end - i) (drop i o) ≡ drop i (take end o)
slice_part i end o h = sym (ap (λ (n : ℕ). drop i (take n o)) (let e : end ≡ i + (end - i) = omega arith in e) ∙ drop-take i (end - i) o)

-- an operation draws where its number does
pub drawing_number : (o : Operation) → is_drawing o ≡ number_draws (code_of o)
drawing_number Stems = refl
drawing_number Mask = refl
drawing_number Move = refl
drawing_number Lines = refl
drawing_number Curves = refl
drawing_number Flex = refl
drawing_number End = refl
