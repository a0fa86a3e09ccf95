-- Laws: what the machine does at the bytes of an instruction.
use Rattle.std.specs.Prelude.{◌≡◌, Bool, false, not, ◌&&◌, ◌||◌, List, [], ◌∷◌, ◌++◌, take, drop, replicate, leb, ltb, eqb, ℤ}
use Rattle.std.proofs.Math.Path.{refl, ap, subst}
use Rattle.std.proofs.Common.{sym, ap₂, ◌∙◌, pow-suc, zero-mul, suc-mul, append_assoc, append-nil, length-append, length-take, length-drop, take-append-drop, drop_of_length-le, take_all, take_at, drop_at, leb→le, nltb→le, lit≤}
use Prim.Native.Nat.{ℕ, zero, suc, ◌+◌, ◌-◌, ◌*◌, ◌/◌, ◌%◌, ◌^◌, ◌≤◌, ◌<◌, min}
use native.Mathlib.Omega.{arith}
use Rattle.std.proofs.Math.Bool.{true}
use Rattle.std.proofs.Math.Option.{some}
use Rattle.std.proofs.Math.ListN.{length}
use Rattle.std.proofs.lemmas.List.{length-replicate, replicate-append-replicate, take-append-le, drop-append-le}
use Rattle.std.proofs.Math.Seq.{take-append-add}
use Rattle.std.proofs.Math.Dec.{T, nleb→lt}
use Rattle.std.specs.Float.Ieee.Fits.{and_i}
use Rattle.std.proofs.Math.IntN.{pos}
use Rattle.type2.specs.Number.{Reading, no_number, read_from, read, number, number_bytes, in_range}
use Rattle.type2.specs.Path.{Kind, moves, lines, curves, flexes}
use Rattle.renderer.specs.Machine.{State, Step, fault, stop, on, ended, with_ops, with_stems, with_mask, begin, push, Takes, exactly, many, least, spare, settle, stem, bits, bits_of, none_set, mask, reach, all_small, draw, and_then, draws, across, upward, escape, operator, step, next, run}
use Rattle.type2.specs.Instruction as Instruction
use Rattle.renderer.specs.Operators.{pushed, width_of, count, Ready, settled_with, acted}
use Rattle.type2.specs.Instruction.{numbers, fine}
use Rattle.type2.specs.Bools.{yes, is_lt, not_lt, is_le, not_le, choose, and_both}
use Rattle.type2.specs.Signed.{zero_is}
use Rattle.type2.specs.ReadBack.{reads_back, not_empty}

-- ---- bytes that are taken are passed over
pub skip : (l r : List ℕ) (s : State) → run (l ++ r) (length l) s ≡ run r 0 s
unfolding run
skip [] r s = refl
skip (b ∷ l) r s = skip l r s

-- ---- a number joins the operands
-- a number's first byte is 28, or 32 or more
abbrev FirstOf : ℕ → ℤ → ℕ → Reading → Type 0
FirstOf b v m r = r ≡ number v m → (eqb b 28 || leb 32 b) ≡ true

number-first : (b : ℕ) (bs : List ℕ) (v : ℤ) (m : ℕ) → FirstOf b v m (read_from b bs)
unfolding read_from
number-first b bs v m =
    choose (eqb b 28) (FirstOf b v m) _ _ (λ t e. rw (yes (eqb b 28) t))
    (λ t. choose (ltb b 32) (FirstOf b v m) no_number _ (λ t e. absurd (let z : ◌≡◌ {A = ℕ} 0 1 = cc in let y : ⊥ = omega arith in y)) (λ t e. rw (is_le 32 b (nltb→le b 32 t)) (or-true (eqb b 28))))
  where
    or-true : (a : Bool) → (a || true) ≡ true
    or-true true = refl
    or-true false = refl

-- bytes that read as a number, and all of them its
read-run : (u : ℤ) (c r : List ℕ) (s : State) → length s.ops < 48 → 1 ≤ length c → read (c ++ r) ≡ number u (length c - 1) → run (c ++ r) 0 s ≡ run r 0 (pushed u s)
unfolding run step push
read-run u [] r s h k e = absurd (let z : ⊥ = omega arith in z)
read-run u (b ∷ l) r s h k e =
    let f : suc (length l) - 1 ≡ length l = omega arith in
    rw (number-first b (l ++ r) u (suc (length l) - 1) e, e, f, is_lt (length s.ops) 48 h) (skip l r (pushed u s))

pub number-run : (u : ℤ) (r : List ℕ) (s : State) → T (in_range u) → length s.ops < 48 → run (number_bytes u ++ r) 0 s ≡ run r 0 (pushed u s)
number-run u r s t h = read-run u (number_bytes u) r s h (not_empty u) (reads_back u r t)

-- ---- numbers in a row join the operands
pub numbers-run : (l o : List ℤ) (r : List ℕ) (s : State) → T (fine l) → length o + length l ≤ 48 → run (numbers l ++ r) 0 (with_ops o s) ≡ run r 0 (with_ops (o ++ l) s)
unfolding numbers fine
numbers-run [] o r s t h = rw append-nil
numbers-run (u ∷ l) o r s t h =
    let w = and_both (in_range u) (fine l) t in
    let e : length (o ++ (u ∷ [])) ≡ length o + 1 = length-append o (u ∷ []) in
    ap (λ (x : List ℕ). run x 0 (with_ops o s)) (append_assoc (number_bytes u) (numbers l) r)
    ∙ number-run u (numbers l ++ r) (with_ops o s) w.0 (omega arith)
    ∙ numbers-run l (o ++ (u ∷ [])) r s w.1 (omega arith)
    ∙ ap (λ (x : List ℤ). run r 0 (with_ops x s)) (append_assoc o (u ∷ []) l)

-- ---- the operands that an operator finds: o is the width, or nothing
off : (b : Bool) → count b ≤ 0 → b ≡ false
off true h = absurd (let z : ⊥ = omega arith in z)
off false h = refl

pub settle_is : (t : Takes) (l o : List ℤ) (s : State) → least t ≤ length l → spare t (length l) ≡ 0 → spare t (suc (length l)) ≡ 1 → length o + count s.begun ≤ 1
    → settle t (with_ops (o ++ l) s) ≡ some (begin (width_of o s) l s)
unfolding settle
settle_is t l [] s h z w g = rw (not_lt (length l) (least t) h, z)
settle_is t l (v ∷ []) s h z w g = rw (not_lt (suc (length l)) (least t) (omega arith), w, off s.begun (omega arith))
settle_is t l (v ∷ u ∷ o) s h z w g = absurd (let z : ⊥ = omega arith in z)

nil_of : {A : Type 0} (l : List A) → length l ≡ 0 → l ≡ []
nil_of [] e = refl
nil_of (a ∷ l) e = absurd (let z : ⊥ = omega arith in z)

-- ---- a mask's bytes are its bits
value-lt : (l : List Bool) → Instruction.value l < 2 ^ length l
unfolding Instruction.value
value-lt [] = lit
  where
    lit : 0 < 1
    lit = omega arith
value-lt (true ∷ l) = let h = value-lt l in let e : 2 ^ suc (length l) ≡ 2 ^ length l * 2 = pow-suc 2 (length l) in omega arith
value-lt (false ∷ l) = let h = value-lt l in let e : 2 ^ suc (length l) ≡ 2 ^ length l * 2 = pow-suc 2 (length l) in omega arith

pub value-bits : (l : List Bool) → bits_of (length l) (Instruction.value l) ≡ l
unfolding Instruction.value bits_of
value-bits [] = refl
value-bits (true ∷ l) =
    let P = 2 ^ length l in
    let v = Instruction.value l in
    let e : 1 * P + v - P ≡ v = omega arith in
    rw (is_le P (1 * P + v) (omega arith), e) (ap (λ (x : List Bool). true ∷ x) (value-bits l))
value-bits (false ∷ l) =
    let P = 2 ^ length l in
    let v = Instruction.value l in
    let e : 0 * P + v ≡ v = omega arith in
    rw (e, not_le P v (value-lt l)) (ap (λ (x : List Bool). false ∷ x) (value-bits l))

-- eight bits of a list, 0 where they have run out
abbrev eight : List Bool → List Bool
eight l = take 8 (l ++ replicate 8 false)

eight-length : (l : List Bool) → length (eight l) ≡ 8
eight-length l = length-take 8 (l ++ replicate 8 false) ∙ (let h = length-append l (replicate 8 false) in let z : min 8 (length (l ++ replicate 8 false)) ≡ 8 = omega arith in z)

-- the last byte: what the bits leave of it is 0
eight-rest : (l : List Bool) (n : ℕ) → length l ≤ 8 → eight l ++ replicate n false ≡ l ++ replicate (8 - length l + n) false
eight-rest l n h =
    let k = length l in
    let e : k + (8 - k) ≡ 8 = omega arith in
    let a : eight l ≡ l ++ take (8 - k) (replicate 8 false) = ap (λ (x : ℕ). take x (l ++ replicate 8 false)) (sym e) ∙ take-append-add l (replicate 8 false) (8 - k) in
    let b : take (8 - k) (replicate 8 false) ≡ replicate (8 - k) false = ap (λ (x : ℕ). take (8 - k) (replicate x false)) (sym (let z : (8 - k) + k ≡ 8 = omega arith in z)) ∙ ap (take (8 - k)) (sym (replicate-append-replicate (8 - k) k false)) ∙ take_at (replicate (8 - k) false) (replicate k false) (8 - k) (length-replicate (8 - k) false) in
    ap (λ (x : List Bool). x ++ replicate n false) (a ∙ ap (λ (x : List Bool). l ++ x) b) ∙ append_assoc l (replicate (8 - k) false) (replicate n false) ∙ ap (λ (x : List Bool). l ++ x) (replicate-append-replicate (8 - k) n false)

packed-bits : (k : ℕ) (l : List Bool) → length l ≤ k * 8 → (n : ℕ) × (bits (Instruction.packed k l) ≡ l ++ replicate n false)
unfolding Instruction.packed bits
packed-bits zero l h = (0, ap (λ (x : List Bool). x ++ []) (sym (nil_of l (let z : length l ≡ 0 = omega arith in z))))
packed-bits (suc k) l h =
    let d = length-drop 8 l in
    let m = packed-bits k (drop 8 l) (omega arith) in
    let e : bits_of 8 (Instruction.value (eight l)) ≡ eight l = ap (λ (x : ℕ). bits_of x (Instruction.value (eight l))) (sym (eight-length l)) ∙ value-bits (eight l) in
    let f : bits_of 8 (Instruction.value (eight l)) ++ bits (Instruction.packed k (drop 8 l)) ≡ eight l ++ (drop 8 l ++ replicate m.0 false) = ap₂ (λ (x y : List Bool). x ++ y) e m.1 in
    split (leb 8 (length l)) refl m.0 f
  where
    split : (b : Bool) → leb 8 (length l) ≡ b → (n : ℕ) {x : List Bool} → x ≡ eight l ++ (drop 8 l ++ replicate n false) → (n : ℕ) × (x ≡ l ++ replicate n false)
    split true t n f =
        let g : 8 ≤ length l = leb→le 8 (length l) (subst T (sym t) tt) in
        (n, f ∙ ap (λ (y : List Bool). y ++ (drop 8 l ++ replicate n false)) (take-append-le 8 l (replicate 8 false) g) ∙ sym (append_assoc (take 8 l) (drop 8 l) (replicate n false)) ∙ ap (λ (y : List Bool). y ++ replicate n false) (take-append-drop 8 l))
    split false t n f =
        let g : length l < 8 = nleb→lt 8 (length l) (subst (λ (b : Bool). T (not b)) (sym t) tt) in
        (8 - length l + n, f ∙ ap (λ (y : List Bool). eight l ++ (y ++ replicate n false)) (drop_of_length-le l (let z : length l ≤ 8 = omega arith in z)) ∙ eight-rest l n (omega arith))

pub mask-bits : (b : List Bool) → (n : ℕ) × (bits (Instruction.mask_bytes b) ≡ b ++ replicate n false)
unfolding Instruction.mask_bytes
mask-bits b = packed-bits ((length b + 7) / 8) b (omega arith)

packed-length : (k : ℕ) (l : List Bool) → length (Instruction.packed k l) ≡ k
unfolding Instruction.packed
packed-length zero l = refl
packed-length (suc k) l = ap suc (packed-length k (drop 8 l))

pub mask-length : (b : List Bool) → length (Instruction.mask_bytes b) ≡ (length b + 7) / 8
unfolding Instruction.mask_bytes
mask-length b = packed-length ((length b + 7) / 8) b

none-set : (n : ℕ) → none_set (replicate n false) ≡ true
unfolding none_set
none-set zero = refl
none-set (suc n) = none-set n

pub mask_is : (b : List Bool) (r : List ℕ) (s : State) → length b ≡ s.stems → mask (Instruction.mask_bytes b ++ r) s ≡ on (length (Instruction.mask_bytes b)) (with_mask b s)
unfolding mask
mask_is b r s e =
    let k = (s.stems + 7) / 8 in
    let B = Instruction.mask_bytes b in
    let m = mask-bits b in
    let f : length B ≡ k = mask-length b ∙ ap (λ (n : ℕ). (n + 7) / 8) e in
    let g : take k (B ++ r) ≡ B = take_at B r k f in
    let d : drop s.stems (bits B) ≡ replicate m.0 false = ap (drop s.stems) m.1 ∙ drop_at b (replicate m.0 false) s.stems e in
    let t : take s.stems (bits B) ≡ b = ap (take s.stems) m.1 ∙ take_at b (replicate m.0 false) s.stems e in
    let h : k ≤ length (B ++ r) = let w = length-append B r in omega arith in
    rw (g, d, t, is_le k (length (B ++ r)) h, none-set m.0) (ap (λ (n : ℕ). on n (with_mask b s)) (sym f))

-- ---- an instruction from a state that has nothing among its operands, or at the first operator the width
pub operands_run : (l : List ℤ) (r : List ℕ) (s : State) → Ready s → T (fine l) → length l ≤ 47 → run (numbers l ++ r) 0 s ≡ run r 0 (with_ops (s.ops ++ l) s)
operands_run l r s g t h = numbers-run l s.ops r s t (omega arith)

pub two_even : (n : ℕ) → n * 2 % 2 ≡ 0
two_even n = omega arith

module _ (l : List ℤ) (r : List ℕ) (s : State) (g : Ready s) where
  pub stem-run : (op n : ℕ) → (eqb op 1 || eqb op 3 || eqb op 18 || eqb op 23) ≡ true → (eqb op 28 || leb 32 op) ≡ false → length l ≡ suc n * 2 → s.stems + suc n ≤ 96
      → run (op ∷ r) 0 (with_ops (s.ops ++ l) s) ≡ run r 0 (with_stems (s.stems + suc n) (settled_with l s))
  unfolding run step operator stem
  stem-run op n a b e h =
      let q : length l / 2 ≡ suc n = omega arith in
      rw (b, a, settle_is (many 2) l s.ops s (omega arith) (omega arith) (omega arith) g, q, is_lt (s.stems + suc n) 97 (omega arith))

  pub end_run : l ≡ [] → run (14 ∷ r) 0 (with_ops (s.ops ++ l) s) ≡ ended (settled_with l s) r
  unfolding run step operator
  end_run e =
      let z : length l ≡ 0 = ap length e in
      rw (settle_is (exactly 0) l s.ops s (omega arith) (omega arith) (omega arith) g)

  pub mask-run : (b : List Bool) → l ≡ [] → length b ≡ s.stems → run (19 ∷ Instruction.mask_bytes b ++ r) 0 (with_ops (s.ops ++ l) s) ≡ run r 0 (with_mask b (settled_with l s))
  unfolding run step operator
  mask-run b e f =
      let z : length l ≡ 0 = ap length e in
      rw (settle_is (exactly 0) l s.ops s (omega arith) (omega arith) (omega arith) g, mask_is b r (settled_with l s) f) (skip (Instruction.mask_bytes b) r (with_mask b (settled_with l s)))

-- ---- drawing
pub draw_is : (k : Kind) (l : List ℤ) (s : State) → T (all_small (reach s.at l)) → draw k l s ≡ on 0 (acted k l s)
unfolding draw
draw_is k l s t = rw (yes (all_small (reach s.at l)) t)

-- one entry more
pub draws_snoc : (k : Kind) (K n : ℕ) (l m : List ℤ) (s t : State) → length l ≡ n * K → length m ≡ K → draws k K n l s ≡ on 0 t → T (all_small (reach t.at m)) → draws k K (suc n) (l ++ m) s ≡ on 0 (acted k m t)
unfolding draws
draws_snoc k K zero l m s t e f d h =
    let z : l ≡ [] = nil_of l (e ∙ zero-mul K) in
    let w : with_ops [] s ≡ t = on_inj d in
    rw (z, take_all K m (omega arith), draw_is k m s (subst (λ (x : State). T (all_small (reach x.at m))) (sym w) h)) (ap (λ (x : State). on 0 (acted k m x)) w)
  where
    on_inj : {a b : State} → on 0 a ≡ on 0 b → a ≡ b
    on_inj {a} {b} p = cc
draws_snoc k K (suc n) l m s t e f d h =
    let c : length l ≡ n * K + K = e ∙ suc-mul n K in
    let p : take K (l ++ m) ≡ take K l = take-append-le K l m (omega arith) in
    let q : drop K (l ++ m) ≡ drop K l ++ m = drop-append-le K l m (omega arith) in
    let len : length (drop K l) ≡ n * K = length-drop K l ∙ (let z : length l - K ≡ n * K = omega arith in z) in
    rw (p, q) (go (draw k (take K l) s) (λ (x : State) (u : draws k K n (drop K l) x ≡ on 0 t). draws_snoc k K n (drop K l) m x t len f u h) d)
  where
    go : (x : Step) → ((x : State) → draws k K n (drop K l) x ≡ on 0 t → draws k K (suc n) (drop K l ++ m) x ≡ on 0 (acted k m t)) → and_then x (draws k K n (drop K l)) ≡ on 0 t → and_then x (draws k K (suc n) (drop K l ++ m)) ≡ on 0 (acted k m t)
    go fault ih u = absurd (let z : ◌≡◌ {A = ℕ} 0 1 = cc in let y : ⊥ = omega arith in y)
    go (stop x) ih u = absurd (let z : ◌≡◌ {A = ℕ} 0 1 = cc in let y : ⊥ = omega arith in y)
    go (on i x) ih u = ih x u

-- ---- moves, a flex, lines and curves
module _ (r : List ℕ) (s : State) (g : Ready s) where
  abbrev pub Goes : Kind → List ℤ → Instruction.Instr → Type 0
  Goes k l i = run (numbers i.operands ++ (i.code ++ r)) 0 s ≡ run r 0 (acted k l (settled_with [] s))

  pub across-run : (a : ℤ) → T (fine (a ∷ [])) → T (all_small (reach s.at (a ∷ pos 0 ∷ []))) → Goes moves (a ∷ pos 0 ∷ []) (Instruction.instr (a ∷ []) (22 ∷ []))
  across-run a f h = operands_run (a ∷ []) (22 ∷ r) s g f (lit≤ tt) ∙ there
    where
      there : run (22 ∷ r) 0 (with_ops (s.ops ++ (a ∷ [])) s) ≡ run r 0 (acted moves (a ∷ pos 0 ∷ []) (settled_with [] s))
      there = unfold run step operator across in rw (settle_is (exactly 1) (a ∷ []) s.ops s (lit≤ tt) refl refl g, draw_is moves (a ∷ pos 0 ∷ []) (settled_with (a ∷ []) s) h)

  pub upward-run : (b : ℤ) → T (fine (b ∷ [])) → T (all_small (reach s.at (pos 0 ∷ b ∷ []))) → Goes moves (pos 0 ∷ b ∷ []) (Instruction.instr (b ∷ []) (4 ∷ []))
  upward-run b f h = operands_run (b ∷ []) (4 ∷ r) s g f (lit≤ tt) ∙ there
    where
      there : run (4 ∷ r) 0 (with_ops (s.ops ++ (b ∷ [])) s) ≡ run r 0 (acted moves (pos 0 ∷ b ∷ []) (settled_with [] s))
      there = unfold run step operator upward in rw (settle_is (exactly 1) (b ∷ []) s.ops s (lit≤ tt) refl refl g, draw_is moves (pos 0 ∷ b ∷ []) (settled_with (b ∷ []) s) h)

  pub both_run : (a b : ℤ) → T (fine (a ∷ b ∷ [])) → T (all_small (reach s.at (a ∷ b ∷ []))) → Goes moves (a ∷ b ∷ []) (Instruction.instr (a ∷ b ∷ []) (21 ∷ []))
  both_run a b f h = operands_run (a ∷ b ∷ []) (21 ∷ r) s g f (lit≤ tt) ∙ there
    where
      there : run (21 ∷ r) 0 (with_ops (s.ops ++ (a ∷ b ∷ [])) s) ≡ run r 0 (acted moves (a ∷ b ∷ []) (settled_with [] s))
      there = unfold run step operator in rw (settle_is (exactly 2) (a ∷ b ∷ []) s.ops s (lit≤ tt) refl refl g, draw_is moves (a ∷ b ∷ []) (settled_with (a ∷ b ∷ []) s) h)

  pub move_run : (a b : ℤ) → T (fine (a ∷ b ∷ [])) → T (all_small (reach s.at (a ∷ b ∷ []))) → Goes moves (a ∷ b ∷ []) (Instruction.move_instr a b)
  unfolding fine
  move_run a b f h =
      let w = and_both (in_range a) (in_range b && true) f in
      choose (Instruction.is_zero b) (Goes moves (a ∷ b ∷ [])) (Instruction.instr (a ∷ []) (22 ∷ [])) _
      (λ t. let e : b ≡ pos 0 = zero_is b t in
      subst (λ (x : ℤ). T (all_small (reach s.at (a ∷ x ∷ []))) → Goes moves (a ∷ x ∷ []) (Instruction.instr (a ∷ []) (22 ∷ []))) (sym e) (across-run a (and_i (in_range a) true w.0 tt)) h)
      (λ t'. choose (Instruction.is_zero a) (Goes moves (a ∷ b ∷ [])) (Instruction.instr (b ∷ []) (4 ∷ [])) (Instruction.instr (a ∷ b ∷ []) (21 ∷ []))
      (λ t. let e : a ≡ pos 0 = zero_is a t in
      subst (λ (x : ℤ). T (all_small (reach s.at (x ∷ b ∷ []))) → Goes moves (x ∷ b ∷ []) (Instruction.instr (b ∷ []) (4 ∷ []))) (sym e) (upward-run b w.1) h)
      (λ t. both_run a b f h))

  pub flex_run : (l : List ℤ) → length l ≡ 13 → T (fine l) → T (all_small (reach s.at l)) → Goes flexes l (Instruction.instr l (12 ∷ 35 ∷ []))
  flex_run l e f h = operands_run l (12 ∷ 35 ∷ r) s g f (omega arith) ∙ there
    where
      there : run (12 ∷ 35 ∷ r) 0 (with_ops (s.ops ++ l) s) ≡ run r 0 (acted flexes l (settled_with [] s))
      there = unfold run step operator escape in rw (settle_is (exactly 13) l s.ops s (omega arith) (omega arith) (omega arith) g, draw_is flexes l (settled_with l s) h)

  pub lines_run : (l : List ℤ) (n : ℕ) (t : State) → length l ≡ suc n * 2 → length l ≤ 47 → T (fine l) → draws lines 2 (suc n) l (settled_with [] s) ≡ on 0 t → run (numbers l ++ (5 ∷ r)) 0 s ≡ run r 0 t
  lines_run l n t e few f d = operands_run l (5 ∷ r) s g f few ∙ there
    where
      there : run (5 ∷ r) 0 (with_ops (s.ops ++ l) s) ≡ run r 0 t
      there = unfold run step operator draws draw in
          let q : length l / 2 ≡ suc n = omega arith in
          rw (settle_is (many 2) l s.ops s (omega arith) (omega arith) (omega arith) g, q) (ap (λ (x : Step). next x r (run r)) d)

  pub curves_run : (l : List ℤ) (n : ℕ) (t : State) → length l ≡ suc n * 6 → length l ≤ 47 → T (fine l) → draws curves 6 (suc n) l (settled_with [] s) ≡ on 0 t → run (numbers l ++ (8 ∷ r)) 0 s ≡ run r 0 t
  curves_run l n t e few f d = operands_run l (8 ∷ r) s g f few ∙ there
    where
      there : run (8 ∷ r) 0 (with_ops (s.ops ++ l) s) ≡ run r 0 t
      there = unfold run step operator draws draw in
          let q : length l / 6 ≡ suc n = omega arith in
          rw (settle_is (many 6) l s.ops s (omega arith) (omega arith) (omega arith) g, q) (ap (λ (x : Step). next x r (run r)) d)
