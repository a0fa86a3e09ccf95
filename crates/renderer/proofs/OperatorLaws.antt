-- Laws: operators, as `next_operator` reads them.
use mathlib.Core.Path.{◌≡◌, refl, sym, ap, ap₂, ◌∙◌}
use Prim.Native.Nat.{ℕ, zero, suc, ◌+◌, ◌-◌, ◌≤◌, ◌<◌}
use native.Mathlib.Numerals.{add-one}
use native.Mathlib.Omega.{arith}
use mathlib.Core.Bool.{true, false}
use mathlib.Core.List.{List, [], ◌∷◌, ◌++◌}
use lib.ListN.{length, take, drop, get_or, set, length-take, drop_of_length-le, length-set}
use lib.Seq.{take-suc-set, drop-drop}
use lib.IntN.{ℤ}
use Rattle.type2.specs.Number.{Reading, no_number, number, read_from}
use Rattle.renderer.specs.Machine.{State, failed, with_ops, push, joins, operator, step, next, run}
use Rattle.type2.specs.Bools.{is_lt, not_lt}
use Rattle.renderer.specs.Reader.{unit, held}
use Rattle.renderer.proofs.ReaderLaws.{cons_at, held-length}
use Rattle.renderer.specs.Reads.{starts_number, Reads, Gathers}
use Rattle.renderer.specs.declared.numbers.Value.{Value}
use Rattle.std.specs.Prelude.{Some, None}

-- ---- operands as the code holds them
pub held-append : (l m : List ℕ) → held (l ++ m) ≡ held l ++ held m
unfolding held
held-append [] m = refl
held-append (n ∷ l) m = ap (λ (x : List ℤ). unit n ∷ x) (held-append l m)

pub held-drop : (k : ℕ) (l : List ℕ) → drop k (held l) ≡ held (drop k l)
unfolding held
held-drop zero l = refl
held-drop (suc k) [] = refl
held-drop (suc k) (n ∷ l) = held-drop k l

pub held-size : (n : ℕ) (o : List ℕ) → n ≤ length o → length (held (take n o)) ≡ n
held-size n o h = held-length (take n o) ∙ length-take n o ∙ (omega arith)

held_more : (n : ℕ) (o : List ℕ) (v : ℕ) → n < length o → held (take (n + 1) (set o n v)) ≡ held (take n o) ++ (unit v ∷ [])
unfolding held
held_more n o v h = rw (add-one n, take-suc-set o n v h) (held-append (take n o) (v ∷ []))

-- ---- bytes that are taken are passed over
pub run-skip : (k : ℕ) (bs : List ℕ) (s : State) → run bs k s ≡ run (drop k bs) 0 s
unfolding run
run-skip zero bs s = refl
run-skip (suc k) [] s = refl
run-skip (suc k) (b ∷ bs) s = run-skip k bs s

pub run-number : (b : ℕ) (bs : List ℕ) (s : State) → starts_number b ≡ true → run (b ∷ bs) 0 s ≡ next (joins (read_from b bs) s) bs (run bs)
unfolding run step
run-number b bs s h = rw h

pub run-operator : (b : ℕ) (bs : List ℕ) (s : State) → starts_number b ≡ false → run (b ∷ bs) 0 s ≡ next (operator b bs s) bs (run bs)
unfolding run step
run-operator b bs s h = rw h

pub run_end : (P : List ℕ) (at : ℕ) (s : State) → length P ≤ at → run (drop at P) 0 s ≡ failed
unfolding run
run_end P at s h = rw (drop_of_length-le P h)

-- ---- a number joins the operands, or there are 48
joins_full : (r : Reading) (l : List ℤ) (s : State) (bs : List ℕ) → 48 ≤ length l → next (joins r (with_ops l s)) bs (run bs) ≡ failed
unfolding push
joins_full no_number l s bs h = refl
joins_full (number v m) l s bs h = rw (not_lt (length l) 48 h)

joins_more : (v : ℤ) (m : ℕ) (l : List ℤ) (s : State) (bs : List ℕ) → length l < 48 → next (joins (number v m) (with_ops l s)) bs (run bs) ≡ run bs m (with_ops (l ++ (v ∷ [])) s)
unfolding push
joins_more v m l s bs h = rw (is_lt (length l) 48 h)

-- ---- the numbers before an operator: what is left from `at` on, with n operands held, is the whole
pub record Going (P : List ℕ) (from : ℕ) (o : List ℕ) (at n : ℕ) : Type 0 where
  pub runs : (s : State) → run (drop from P) 0 (with_ops [] s) ≡ run (drop at P) 0 (with_ops (held (take n o)) s)
  pub few : n ≤ 48
  pub size : length o ≡ 48
  pub past : from ≤ at

pub going_first : (P : List ℕ) (from : ℕ) (o : List ℕ) → length o ≡ 48 → Going P from o from 0
unfolding held
going_first P from o h = record { runs = λ s. refl; few = omega arith; size = h; past = omega arith }

module _ {P : List ℕ} {from : ℕ} {o : List ℕ} {at n : ℕ} (g : Going P from o at n) where
  none_left : ((s : State) → run (drop at P) 0 (with_ops (held (take n o)) s) ≡ failed) → Gathers P from o None
  none_left z = λ s. g.runs s ∙ z s

  pub at_end : length P ≤ at → Gathers P from o None
  at_end k = none_left (λ s. run_end P at (with_ops (held (take n o)) s) k)

  module _ (b : ℕ) (inside : at < length P) (byte : b ≡ get_or P at 0) where
    front : drop at P ≡ b ∷ drop (at + 1) P
    front = cons_at P at inside ∙ ap (λ (x : ℕ). x ∷ drop (at + 1) P) (sym byte)

    pub at_operator : starts_number b ≡ false → Gathers P from o (Some (record { byte = b; count = n; next = at + 1 }))
    at_operator h =
        let z = g.past in
        record { runs = λ s. g.runs s ∙ ap (λ (l : List ℕ). run l 0 (with_ops (held (take n o)) s)) front; operator = h; few = g.few; within = omega arith; onward = omega arith }

    module _ (starts : starts_number b ≡ true) where
      number_at : (s : State) → run (drop at P) 0 (with_ops (held (take n o)) s) ≡ next (joins (read_from b (drop (at + 1) P)) (with_ops (held (take n o)) s)) (drop (at + 1) P) (run (drop (at + 1) P))
      number_at s = ap (λ (l : List ℕ). run l 0 (with_ops (held (take n o)) s)) front ∙ run-number b (drop (at + 1) P) (with_ops (held (take n o)) s) starts

      pub cut-number : Reads b P (at + 1) None → Gathers P from o None
      cut-number r = none_left (λ s. number_at s ∙ rw r.same)

      pub full_number : 48 ≤ n → Gathers P from o None
      full_number k =
          none_left (λ s. number_at s ∙ joins_full (read_from b (drop (at + 1) P)) (held (take n o)) s (drop (at + 1) P) (let z = held-size n o (let y = g.few in let w = g.size in omega arith) in omega arith))

      pub more_number : (v : Value) → Reads b P (at + 1) (Some v) → n < 48 → Going P from (set o n v.value) v.next (n + 1)
      more_number v r k =
          let w = g.size in
          let m = v.next in
          let y : at + 1 ≤ v.next = r.onward in
          let i : n < length o = omega arith in
          let d : at + 1 + (v.next - (at + 1)) ≡ v.next = omega arith in
          record {
            runs = λ s. g.runs s ∙ number_at s ∙ rw r.same (joins_more (unit v.value) (v.next - (at + 1)) (held (take n o)) s (drop (at + 1) P) (let d = held-size n o (let y = g.few in omega arith) in omega arith)) ∙ run-skip (v.next - (at + 1)) (drop (at + 1) P) _ ∙ ap₂ (λ (l : List ℕ) (x : List ℤ). run l 0 (with_ops x s)) (drop-drop (v.next - (at + 1)) (at + 1) P ∙ ap (λ (j : ℕ). drop j P) d) (sym (held_more n o v.value i));
            few = omega arith;
            size = length-set o n v.value ∙ g.size;
            past = let d = g.past in omega arith;
          }
