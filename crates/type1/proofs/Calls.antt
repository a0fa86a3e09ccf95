-- Laws: `callsubr` names a body of the bank, whose bytes are counted before it runs.
use mathlib.Core.Path.{◌≡◌, refl, sym, ap, ap₂, ◌∙◌, subst}
use Prim.Native.Nat.{ℕ, ◌+◌, ◌-◌, ◌≤◌, ◌<◌}
use native.Mathlib.Nat.{pos_of_ne-zero}
use native.Mathlib.Omega.{arith}
use mathlib.Core.Bool.{Bool, true, false}
use mathlib.Core.List.{List}
use mathlib.Core.Option.{Option, none}
use borrow.Author.Tests.{le-leb, lt-leb, leb-true, leb-false}
use lib.Dec.{leb, lit≤}
use lib.ListN.{length, get_or, drop, length-drop}
use lib.Seq.{length-take-le}
use lib.Ieee.{Float, nan, le, to_unsigned}
use Rattle.charstring.specs.Cipher.{max_charstring_bytes}
use Rattle.bank.specs.Bank.{Valid, body, found, body_at, bytes_at, part}
use Rattle.bank.specs.Call.{counted, called}
use Rattle.bank.specs.Laws.{found-body, found_within, called-below, called_is}
use Rattle.std.specs.declared.ops.Range.{Range}
use Rattle.std.specs.Prelude.{Some, None, Result, Ok, Err}
use Rattle.std.specs.Prelude as Rust
use Rattle.refusal.specs.declared.Refusal.{Refusal}
use Rattle.refusal.specs.declared.Refusal.TheVariants.{TooManyBytes, MissingOperands, NoSuchSubroutine}
use Rattle.refusal.specs.Refusal.{number_of}
use Rattle.bank.specs.declared.Callee.{Callee}
use Rattle.type1.specs.declared.St.{St}
use Rattle.type1.specs.declared.Reading.{Reading}
use Rattle.outline.specs.Outline.{plus_zero, pick}
use Rattle.type1.specs.State.{State, with_ran}
use Rattle.type1.specs.Run.{Outcome, going, refused, check, and_then, returned, top, without, Font, font_of, charge, named, call_body, call_subr}
use Rattle.type1.specs.Memory.{Mem, abs, Holds}
use Rattle.type1.specs.Reading.{Calls, with_count}
use Rattle.type1.proofs.Stacks.{small, small_fit, operand_count, top_is, without_holds}

abbrev Deep : Type 0
Deep = List ℕ → State → Outcome

-- one operand less, and so many bytes run
abbrev ran_to : ℕ → St → St
ran_to n t = small (t.operands - 1) t.postscript t.x t.y t.opened t.flexing t.points t.hints t.changed t.divided n t

-- so many bytes more
abbrev calling : ℕ → St → St
calling n t = ran_to (t.ran + n) t

module _ (bank : List ℕ) (reading : Reading) (t : St) (m : Mem) (s : State) (H : Holds t m s) where
  abbrev font : Font
  font = font_of bank reading

  stops : (r : Refusal) → 3 ≤ number_of r → ((deep : Deep) → call_subr font deep s ≡ refused (number_of r)) → Calls bank reading m s (Err r)
  stops r h e = (h, e)

  few : t.operands ≡ 0 → (deep : Deep) → call_subr font deep s ≡ refused 7
  unfolding call_subr
  few z deep = ap (λ (b : Bool). check b 7 (call_body deep (named font (top 1 s)) (without 1 s))) (lt-leb 1 (length s.operands) (let n = operand_count t m s H in omega arith))

  pub call_none : t.operands ≡ 0 → Calls bank reading m s (Err MissingOperands)
  call_none z = stops MissingOperands (lit≤ tt) (few z)

  module _ (ne : t.operands ≡ 0 → ⊥) where
    abbrev v : Float
    v = get_or m.ops (t.operands - 1) nan

    call_is : (deep : Deep) → call_subr font deep s ≡ call_body deep (named font v) (without 1 s)
    unfolding call_subr
    call_is deep =
        let p = pos_of_ne-zero ne in
        ap (λ (b : Bool). check b 7 (call_body deep (named font (top 1 s)) (without 1 s))) (le-leb 1 (length s.operands) (let n = operand_count t m s H in omega arith))
        ∙ ap (λ (x : Float). call_body deep (named font x) (without 1 s)) (top_is t m s H 1 (omega arith) p)

    nobody : named font v ≡ none → (deep : Deep) → call_subr font deep s ≡ refused 8
    unfolding call_body
    nobody e deep = call_is deep ∙ ap (λ (b : Option (List ℕ)). call_body deep b (without 1 s)) e

    below : le plus_zero v ≡ false → named font v ≡ none
    unfolding named
    below e = ap (λ (b : Bool). pick b (body (to_unsigned 64 v) bank) none) e

    call_below : le plus_zero v ≡ false → Calls bank reading m s (Err NoSuchSubroutine)
    call_below e = stops NoSuchSubroutine (lit≤ tt) (nobody (below e))

    module _ (ge : le plus_zero v ≡ true) (ok : Valid bank) (i : ℕ) (is : i ≡ to_unsigned 64 v) where
      named_is : (f : Rust.Option (Range ℕ)) → found i bank ≡ f → named font v ≡ body_at f bank
      unfolding named
      named_is f e = ap (λ (b : Bool). pick b (body (to_unsigned 64 v) bank) none) ge ∙ ap (λ (n : ℕ). body n bank) (sym is) ∙ sym (found-body bank i ok) ∙ ap (λ (g : Rust.Option (Range ℕ)). body_at g bank) e

      call_nothing : found i bank ≡ None → Calls bank reading m s (Err NoSuchSubroutine)
      call_nothing e = stops NoSuchSubroutine (lit≤ tt) (nobody (named_is None e))

      module _ (r : Range ℕ) (e : found i bank ≡ Some r) where
        abbrev start : ℕ
        start = r.start

        abbrev end : ℕ
        end = r.end

        abbrev l : List ℕ
        l = part start end bank

        part_length : length l ≡ end - start
        part_length = let w = found_within bank i e in length-take-le (end - start) (drop start bank) (let n = length-drop start bank in omega (arith, w.0, w.1))

        somebody : (deep : Deep) → call_subr font deep s ≡ and_then (charge l (without 1 s)) (λ (u : State). returned (deep l u))
        unfolding call_body
        somebody deep = call_is deep ∙ ap (λ (b : Option (List ℕ)). call_body deep b (without 1 s)) (named_is (Some r) e)

        ran_is : s.ran ≡ t.ran
        unfolding abs
        ran_is = sym (ap (λ (u : State). u.ran) H.is)

        charge_is : (b : Bool) → leb (t.ran + (end - start)) max_charstring_bytes ≡ b → charge l (without 1 s) ≡ check b 3 (going (with_ran (s.ran + length l) (without 1 s)))
        unfolding charge
        charge_is b q = ap (λ (k : Bool). check k 3 (going (with_ran (s.ran + length l) (without 1 s)))) (ap₂ (λ (x y : ℕ). leb (x + y) max_charstring_bytes) ran_is part_length ∙ q)

        call_large : t.ran ≤ max_charstring_bytes → max_charstring_bytes - t.ran < end - start → Calls bank reading m s (Err TooManyBytes)
        call_large a b = stops TooManyBytes (lit≤ tt) (λ deep. somebody deep ∙ ap (λ (o : Outcome). and_then o (λ (u : State). returned (deep l u))) (charge_is false (lt-leb (t.ran + (end - start)) max_charstring_bytes (omega arith))))

        charged : t.ran + (end - start) ≤ max_charstring_bytes → Holds (calling (end - start) t) m (with_ran (s.ran + length l) (without 1 s))
        unfolding abs
        charged h =
            let W = without_holds t m s H 1 (pos_of_ne-zero ne) in
            let F = W.fit in
            record {
              is = ap₂ (λ (n : ℕ) (u : State). with_ran n u) (sym (ap₂ (λ (x y : ℕ). x + y) ran_is part_length)) W.is;
              fit = small_fit (with_count (t.operands - 1) t) m F _ _ _ _ _ _ _ _ _ _ _ _ _ _ F.bounds.operands F.bounds.postscript F.bounds.points F.bounds.hints h F.ops F.ps F.cells;
            }

        call_made : t.ran ≤ max_charstring_bytes → end - start ≤ max_charstring_bytes - t.ran → Calls bank reading m s (Ok (record { st = calling (end - start) t; index = i }))
        call_made a b = (with_ran (s.ran + length l) (without 1 s), charged (omega arith), λ deep. somebody deep ∙ ap (λ (o : Outcome). and_then o (λ (u : State). returned (deep l u))) (charge_is true (le-leb (t.ran + (end - start)) max_charstring_bytes (omega arith))) ∙ ap (λ (f : Rust.Option (Range ℕ)). returned (deep (bytes_at f bank) (with_ran (s.ran + length l) (without 1 s)))) (sym e))

    -- ---- as `bank::call` answers
    module _ (ok : Valid bank) (a : t.ran ≤ max_charstring_bytes) where
      abbrev Answer : Result Callee Refusal → Type 0
      Answer (Ok j) = Calls bank reading m s (Ok (record { st = ran_to j.ran t; index = j.index }))
      Answer (Err r) = Calls bank reading m s (Err r)

      answers : Answer (called bank v t.ran)
      answers = by_sign (le plus_zero v) refl
        where
          by_size : (r : Range ℕ) → found (to_unsigned 64 v) bank ≡ Some r → le plus_zero v ≡ true → (b : Bool) → leb (t.ran + (r.end - r.start)) max_charstring_bytes ≡ b → Answer (counted (to_unsigned 64 v) t.ran (Some r))
          by_size r e ge true q = let h = leb-true (t.ran + (r.end - r.start)) max_charstring_bytes q in rw q (call_made ge ok (to_unsigned 64 v) refl r e a (omega arith))
          by_size r e ge false q = let h = leb-false (t.ran + (r.end - r.start)) max_charstring_bytes q in rw q (call_large ge ok (to_unsigned 64 v) refl r e a (omega arith))

          by_place : (f : Rust.Option (Range ℕ)) → found (to_unsigned 64 v) bank ≡ f → le plus_zero v ≡ true → Answer (counted (to_unsigned 64 v) t.ran f)
          by_place (Some r) e ge = by_size r e ge (leb (t.ran + (r.end - r.start)) max_charstring_bytes) refl
          by_place None e ge = call_nothing ge ok (to_unsigned 64 v) refl e

          by_sign : (b : Bool) → le plus_zero v ≡ b → Answer (called bank v t.ran)
          by_sign true q = subst Answer (sym (called_is bank v t.ran q (to_unsigned 64 v) refl _ refl)) (by_place (found (to_unsigned 64 v) bank) refl q)
          by_sign false q = subst Answer (sym (called-below bank v t.ran q)) (call_below q)

      pub call_refused : {r : Refusal} → Err r ≡ called bank v t.ran → Calls bank reading m s (Err r)
      call_refused is = subst Answer (sym is) answers

      pub call_goes : {j : Callee} → Ok j ≡ called bank v t.ran → Calls bank reading m s (Ok (record { st = ran_to j.ran t; index = j.index }))
      call_goes is = subst Answer (sym is) answers
