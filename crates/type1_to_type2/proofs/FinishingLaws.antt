-- Laws: finishing. What the stores of a loop leave, what follows the width, and the program after it.
use mathlib.Core.Path.{◌≡◌, refl, sym, ap, ap₂, ◌∙◌, subst}
use Prim.Native.Nat.{ℕ, zero, suc, ◌+◌, ◌-◌, ◌≤◌, ◌<◌}
use native.Mathlib.Nat.{zero-add, sub-zero}
use native.Mathlib.Numerals.{add-one}
use native.Mathlib.Omega.{arith}
use mathlib.Core.Bool.{Bool, true, false, cond}
use mathlib.Core.List.{List, [], ◌∷◌, ◌++◌, append-nil}
use mathlib.Core.Option.{none, some}
use lib.ListN.{length, take, drop, set, get_or, replicate, length-append, length-drop}
use lib.Seq.{paste, paste-suc, length-paste, take-paste, take-append_seam, take_at, drop_at, length-take-le}
use lib.Dec.{T, leb, leb→le}
use lib.Ieee.{Float, binary64, sub, eq, fits}
use lib.Ieee.Fits.{sub-fits}
use Rattle.type2.specs.Number as Number
use Rattle.type2.specs.Number.{quantized, units, in_range, number_bytes, Push, gave, push_number}
use Rattle.type2.specs.Width.{push_width}
use Rattle.type2.proofs.Fixed.{units-quantized}
use Rattle.type2.specs.Bools.{is_le, not_le}
use Rattle.type1_to_type2.specs.FinishAnswer.{Finished, finished_of, Wrote, bytes_of}
use Rattle.type1_to_type2.specs.Writing.{Written, refused, wrote, then_write, put, put_numbers}
use Rattle.type1_to_type2.specs.Emission.{written}
use Rattle.type2.specs.declared.Widths.{Widths}
use Rattle.std.specs.Prelude.{Result, Ok, Err, is_ok}
use Rattle.std.specs.Result.{result_unwrap_or}
use mathlib.Core.Bool.{true≢false}
use Rattle.refusal.specs.declared.Refusal.{Refusal}
use Rattle.refusal.specs.declared.Refusal.TheVariants.{OutputShort}
use Rattle.refusal.proofs.Numbers.{positive}
use Rattle.type1_to_type2.specs.Finish.{width_for, first, finish}
use Rattle.type1_to_type2.specs.FinishAnswer.{finished_answer, finished_output, Front}

-- ---- after the width

-- with the width in the output o up to a place, f says what becomes of a program
pub record AfterWidth (out : List ℕ) (f : List ℕ → Written) (at : ℕ) (o : List ℕ) : Type 0 where
  pub room : at ≤ length out
  pub same : length o ≡ length out
  pub rest : (q : List ℕ) → f q ≡ cond (leb (length q) (length out - at)) (wrote (take at o ++ q)) (refused 18)

abbrev pub WidthPut : List ℕ → (List ℕ → Written) → Push → Type 0
WidthPut out f p = (p.number ≡ 0 → AfterWidth out f p.next p.holds) × ((p.number ≡ 0 → ⊥) → (q : List ℕ) → f q ≡ refused p.number)

-- a program after the bytes b
write-after : (c : Bool) (b q : List ℕ) → then_write (cond c (wrote (q ++ [])) (refused 18)) (λ x. wrote (b ++ x)) ≡ cond c (wrote (b ++ q)) (refused 18)
write-after true b q = ap (λ (x : List ℕ). wrote (b ++ x)) (append-nil q)
write-after false b q = refl

-- the bytes of a number at the start
bytes-put : (out b : List ℕ) → WidthPut out (λ q. put (length out) b (λ left. put left q (λ k. wrote []))) (Number.put out 0 b)
unfolding put Number.put
bytes-put out b = rw (zero-add (length b)) (go (leb (length b) (length out)) (leb→le (length b) (length out)))
  where
    go : (c : Bool) → (T c → length b ≤ length out) → WidthPut out (λ q. cond c (then_write (cond (leb (length q) (length out - length b)) (wrote (q ++ [])) (refused 18)) (λ x. wrote (b ++ x))) (refused 18)) (cond c (gave 0 (length b) (b ++ drop (length b) out)) (gave 18 0 out))
    go true h = (
      λ e. record {
        room = h tt;
        same = length-append b (drop (length b) out) ∙ simp length-drop (omega (arith, h tt));
        rest = λ q. write-after (leb (length q) (length out - length b)) b q ∙ ap (λ (l : List ℕ). cond (leb (length q) (length out - length b)) (wrote (l ++ q)) (refused 18)) (sym (take-append_seam b (drop (length b) out)));
      },
      λ e. absurd (e refl),
    )
    go false h = (λ e. absurd (let z : ⊥ = omega (arith, e) in z), λ e q. refl)

-- the width, or none
width-put : (out : List ℕ) (b : Bool) (v : Float) → T (fits binary64 v) → WidthPut out (λ q. put_numbers (first (cond b none (some (written v)))) (length out) (λ left. put left q (λ k. wrote []))) (cond b (gave 0 0 out) (push_number out 0 v))
unfolding put_numbers push_number put
width-put out true v a =
    (λ e. record { room = omega arith; same = refl; rest = λ q. rw (append-nil q, sub-zero (length out)) }, λ e. absurd (e refl))
width-put out false v a = rw (units-quantized v a) (go (in_range (units v)))
  where
    go : (c : Bool) → WidthPut out (λ q. cond c (put (length out) (number_bytes (units v)) (λ left. put left q (λ k. wrote []))) (refused 13)) (cond c (Number.put out 0 (number_bytes (units v))) (gave 13 0 out))
    go true = bytes-put out (number_bytes (units v))
    go false = (λ e. absurd (let z : ⊥ = omega (arith, e) in z), λ e q. refl)

abbrev pub Finishes : Float → Widths → List ℕ → Push → Type 0
Finishes width p out = WidthPut out (λ q. finish width q p (length out))

pub after-width : (out : List ℕ) (width : Float) (p : Widths) (r : Result ℕ Refusal) (o : List ℕ) → Number.pushed r o ≡ push_width out width p → Finishes width p out (Number.pushed r o)
unfolding finish width_for push_width
after-width out width p r o e =
    let n = p.nominal_width_x in
    subst (Finishes width p out) (sym e) (width-put out (eq (quantized width) p.default_width_x) (sub binary64 (quantized width) n) (sub-fits binary64 (quantized width) n))

-- ---- the answer and the output
module _ (out : List ℕ) (width : Float) (p : Widths) (program : List ℕ) where
  abbrev x : Written
  x = finish width program p (length out)

  -- the width was refused
  pub width_refused : (e : Refusal) (o : List ℕ) → Number.pushed (Err e) o ≡ push_width out width p → length o ≡ length out → Wrote (length out) x (Err e) o
  width_refused e o h l =
      let q = (after-width out width p (Err e) o h).1 (λ z. let k = positive e in let y : ⊥ = omega (arith, k, z) in y) program in
      record { result = sym (ap finished_answer q); bytes = λ n k. absurd (no_ok k); same = l }
    where
      no_ok : {n : ℕ} → Err e ≡ Ok n → ⊥
      no_ok k = true≢false (sym (ap is_ok k))

  module _ (at : ℕ) (o : List ℕ) (h : Number.pushed (Ok at) o ≡ push_width out width p) where
    abbrev w : AfterWidth out (λ q. finish width q p (length out)) at o
    w = (after-width out width p (Ok at) o h).0 refl

    pub at_within : at ≤ length o
    at_within = let l = w.same in let r = w.room in omega arith

    pub no_room : length o - at < length program → Wrote (length out) x (Err OutputShort) o
    no_room s =
        let q = w.rest program ∙ ap (λ (c : Bool). cond c (wrote (take at o ++ program)) (refused 18)) (not_le (length program) (length out - at) (let l = w.same in let r = w.room in omega arith)) in
        record { result = sym (ap finished_answer q); bytes = λ n k. absurd (true≢false (sym (ap is_ok k))); same = w.same }

    pub charstring_written : (n : ℕ) (z y : List ℕ) → n ≡ at + length program → length program ≤ length o - at → take n z ≡ take at o ++ y → y ≡ program → length z ≡ length o → Wrote (length out) x (Ok n) z
    charstring_written n z y en s ty ey l =
        let q = w.rest program ∙ ap (λ (c : Bool). cond c (wrote (take at o ++ program)) (refused 18)) (is_le (length program) (length out - at) (let l = w.same in omega arith)) in
        let t : take n z ≡ take at o ++ program = ty ∙ ap (λ (q : List ℕ). take at o ++ q) ey in
        let count : length (take at o ++ program) ≡ n = length-append (take at o) program ∙ ap (λ (k : ℕ). k + length program) (length-take-le at o (let l = w.same in let r = w.room in omega arith)) ∙ sym en in
        record {
          result = ap (λ (k : ℕ). finished_of (Ok k)) (sym count) ∙ sym (ap finished_answer q);
          bytes = λ k e. let same : n ≡ k = ok_same e in (let l = w.same in let a = at_within in omega arith, ap (λ (j : ℕ). take j z) (sym same) ∙ t ∙ sym (ap bytes_of q));
          same = l ∙ w.same;
        }
      where
        ok_same : {i j : ℕ} → (◌≡◌ {A = Result ℕ Refusal} (Ok i) (Ok j)) → i ≡ j
        ok_same e = ap (λ (r : Result ℕ Refusal). (finished_of r).len) e

-- zeros after it
pub finished-output : (room : ℕ) (x : Written) (r : Result ℕ Refusal) (o out : List ℕ) (k : ℕ) → Wrote room x r o → k ≡ result_unwrap_or r 0 → out ≡ take k o ++ replicate (length o - k) 0 → out ≡ finished_output room x
finished-output room x (Ok m) o out k w ek e = go x w
  where
    go : (x : Written) → Wrote room x (Ok m) o → out ≡ finished_output room x
    go (refused n) w = let z : k ≡ 0 = ek ∙ ap (λ (y : Finished). y.len) w.result in e ∙ ap (λ (j : ℕ). take j o ++ replicate (length o - j) 0) z ∙ ap (λ (j : ℕ). replicate j 0) (sub-zero (length o) ∙ w.same)
    go (wrote b) w =
        let c = w.bytes m refl in
        e ∙ ap (λ (j : ℕ). take j o ++ replicate (length o - j) 0) ek ∙ ap₂ (λ (l : List ℕ) (j : ℕ). l ++ replicate j 0) c.1 (ap₂ ◌-◌ w.same (ap (λ (y : Finished). y.len) w.result))
finished-output room x (Err m) o out k w ek e = go x w
  where
    go : (x : Written) → Wrote room x (Err m) o → out ≡ finished_output room x
    go (refused n) w = e ∙ ap (λ (j : ℕ). take j o ++ replicate (length o - j) 0) ek ∙ ap (λ (j : ℕ). replicate j 0) (sub-zero (length o) ∙ w.same)
    go (wrote b) w = absurd (let p = positive m in let z = ap (λ (y : Finished). y.number) w.result in let y : ⊥ = omega (arith, p, z) in y)

-- ---- the finished program

-- what finishing wrote, then zeros
pub front_of : (x : Written) (len : ℕ) (out : List ℕ) → out ≡ finished_output (length out) x → len ≡ (finished_answer x).len → Front x len out (take len out)
front_of (refused n) len out e h = subst (λ (k : ℕ). Front (refused n) k out (take k out)) (sym h) (record { bytes = refl; zeros = rw (sub-zero (length out)) e })
front_of (wrote b) len out e h =
    let z : List ℕ = replicate (length out - length b) 0 in
    record {
      bytes = ap (take len) e ∙ take_at b z len (sym h);
      zeros = ap (drop len) e ∙ drop_at b z len (sym h) ∙ ap (λ (k : ℕ). replicate (length out - k) 0) (sym h);
    }
