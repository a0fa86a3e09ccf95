-- Laws: numbers and bytes that are put, in turn.
use mathlib.Core.Path.{◌≡◌, refl, sym, ap, ◌∙◌}
use Prim.Native.Nat.{ℕ, suc, ◌+◌, ◌-◌, ◌/◌, ◌%◌, ◌≤◌, ◌<◌}
use native.Mathlib.Nat.{sub-zero}
use native.Mathlib.Omega.{arith}
use mathlib.Core.Bool.{Bool, true, false, not, ◌&&◌, cond}
use mathlib.Core.List.{List, [], ◌∷◌, ◌++◌, append_assoc}
use lib.ListN.{length, take, drop, set, length-take, length-append, length-drop}
use lib.Seq.{take_at}
use lib.Dec.{T, eqb, leb, ltb, leb→le, nleb→lt}
use lib.IntN.{ℤ}
use lib.Ieee.{Float}
use borrow.Author.Tests.{ne_eqb, le-leb, lt-leb, leb-true, leb-false}
use Rattle.type2.specs.Number as Number
use Rattle.type2.specs.Number.{Push, gave, push_number, units, in_range, number_bytes, whole_bytes, fixed_bytes, zp, zm}
use Rattle.type2.specs.Bools.{choose}
use Rattle.type2.specs.Put as Put
use Rattle.type1_to_type2.specs.Writing.{Written, refused, wrote, then_write, put, put_numbers}
use Rattle.type1_to_type2.specs.Streaming.{rest, resumed}
use Rattle.std.specs.Prelude.{Result, Ok, Err}
use Rattle.outline.specs.Outline.{pick}
use Rattle.refusal.specs.declared.Refusal.{Refusal}
use Rattle.refusal.specs.declared.Refusal.TheVariants.{OutputShort}
use Rattle.refusal.specs.Refusal.{number_of}
use Rattle.refusal.proofs.Numbers.{positive}

-- ---- a refusal stays
pub refused_stays : (e : Refusal) (o p : List ℕ) (f g : ℕ → Written) → resumed (Err e) o f ≡ resumed (Err e) p g
unfolding resumed
refused_stays e o p f g = refl

pub stays_refused : {r : Result ℕ Refusal} (e : Refusal) (o : List ℕ) (f g : ℕ → Written) → r ≡ Err e → resumed r o f ≡ resumed r o g
stays_refused e o f g h = ap (λ (x : Result ℕ Refusal). resumed x o f) h ∙ refused_stays e o o f g ∙ ap (λ (x : Result ℕ Refusal). resumed x o g) (sym h)

-- refused here
pub now_refused : (e : Refusal) (n at : ℕ) (o out : List ℕ) (f : ℕ → Written) → number_of e ≡ n → resumed (Err e) o f ≡ resumed (Ok at) out (λ left. refused n)
unfolding resumed
now_refused e n at o out f h = ap refused h

-- not refused before
pub not_before : {r : Result ℕ Refusal} (k : ℕ) (o : List ℕ) (x : Written) (g : ℕ → Written) → r ≡ Ok k → x ≡ resumed (Ok k) o g → x ≡ resumed r o g
not_before k o x g e h = h ∙ ap (λ (n : Result ℕ Refusal). resumed n o g) (sym e)

-- the same, of a push
abbrev pushes_on : Push → (ℕ → Written) → Written
pushes_on p f = pick (eqb p.number 0) (rest (take p.next p.holds) f (length p.holds)) (refused p.number)

pushed_on : (r : Result ℕ Refusal) (o : List ℕ) (f : ℕ → Written) → resumed r o f ≡ pushes_on (Number.pushed r o) f
unfolding resumed
pushed_on (Ok n) o f = refl
pushed_on (Err e) o f = rw (ne_eqb (number_of e) 0 (λ z. let h = positive e in let y : ⊥ = omega (arith, h, z) in y)) refl

then_then : (x : Written) (p q : List ℕ) → then_write x (λ c. wrote ((p ++ q) ++ c)) ≡ then_write (then_write x (λ c. wrote (q ++ c))) (λ c. wrote (p ++ c))
then_then (refused n) p q = refl
then_then (wrote c) p q = ap wrote (append_assoc p q c)

-- ---- bytes at a place

-- p and then l, which fit
more : (p l out o : List ℕ) (k : ℕ) (f : ℕ → Written) → take k o ≡ p ++ l → length o ≡ length out → length p + length l ≤ length out → rest (take k o) f (length o) ≡ rest p (λ left. put left l f) (length out)
unfolding put
more p l out o k f e s h =
    let n : length out - length (p ++ l) ≡ length out - length p - length l = omega (arith, length-append p l) in
    rw (e, s, n, le-leb (length l) (length out - length p) (let z : length l ≤ length out - length p = omega arith in z)) (then_then (f (length out - length p - length l)) p l)

pub stored : (out : List ℕ) (at b : ℕ) (bs : List ℕ) (f : ℕ → Written) → pushes_on (Number.put out at (b ∷ bs)) f ≡ resumed (Ok at) out (λ left. put left (b ∷ bs) f)
unfolding Number.put resumed put
stored out at b bs f = choose (leb (at + length l) (length out)) (λ (p : Push). pushes_on p f ≡ resumed (Ok at) out (λ left. put left l f)) _ _ fits none
  where
    l : List ℕ
    l = b ∷ bs

    h : List ℕ
    h = take at out

    fits : T (leb (at + length l) (length out)) → rest (take (at + length l) (h ++ l ++ drop (at + length l) out)) f (length (h ++ l ++ drop (at + length l) out)) ≡ rest h (λ left. put left l f) (length out)
    fits t =
        let g : at + length l ≤ length out = leb→le (at + length l) (length out) t in
        let n : length h ≡ at = omega (arith, length-take at out) in
        more h l out (h ++ l ++ drop (at + length l) out) (at + length l) f
        (take_at (h ++ l) (drop (at + length l) out) (at + length l) (length-append h l ∙ ap (λ (x : ℕ). x + length l) n))
        (omega (arith, length-append (h ++ l) (drop (at + length l) out), length-append h l, length-drop (at + length l) out))
        (omega arith)

    none : T (not (leb (at + length l) (length out))) → refused 18 ≡ rest h (λ left. put left l f) (length out)
    none t =
        let g : length out < at + length l = nleb→lt (at + length l) (length out) t in
        rw (lt-leb (length l) (length out - length h) (let z : length out - length h < length l = omega (arith, length-take at out) in z))

-- a number has a byte or more
number_cons : (u : ℤ) (P : List ℕ → Type 0) → ((b : ℕ) (bs : List ℕ) → P (b ∷ bs)) → P (number_bytes u)
unfolding number_bytes whole_bytes fixed_bytes
number_cons u P h =
    choose (eqb ((zp u + zm u) % 65536) 0) P _ _
    (λ _. choose (ltb (zp u / 65536) 108 && ltb (zm u / 65536) 108) P _ _ (λ _. h _ _) (λ _. choose (ltb 107 (zp u / 65536) && ltb (zp u / 65536) 1132) P _ _ (λ _. h _ _) (λ _. choose (ltb 107 (zm u / 65536) && ltb (zm u / 65536) 1132) P _ _ (λ _. h _ _) (λ _. h _ _))))
    (λ _. h _ _)

pub pushed : (out : List ℕ) (at : ℕ) (v : Float) (r : Result ℕ Refusal) (o : List ℕ) (f : ℕ → Written) → Number.pushed r o ≡ push_number out at v → resumed r o f ≡ resumed (Ok at) out (λ left. put_numbers (units v ∷ []) left f)
unfolding push_number put_numbers
pushed out at v r o f e = pushed_on r o f ∙ ap (λ (p : Push). pushes_on p f) e ∙ go (in_range (units v))
  where
    go : (b : Bool) → pushes_on (cond b (Number.put out at (number_bytes (units v))) (gave 13 0 out)) f ≡ resumed (Ok at) out (λ left. cond b (put left (number_bytes (units v)) f) (refused 13))
    go true = number_cons (units v) (λ (l : List ℕ). pushes_on (Number.put out at l) f ≡ resumed (Ok at) out (λ left. put left l f)) (λ b bs. stored out at b bs f)
    go false = unfold resumed in refl

-- two numbers: the first is refused, or neither is
pub pair_refused : (out : List ℕ) (at : ℕ) (v : Float) (u : ℤ) (e : Refusal) (o : List ℕ) (f : ℕ → Written) → Number.pushed (Err e) o ≡ push_number out at v → resumed (Err e) o f ≡ resumed (Ok at) out (λ left. put_numbers (units v ∷ u ∷ []) left f)
unfolding put_numbers
pair_refused out at v u e o f h = refused_stays e o o f (λ left. put_numbers (u ∷ []) left f) ∙ pushed out at v (Err e) o (λ left. put_numbers (u ∷ []) left f) h

pub pair-pushed : (out : List ℕ) (at : ℕ) (v w : Float) (k : ℕ) (o : List ℕ) (r : Result ℕ Refusal) (q : List ℕ) (f : ℕ → Written) → Number.pushed (Ok k) o ≡ push_number out at v → Number.pushed r q ≡ push_number o k w → resumed r q f ≡ resumed (Ok at) out (λ left. put_numbers (units v ∷ units w ∷ []) left f)
unfolding put_numbers
pair-pushed out at v w k o r q f e d = pushed o k w r q f d ∙ pushed out at v (Ok k) o (λ left. put_numbers (units w ∷ []) left f) e

-- one byte
pub byte_stored : (out : List ℕ) (at b : ℕ) (f : ℕ → Written) → at < length out → resumed (Ok (at + 1)) (set out at b) f ≡ resumed (Ok at) out (λ left. put left (b ∷ []) f)
byte_stored out at b f h =
    pushed_on (Ok (at + 1)) (set out at b) f ∙ ap (λ (p : Push). pushes_on p f) (Put.stored out at b [] (let z : at + 1 ≤ length out = omega arith in z)) ∙ stored out at b [] f

pub byte_refused : (out : List ℕ) (at b : ℕ) (f : ℕ → Written) → length out ≤ at → resumed (Err OutputShort) out f ≡ resumed (Ok at) out (λ left. put left (b ∷ []) f)
unfolding resumed put
byte_refused out at b f h = rw (lt-leb 1 (length out - length (take at out)) (let z : length out - length (take at out) < 1 = omega (arith, length-take at out) in z))

-- ---- no bytes, and bytes one by one
pub put_nil : (left : ℕ) (f : ℕ → Written) → put left [] f ≡ f left
unfolding put
put_nil left f = rw (le-leb 0 left (let z : 0 ≤ left = omega arith in z), sub-zero left) (all (f left))
  where
    all : (x : Written) → then_write x (λ c. wrote c) ≡ x
    all (refused n) = refl
    all (wrote b) = refl

pub put_cons : (room b : ℕ) (bs : List ℕ) (f : ℕ → Written) → put room (b ∷ []) (λ left. put left bs f) ≡ put room (b ∷ bs) f
unfolding put
put_cons room b bs f = split (leb 1 room) refl (leb (length bs) (room - 1)) refl
  where
    n : ℕ
    n = length bs

    split : (t : Bool) → leb 1 room ≡ t → (u : Bool) → leb n (room - 1) ≡ u →
        cond (leb 1 room) (then_write (cond (leb n (room - 1)) (then_write (f (room - 1 - n)) (λ c. wrote (bs ++ c))) (refused 18)) (λ c. wrote (b ∷ c))) (refused 18) ≡ cond (leb (suc n) room) (then_write (f (room - suc n)) (λ c. wrote (b ∷ (bs ++ c)))) (refused 18)
    split true e true d =
        let g : 1 ≤ room = leb-true 1 room e in
        let h : n ≤ room - 1 = leb-true n (room - 1) d in
        let q : room - suc n ≡ room - 1 - n = omega arith in
        rw (e, d, q, le-leb (suc n) room (let z : suc n ≤ room = omega arith in z)) (sym (then_then (f (room - 1 - n)) (b ∷ []) bs))
    split true e false d = let g : 1 ≤ room = leb-true 1 room e in let h : room - 1 < n = leb-false n (room - 1) d in rw (e, d, lt-leb (suc n) room (let z : room < suc n = omega arith in z))
    split false e u d = let g : room < 1 = leb-false 1 room e in rw (e, lt-leb (suc n) room (let z : room < suc n = omega arith in z))
