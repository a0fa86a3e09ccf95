-- Laws: every operator clears the operands, and no state that a run reaches holds more than 48.
use Rattle.std.specs.Prelude.{◌≡◌, refl, ℕ, zero, suc, ◌+◌, ◌-◌, ◌/◌, ◌&&◌, ◌||◌, cond, List, [], ◌∷◌, ◌++◌, length, take, drop, leb, ltb, eqb, ℤ, pos}
use Rattle.std.proofs.Common.{ap, subst, arith, length-append, ltb→lt}
use Rattle.std.proofs.Math.Option.{Option, none, some}
use Rattle.type2.specs.Number.{Reading, no_number, number, read_from}
use Rattle.type2.specs.Path.{Kind, moves, lines, curves, flexes}
use Rattle.renderer.specs.Machine.{State, Step, fault, stop, on, begin, push, joins, exactly, many, settled, settle, after, stem, bits, none_set, mask, reach, all_small, draw, and_then, draws, across, upward, escape, operator, step}
use Rattle.type2.specs.Bools.{choose}
use Rattle.renderer.specs.Held.{Clears, Holds48}

draw_clears : (k : Kind) (l : List ℤ) (s : State) → Clears (draw k l s)
unfolding draw
draw_clears k l s = choose (all_small (reach s.at l)) Clears _ fault (λ t. refl) (λ t. tt)

then_clears : (x : Step) (f : State → Step) → Clears x → ((s : State) → Clears (f s)) → Clears (and_then x f)
then_clears fault f c h = tt
then_clears (stop s) f c h = c
then_clears (on m s) f c h = h s

draws_clears : (c : Kind) (k n : ℕ) (l : List ℤ) (s : State) → Clears (draws c k n l s)
unfolding draws
draws_clears c k zero l s = refl
draws_clears c k (suc n) l s = then_clears (draw c (take k l) s) (draws c k n (drop k l)) (draw_clears c (take k l) s) (draws_clears c k n (drop k l))

stem_clears : (s : State) → Clears (stem s)
unfolding stem
stem_clears s = choose (ltb (s.stems + length s.ops / 2) 97) Clears _ fault (λ t. refl) (λ t. tt)

mask_clears : (bs : List ℕ) (s : State) → Clears (mask bs s)
unfolding mask
mask_clears bs s = choose (leb ((s.stems + 7) / 8) (length bs) && none_set (drop s.stems (bits (take ((s.stems + 7) / 8) bs)))) Clears _ fault (λ t. refl) (λ t. tt)

after_clears : (o : Option State) (f : State → Step) → ((s : State) → Clears (f s)) → Clears (after o f)
after_clears none f h = tt
after_clears (some s) f h = h s

-- 14 takes none, so none are left
stop_clears : (s : State) → Clears (after (settle (exactly 0) s) stop)
unfolding settle
stop_clears s = subst (λ (n : ℕ). Clears (after (cond (ltb (length s.ops) 0) none (settled n s.ops s)) stop)) (let z : length s.ops ≡ length s.ops - 0 = omega arith in z) (go s.ops)
  where
    go : (l : List ℤ) → Clears (after (cond (ltb (length l) 0) none (settled (length l) l s)) stop)
    go [] = refl
    go (w ∷ []) = choose s.begun (λ (o : Option State). Clears (after o stop)) none (some (begin (some w) [] s)) (λ t. tt) (λ t. refl)
    go (w ∷ v ∷ l) = choose (ltb (length (w ∷ v ∷ l)) 0) (λ (o : Option State). Clears (after o stop)) none none (λ t. tt) (λ t. tt)

escape_clears : (bs : List ℕ) (s : State) → Clears (escape bs s)
unfolding escape
escape_clears [] s = tt
escape_clears (b ∷ bs) s = choose (eqb b 35) Clears _ fault (λ t. after_clears (settle (exactly 13) s) _ (λ u. flex u (draw flexes u.ops u) (draw_clears flexes u.ops u))) (λ t. tt)
  where
    flex : (u : State) (x : Step) → Clears x → Clears (and_then x (on 1))
    flex u fault c = tt
    flex u (stop t) c = c
    flex u (on m t) c = c

-- ---- EVERY OPERATOR CLEARS
pub operator_clears : (b : ℕ) (bs : List ℕ) (s : State) → Clears (operator b bs s)
unfolding operator across upward
operator_clears b bs s =
    choose (eqb b 1 || eqb b 3 || eqb b 18 || eqb b 23) Clears _ _ (λ t. after_clears (settle (many 2) s) stem stem_clears)
    (λ t. choose (eqb b 19) Clears _ _ (λ t. after_clears (settle (exactly 0) s) (mask bs) (mask_clears bs))
    (λ t. choose (eqb b 21) Clears _ _ (λ t. after_clears (settle (exactly 2) s) _ (λ u. draw_clears moves u.ops u))
    (λ t. choose (eqb b 22) Clears _ _ (λ t. after_clears (settle (exactly 1) s) _ (λ u. draw_clears moves (u.ops ++ (pos 0 ∷ [])) u))
    (λ t. choose (eqb b 4) Clears _ _ (λ t. after_clears (settle (exactly 1) s) _ (λ u. draw_clears moves (pos 0 ∷ u.ops) u))
    (λ t. choose (eqb b 5) Clears _ _ (λ t. after_clears (settle (many 2) s) _ (λ u. draws_clears lines 2 (length u.ops / 2) u.ops u))
    (λ t. choose (eqb b 8) Clears _ _ (λ t. after_clears (settle (many 6) s) _ (λ u. draws_clears curves 6 (length u.ops / 6) u.ops u))
    (λ t. choose (eqb b 12) Clears _ _ (λ t. escape_clears bs s)
    (λ t. choose (eqb b 14) Clears _ fault (λ t. stop_clears s) (λ t. tt)))))))))

-- ---- AT MOST 48 OPERANDS: after every step that is no fault
cleared_holds : (x : Step) → Clears x → Holds48 x
cleared_holds fault c = tt
cleared_holds (stop s) c = let e : length s.ops ≡ 0 = ap length c in omega arith
cleared_holds (on m s) c = let e : length s.ops ≡ 0 = ap length c in omega arith

joins_holds : (r : Reading) (s : State) → Holds48 (joins r s)
unfolding push
joins_holds no_number s = tt
joins_holds (number v m) s = choose (ltb (length s.ops) 48) Holds48 _ fault (λ t. let h = ltb→lt (length s.ops) 48 t in let e = length-append s.ops (v ∷ []) in omega arith) (λ t. tt)

pub step_holds : (b : ℕ) (bs : List ℕ) (s : State) → Holds48 (step b bs s)
unfolding step
step_holds b bs s = choose (eqb b 28 || leb 32 b) Holds48 _ _ (λ t. joins_holds (read_from b bs) s) (λ t. cleared_holds (operator b bs s) (operator_clears b bs s))
