-- Laws: of every run of the machine. At most 48 operands are held, and a run that leaves no byte ends at a 14.
use Rattle.std.specs.Prelude.{◌≡◌, ◌&&◌, ◌||◌, take, drop, ltb, ℤ, pos}
use Rattle.std.proofs.Common.{ap, ap₂, arith}
use Prim.Native.Nat.{ℕ, zero, suc, ◌+◌, ◌/◌, ◌≤◌}
use mathlib.Core.List.{List, [], ◌∷◌, ◌++◌}
use Rattle.std.proofs.Math.Option.{Option, none, some}
use Rattle.std.proofs.Math.ListN.{length}
use Rattle.std.proofs.Math.Dec.{leb, eqb, eqb→eq}
use Rattle.type1.specs.Sound.{All}
use Rattle.type2.specs.Number.{Reading, no_number, number, read_from}
use Rattle.type2.specs.Path.{Kind, moves, lines, curves, flexes}
use Rattle.renderer.specs.Machine.{State, Step, fault, stop, on, failed, ended, push, joins, exactly, many, settle, after, stem, bits, none_set, mask, reach, all_small, draw, and_then, draws, across, upward, escape, operator, step, next, run}
use Rattle.type2.specs.Bools.{choose}
use Rattle.renderer.specs.Held.{Holds48}
use Rattle.renderer.proofs.HeldLaws.{step_holds}
use Rattle.agreement.specs.Demand3.{reached, states}
use Rattle.agreement.specs.Simulation.{Holding48, Stops}

-- ---- AT MOST 48 OPERANDS
pub states_hold : (l : List ℕ) (k : ℕ) (s : State) → length s.ops ≤ 48 → All Holding48 (states l k s)
unfolding states All
states_hold [] k s h = (h, tt)
states_hold (b ∷ bs) zero s h = (h, go (step b bs s) (step_holds b bs s) (states_hold bs))
  where
    go : (x : Step) → Holds48 x → ((k : ℕ) (t : State) → length t.ops ≤ 48 → All Holding48 (states bs k t)) → All Holding48 (reached x (states bs))
    go fault c f = tt
    go (stop t) c f = (c, tt)
    go (on k t) c f = f k t c
states_hold (b ∷ bs) (suc k) s h = states_hold bs k s h

-- ---- ONLY A 14 STOPS
module _ (b : ℕ) where
  draw-goes : (k : Kind) (l : List ℤ) (s : State) → Stops b (draw k l s)
  unfolding draw
  draw-goes k l s = choose (all_small (reach s.at l)) (Stops b) _ fault (λ t. tt) (λ t. tt)

  then_goes : (x : Step) (f : State → Step) → Stops b x → ((s : State) → Stops b (f s)) → Stops b (and_then x f)
  then_goes fault f c h = tt
  then_goes (stop s) f c h = c
  then_goes (on m s) f c h = h s

  draws-goes : (c : Kind) (k n : ℕ) (l : List ℤ) (s : State) → Stops b (draws c k n l s)
  unfolding draws
  draws-goes c k zero l s = tt
  draws-goes c k (suc n) l s = then_goes (draw c (take k l) s) (draws c k n (drop k l)) (draw-goes c (take k l) s) (draws-goes c k n (drop k l))

  stem-goes : (s : State) → Stops b (stem s)
  unfolding stem
  stem-goes s = choose (ltb (s.stems + length s.ops / 2) 97) (Stops b) _ fault (λ t. tt) (λ t. tt)

  mask-goes : (bs : List ℕ) (s : State) → Stops b (mask bs s)
  unfolding mask
  mask-goes bs s = choose (leb ((s.stems + 7) / 8) (length bs) && none_set (drop s.stems (bits (take ((s.stems + 7) / 8) bs)))) (Stops b) _ fault (λ t. tt) (λ t. tt)

  after-goes : (o : Option State) (f : State → Step) → ((s : State) → Stops b (f s)) → Stops b (after o f)
  after-goes none f h = tt
  after-goes (some s) f h = h s

  escape-goes : (bs : List ℕ) (s : State) → Stops b (escape bs s)
  unfolding escape
  escape-goes [] s = tt
  escape-goes (c ∷ bs) s = choose (eqb c 35) (Stops b) _ fault (λ t. after-goes (settle (exactly 13) s) _ (λ u. then_goes (draw flexes u.ops u) (on 1) (draw-goes flexes u.ops u) (λ v. tt))) (λ t. tt)

  operator_stops : (bs : List ℕ) (s : State) → Stops b (operator b bs s)
  unfolding operator across upward
  operator_stops bs s =
      choose (eqb b 1 || eqb b 3 || eqb b 18 || eqb b 23) (Stops b) _ _ (λ t. after-goes (settle (many 2) s) stem stem-goes)
      (λ t. choose (eqb b 19) (Stops b) _ _ (λ t. after-goes (settle (exactly 0) s) (mask bs) (mask-goes bs))
      (λ t. choose (eqb b 21) (Stops b) _ _ (λ t. after-goes (settle (exactly 2) s) _ (λ u. draw-goes moves u.ops u))
      (λ t. choose (eqb b 22) (Stops b) _ _ (λ t. after-goes (settle (exactly 1) s) _ (λ u. draw-goes moves (u.ops ++ (pos 0 ∷ [])) u))
      (λ t. choose (eqb b 4) (Stops b) _ _ (λ t. after-goes (settle (exactly 1) s) _ (λ u. draw-goes moves (pos 0 ∷ u.ops) u))
      (λ t. choose (eqb b 5) (Stops b) _ _ (λ t. after-goes (settle (many 2) s) _ (λ u. draws-goes lines 2 (length u.ops / 2) u.ops u))
      (λ t. choose (eqb b 8) (Stops b) _ _ (λ t. after-goes (settle (many 6) s) _ (λ u. draws-goes curves 6 (length u.ops / 6) u.ops u))
      (λ t. choose (eqb b 12) (Stops b) _ _ (λ t. escape-goes bs s)
      (λ t. choose (eqb b 14) (Stops b) _ fault (λ t. after-goes (settle (exactly 0) s) stop (λ u. eqb→eq b 14 t)) (λ t. tt)))))))))

  joins-goes : (r : Reading) (s : State) → Stops b (joins r s)
  unfolding push
  joins-goes no_number s = tt
  joins-goes (number v m) s = choose (ltb (length s.ops) 48) (Stops b) _ fault (λ t. tt) (λ t. tt)

  step_stops : (bs : List ℕ) (s : State) → Stops b (step b bs s)
  unfolding step
  step_stops bs s = choose (eqb b 28 || leb 32 b) (Stops b) _ _ (λ t. joins-goes (read_from b bs) s) (λ t. operator_stops bs s)

not_ended : {A : Type 0} {t : State} {l : List ℕ} → failed ≡ ended t l → A
not_ended e = absurd (let z : ◌≡◌ {A = ℕ} 0 1 = cc in let y : ⊥ = omega arith in y)

pub ends_at_14 : (l : List ℕ) (k : ℕ) (s t : State) → run l k s ≡ ended t [] → (front : List ℕ) × (l ≡ front ++ (14 ∷ []))
unfolding run
ends_at_14 [] k s t e = not_ended e
ends_at_14 (b ∷ bs) zero s t e = go (step b bs s) (step_stops b bs s) (λ k u. ends_at_14 bs k u t) e
  where
    longer : (front : List ℕ) × (bs ≡ front ++ (14 ∷ [])) → (front : List ℕ) × (b ∷ bs ≡ front ++ (14 ∷ []))
    longer (f, d) = (b ∷ f, ap (λ (x : List ℕ). b ∷ x) d)

    go : (x : Step) → Stops b x → ((k : ℕ) (u : State) → run bs k u ≡ ended t [] → (front : List ℕ) × (bs ≡ front ++ (14 ∷ []))) → next x bs (run bs) ≡ ended t [] → (front : List ℕ) × (b ∷ bs ≡ front ++ (14 ∷ []))
    go fault c h d = not_ended d
    go (stop u) c h d = ([], ap₂ (λ (x : ℕ) (y : List ℕ). x ∷ y) c (let z : bs ≡ [] = cc in z))
    go (on k u) c h d = longer (h k u d)
ends_at_14 (b ∷ bs) (suc k) s t e = let (f, d) = ends_at_14 bs k s t e in (b ∷ f, ap (λ (x : List ℕ). b ∷ x) d)
