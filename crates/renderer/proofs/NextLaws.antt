-- Laws: the operator that comes, as `Reader::next` answers it.
use mathlib.Core.Path.{◌≡◌, refl, sym, ap, ◌∙◌, subst}
use Prim.Native.Nat.{ℕ, ◌-◌, ◌*◌, ◌/◌}
use native.Mathlib.Omega.{arith}
use mathlib.Core.Bool.{true, false, true≢false}
use mathlib.Core.List.{List}
use lib.ListN.{length, take, drop}
use lib.IntN.{ℤ}
use Rattle.std.specs.Prelude.{Some, None}
use Rattle.type2.specs.Path.{Kind, moves, lines, curves, flexes}
use Rattle.type2.specs.Bools.{is_le}
use Rattle.renderer.specs.Machine.{State, fault, on, failed, with_ops, next, run, reach, last_of, all_small}
use Rattle.renderer.specs.Reader.{operands_of, point_at, is_near, is_possible, Stands, is_drawing, Taken, settled_by, acts_by, acts, goes_by, goes, acted_each, Comes}
use Rattle.renderer.proofs.ReaderLaws.{possible_near, part_length, slice_part, by_drawing, by_still, Splits, draw_drew, draw_faults, split_2, split_6, each_drew, each_faults, each_drawn}
use Rattle.renderer.specs.Reads.{Found, Finds, does, Arrives, Follows}
use Rattle.renderer.specs.declared.path.Position.{Position}
use Rattle.renderer.specs.declared.Reader.{Reader}
use Rattle.renderer.specs.declared.Operator.{Operator}
use Rattle.renderer.specs.declared.Operation.TheVariants.{Move, Lines, Curves, Flex, End}

-- ---- a fault
no_comes : (P : List ℕ) (t : Reader) (o : List ℕ) → length o ≡ 48 → ((s : State) → Stands s t → run (drop t.at P) 0 s ≡ failed) → Comes P t o None
no_comes P t o z h = record { runs = h; impossible = λ e. refl; size = z; came = tt }

pub impossible_comes : (P : List ℕ) (t : Reader) (o : List ℕ) → length o ≡ 48 → is_possible t ≡ false → Comes P t o None
impossible_comes P t o z h = no_comes P t o z (λ s k. absurd (true≢false (sym k.possible ∙ h)))

pub none_comes : (P : List ℕ) (t : Reader) (o : List ℕ) → length o ≡ 48 → Finds P t o None → Comes P t o None
none_comes P t o z F = no_comes P t o z (λ s k. ap (λ (l : List ℤ). run (drop t.at P) 0 (with_ops l s)) k.cleared ∙ F s k.begun_is k.stems_is)

-- ---- what was found, in every state in which the machine may be
module _ {P o : List ℕ} (t : Reader) {f : Operator} (z : length o ≡ 48) (possible : is_possible t ≡ true) (F : Found P t o f) where
  abbrev at_it : State → State
  at_it s = settled_by f o s

  went : (s : State) → Stands s t → run (drop t.at P) 0 s ≡ next (does f.operation f P (at_it s)) (drop f.after.at P) (run (drop f.after.at P))
  went s k = ap (λ (l : List ℤ). run (drop t.at P) 0 (with_ops l s)) k.cleared ∙ F.runs s k.begun_is k.stems_is

  -- with the point after it
  abbrev at_point : Position → Operator
  at_point p = record { operation = f.operation; first = f.first; end = f.end; after = record { at = f.after.at; begun = f.after.begun; stems = f.after.stems; position = p } }

  possible_at : (p : Position) → is_near p ≡ true → is_possible (at_point p).after ≡ true
  possible_at p n = rw (is_le f.after.stems 96 F.stems96, n)

  -- what holds of it wherever the path then stands
  found_comes : (p : Position) → let r = at_point p in
      ((s : State) → Stands s t → run (drop t.at P) 0 s ≡ goes (Some r) o P s)
      → ((s : State) → Stands s t → (f.operation ≡ End → ⊥) → Stands (acts r P (settled_by r o s)) r.after)
      → (is_drawing f.operation ≡ true → all_small (reach (point_at t.position) (operands_of r o)) ≡ true) → Comes P t o (Some r)
  found_comes p runs stands small =
      record {
        runs = runs;
        impossible = λ h. absurd (true≢false (sym possible ∙ h));
        size = z;
        came = record {
          stands = stands;
          onward = F.onward;
          within = F.within;
          order = F.order;
          few = F.few;
          taken = F.taken;
          small = small;
        };
      }

  -- ---- stems, a mask or the end
  module _ (still : is_drawing f.operation ≡ false) where
    still_runs : (s : State) → Stands s t → run (drop t.at P) 0 s ≡ goes (Some f) o P s
    unfolding does goes_by acts_by
    still_runs s k = went s k ∙ by_still f.operation still (next (does f.operation f P (at_it s)) (drop f.after.at P) (run (drop f.after.at P)) ≡ goes (Some f) o P s) (λ c. rw c) (λ c. rw c) (λ c. rw c)

    still_stands : (s : State) → Stands s t → (f.operation ≡ End → ⊥) → Stands (acts f P (settled_by f o s)) f.after
    unfolding acts_by
    still_stands s k n14 =
        let near : is_near f.after.position ≡ true = subst (λ (p : Position). is_near p ≡ true) (sym F.position_is) (possible_near t possible) in
        let u : is_possible f.after ≡ true = possible_at f.after.position near in
        let v : s.at ≡ point_at f.after.position = k.at_is ∙ ap point_at (sym F.position_is) in
        by_still f.operation still (Stands (acts f P (settled_by f o s)) f.after)
        (λ c. rw c (record { begun_is = sym F.begun_is; stems_is = refl; at_is = v; cleared = refl; possible = u }))
        (λ c. rw c (record { begun_is = sym F.begun_is; stems_is = k.stems_is ∙ sym (F.kept (λ e. let y : ⊥ = cc in y)); at_is = v; cleared = refl; possible = u }))
        (λ c. absurd (n14 c))

    pub still_comes : Comes P t o (Some f)
    still_comes = found_comes f.after.position still_runs still_stands (λ h. absurd (true≢false (sym h ∙ still)))

  -- ---- a move, lines, curves or a flex
  module _ (drawing : is_drawing f.operation ≡ true) where
    abbrev operands : List ℤ
    operands = operands_of f o

    count : length operands ≡ f.end - f.first
    count = part_length f.first f.end o (let a = F.few in omega arith)

    by_kind : (Q : Type 0) → (f.operation ≡ Move → Q) → (f.operation ≡ Lines → length operands ≡ length operands / 2 * 2 → Q) → (f.operation ≡ Curves → length operands ≡ length operands / 6 * 6 → Q) → (f.operation ≡ Flex → Q) → Q
    by_kind = by_drawing f.operation (length operands) drawing (subst (Taken f.operation) (sym count) F.taken)

    -- the operands as a slice
    abbrev deltas : List ℕ
    deltas = take (f.end - f.first) (drop f.first o)

    deltas_are : deltas ≡ drop f.first (take f.end o)
    deltas_are = slice_part f.first f.end o F.order

    pub out_comes : Follows t.position deltas None → Comes P t o None
    unfolding does
    out_comes A = no_comes P t o z (λ s k. went s k ∙ rw (out_step s k))
      where
        out_step : (s : State) → Stands s t → does f.operation f P (at_it s) ≡ fault
        out_step s k =
            let w : all_small (reach s.at operands) ≡ false = rw (k.at_is, ← deltas_are) A in
            by_kind (does f.operation f P (at_it s) ≡ fault)
            (λ c. rw c (draw_faults moves operands (at_it s) w))
            (λ c n. rw c (each_faults lines 2 split_2 (length operands / 2) operands (at_it s) n w))
            (λ c n. rw c (each_faults curves 6 split_6 (length operands / 6) operands (at_it s) n w))
            (λ c. rw c (draw_faults flexes operands (at_it s) w))

    module _ {p : Position} (arrives : Arrives t.position deltas p) where
      A : Arrives t.position (drop f.first (take f.end o)) p
      A = subst (λ (l : List ℕ). Arrives t.position l p) deltas_are arrives

      abbrev d : Operator
      d = at_point p

      on_step : (s : State) → Stands s t → does f.operation f P (at_it s) ≡ on 0 (acts d P (at_it s))
      unfolding does acts_by
      on_step s k =
          let w : all_small (reach s.at operands) ≡ true = rw k.at_is A.small in
          by_kind (does f.operation f P (at_it s) ≡ on 0 (acts d P (at_it s)))
          (λ c. rw c (draw_drew moves operands (at_it s) w))
          (λ c n. rw c (each_drew lines 2 split_2 (length operands / 2) operands (at_it s) n w))
          (λ c n. rw c (each_drew curves 6 split_6 (length operands / 6) operands (at_it s) n w))
          (λ c. rw c (draw_drew flexes operands (at_it s) w))

      drawn_runs : (s : State) → Stands s t → run (drop t.at P) 0 s ≡ goes (Some d) o P s
      unfolding goes_by
      drawn_runs s k = went s k ∙ rw (on_step s k) (by_kind (run (drop f.after.at P) 0 (acts d P (at_it s)) ≡ goes (Some d) o P s) (λ c. rw c) (λ c n. rw c) (λ c n. rw c) (λ c. rw c))

      drawn_stands : (s : State) → Stands s t → Stands (acts d P (settled_by d o s)) d.after
      unfolding acts_by
      drawn_stands s k =
          let b : true ≡ f.after.begun = sym F.begun_is in
          let u : is_possible d.after ≡ true = possible_at p A.near in
          let v : s.stems ≡ f.after.stems = k.stems_is ∙ sym (F.kept (λ e. true≢false (sym drawing ∙ ap is_drawing e))) in
          let y : last_of s.at (reach s.at operands) ≡ point_at p = rw k.at_is A.at_is in
          by_kind (Stands (acts d P (settled_by d o s)) d.after)
          (λ c. rw c (record { begun_is = b; stems_is = v; at_is = y; cleared = refl; possible = u }))
          (λ c n. rw c (each lines 2 split_2 (length operands / 2) n u v y))
          (λ c n. rw c (each curves 6 split_6 (length operands / 6) n u v y))
          (λ c. rw c (record { begun_is = b; stems_is = v; at_is = y; cleared = refl; possible = u }))
        where
          each : (c : Kind) (m : ℕ) (split : Splits m) (n : ℕ) → length operands ≡ n * m → is_possible d.after ≡ true → s.stems ≡ f.after.stems → last_of s.at (reach s.at operands) ≡ point_at p → Stands (acted_each c m n operands (settled_by d o s)) d.after
          each c m split n e u v y =
              let w = each_drawn c m split n operands (settled_by d o s) e in
              record { begun_is = w.begun_is ∙ sym F.begun_is; stems_is = w.stems_is ∙ v; at_is = w.at_is ∙ y; cleared = w.cleared; possible = u }

      pub drawn_comes : Comes P t o (Some d)
      drawn_comes = found_comes p drawn_runs (λ s k e. drawn_stands s k) (λ h. A.small)
