-- Laws: what `Run.operate` says of the operators of one shape is what is said of the shape.
use Rattle.std.specs.Prelude.{◌≡◌, ℕ, Bool, true, false, ◌⊎◌, leb, length, Float}
use Rattle.std.proofs.Math.Path.{refl, subst}
use Rattle.std.proofs.Common.{sym, inl, inr}
use Rattle.std.specs.Prelude.{Some, None}
use Rattle.type1.specs.declared.Deltas.{Deltas}
use Rattle.type1.specs.Operator as op
use Rattle.type1.specs.Operator.{of_byte}
use Rattle.outline.specs.Outline.{plus_zero, pick}
use Rattle.type1.specs.State.{State}
use Rattle.type1.specs.Run.{Limits, Outcome, check, top, cleared, point_at, move_by, line_by, curve_by, operate}
use Rattle.type1.specs.Memory.{operator_of}
use Rattle.type1.specs.Deltas.{axes_of, tangents_of, deltas_of, by, point_delta, curve_deltas, by_point, by_curve, stem_from}

by_point_lem : (b : Bool) (x y : Float) (f : Float → Float → Outcome) → check b 7 (f x y) ≡ by (λ d. f d.x d.y) (pick b (Some (point_at x y)) None)
by_point_lem true x y f = refl
by_point_lem false x y f = refl

by_curve_lem : (b : Bool) (x1 y1 x2 y2 x3 y3 : Float) (f : Float → Float → Float → Float → Float → Float → Outcome)
    → check b 7 (f x1 y1 x2 y2 x3 y3) ≡ by (λ (d : Deltas). f d.first.x d.first.y d.second.x d.second.y d.third.x d.third.y) (pick b (Some (deltas_of x1 y1 x2 y2 x3 y3)) None)
by_curve_lem true x1 y1 x2 y2 x3 y3 f = refl
by_curve_lem false x1 y1 x2 y2 x3 y3 f = refl

module _ (lim : Limits) (call : Outcome) (s : State) where
  abbrev has : ℕ → Bool
  has k = leb k (length s.operands)

  abbrev Moves : ℕ → Type 0
  Moves n = operate lim call (operator_of n) s ≡ by_point move_by (axes_of n) lim s

  -- vmoveto, rmoveto, hmoveto
  pub moves : (n : ℕ) → (n ≡ 4) ⊎ ((n ≡ 21) ⊎ (n ≡ 22)) → Moves n
  unfolding operator_of of_byte operate by_point point_delta
  moves n (inl e) = subst Moves (sym e) (by_point_lem (has 1) plus_zero (top 1 s) (λ x y. move_by lim x y (cleared s)))
  moves n (inr (inl e)) = subst Moves (sym e) (by_point_lem (has 2) (top 2 s) (top 1 s) (λ x y. move_by lim x y (cleared s)))
  moves n (inr (inr e)) = subst Moves (sym e) (by_point_lem (has 1) (top 1 s) plus_zero (λ x y. move_by lim x y (cleared s)))

  abbrev Lines : ℕ → Type 0
  Lines n = operate lim call (operator_of n) s ≡ by_point line_by (axes_of n) lim s

  -- rlineto, hlineto, vlineto
  pub lines : (n : ℕ) → (n ≡ 5) ⊎ ((n ≡ 6) ⊎ (n ≡ 7)) → Lines n
  unfolding operator_of of_byte operate by_point point_delta
  lines n (inl e) = subst Lines (sym e) (by_point_lem (has 2) (top 2 s) (top 1 s) (λ x y. line_by lim x y (cleared s)))
  lines n (inr (inl e)) = subst Lines (sym e) (by_point_lem (has 1) (top 1 s) plus_zero (λ x y. line_by lim x y (cleared s)))
  lines n (inr (inr e)) = subst Lines (sym e) (by_point_lem (has 1) plus_zero (top 1 s) (λ x y. line_by lim x y (cleared s)))

  abbrev Curves : ℕ → Type 0
  Curves n = operate lim call (operator_of n) s ≡ by_curve (tangents_of n) lim s

  -- rrcurveto, vhcurveto, hvcurveto
  pub curves : (n : ℕ) → (n ≡ 8) ⊎ ((n ≡ 30) ⊎ (n ≡ 31)) → Curves n
  unfolding operator_of of_byte operate by_curve curve_deltas
  curves n (inl e) = subst Curves (sym e) (by_curve_lem (has 6) (top 6 s) (top 5 s) (top 4 s) (top 3 s) (top 2 s) (top 1 s) (λ a b c d e f. curve_by lim a b c d e f (cleared s)))
  curves n (inr (inl e)) = subst Curves (sym e) (by_curve_lem (has 4) plus_zero (top 4 s) (top 3 s) (top 2 s) (top 1 s) plus_zero (λ a b c d e f. curve_by lim a b c d e f (cleared s)))
  curves n (inr (inr e)) = subst Curves (sym e) (by_curve_lem (has 4) (top 4 s) plus_zero (top 3 s) (top 2 s) plus_zero (top 1 s) (λ a b c d e f. curve_by lim a b c d e f (cleared s)))

  pub hstems : operate lim call op.hstem s ≡ stem_from true s.bearing.y lim s
  unfolding operate stem_from
  hstems = refl

  pub vstems : operate lim call op.vstem s ≡ stem_from false s.bearing.x lim s
  unfolding operate stem_from
  vstems = refl
