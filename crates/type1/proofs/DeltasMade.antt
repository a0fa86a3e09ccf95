-- Laws: the deltas that are made of the operands.
use mathlib.Core.Path.{◌≡◌, sym, ap, ◌∙◌}
use Prim.Native.Nat.{ℕ, ◌≤◌, ◌<◌}
use native.Mathlib.Omega.{arith}
use mathlib.Core.Logic.{◌⊎◌, inl, inr}
use mathlib.Core.Bool.{Bool}
use mathlib.Core.List.{List}
use borrow.Author.Tests.{le-leb, lt-leb, ne_eqb}
use lib.Dec.{leb}
use lib.ListN.{length}
use lib.Ieee.{Float}
use Rattle.std.specs.Prelude.{Option, Some, None}
use Rattle.geometry.specs.declared.Point.{Point}
use Rattle.type1.specs.Run.{point_at}
use Rattle.type1.specs.declared.Deltas.{Deltas}
use Rattle.outline.specs.Outline.{plus_zero, pick}
use Rattle.type1.specs.Deltas.{Axes, both, horizontal, vertical, axes_of, Tangents, any, vertical_horizontal, horizontal_vertical, tangents_of, from_top, deltas_of, point_delta, curve_deltas}

-- ---- enough operands, and too few
enough : {A : Type 0} (n : ℕ) (l : List Float) (d e : A) → n ≤ length l → d ≡ pick (leb n (length l)) d e
enough n l d e h = sym (ap (λ (b : Bool). pick b d e) (le-leb n (length l) h))

short : {A : Type 0} (n : ℕ) (l : List Float) (d e : A) → length l < n → e ≡ pick (leb n (length l)) d e
short n l d e h = sym (ap (λ (b : Bool). pick b d e) (lt-leb n (length l) h))

-- ---- moves and lines
abbrev pub delta_of : Float → Float → Option Point
delta_of x y = Some (point_at x y)

pub point-none : (a : Axes) (l : List Float) → length l < 1 → None ≡ point_delta a l
unfolding point_delta
point-none both l h = short 2 l (delta_of (from_top 2 l) (from_top 1 l)) None (omega arith)
point-none horizontal l h = short 1 l (delta_of (from_top 1 l) plus_zero) None h
point-none vertical l h = short 1 l (delta_of plus_zero (from_top 1 l)) None h

module _ (n : ℕ) (l : List Float) where
  abbrev point : ℕ → Option Point
  point k = point_delta (axes_of k) l

  pub horizontal_made : (n ≡ 6) ⊎ (n ≡ 22) → 1 ≤ length l → delta_of (from_top 1 l) plus_zero ≡ point n
  unfolding point_delta
  horizontal_made (inl e) h = enough 1 l (delta_of (from_top 1 l) plus_zero) None h ∙ sym (ap point e)
  horizontal_made (inr e) h = enough 1 l (delta_of (from_top 1 l) plus_zero) None h ∙ sym (ap point e)

  pub vertical_made : (n ≡ 4) ⊎ (n ≡ 7) → 1 ≤ length l → delta_of plus_zero (from_top 1 l) ≡ point n
  unfolding point_delta
  vertical_made (inl e) h = enough 1 l (delta_of plus_zero (from_top 1 l)) None h ∙ sym (ap point e)
  vertical_made (inr e) h = enough 1 l (delta_of plus_zero (from_top 1 l)) None h ∙ sym (ap point e)

  module _ (r : (Unit {0} × ((n ≡ 6) ⊎ (n ≡ 22) → ⊥)) × ((n ≡ 4) ⊎ (n ≡ 7) → ⊥)) where
    is_both : point n ≡ point_delta both l
    is_both = rw (ne_eqb n 6 (λ e. r.0.1 (inl e)), ne_eqb n 22 (λ e. r.0.1 (inr e)), ne_eqb n 4 (λ e. r.1 (inl e)), ne_eqb n 7 (λ e. r.1 (inr e)))

    pub both_made : 2 ≤ length l → delta_of (from_top 2 l) (from_top 1 l) ≡ point n
    unfolding point_delta
    both_made h = enough 2 l (delta_of (from_top 2 l) (from_top 1 l)) None h ∙ sym is_both

    pub both-short : length l < 2 → None ≡ point n
    unfolding point_delta
    both-short h = short 2 l (delta_of (from_top 2 l) (from_top 1 l)) None h ∙ sym is_both

-- ---- curves
module _ (l : List Float) where
  abbrev six : Option Deltas
  six = Some (deltas_of (from_top 6 l) (from_top 5 l) (from_top 4 l) (from_top 3 l) (from_top 2 l) (from_top 1 l))

  abbrev vh : Option Deltas
  vh = Some (deltas_of plus_zero (from_top 4 l) (from_top 3 l) (from_top 2 l) (from_top 1 l) plus_zero)

  abbrev hv : Option Deltas
  hv = Some (deltas_of (from_top 4 l) plus_zero (from_top 3 l) (from_top 2 l) plus_zero (from_top 1 l))

  pub curve_none : (a : Tangents) → length l < 4 → None ≡ curve_deltas a l
  unfolding curve_deltas
  curve_none any h = short 6 l six None (omega arith)
  curve_none vertical_horizontal h = short 4 l vh None h
  curve_none horizontal_vertical h = short 4 l hv None h

  abbrev curve : ℕ → Option Deltas
  curve k = curve_deltas (tangents_of k) l

  module _ (n : ℕ) where
    pub vh_made : n ≡ 30 → 4 ≤ length l → vh ≡ curve n
    unfolding curve_deltas
    vh_made e h = enough 4 l vh None h ∙ sym (ap curve e)

    pub hv_made : n ≡ 31 → 4 ≤ length l → hv ≡ curve n
    unfolding curve_deltas
    hv_made e h = enough 4 l hv None h ∙ sym (ap curve e)

    module _ (r : (Unit {0} × (n ≡ 30 → ⊥)) × (n ≡ 31 → ⊥)) where
      is_any : curve n ≡ curve_deltas any l
      is_any = rw (ne_eqb n 30 r.0.1, ne_eqb n 31 r.1)

      pub any_made : 6 ≤ length l → six ≡ curve n
      unfolding curve_deltas
      any_made h = enough 6 l six None h ∙ sym is_any

      pub any_short : length l < 6 → None ≡ curve n
      unfolding curve_deltas
      any_short h = short 6 l six None h ∙ sym is_any
