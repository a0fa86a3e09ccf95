-- `type2::push_width` meets its contract: its test is that of `push_width`.
use mathlib.Core.Path.{◌≡◌, sym, ap, ◌∙◌}
use mathlib.Core.Bool.{Bool, true, false, cond}
use mathlib.Core.List.{List}
use Prim.Native.Nat.{ℕ}
use lib.Ieee.{Float, binary64, sub, eq}
use Rattle.type2.specs.declared.Widths.{Widths}
use Rattle.type2.specs.Number.{quantized, gave, push_number}
use Rattle.type2.specs.Width.{push_width}
use Rattle.type2.proofs.push_width.Goals as goal

the-default : (out : List ℕ) (width : Float) (p : Widths) (w : Float) → w ≡ quantized width → eq w p.default_width_x ≡ true → gave 0 0 out ≡ push_width out width p
unfolding push_width
the-default out width p w e h = ap (λ (c : Bool). cond c (gave 0 0 out) (push_number out 0 (sub binary64 (quantized width) p.nominal_width_x))) (sym h ∙ ap (λ (x : Float). eq x p.default_width_x) e)

not-the-default : (out : List ℕ) (width : Float) (p : Widths) (w : Float) → w ≡ quantized width → eq w p.default_width_x ≡ false → push_number out 0 (sub binary64 w p.nominal_width_x) ≡ push_width out width p
unfolding push_width
not-the-default out width p w e h =
    ap (λ (x : Float). push_number out 0 (sub binary64 x p.nominal_width_x)) e
    ∙ ap (λ (c : Bool). cond c (gave 0 0 out) (push_number out 0 (sub binary64 (quantized width) p.nominal_width_x))) (sym h ∙ ap (λ (x : Float). eq x p.default_width_x) e)

pub returns-then-rounded-widths : goal.returns-then-rounded-widths
returns-then-rounded-widths c = the-default _ _ _ _ c.quantize-rounded.ensures c.if-rounded-widths.true

pub returns : goal.returns
returns c =
    c.push_number.ensures ∙ not-the-default _ _ _ _ c.quantize-rounded.ensures c.if-rounded-widths.false
