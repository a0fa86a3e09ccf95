use mathlib.Core.Path.{◌≡◌, refl}
use mathlib.Core.Logic.{◌⊎◌, inl, inr}
use native.Mathlib.Omega.{arith}
use Rattle.type1.proofs.Dispatch.{of_two, of_three}
use Rattle.type1.proofs.Drawing.{draws-none, line_drawn, curve_drawn}
use Rattle.type1.proofs.bytes.draw.Goals as goal
use Rattle.type1.proofs.bytes.draw.Goals.{in-8-1, in_default+else-op-lt5+else-op-lt8+else-op-lt30+then-op-lt32}

pub returns-in_default : goal.returns-in_default
returns-in_default c = draws-none _ _ _ _ _ _ _ _ refl

pub returns-in_ok-d-in-5 : goal.returns-in_ok-d-in-5
returns-in_ok-d-in-5 c =
    line_drawn _ _ _ _ _ _ _ _ _ c.wide-op.ensures (of_three _ 5 c.in-5.if-op-lt5-own.false c.in-5.if-op-lt8-own.true) _ c.in_ok-d-in-5.ensures _ c.add_line.ensures

pub returns-in_ok-d-in-8 : goal.returns-in_ok-d-in-8
returns-in_ok-d-in-8 c =
    curve_drawn _ _ _ _ _ _ _ _ _ c.wide-op.ensures (let z : (c.wide-op.result ≡ 8) ⊎ ((c.wide-op.result ≡ 30) ⊎ (c.wide-op.result ≡ 31)) = elim c.in-8-1.branch [ in-8-1 w ↦ inl (omega arith) | in_default+else-op-lt5+else-op-lt8+else-op-lt30+then-op-lt32 w ↦ inr (of_two _ 30 (omega arith) (omega arith)) ] in z) _ c.in_ok-d-in-8.ensures _ c.add_curve.ensures
