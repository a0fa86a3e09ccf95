-- `type2::push_step` meets its contract.
use mathlib.Core.Path.{ap}
use lib.Ieee.{Float, binary64, add}
use Rattle.type2.proofs.push_step.Goals as goal

pub returns : goal.returns
returns c =
    let d = c.push_delta-d.ensures in
    record { out_after = d.out_after; reached_value = ap (λ (x : Float). add binary64 c.args.from x) d.value_value }
