use mathlib.Core.Path.{ap}
use Rattle.type1.specs.declared.St.{St}
use Rattle.type1.specs.Small.{ran_of}
use Rattle.type1.proofs.states.made.Goals as goal

pub returns : goal.returns
returns c =
    ap (λ (t : St). ran_of t c.args.flow) c.copied.ensures
