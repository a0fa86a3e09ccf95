-- `folding::Fold::new` meets its contract.
use mathlib.Core.Bool.{Bool}
use mathlib.Core.Path.{ap}
use Rattle.folding.specs.Folding.{is_identity}
use Rattle.folding.proofs.Fold.new.Goals as goal

pub returns : goal.returns
unfolding is_identity
returns c = ap (λ (b : Bool). record { matrix = c.args.m; identity = b }) (rw c.identity.ensures at c.eq.ensures)
