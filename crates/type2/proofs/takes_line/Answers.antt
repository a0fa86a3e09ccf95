-- `type2::takes_line` meets its contract.
use mathlib.Core.Path.{sym}
use Rattle.type2.specs.Bools.{leb_add}
use Rattle.type2.proofs.takes_line.Goals as goal

pub returns : goal.returns
returns c = sym (leb_add c.args.held 44 2)
