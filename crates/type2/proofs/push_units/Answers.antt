-- `type2::push_units` meets its contract: 16.16, or a whole number that `push_whole` writes.
use mathlib.Core.Path.{ap}
use Rattle.type2.specs.Number.{number_bytes}
use Rattle.type2.specs.Put.{same_bytes}
use Rattle.type2.specs.Forms.{fixed_form, whole_form}
use Rattle.type2.proofs.push_units.Goals as goal

pub returns-then-n-ne0 : goal.returns-then-n-ne0
returns-then-n-ne0 c = same_bytes c.args.out.now c.args.at c.put.ensures (fixed_form c.args.n c.requires.0 c.requires.1 c.if-n-ne0.true)

pub returns : goal.returns
returns c = same_bytes c.args.out.now c.args.at c.push_whole.ensures (ap number_bytes (whole_form c.args.n c.requires.0 c.requires.1 c.if-n-ne0.false))
