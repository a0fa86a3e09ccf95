-- `charstring::key_part` meets its contract. Assumes nothing.
use Rattle.charstring.specs.Laws.{part_wraps}
use Rattle.charstring.proofs.key_part.Goals as goal

pub returns : goal.returns
returns c = cc (part_wraps c.args.c)
