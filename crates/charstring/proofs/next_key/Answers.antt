-- `charstring::next_key` meets its contract. Assumes nothing.
use Rattle.charstring.specs.Laws.{step_parts}
use Rattle.charstring.proofs.next_key.Goals as goal

pub returns : goal.returns
returns c = cc (step_parts c.args.c c.args.key)
