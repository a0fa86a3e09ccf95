use Rattle.type1.proofs.Store.{no_nan}
use Rattle.type1.proofs.entries.put_point.Goals as goal

pub float_to_bits-cmds : goal.float_to_bits-cmds
float_to_bits-cmds c =
    no_nan _ c.requires.1.0.fine

pub float_to_bits-cmds-2 : goal.float_to_bits-cmds-2
float_to_bits-cmds-2 c =
    no_nan _ c.requires.1.1.fine
