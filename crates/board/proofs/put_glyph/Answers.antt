-- `board::put_glyph` meets its contract.
use Rattle.board.proofs.Words.{finite_number}
use Rattle.board.proofs.put_glyph.Goals as goal

pub float_to_bits-answer : goal.float_to_bits-answer
float_to_bits-answer c = finite_number c.args.g.width c.requires
