use Rattle.boxes.specs.Answers.{box_words}
use mathlib.Core.Path.{ap, sym}
use Rattle.board.proofs.bounds_of.Goals as goal

pub returns-in-Err : goal.returns-in-Err
returns-in-Err c = ap box_words (sym c.in-Err.is)

pub returns-in-Ok : goal.returns-in-Ok
returns-in-Ok c = ap box_words (sym c.in-Ok.is)
