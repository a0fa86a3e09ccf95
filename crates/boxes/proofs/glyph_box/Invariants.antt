-- `boxes::glyph_box` meets its contract.
use Rattle.std.proofs.Common.{length, ◌-◌}
use Rattle.boxes.proofs.BoxLaws.{Draws}
use Rattle.boxes.proofs.glyph_box.Given as goal

abbrev pub invariant-loop-operator : goal.invariant-loop-operator
invariant-loop-operator l = Draws l.program l.reader l.extent

abbrev pub decreases-loop-operator : goal.decreases-loop-operator
decreases-loop-operator l = length l.program - l.reader.at
