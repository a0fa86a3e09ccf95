-- `type1::wipe` meets its contract: the records so far are the zero record.
use mathlib.Core.Path.{◌≡◌}
use lib.ListN.{length, replicate}
use lib.Seq.{paste}
use Rattle.outline.specs.Outline.{zero_stem}
use Rattle.type1.proofs.wipe.Given as goal

abbrev pub invariant-loop-stem : goal.invariant-loop-stem
invariant-loop-stem l = l.stems ≡ paste l.initial.stems 0 (replicate (length l.initial.stems) zero_stem) l.stem-index
