-- Definitions: the stem store before a run, and what a run and converting leave. Document 01, "What each entry is held to", d.
use Rattle.std.specs.Prelude.{true, List}
use Rattle.outline.specs.declared.Stem.{Stem}
use Rattle.type1.specs.declared.Interpreted.{Interpreted}
use Rattle.outline.specs.Outline.{plus_zero}
use Rattle.type1_to_type2.specs.declared.Type2Glyph.{Type2Glyph}
use Rattle.replay.specs.declared.AfterRun.{AfterRun}
use Rattle.replay.specs.declared.AfterConverting.{AfterConverting}

-- a record that is not zero
abbrev pub used_stem : Stem
used_stem = record { horizontal = true; pos = plus_zero; width = plus_zero }

-- a run's answer, and its stem store
abbrev pub after_run : Interpreted → List Stem → AfterRun
after_run answer stems = record { answer = answer; stems = stems }

-- converting's answer, and its stem store
abbrev pub after_converting : Type2Glyph → List Stem → AfterConverting
after_converting answer stems = record { answer = answer; stems = stems }
