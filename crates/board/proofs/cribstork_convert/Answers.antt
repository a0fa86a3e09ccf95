-- `board::cribstork_convert` meets its contract: the width of an answer is finite, so it may be written as bits.
use mathlib.Core.Path.{sym, subst}
use lib.Dec.{T}
use lib.Ieee.Scale.{finite}
use Rattle.type1.specs.Interpret.{source_of}
use Rattle.type1_to_type2.specs.declared.Type2Glyph.{Type2Glyph}
use Rattle.type1_to_type2.specs.Convert.{rooms_of}
use Rattle.board.specs.AnswersLaws.{convert-finite}
use Rattle.board.proofs.cribstork_convert.Goals as goal

pub put_glyph-requires : goal.put_glyph-requires
put_glyph-requires c =
    subst (λ (y : Type2Glyph). T (finite y.width)) (sym c.convert_charstring_transformed-g.ensures.glyph) (convert-finite (source_of c.args.charstring.now c.args.bank.now) c.reading_of.result c.matrix_of.result (rooms_of c.args.stems.now c.args.commands.now c.args.out.now))
