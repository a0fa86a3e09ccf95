-- `renderer::operators::find` meets its contract.
use Rattle.renderer.proofs.FoundLaws.{unknown, unsettled, stems_found, a_move, some_lines, some_curves, the_end, a_flex, a_level_move, an_upright_move, cut-mask, a_mask}
use Rattle.renderer.proofs.operators.find.Goals as goal

pub returns-in_err-opcode : goal.returns-in_err-opcode
returns-in_err-opcode c =
    rw c.from_residual-in_err-opcode.ensures (unknown c.args.from c.requires c.operands.array_long c.in_ok-byte.ensures c.in_err-opcode.ensures)

pub returns-in_err-first : goal.returns-in_err-first
returns-in_err-first c =
    rw c.from_residual-in_err-first.ensures (unsettled c.args.from c.requires c.operands.array_long c.in_ok-byte.ensures c.in_ok-opcode.ensures c.in_err-first.ensures)

pub returns-in-Stem : goal.returns-in-Stem
returns-in-Stem c =
    rw c.then_some.ensures (stems_found c.args.from c.requires c.operands.array_long c.in_ok-byte.ensures c.in_ok-opcode.ensures c.in_ok-first.ensures c.in-Stem.is)

pub returns-in_err-at-in-HintMask : goal.returns-in_err-at-in-HintMask
returns-in_err-at-in-HintMask c =
    rw c.from_residual-in_err-at-in-HintMask.ensures (cut-mask c.args.from c.requires c.operands.array_long c.in_ok-byte.ensures c.in_ok-opcode.ensures c.in_ok-first.ensures c.in-HintMask.is c.in_err-at-in-HintMask.ensures)

pub returns-in_ok-at-in-HintMask : goal.returns-in_ok-at-in-HintMask
returns-in_ok-at-in-HintMask c =
    a_mask c.args.from c.requires c.operands.array_long c.in_ok-byte.ensures c.in_ok-opcode.ensures c.in_ok-first.ensures c.in-HintMask.is _ c.in_ok-at-in-HintMask.ensures

pub returns-in-RMoveTo : goal.returns-in-RMoveTo
returns-in-RMoveTo c =
    a_move c.args.from c.requires c.operands.array_long c.in_ok-byte.ensures c.in_ok-opcode.ensures c.in_ok-first.ensures c.in-RMoveTo.is

pub returns-in-HMoveTo : goal.returns-in-HMoveTo
returns-in-HMoveTo c =
    a_level_move c.args.from c.requires c.operands.array_long c.in_ok-byte.ensures c.in_ok-opcode.ensures c.in_ok-first.ensures c.in-HMoveTo.is

pub returns-in-VMoveTo : goal.returns-in-VMoveTo
returns-in-VMoveTo c =
    an_upright_move c.args.from c.requires c.operands.array_long c.in_ok-byte.ensures c.in_ok-opcode.ensures c.in_ok-first.ensures c.in-VMoveTo.is

pub returns-in-RLineTo : goal.returns-in-RLineTo
returns-in-RLineTo c =
    some_lines c.args.from c.requires c.operands.array_long c.in_ok-byte.ensures c.in_ok-opcode.ensures c.in_ok-first.ensures c.in-RLineTo.is

pub returns-in-RRCurveTo : goal.returns-in-RRCurveTo
returns-in-RRCurveTo c =
    some_curves c.args.from c.requires c.operands.array_long c.in_ok-byte.ensures c.in_ok-opcode.ensures c.in_ok-first.ensures c.in-RRCurveTo.is

pub returns-in-EscapeFlex : goal.returns-in-EscapeFlex
returns-in-EscapeFlex c =
    a_flex c.args.from c.requires c.operands.array_long c.in_ok-byte.ensures c.in_ok-opcode.ensures c.in_ok-first.ensures c.in-EscapeFlex.is

pub returns-in-EndChar : goal.returns-in-EndChar
returns-in-EndChar c =
    the_end c.args.from c.requires c.operands.array_long c.in_ok-byte.ensures c.in_ok-opcode.ensures c.in_ok-first.ensures c.in-EndChar.is
