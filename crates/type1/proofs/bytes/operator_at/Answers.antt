use Rattle.type1.proofs.ByteLaws.{plain_op, cut_op, escape_op}
use mathlib.Core.Path.{refl}
use native.Mathlib.Omega.{arith}
use Rattle.type1.proofs.bytes.operator_at.Goals as goal

pub returns-then-v-ne-ESCAPE : goal.returns-then-v-ne-ESCAPE
returns-then-v-ne-ESCAPE c =
    plain_op _ _ _ _ _ _ _ _ c.found.ensures c.wide.ensures c.requires.0 c.if-v-ne-ESCAPE.true c.requires.1

pub returns-then-code-i-lt1 : goal.returns-then-code-i-lt1
returns-then-code-i-lt1 c =
    cut_op _ _ _ _ _ _ _ c.found-then-code-i-lt1.ensures c.if-v-ne-ESCAPE.false (omega arith) c.requires.1

pub returns : goal.returns
returns c =
    escape_op _ _ _ _ _ _ _ _ _ _ _ c.found-2.ensures c.wide-2.ensures c.if-v-ne-ESCAPE.false (omega arith) refl c.byte_of-e.ensures c.next_key.ensures
