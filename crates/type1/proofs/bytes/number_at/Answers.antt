use Rattle.type1.proofs.ByteLaws.{one_num, two_cut, two_num, five_cut, five_num}
use mathlib.Core.Path.{refl}
use native.Mathlib.Omega.{arith}
use Rattle.type1.proofs.bytes.number_at.Goals as goal

pub returns-then-v-lt247 : goal.returns-then-v-lt247
returns-then-v-lt247 c =
    one_num _ _ _ _ _ _ c.one_byte.ensures c.requires.0 c.if-v-lt247.true c.requires.1

pub returns-then-code-i-lt1 : goal.returns-then-code-i-lt1
returns-then-code-i-lt1 c =
    two_cut _ _ _ _ _ _ c.if-v-lt247.false c.if-v-lt255.true (omega arith) c.requires.1

pub returns-then-v-lt255 : goal.returns-then-v-lt255
returns-then-v-lt255 c =
    two_num _ _ _ _ _ _ _ _ _ c.two_bytes.ensures c.if-v-lt247.false c.if-v-lt255.true (omega arith) refl c.byte_of.ensures c.next_key.ensures

pub returns-then-code-i-lt4 : goal.returns-then-code-i-lt4
returns-then-code-i-lt4 c =
    five_cut _ _ _ _ _ _ c.if-v-lt255.false c.if-code-i-lt4.true c.requires.1

pub returns : goal.returns
returns c =
    five_num _ _ _ _ _ _ _ _ _ _ _ _ _ _ _ _ _ _ c.four_bytes-x.ensures c.if-v-lt255.false c.if-code-i-lt4.false refl refl refl refl c.byte_of-2.ensures c.byte_of-3.ensures c.byte_of-4.ensures c.byte_of-5.ensures c.next_key-k2.ensures c.next_key-k3.ensures c.next_key-k4.ensures c.next_key-2.ensures
