-- `type2::push_whole` meets its contract: each arm writes the bytes of one form of a whole number.
use Rattle.type2.specs.Forms.{Size, Side, small, pair_fits, one_form, two_form, short_form}
use Rattle.type2.specs.Put.{same_bytes}
use native.Mathlib.Omega.{arith}
use mathlib.Core.Logic.{inl, inr}
use Rattle.type2.proofs.push_whole.Goals as goal
use Rattle.type2.proofs.push_whole.Goals.{then-w-lt65536, else-w-lt65536, then-w-lt65536-2, else-w-lt65536-2}

pub overflow_sub-w : goal.overflow_sub-w
overflow_sub-w c =
    let (a, b) = small _ _ (let z : Size c.args.w c.if-w-lt65536.i = elim c.if-w-lt65536.branch [ then-w-lt65536 w ↦ inl (w.if-w-lt65536.true, w.i-is) | else-w-lt65536 w ↦ inr (w.if-w-lt65536.false, w.i-is) ] in z) c.if-i-lt-ONE_BYTE.true in omega arith

pub overflow_cast-w : goal.overflow_cast-w
overflow_cast-w c =
    let (a, b) = small _ _ (let z : Size c.args.w c.if-w-lt65536.i = elim c.if-w-lt65536.branch [ then-w-lt65536 w ↦ inl (w.if-w-lt65536.true, w.i-is) | else-w-lt65536 w ↦ inr (w.if-w-lt65536.false, w.i-is) ] in z) c.if-i-lt-ONE_BYTE.true in omega arith

pub returns-then-i-lt-ONE_BYTE : goal.returns-then-i-lt-ONE_BYTE
returns-then-i-lt-ONE_BYTE c =
    let (a, b) = small c.args.w c.if-w-lt65536.i (let z : Size c.args.w c.if-w-lt65536.i = elim c.if-w-lt65536.branch [ then-w-lt65536 w ↦ inl (w.if-w-lt65536.true, w.i-is) | else-w-lt65536 w ↦ inr (w.if-w-lt65536.false, w.i-is) ] in z) c.if-i-lt-ONE_BYTE.true in
    same_bytes c.args.out.now c.args.at c.put.ensures (one_form c.args.w c.requires.0 c.requires.1 a b)

pub overflow_add-j : goal.overflow_add-j
overflow_add-j c =
    let z = pair_fits _ c.if-w-lt65536.i c.if-w-lt65536-2.base (let z : Side c.args.w c.if-w-lt65536-2.base = elim c.if-w-lt65536-2.branch [ then-w-lt65536-2 w ↦ inl (w.if-w-lt65536-2.true, w.base-is) | else-w-lt65536-2 w ↦ inr (w.if-w-lt65536-2.false, w.base-is) ] in z) c.if-i-lt-TWO_BYTES.true in omega arith

pub overflow_cast-j : goal.overflow_cast-j
overflow_cast-j c =
    let z = pair_fits _ c.if-w-lt65536.i c.if-w-lt65536-2.base (let z : Side c.args.w c.if-w-lt65536-2.base = elim c.if-w-lt65536-2.branch [ then-w-lt65536-2 w ↦ inl (w.if-w-lt65536-2.true, w.base-is) | else-w-lt65536-2 w ↦ inr (w.if-w-lt65536-2.false, w.base-is) ] in z) c.if-i-lt-TWO_BYTES.true in omega arith

pub returns-then-i-lt-TWO_BYTES : goal.returns-then-i-lt-TWO_BYTES
returns-then-i-lt-TWO_BYTES c =
    same_bytes c.args.out.now c.args.at c.put-then-i-lt-TWO_BYTES.ensures (two_form c.args.w c.requires.0 c.requires.1 c.if-w-lt65536.i c.if-w-lt65536-2.base (let z : Size c.args.w c.if-w-lt65536.i = elim c.if-w-lt65536.branch [ then-w-lt65536 w ↦ inl (w.if-w-lt65536.true, w.i-is) | else-w-lt65536 w ↦ inr (w.if-w-lt65536.false, w.i-is) ] in z) (let z : Side c.args.w c.if-w-lt65536-2.base = elim c.if-w-lt65536-2.branch [ then-w-lt65536-2 w ↦ inl (w.if-w-lt65536-2.true, w.base-is) | else-w-lt65536-2 w ↦ inr (w.if-w-lt65536-2.false, w.base-is) ] in z) c.if-i-lt-ONE_BYTE.false c.if-i-lt-TWO_BYTES.true)

pub returns : goal.returns
returns c =
    same_bytes c.args.out.now c.args.at c.put-2.ensures (short_form c.args.w c.requires.0 c.requires.1 c.if-w-lt65536.i (let z : Size c.args.w c.if-w-lt65536.i = elim c.if-w-lt65536.branch [ then-w-lt65536 w ↦ inl (w.if-w-lt65536.true, w.i-is) | else-w-lt65536 w ↦ inr (w.if-w-lt65536.false, w.i-is) ] in z) c.if-i-lt-TWO_BYTES.false)
