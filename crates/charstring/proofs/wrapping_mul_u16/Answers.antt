-- `charstring::wrapping_mul_u16` meets its contract. Assumes nothing.
use Rattle.std.proofs.Common.{◌≤◌, mul-le-mul, arith}
use Rattle.charstring.proofs.wrapping_mul_u16.Goals as goal

pub overflow_mul-wide : goal.overflow_mul-wide
overflow_mul-wide c =
    let a : c.args.a ≤ 65535 = omega arith in
    let b : c.args.b ≤ 65535 = omega arith in
    omega (arith, mul-le-mul a b)
