-- `renderer::numbers::number` meets its contract.
use Rattle.std.proofs.Common.{arith}
use Rattle.renderer.proofs.NumberLaws.{cut2, cut3, cut5, byte1, byte2_plus, byte2_minus, byte3, byte5}
use Rattle.renderer.proofs.numbers.number.Goals as goal
use Rattle.renderer.proofs.numbers.number.Goals.{then-n-lt32768, else-n-lt32768, then-n-lt-ZERO, else-n-lt-ZERO}

pub returns-in_err-high-in-0-to-31 : goal.returns-in_err-high-in-0-to-31
returns-in_err-high-in-0-to-31 c =
    rw c.from_residual-in_err-high-in-0-to-31.ensures (let k = c.in_err-high-in-0-to-31.ensures in cut3 _ _ _ (omega arith) c.requires (omega arith))

pub returns-in_err-low-in-0-to-31 : goal.returns-in_err-low-in-0-to-31
returns-in_err-low-in-0-to-31 c =
    rw c.from_residual-in_err-low-in-0-to-31.ensures (let k = c.in_err-low-in-0-to-31.ensures in cut3 _ _ _ (omega arith) c.requires (omega arith))

pub returns-after-n-lt32768 : goal.returns-after-n-lt32768
returns-after-n-lt32768 c =
    byte3 _ _ _ _ _ c.in_ok-high-in-0-to-31.ensures c.in_ok-low-in-0-to-31.ensures (omega arith) c.requires _
    (elim c.if-n-lt32768.branch [ then-n-lt32768 w ↦ (λ h. w.value-is, λ h. omega arith) | else-n-lt32768 w ↦ (λ h. omega arith, λ h. omega arith) ])

pub returns-in-32-to-246 : goal.returns-in-32-to-246
returns-in-32-to-246 c =
    rw c.from-first.ensures (byte1 _ _ _ (omega arith) (omega arith))

pub returns-in_err-second-in-247-to-250 : goal.returns-in_err-second-in-247-to-250
returns-in_err-second-in-247-to-250 c =
    rw c.from_residual-in_err-second-in-247-to-250.ensures (cut2 _ _ _ c.ranges.b.fits (omega arith) c.in_err-second-in-247-to-250.ensures)

pub returns-in_ok-second-in-247-to-250 : goal.returns-in_ok-second-in-247-to-250
returns-in_ok-second-in-247-to-250 c =
    rw c.from-first.ensures (byte2_plus _ _ _ _ c.in_ok-second-in-247-to-250.ensures (omega arith) (omega arith))

pub returns-in_err-second-in-251-to-254 : goal.returns-in_err-second-in-251-to-254
returns-in_err-second-in-251-to-254 c =
    rw c.from_residual-in_err-second-in-251-to-254.ensures (cut2 _ _ _ c.ranges.b.fits (omega arith) c.in_err-second-in-251-to-254.ensures)

pub returns-in_ok-second-in-251-to-254 : goal.returns-in_ok-second-in-251-to-254
returns-in_ok-second-in-251-to-254 c =
    let s = c.in_ok-second-in-251-to-254.ensures in
    byte2_minus _ _ _ _ _ s (omega arith) (omega arith) (omega arith)

pub returns-in_err-second-in-255 : goal.returns-in_err-second-in-255
returns-in_err-second-in-255 c =
    rw c.from_residual.ensures (cut2 _ _ _ c.ranges.b.fits (omega arith) c.in_err-second-in-255.ensures)

pub returns-in_err-third-in-255 : goal.returns-in_err-third-in-255
returns-in_err-third-in-255 c =
    rw c.from_residual-in_err-third-in-255.ensures (let k = c.in_err-third-in-255.ensures in cut5 _ _ _ c.ranges.b.fits (omega arith) (omega arith))

pub returns-in_err-fourth-in-255 : goal.returns-in_err-fourth-in-255
returns-in_err-fourth-in-255 c =
    rw c.from_residual-in_err-fourth-in-255.ensures (let k = c.in_err-fourth-in-255.ensures in cut5 _ _ _ c.ranges.b.fits (omega arith) (omega arith))

pub returns-in_err-fifth-in-255 : goal.returns-in_err-fifth-in-255
returns-in_err-fifth-in-255 c =
    rw c.from_residual-in_err-fifth-in-255.ensures (let k = c.in_err-fifth-in-255.ensures in cut5 _ _ _ c.ranges.b.fits (omega arith) (omega arith))

pub returns-after-n-lt-ZERO : goal.returns-after-n-lt-ZERO
returns-after-n-lt-ZERO c =
    byte5 _ _ _ c.ranges.b.fits _ _ _ _ c.in_ok-second-in-255.ensures c.in_ok-third-in-255.ensures c.in_ok-fourth-in-255.ensures c.in_ok-fifth-in-255.ensures (omega arith) _
    (elim c.if-n-lt-ZERO.branch [ then-n-lt-ZERO w ↦ (λ h. w.value-is, λ h. omega arith) | else-n-lt-ZERO w ↦ (λ h. omega arith, λ h. omega arith) ])
