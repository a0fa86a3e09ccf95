-- `bank::is_valid` meets its contract. Assumes nothing.
use Rattle.std.proofs.Common.{◌≡◌, ℕ, ◌*◌, ◌≤◌, List, true}
use Rattle.bank.specs.Bank.{offset, rises}
use Rattle.bank.proofs.is_valid.Given as goal

-- the offsets up to i rise, and `before` is offset i
abbrev pub Checked : List ℕ → ℕ → ℕ → ℕ → Type 0
Checked bank n before i = (i ≤ n) × (before ≡ offset bank i) × (rises bank i ≡ true)

abbrev pub invariant-loop-block : goal.invariant-loop-block
invariant-loop-block l = Checked l.bank l.count l.before (16 * l.block)

abbrev pub invariant-loop-i : goal.invariant-loop-i
invariant-loop-i l = Checked l.bank l.count l.before l.i
