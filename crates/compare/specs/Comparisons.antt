-- Definitions: what a comparison tells, and an output that is a front and then one value. (Document 01, "What each entry is held to", d: a program checks against the Rust.)
use Rattle.std.specs.Prelude.{Bool, List, ◌++◌, ℕ, ◌-◌, T, length, replicate}

-- the test is true exactly where the fact holds
abbrev pub Tells : Bool → Type 0 → Type 0
Tells r P = (T r → P) × (P → T r)

-- a list of n elements that begins with front, and has rest after it; front alone where it is longer
abbrev pub padded : {A : Type 0} → List A → A → ℕ → List A
padded front rest n = front ++ replicate (n - length front) rest
