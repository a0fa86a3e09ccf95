-- Definitions: a store that is all zeros, or zeros from a place on. Document 01, "What each entry is held to", a: "the output's every byte (program, then zeros) and the wiped stores".
use Rattle.std.specs.Prelude.{ℕ, ◌-◌, cond, List, ◌++◌, length, take, replicate, eqb}

abbrev pub zeros : List ℕ → List ℕ
zeros l = replicate (length l) 0

-- the part before the place is as it was
abbrev pub zeros_from : ℕ → List ℕ → List ℕ
zeros_from from l = take from l ++ replicate (length l - from) 0

-- "program, then zeros": how many bytes stand before the zeros, of so many written. "Numbers the board logs": "On a refusal all but the number are 0", so then none.
abbrev pub kept : ℕ → ℕ → ℕ
kept number written = cond (eqb number 0) written 0
