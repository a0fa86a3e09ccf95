-- Definitions: the kinds of a path's entries, its deltas, and how many lines or curves share an operator. Document 01, "Path"; TN#5177, section 4.1.
use Rattle.std.specs.Prelude.{ℕ, ◌+◌, ◌*◌, Bool, leb, Float}
use Rattle.std.specs.Float.{binary64}
use Rattle.std.specs.Float.Ieee.{add, sub}
use Rattle.type2.specs.Number.{quantized}

-- what an entry of a drawn list is, of the Type 1 run's and of the Type 2 machine's
pub data Kind : Type 0 where
  moves lines curves flexes : Kind

-- "A delta runs from the point the renderer will have reached": of one coordinate, with the coordinate reached by it
abbrev pub delta : Float → Float → Float
delta at p = quantized (sub binary64 p at)

abbrev pub reaches : Float → Float → Float
reaches at p = add binary64 at (delta at p)

-- "Consecutive lines (23) or curves (7) share an operator": the operands that share it, two a line and six a curve
abbrev pub most : Kind → ℕ
most moves = 0
most lines = 2 * 23
most curves = 6 * 7
most flexes = 0

-- an operator with so many operands takes so many more
abbrev pub takes : Kind → ℕ → ℕ → Bool
takes k held more = leb (held + more) (most k)
