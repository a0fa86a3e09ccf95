-- Definitions: finishing. Document 01, "Finishing": "No width if the rounded width equals the default (NaN equals none), else rounded width less nominal first."
use Rattle.std.specs.Prelude.{ℕ, cond, List, [], ◌∷◌, ℤ, Float}
use Rattle.std.proofs.Math.Option.{Option, none, some}
use Rattle.std.specs.Float.{binary64}
use Rattle.std.specs.Float.Ieee.{sub, eq}
use Rattle.type2.specs.declared.Widths.{Widths}
use Rattle.type2.specs.Number.{quantized}
use Rattle.type1_to_type2.specs.Emission.{written}
use Rattle.type1_to_type2.specs.Writing.{Written, wrote, put, put_numbers}

-- the number that is put first, in whole 1/65536, from the glyph's width, the default and the nominal width
unfoldable pub width_for : Float → Widths → Option ℤ
width_for width p = let w = quantized width in cond (eq w p.default_width_x) none (some (written (sub binary64 w p.nominal_width_x)))

abbrev pub first : Option ℤ → List ℤ
first none = []
first (some u) = u ∷ []

-- the width, where there is one, then the program, into an output with so much room
unfoldable pub finish : Float → List ℕ → Widths → ℕ → Written
finish width program p room = put_numbers (first (width_for width p)) room (λ left. put left program (λ k. wrote []))
