-- Definitions: the width at a charstring's start. Document 01, "Finishing": "No width if the rounded width equals the default (NaN equals none), else rounded width less nominal first." TN#5177, section 3.1.
use Rattle.std.specs.Prelude.{cond, List, ℕ, Float}
use Rattle.std.specs.Float.{binary64}
use Rattle.std.specs.Float.Ieee.{sub, eq}
use Rattle.type2.specs.declared.Widths.{Widths}
use Rattle.type2.specs.Number.{quantized, Push, gave, push_number}

-- the width, where one is put, at the output's start
unfoldable pub push_width : List ℕ → Float → Widths → Push
push_width out width p = let w = quantized width in cond (eq w p.default_width_x) (gave 0 0 out) (push_number out 0 (sub binary64 w p.nominal_width_x))
