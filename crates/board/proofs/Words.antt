-- Laws: numbers that may be written as bits; a program taken whole. Assumes nothing.
use Prim.Native.Nat.{ℕ}
use mathlib.Core.Path.{◌≡◌, ap}
use mathlib.Core.Bool.{not}
use mathlib.Core.List.{List}
use native.Mathlib.Omega.{arith}
use lib.ListN.{length, take}
use lib.Seq.{take_all}
use lib.Dec.{T}
use lib.Ieee.{Float, nan, inf, fin, is_nan}
use lib.Ieee.Scale.{finite}
use Rattle.type2.specs.declared.Widths.{Widths}
use Rattle.type1_to_type2.specs.Finish.{finish}

-- a finite number is none that is not a number
pub finite_number : (x : Float) → T (finite x) → T (not (is_nan x))
unfolding is_nan
finite_number nan t = absurd t
finite_number (inf s) t = tt
finite_number (fin s m e) t = tt

-- a program taken whole
pub finish_all : (w : Float) (p : List ℕ) (s : Widths) (room : ℕ) → finish w (take (length p) p) s room ≡ finish w p s room
finish_all w p s room = ap (λ (l : List ℕ). finish w l s room) (take_all (length p) p (omega arith))
