-- Definitions: the states of the machine about an instruction. The laws are in proofs/InstructionLaws.antt.
use Rattle.std.specs.Prelude.{ℕ, ◌+◌, ◌≤◌, Bool, true, false, List, [], ◌∷◌, ◌++◌, length, ℤ}
use Rattle.std.proofs.Math.Option.{Option, some}
use Rattle.type2.specs.Path.{Kind}
use Rattle.renderer.specs.Machine.{State, with_ops, with_entry, begin, reach, last_of}

-- ---- a number joins the operands
abbrev pub pushed : ℤ → State → State
pushed v s = with_ops (s.ops ++ (v ∷ [])) s

-- ---- the operands that an operator finds: o is the width, or nothing
abbrev pub width_of : List ℤ → State → Option ℤ
width_of [] s = s.width
width_of (w ∷ l) s = some w

abbrev pub count : Bool → ℕ
count true = 1
count false = 0

-- ---- an instruction from a state that has nothing among its operands, or at the first operator the width
abbrev pub Ready : State → Type 0
Ready s = length s.ops + count s.begun ≤ 1

-- the state that the operator finds, with the operands l
abbrev pub settled_with : List ℤ → State → State
settled_with l s = begin (width_of s.ops s) l s

-- ---- drawing
abbrev pub acted : Kind → List ℤ → State → State
acted k l s = with_entry k (reach s.at l) (last_of s.at (reach s.at l)) s
