-- Definitions: how a reader of a finished charstring stands to the Type 2 machine. Document 01, "Type 2 machine (T2)".
-- An operand is held as its units of 1/65536 and 2 ^ 31, a coordinate as its units and 2 ^ 61.
use Rattle.std.specs.Prelude.{◌≡◌, ℕ, zero, suc, ◌+◌, ◌-◌, ◌/◌, ◌≤◌, ◌<◌, Bool, true, false, ◌&&◌, cond, List, [], ◌∷◌, length, take, drop, get_or, leb, eqb, ℤ, Option, None, Some, IfSome, ◌||◌}
use Rattle.std.proofs.Math.Option.{some}
use Rattle.std.proofs.Math.IntN.{sub_ℕ}
use Rattle.type2.specs.Path.{Kind, moves, lines, curves, flexes}
use Rattle.renderer.specs.Machine.{Point, State, Result, failed, ended, Takes, exactly, many, least, spare, begin, with_ops, with_stems, with_mask, bits, reach, all_small, run}
use Rattle.renderer.specs.Operators.{acted}
use Rattle.renderer.specs.declared.path.Position.{Position}
use Rattle.renderer.specs.declared.Reader.{Reader}
use Rattle.renderer.specs.declared.Operator.{Operator}
use Rattle.renderer.specs.declared.Operation.{Operation}
use Rattle.renderer.specs.declared.Operation.TheVariants.{Stems, Mask, Move, Lines, Curves, Flex, End}

-- ---- what is held

-- an operand: "It counts in whole 1/65536 units."
abbrev pub unit : ℕ → ℤ
unit n = sub_ℕ n 2147483648

unfoldable pub held : List ℕ → List ℤ
held [] = []
held (n ∷ l) = unit n ∷ held l

-- the operands from `i` to before `end`
abbrev pub part : ℕ → ℕ → List ℕ → List ℤ
part i end o = held (drop i (take end o))

-- a coordinate, and the point of two
abbrev pub coordinate : ℕ → ℤ
coordinate n = sub_ℕ n 2305843009213693952

abbrev pub point_at : Position → Point
point_at p = record { x = coordinate p.x; y = coordinate p.y }

-- not "a coordinate beyond 2^60 units either way"
abbrev pub is_within : ℕ → Bool
is_within n = leb 1152921504606846976 n && leb n 3458764513820540928

abbrev pub is_near : Position → Bool
is_near p = is_within p.x && is_within p.y

pub record Near (n : ℕ) : Type 0 where
  pub above : 1152921504606846976 ≤ n
  pub below : n ≤ 3458764513820540928

-- ---- the reader

-- "State: point (0, 0), stem count (0)": at the first byte, with no operator run
abbrev pub first_reader : Reader
first_reader = record { at = 0; begun = false; stems = 0; position = record { x = 2305843009213693952; y = 2305843009213693952 } }

-- where a run can stand: "a 97th stem, a coordinate beyond 2^60 units either way [..] is a fault"
abbrev pub is_possible : Reader → Bool
is_possible t = leb t.stems 96 && is_near t.position

-- the machine between two operators, and the reader with it
pub record Stands (s : State) (t : Reader) : Type 0 where
  pub begun_is : s.begun ≡ t.begun
  pub stems_is : s.stems ≡ t.stems
  pub at_is : s.at ≡ point_at t.position
  pub cleared : s.ops ≡ []
  pub possible : is_possible t ≡ true

-- ---- an operator

-- those that draw: "21, 22, 4 move; 5 takes pairs, 8 sixes [..] 12 35 takes 13"
abbrev pub is_drawing : Operation → Bool
is_drawing Stems = false
is_drawing Mask = false
is_drawing Move = true
is_drawing Lines = true
is_drawing Curves = true
is_drawing Flex = true
is_drawing End = false

-- the number of an operation: TN#5177's byte, 1 for the four that declare stems, 21 for the three moves
abbrev pub code_of : Operation → ℕ
code_of Stems = 1
code_of Mask = 19
code_of Move = 21
code_of Lines = 5
code_of Curves = 8
code_of Flex = 12
code_of End = 14

abbrev pub number_draws : ℕ → Bool
number_draws c = eqb c 21 || (eqb c 5 || (eqb c 8 || eqb c 12))

-- how many operands: "1, 3, 18, 23 take one pair or more [..] 19 takes none [..] 21, 22, 4 move; 5 takes pairs, 8 sixes, each at least one; 12 35 takes 13; 14 takes none"
abbrev pub takes_of : Operation → Takes
takes_of Stems = many 2
takes_of Mask = exactly 0
takes_of Move = exactly 2
takes_of Lines = many 2
takes_of Curves = many 6
takes_of Flex = exactly 13
takes_of End = exactly 0

-- the operator takes n operands
pub record Taken (c : Operation) (n : ℕ) : Type 0 where
  pub enough : least (takes_of c) ≤ n
  pub spared : spare (takes_of c) n ≡ 0

-- its operands; before them may stand the width
abbrev pub operands_of : Operator → List ℕ → List ℤ
operands_of r o = held (drop r.first (take r.end o))

-- the state in which it acts
abbrev pub settled_by : Operator → List ℕ → State → State
settled_by r o s = begin (cond (eqb r.first 0) s.width (some (unit (get_or o 0 0)))) (operands_of r o) s

-- the bits of a mask, whose bytes end where the reader then stands
abbrev pub mask_of : Operator → List ℕ → List Bool
mask_of r P = let k = (r.after.stems + 7) / 8 in take r.after.stems (bits (take k (drop (r.after.at - k) P)))

-- n entries, of k operands each
unfoldable pub acted_each : Kind → ℕ → ℕ → List ℤ → State → State
acted_each c k zero l s = with_ops [] s
acted_each c k (suc n) l s = acted_each c k n (drop k l) (acted c (take k l) s)

-- the state after it
unfoldable pub acts_by : Operation → Operator → List ℕ → State → State
acts_by Stems r P t = with_stems r.after.stems t
acts_by Mask r P t = with_mask (mask_of r P) t
acts_by Move r P t = acted moves t.ops t
acts_by Lines r P t = acted_each lines 2 (length t.ops / 2) t.ops t
acts_by Curves r P t = acted_each curves 6 (length t.ops / 6) t.ops t
acts_by Flex r P t = acted flexes t.ops t
acts_by End r P t = t

abbrev pub acts : Operator → List ℕ → State → State
acts r P t = acts_by r.operation r P t

-- how the run goes on from it: it ends with the state that the operator finds, or goes on with the state after it
unfoldable pub goes_by : Operation → State → State → List ℕ → Result
goes_by End s t rest = ended s rest
goes_by Stems s t rest = run rest 0 t
goes_by Mask s t rest = run rest 0 t
goes_by Move s t rest = run rest 0 t
goes_by Lines s t rest = run rest 0 t
goes_by Curves s t rest = run rest 0 t
goes_by Flex s t rest = run rest 0 t

abbrev pub goes : Option Operator → List ℕ → List ℕ → State → Result
goes None o P s = failed
goes (Some r) o P s = goes_by r.operation (settled_by r o s) (acts r P (settled_by r o s)) (drop r.after.at P)

-- ---- what `Reader::next` says

-- of an operator that comes
pub record Came (P : List ℕ) (t : Reader) (o : List ℕ) (r : Operator) : Type 0 where
  pub stands : (s : State) → Stands s t → (r.operation ≡ End → ⊥) → Stands (acts r P (settled_by r o s)) r.after
  pub onward : t.at < r.after.at
  pub within : r.after.at ≤ length P
  -- the operands: in order, as many as the operator takes, and no point of theirs beyond the limit
  pub order : r.first ≤ r.end
  pub few : r.end ≤ 48
  pub taken : Taken r.operation (r.end - r.first)
  pub small : is_drawing r.operation ≡ true → all_small (reach (point_at t.position) (operands_of r o)) ≡ true

pub record Comes (P : List ℕ) (t : Reader) (o : List ℕ) (r : Option Operator) : Type 0 where
  -- the machine's run from where the reader stands is this operator and the run from where it then stands, or a fault
  pub runs : (s : State) → Stands s t → run (drop t.at P) 0 s ≡ goes r o P s
  -- where no run can stand, none comes
  pub impossible : is_possible t ≡ false → r ≡ None
  pub size : length o ≡ 48
  pub came : IfSome r (Came P t o)
