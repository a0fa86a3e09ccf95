-- Definitions: what the functions below `Reader::next` say.
use Rattle.std.specs.Prelude.{◌≡◌, ℕ, ◌+◌, ◌-◌, ◌/◌, ◌≤◌, ◌<◌, Bool, true, false, ◌&&◌, ◌||◌, cond, List, [], ◌∷◌, length, take, drop, get_or, leb, eqb, Option, None, Some, IfSome, MatchOption, option_and_then}
use Rattle.type2.specs.Number.{Reading, no_number, number, read_from}
use Rattle.renderer.specs.Machine.{State, Step, stop, on, Result, failed, Takes, exactly, many, with_ops, with_stems, with_mask, least, spare, bits, none_set, draw, draws, reach, last_of, all_small, next, run}
use Rattle.type2.specs.Path.{moves, lines, curves, flexes}
use Rattle.renderer.specs.Reader.{unit, held, point_at, is_near, Taken, settled_by, mask_of}
use Rattle.renderer.specs.declared.Reader.{Reader}
use Rattle.renderer.specs.declared.Operator.{Operator}
use Rattle.renderer.specs.declared.Operation.{Operation}
use Rattle.renderer.specs.declared.Operation.TheVariants.{Stems, Mask, Move, Lines, Curves, Flex, End}
use Rattle.renderer.specs.declared.numbers.Value.{Value}
use Rattle.renderer.specs.declared.numbers.Numbers.{Numbers}
use Rattle.renderer.specs.declared.opcodes.Opcode.{Opcode}
use Rattle.renderer.specs.declared.opcodes.Opcode.TheVariants.{Stem, HintMask, RMoveTo, HMoveTo, VMoveTo, RLineTo, RRCurveTo, EscapeFlex, EndChar}
use Rattle.renderer.specs.declared.path.Position.{Position}

-- ---- numbers

abbrev pub starts_number : ℕ → Bool
starts_number b = eqb b 28 || leb 32 b

-- no byte is at a place, or this one
abbrev pub IsCut : List ℕ → ℕ → Type 0
IsCut P at = length P ≤ at

pub record IsByte (P : List ℕ) (at b : ℕ) : Type 0 where
  pub inside : at < length P
  pub is : b ≡ get_or P at 0
  pub small : b < 256

abbrev pub reading : ℕ → Option Value → Reading
reading at None = no_number
reading at (Some v) = number (unit v.value) (v.next - at)

-- what `number` says of the bytes from `at` on, after the byte b
pub record Reads (b : ℕ) (P : List ℕ) (at : ℕ) (r : Option Value) : Type 0 where
  pub same : read_from b (drop at P) ≡ reading at r
  pub onward : IfSome r (λ v. at ≤ v.next)

-- the machine comes to the operator's byte with the numbers as its operands
pub record Gathered (P : List ℕ) (from : ℕ) (o : List ℕ) (n : Numbers) : Type 0 where
  pub runs : (s : State) → run (drop from P) 0 (with_ops [] s) ≡ run (n.byte ∷ drop n.next P) 0 (with_ops (held (take n.count o)) s)
  pub operator : starts_number n.byte ≡ false
  pub few : n.count ≤ 48
  pub within : n.next ≤ length P
  pub onward : from < n.next

-- what `operands` says: the machine faults, or comes to an operator
abbrev pub Gathers : List ℕ → ℕ → List ℕ → Option Numbers → Type 0
Gathers P from o r = MatchOption r ((s : State) → run (drop from P) 0 (with_ops [] s) ≡ failed) (Gathered P from o)

-- ---- operators

-- "12 35" is the one of two bytes
abbrev pub escaped : List ℕ → Option Opcode
escaped [] = None
escaped (b ∷ bs) = cond (eqb b 35) (Some EscapeFlex) None

unfoldable pub plain : ℕ → List ℕ → Option Opcode
plain b bs =
    cond (eqb b 1 || eqb b 3 || eqb b 18 || eqb b 23) (Some Stem)
    (cond (eqb b 19) (Some HintMask)
    (cond (eqb b 21) (Some RMoveTo)
    (cond (eqb b 22) (Some HMoveTo)
    (cond (eqb b 4) (Some VMoveTo)
    (cond (eqb b 5) (Some RLineTo)
    (cond (eqb b 8) (Some RRCurveTo)
    (cond (eqb b 12) (escaped bs)
    (cond (eqb b 14) (Some EndChar) None))))))))

-- how many operands it takes, as `takes_of` says of what it does; hmoveto and vmoveto take one
abbrev pub taken_by : Opcode → Takes
taken_by Stem = many 2
taken_by HintMask = exactly 0
taken_by RMoveTo = exactly 2
taken_by HMoveTo = exactly 1
taken_by VMoveTo = exactly 1
taken_by RLineTo = many 2
taken_by RRCurveTo = many 6
taken_by EscapeFlex = exactly 13
taken_by EndChar = exactly 0

-- how many of n operands are left over
abbrev pub spare_of : Opcode → ℕ → Option ℕ
spare_of c n = cond (leb (least (taken_by c)) n) (Some (spare (taken_by c) n)) None

-- where the operands start, by how many are left over: 1 after a width
abbrev pub skip : Bool → ℕ → Option ℕ
skip begun n = cond (eqb n 0) (Some 0) (cond (eqb n 1) (cond begun None (Some 1)) None)

abbrev pub skip_of : Opcode → ℕ → Bool → Option ℕ
skip_of c n begun = option_and_then (skip begun) (spare_of c n)

unfoldable pub after_mask : List ℕ → ℕ → ℕ → Option ℕ
after_mask P at n =
    let k = (n + 7) / 8 in
    cond (leb k (length (drop at P)) && none_set (drop n (bits (take k (drop at P))))) (Some (at + k)) None

-- ---- an operator that came

-- what it does there
unfoldable pub does : Operation → Operator → List ℕ → State → Step
does Stems r P t = on 0 (with_stems r.after.stems t)
does Mask r P t = on 0 (with_mask (mask_of r P) t)
does Move r P t = draw moves t.ops t
does Lines r P t = draws lines 2 (length t.ops / 2) t.ops t
does Curves r P t = draws curves 6 (length t.ops / 6) t.ops t
does Flex r P t = draw flexes t.ops t
does End r P t = stop t

abbrev pub found_goes : Operator → List ℕ → List ℕ → State → Result
found_goes r o P s = next (does r.operation r P (settled_by r o s)) (drop r.after.at P) (run (drop r.after.at P))

-- what `find` says of an operator, in any state of the machine with so many stems that holds no operands
pub record Found (P : List ℕ) (t : Reader) (o : List ℕ) (r : Operator) : Type 0 where
  pub runs : (s : State) → s.begun ≡ t.begun → s.stems ≡ t.stems → run (drop t.at P) 0 (with_ops [] s) ≡ found_goes r o P s
  pub few : r.end ≤ 48
  pub order : r.first ≤ r.end
  pub stems96 : r.after.stems ≤ 96
  pub within : r.after.at ≤ length P
  pub onward : t.at < r.after.at
  pub kept : (r.operation ≡ Stems → ⊥) → r.after.stems ≡ t.stems
  pub taken : Taken r.operation (r.end - r.first)
  pub begun_is : r.after.begun ≡ true
  pub position_is : r.after.position ≡ t.position

-- what `find` says: the machine faults, or that
abbrev pub Finds : List ℕ → Reader → List ℕ → Option Operator → Type 0
Finds P t o r = MatchOption r ((s : State) → s.begun ≡ t.begun → s.stems ≡ t.stems → run (drop t.at P) 0 (with_ops [] s) ≡ failed) (Found P t o)

-- ---- what `moved` and `follow` say

abbrev pub moved_by : Position → ℕ → ℕ → Position
moved_by p dx dy = record { x = p.x + dx - 2147483648; y = p.y + dy - 2147483648 }

abbrev pub Moves : Position → ℕ → ℕ → Option Position → Type 0
Moves p dx dy r = MatchOption r (is_near (moved_by p dx dy) ≡ false) (λ q. (q ≡ moved_by p dx dy) × (is_near q ≡ true))

-- every point that the pairs of deltas go to is near, and the last is q
pub record Arrives (p : Position) (d : List ℕ) (q : Position) : Type 0 where
  pub small : all_small (reach (point_at p) (held d)) ≡ true
  pub at_is : last_of (point_at p) (reach (point_at p) (held d)) ≡ point_at q
  pub near : is_near q ≡ true

abbrev pub Follows : Position → List ℕ → Option Position → Type 0
Follows p d r = MatchOption r (all_small (reach (point_at p) (held d)) ≡ false) (Arrives p d)
