-- Definitions: what the laws of the run speak of: a property of every number of a state, of the state that a step leaves, of every step; and of two outcomes. Document 01, "Type 1 run".
use Rattle.std.specs.Prelude.{ℕ, suc, ◌+◌, ◌≤◌, ◌<◌, ◌≡◌, ◌⊎◌, Bool, true, false, ◌&&◌, ◌||◌, List, [], ◌∷◌, T, eqb, leb, length, ℤ, pos, nat_abs, Float}
use Rattle.std.proofs.Math.Option.{Option, none, some}
use Rattle.std.specs.Float.{fin, binary64}
use Rattle.std.specs.Float.Ieee.{add, div}
use Rattle.std.specs.Float.Ieee.Scale.{finite}
use Rattle.binary64.specs.Value.{Whole}
use Rattle.charstring.specs.Cipher.{Bytes, max_charstring_bytes}
use Rattle.geometry.specs.declared.Point.{Point}
use Rattle.outline.specs.declared.Stem.{Stem}
use Rattle.type1.specs.Number.{Token, cut, number, operator, double}
use Rattle.outline.specs.Outline.{Command, move, line, curve, flex, Group, plus_zero}
use Rattle.type1.specs.State.{State, with_ran}
use Rattle.type1.specs.Memory.{Good}
use Rattle.type1.specs.Operator as op
use Rattle.type1.specs.Operator.{Operator}
use Rattle.type1.specs.Run.{Limits, Outcome, going, returning, ending, refused, without, push, operate}

-- each of a list
unfoldable pub All : {A : Type 0} → (A → Type 0) → List A → Type 0
All P [] = Unit {0}
All P (a ∷ l) = P a × All P l

-- ---- P of every number of a point, a stem, a command, a flex, a group, a state
abbrev pub OfPoint : (Float → Type 0) → Point → Type 0
OfPoint P p = P p.x × P p.y

abbrev pub OfStem : (Float → Type 0) → Stem → Type 0
OfStem P s = P s.pos × P s.width

abbrev pub OfCommand : (Float → Type 0) → Command → Type 0
OfCommand P (move p) = OfPoint P p
OfCommand P (line p) = OfPoint P p
OfCommand P (curve p q r) = OfPoint P p × (OfPoint P q × OfPoint P r)
OfCommand P (flex a b c d e f h) = OfPoint P a × (OfPoint P b × (OfPoint P c × (OfPoint P d × (OfPoint P e × (OfPoint P f × P h)))))

abbrev pub OfFlex : (Float → Type 0) → Option (List Point) → Type 0
OfFlex P none = Unit {0}
OfFlex P (some l) = All (OfPoint P) l

abbrev pub OfGroup : (Float → Type 0) → Group → Type 0
OfGroup P g = All (OfStem P) g.stems

pub record Numbers (P : Float → Type 0) (s : State) : Type 0 where
  pub operands : All P s.operands
  pub postscript : All P s.postscript
  pub point : OfPoint P s.point
  pub bearing : OfPoint P s.bearing
  pub width : P s.width
  pub flexing : OfFlex P s.flexing
  pub hints : All (OfStem P) s.hints
  pub groups : All (OfGroup P) s.groups
  pub drawn : All (OfCommand P) s.drawn

-- ---- a property Q of the state that a step leaves, if it is not refused
abbrev pub Ends : (State → Type 0) → Outcome → Type 0
Ends Q (going s) = Q s
Ends Q (returning s) = Q s
Ends Q (ending s) = Q s
Ends Q (refused n) = Unit {0}

-- the same of a step that goes on or is refused
abbrev pub Goes : (State → Type 0) → Outcome → Type 0
Goes Q (going s) = Q s
Goes Q (returning s) = ⊥
Goes Q (ending s) = ⊥
Goes Q (refused n) = Unit {0}

-- an outcome of a whole run: no body is left to return from
abbrev pub Outermost : Outcome → Type 0
Outermost (going s) = Unit {0}
Outermost (returning s) = ⊥
Outermost (ending s) = Unit {0}
Outermost (refused n) = Unit {0}

-- ---- every number is a finite double
abbrev pub GoodPoint : Point → Type 0
GoodPoint p = OfPoint Good p

abbrev pub Sound : State → Type 0
Sound s = Numbers Good s

abbrev pub SoundOut : Outcome → Type 0
SoundOut o = Ends Sound o

-- ---- what a run does with numbers, whether a div ran or not: such a P is kept by it
pub record Sums (P : Float → Type 0) : Type 0 where
  pub nothing : P plus_zero
  -- the flex height where none is given
  pub fifty : P (fin false 25 (pos 1))
  pub sum : (x y : Float) → P x → P y → T (finite (add binary64 x y)) → P (add binary64 x y)

pub record Kept (P : Bool → Float → Type 0) : Type 0 where
  pub sums : (d : Bool) → Sums (P d)
  pub integer : (d : Bool) (z : ℤ) → nat_abs z ≤ 4294967296 → P d (double z)
  pub quotient : (d : Bool) (x y : Float) → P d x → P d y → T (finite (div binary64 x y)) → P true (div binary64 x y)
  pub more : (d : Bool) (x : Float) → P d x → P true x

-- P of every number of the state
abbrev pub Holding : (Bool → Float → Type 0) → State → Type 0
Holding P s = Numbers (P s.divided) s

abbrev pub Held : Bool → (Float → Type 0) → State → Type 0
Held d P s = (s.divided ≡ d) × Numbers P s

-- finite, and whole unless a div ran
abbrev pub Fine : Bool → Float → Type 0
Fine d x = Good x × (d ≡ false → Whole binary64 x)

-- ---- Q is kept by every step of the run
pub record Stable (lim : Limits) (Q : State → Type 0) : Type 0 where
  pub number : (z : ℤ) → nat_abs z ≤ 4294967296 → (s : State) → Q s → Ends Q (push lim (double z) s)
  pub operator : (call : Outcome) (o : Operator) (s : State) → Q s → Ends Q call → Ends Q (operate lim call o s)
  -- at a call
  pub taken : (s : State) → Q s → Q (without 1 s)
  pub charged : (n : ℕ) (s : State) → n ≤ max_charstring_bytes → Q s → Q (with_ran n s)

-- ---- of bytes: numbers are small, and a body holds bytes
abbrev pub SmallToken : Token → Type 0
SmallToken cut = Unit {0}
SmallToken (number m z) = nat_abs z ≤ 4294967296
SmallToken (operator m o) = Unit {0}

abbrev pub ByteBody : Option (List ℕ) → Type 0
ByteBody none = Unit {0}
ByteBody (some l) = Bytes l

-- ---- what limits refuse with: document 01, numbers 15 to 17; document 02, (c), number 22
abbrev pub is_limit : ℕ → Bool
is_limit n = (leb 15 n && leb n 17) || eqb n 22

-- each limit answers 0 or one of these
abbrev pub Refusing : (ℕ → ℕ) → Type 0
Refusing f = (n : ℕ) → T (eqb (f n) 0 || is_limit (f n))

pub record Limiting (lim : Limits) : Type 0 where
  pub operands : Refusing lim.operands
  pub postscript : Refusing lim.postscript
  pub hints : Refusing lim.hints
  pub groups : Refusing lim.groups
  pub stems : Refusing lim.stems
  pub commands : Refusing lim.commands

-- ---- an outcome is a limit's refusal, or is another
abbrev pub LimitOr : Outcome → Outcome → Type 0
LimitOr o p = ((n : ℕ) × (o ≡ refused n) × T (is_limit n)) ⊎ (o ≡ p)

-- ---- the operator that pushes
abbrev pub is_pop : Operator → Bool
is_pop op.hstem = false
is_pop op.vstem = false
is_pop op.vmoveto = false
is_pop op.rlineto = false
is_pop op.hlineto = false
is_pop op.vlineto = false
is_pop op.rrcurveto = false
is_pop op.closepath = false
is_pop op.callsubr = false
is_pop op.return = false
is_pop op.hsbw = false
is_pop op.endchar = false
is_pop op.rmoveto = false
is_pop op.hmoveto = false
is_pop op.vhcurveto = false
is_pop op.hvcurveto = false
is_pop op.dotsection = false
is_pop op.vstem3 = false
is_pop op.hstem3 = false
is_pop op.seac = false
is_pop op.sbw = false
is_pop op.div = false
is_pop op.callothersubr = false
is_pop op.pop = true
is_pop op.setcurrentpoint = false
is_pop op.unknown = false

-- ---- what steps refuse with: document 01, numbers 3 to 14, of which 13 is no step's
abbrev pub is_step : ℕ → Bool
is_step n = leb 3 n && leb n 14

-- P of how many operands an outcome leaves, or R of the number that it is refused with
abbrev pub Keeps : (ℕ → Type 0) → (ℕ → Type 0) → Outcome → Type 0
Keeps P R (going s) = P (length s.operands)
Keeps P R (returning s) = P (length s.operands)
Keeps P R (ending s) = P (length s.operands)
Keeps P R (refused n) = R n

-- R of what each limit answers, but that of operands
pub record Answering (R : ℕ → Type 0) (lim : Limits) : Type 0 where
  pub postscript : (n : ℕ) → R (lim.postscript n)
  pub hints : (n : ℕ) → R (lim.hints n)
  pub groups : (n : ℕ) → R (lim.groups n)
  pub stems : (n : ℕ) → R (lim.stems n)
  pub commands : (n : ℕ) → R (lim.commands n)

-- ---- points drawn, and what may become points: operands, the PostScript stack, the points of a flex
abbrev pub points : Command → ℕ
points (move p) = 1
points (line p) = 1
points (curve p q r) = 3
points (flex a b c d e f h) = 6

unfoldable pub points_of : List Command → ℕ
points_of [] = 0
points_of (c ∷ l) = points c + points_of l

abbrev pub gathered : Option (List Point) → ℕ
gathered none = 0
gathered (some l) = length l

abbrev pub weight : State → ℕ
weight s = points_of s.drawn + length s.operands + length s.postscript + gathered s.flexing

-- ---- "A new group keeps the number of entries listed before it": these numbers rise strictly, from a number on and below an end
unfoldable pub Rising : ℕ → List Group → ℕ → Type 0
Rising from [] end = Unit {0}
Rising from (g ∷ l) end = (from ≤ g.before) × (g.before < end) × Rising (suc g.before) l end

abbrev pub Placed : State → Type 0
Placed s = Rising 0 s.groups (length s.drawn)

-- ---- a state with so many bytes still to be read of those counted
pub record Weighs (unread : ℕ) (s : State) : Type 0 where
  pub below : weight s + unread ≤ s.ran
  pub ran : s.ran ≤ max_charstring_bytes
  pub placed : Placed s

-- the same with an entry to come
pub record Due (unread : ℕ) (s : State) : Type 0 where
  pub below : weight s + unread ≤ s.ran
  pub ran : s.ran ≤ max_charstring_bytes
  pub placed : Rising 0 s.groups (suc (length s.drawn))
