-- Definitions: what the laws of the machine's run of a program speak of. Document 01, "Type 2 machine", "Path", "Stems and masks".
use Rattle.std.specs.Prelude.{ℕ, suc, ◌+◌, ◌*◌, ◌≤◌, ◌≡◌, ◌⊎◌, Bool, true, false, List, [], ◌∷◌, ◌++◌, length, T, ℤ, ◌+ℤ◌, Float}
use Rattle.std.proofs.Math.Option.{Option}
use Rattle.std.specs.Float.{binary64}
use Rattle.std.specs.Float.Ieee.{add, fits}
use Rattle.std.specs.Float.Ieee.Scale.{finite}
use Rattle.binary64.specs.Value.{Multiple, Whole}
use Rattle.geometry.specs.declared.Point.{Point}
use Rattle.geometry.specs.declared.Matrix.{Matrix}
use Rattle.outline.specs.declared.Stem.{Stem}
use Rattle.type1.specs.declared.Reading.{Reading}
use Rattle.type1.specs.Interpret.{Source}
use Rattle.type1.specs.State as Type1
use Rattle.type1.specs.Memory as Type1Memory
use Rattle.outline.specs.Outline.{Command, Group}
use Rattle.type1.specs.Run.{Outcome, going, ending}
use Rattle.type2.specs.Number.{zp, zm, units, Is}
use Rattle.type2.specs.Instruction.{Instr, numbers, bytes, fine, all_fine}
use Rattle.renderer.specs.Machine as Machine
use Rattle.type2.specs.Path.{Kind, moves, lines, curves, flexes, delta}
use Rattle.renderer.specs.Machine.{Entry, Mask, State, Step, fault, stop, on, with_mask, with_stems, reach, last_of, all_small, draws, run, machine, ended}
use Rattle.renderer.specs.Operators.{Ready, settled_with, acted}
use Rattle.type1_to_type2.specs.Stems.{Declared, stems_of, mask_of}
use Rattle.type1_to_type2.specs.Emission.{program, commands, pack, deltas, arrives, points_of, Cmd, hints, shape, Item, mask, go, Waiting, idle, held, flush}
use Rattle.folding.specs.Folding.{fold_of, folded_list, folded_groups, folded_width}
use Rattle.type1_to_type2.specs.Writing as Writing
use Rattle.type1_to_type2.specs.Writing.{write}
use Rattle.type1_to_type2.specs.Convert.{folds_finite, Glyph, instructions}
use Rattle.type1_to_type2.specs.Finish.{first}
use Rattle.agreement.specs.Demand3.{unlimited_run, Near, SamePoint, SamePoints, SameDrawing}

-- ---- one delta

-- what is claimed of a coordinate, and what is asked for it: where b, that it is met exactly
abbrev pub Meets : Bool → ℤ → Float → Type 0
Meets true = Is
Meets false = Near

abbrev pub Fixed : Bool → Float → Type 0
Fixed true x = Multiple binary64 1058 x
Fixed false x = Unit {0}

-- from z, which is `at` exactly, by the delta to p
pub record OneDelta (z : ℤ) (at p : Float) : Type 0 where
  pub is : Is (z +ℤ units (delta at p)) (add binary64 at (delta at p))
  pub near : Near (z +ℤ units (delta at p)) p

-- ---- points

-- a finite double, and where b a whole number of 1/65536
abbrev pub Coordinate : Bool → Float → Type 0
Coordinate b x = T (fits binary64 x) × T (finite x) × Fixed b x

abbrev pub PointCoordinates : Bool → Point → Type 0
PointCoordinates b p = Coordinate b p.x × Coordinate b p.y

abbrev pub ListCoordinates : Bool → List Point → Type 0
ListCoordinates b [] = Unit {0}
ListCoordinates b (p ∷ ps) = PointCoordinates b p × ListCoordinates b ps

-- at most n deltas away from 0
abbrev pub Bounded : ℕ → Machine.Point → Type 0
Bounded n z = (zp z.x + zm z.x ≤ n * 2147483648) × (zp z.y + zm z.y ≤ n * 2147483648)

-- from z, which is `at` exactly, by the deltas to ps
pub record PointsRun (b : Bool) (n : ℕ) (z : Machine.Point) (at : Point) (ps : List Point) (h : List ℤ) : Type 0 where
  pub points : SamePoints (Meets b) (reach z (deltas at ps ++ h)) ps
  pub small-points : T (all_small (reach z (deltas at ps ++ h)))
  pub arrived : SamePoint Is (last_of z (reach z (deltas at ps ++ h))) (arrives at ps)
  pub bound : Bounded (n + length ps) (last_of z (reach z (deltas at ps ++ h)))

-- ---- items

-- what an item does
abbrev pub effect : Item → State → State
effect (mask b) s = with_mask b s
effect (go k l) s = acted k l s

unfoldable pub effects : List Item → State → State
effects [] s = s
effects (i ∷ is) s = effects is (effect i s)

-- the operands of one entry
abbrev pub size : Kind → ℕ
size moves = 2
size lines = 2
size curves = 6
size flexes = 13

-- an entry that the machine takes
pub record Drawable (k : Kind) (l : List ℤ) (s : State) : Type 0 where
  pub len : length l ≡ size k
  pub nums : T (fine l)
  pub near : T (all_small (reach s.at l))

abbrev pub Accepted : Item → State → Type 0
Accepted (mask b) s = length b ≡ s.stems
Accepted (go k l) s = Drawable k l s

unfoldable pub AllAccepted : List Item → State → Type 0
AllAccepted [] s = Unit {0}
AllAccepted (i ∷ is) s = Accepted i s × AllAccepted is (effect i s)

-- ---- what waits for an operator: from s its bytes lead to t
abbrev pub waits : Kind → Bool
waits moves = false
waits lines = true
waits curves = true
waits flexes = false

pub record Held (k : Kind) (l : List ℤ) (s t : State) : Type 0 where
  pub n : ℕ
  pub batch : T (waits k)
  pub len : length l ≡ suc n * size k
  pub few : length l ≤ 47
  pub nums : T (fine l)
  pub does : draws k (size k) (suc n) l (settled_with [] s) ≡ on 0 t
  pub clean : settled_with [] t ≡ t
  pub begun : Ready t

abbrev pub Waits : Waiting → State → State → Type 0
Waits idle s t = settled_with [] s ≡ t
Waits (held k l) s t = Held k l s t

-- after it is written
pub record Flushed (w : Waiting) (is : List Instr) (s t : State) : Type 0 where
  pub here : State
  pub ready : Ready here
  pub is_t : settled_with [] here ≡ t
  pub ran : run (bytes (flush w is)) 0 s ≡ run (bytes is) 0 here

-- the items run from wherever
abbrev pub ItemsRun : List Item → Type 0
ItemsRun is = (w : Waiting) (s t : State) → Ready s → Waits w s t → AllAccepted is t → run (bytes (pack is w)) 0 s ≡ ended (effects is t) []

-- after the stem operators: n stems
pub record StemsRun (is all : List Instr) (s : State) (n : ℕ) : Type 0 where
  pub here : State
  pub ready : Ready here
  pub is_t : settled_with [] here ≡ with_stems n (settled_with [] s)
  pub ran : run (bytes all) 0 s ≡ run (bytes is) 0 here
  pub rest : T (all_fine is)

-- ---- commands: their entries, how many points these have, and the masks of the groups, each with the number of entries before it
unfoldable pub entries_of : List Cmd → List Command
entries_of [] = []
entries_of (hints g ∷ cs) = entries_of cs
entries_of (shape e ∷ cs) = e ∷ entries_of cs

unfoldable pub point_count : List Cmd → ℕ
point_count [] = 0
point_count (hints g ∷ cs) = point_count cs
point_count (shape e ∷ cs) = length (points_of e) + point_count cs

unfoldable pub CommandCoordinates : Bool → List Cmd → Type 0
CommandCoordinates b [] = Unit {0}
CommandCoordinates b (hints g ∷ cs) = CommandCoordinates b cs
CommandCoordinates b (shape e ∷ cs) = ListCoordinates b (points_of e) × CommandCoordinates b cs

unfoldable pub masks_from : List Stem → ℕ → List Cmd → List Mask
masks_from ss n [] = []
masks_from ss n (hints g ∷ cs) = record { bits = mask_of g ss; before = n } ∷ masks_from ss n cs
masks_from ss n (shape e ∷ cs) = masks_from ss (suc n) cs

abbrev pub masks_of : Bool → List Stem → ℕ → List Cmd → List Mask
masks_of true ss n cs = masks_from ss n cs
masks_of false ss n cs = []

-- one mask a group
unfoldable pub group_masks : List Stem → List Group → List Mask
group_masks ss [] = []
group_masks ss (g ∷ gs) = record { bits = mask_of g.stems ss; before = g.before } ∷ group_masks ss gs

-- from s to t by the commands cs
pub record CommandsRun (b m : Bool) (ss : List Stem) (cs : List Cmd) (s t : State) : Type 0 where
  pub more : List (Entry Machine.Point)
  pub drawn : t.drawn ≡ s.drawn ++ more
  pub same_drawing : SameDrawing (Meets b) more (entries_of cs)
  pub masks : t.masks ≡ s.masks ++ masks_of m ss (length s.drawn) cs
  pub stems : t.stems ≡ s.stems
  pub width : t.width ≡ s.width

-- the machine's run of a width and a program: it ends at the last byte
pub record Ran (b : Bool) (w : Option ℤ) (d : Declared) (cs : List Cmd) : Type 0 where
  pub end : State
  pub ran : machine (numbers (first w) ++ bytes (program d cs)) ≡ ended end []
  pub width : end.width ≡ w
  pub stems : end.stems ≡ length (stems_of d)
  pub drawn : SameDrawing (Meets b) end.drawn (entries_of cs)
  pub masks : end.masks ≡ masks_of d.masked (stems_of d) 0 cs

-- ---- any run
abbrev pub Holding48 : State → Type 0
Holding48 s = length s.ops ≤ 48

-- the byte is 14 if its step stops
abbrev pub Stops : ℕ → Step → Type 0
Stops b fault = Unit {0}
Stops b (stop s) = b ≡ 14
Stops b (on m s) = Unit {0}

-- ---- what an input that converts has

-- the commands of what a run has left
abbrev pub commands_of : Matrix → Type1.State → List Cmd
commands_of m s = commands 0 (folded_groups (fold_of m) s.groups) (folded_list (fold_of m) s.drawn)

abbrev pub GoodWhole : Float → Type 0
GoodWhole x = Type1Memory.Good x × Whole binary64 x

-- an outcome is the end of a run in the state s, by an endchar or without one
abbrev pub OutcomeIs : Outcome → Type1.State → Type 0
OutcomeIs o s = (o ≡ going s) ⊎ (o ≡ ending s)

-- the state s folds, and its instructions are written
pub record Folds (m : Matrix) (room : ℕ) (s : Type1.State) (g : Glyph) : Type 0 where
  pub finite : folds_finite m s ≡ true
  pub wrote : write (instructions m s) room ≡ Writing.wrote g.program
  pub width : g.width ≡ folded_width m s.width

-- the run with no limits ends, in a state that folds
pub record Unrefused (x : Source) (reading : Reading) (m : Matrix) (room : ℕ) (g : Glyph) : Type 0 where
  pub state : Type1.State
  pub run : OutcomeIs (unlimited_run x reading) state
  pub folds : Folds m room state g
