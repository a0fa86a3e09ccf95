-- Definitions: demand 3, as the claim `Demand3`. `Agreement.demand3` proves it of every input that converts and every two widths that finishing accepts. The sentences quoted in that record are demand 3's own.
use Rattle.std.specs.Prelude.{ℕ, zero, suc, ◌+◌, ◌*◌, ◌^◌, ◌≤◌, ◌≡◌, ◌⊎◌, true, false, cond, List, [], ◌∷◌, ◌++◌, length, ℤ, Float}
use Rattle.std.specs.Float.{binary64}
use Rattle.binary64.specs.Value.{pl, mi}
use Rattle.geometry.specs.declared.Point.{Point}
use Rattle.geometry.specs.declared.Matrix.{Matrix}
use Rattle.outline.specs.declared.Stem.{Stem}
use Rattle.type1.specs.declared.Reading.{Reading}
use Rattle.type1.specs.Interpret.{Source, run_of}
use Rattle.type1.specs.State as State
use Rattle.outline.specs.Outline.{Command, Group}
use Rattle.type1.specs.Run as Run
use Rattle.type1.specs.Sound.{All}
use Rattle.type2.specs.Number.{zp, zm, Is}
use Rattle.renderer.specs.Machine as Machine
use Rattle.renderer.specs.Machine.{Entry, Mask, Step, fault, stop, on, step, ended, machine}
use Rattle.folding.specs.Folding.{is_identity, fold_of, folded_list, folded_stems, folded_groups, folded_width}
use Rattle.type1_to_type2.specs.Stems.{Declared, declared, stems_of, mask_of}
use Rattle.type1_to_type2.specs.Emission.{kind_of, points_of}
use Rattle.type2.specs.declared.Widths.{Widths}
use Rattle.type1_to_type2.specs.Convert.{Glyph}
use Rattle.type1_to_type2.specs.Finish.{width_for}

-- ---- coordinates. Document 01, "Type 2 machine": "A double is compared as a whole number times a power of two."

-- the double x and z units of 1/65536 are at most 1/65536 apart: x is pl - mi times 2 ^ -1074, and z is zp - zm times 2 ^ 1058 of these. `Number.Is` says that they are equal; -0 is 0 units.
pub record Near (z : ℤ) (x : Float) : Type 0 where
  pub over : zp z * 2 ^ 1058 + mi binary64 x ≤ zm z * 2 ^ 1058 + pl binary64 x + 2 ^ 1058
  pub under : zm z * 2 ^ 1058 + pl binary64 x ≤ zp z * 2 ^ 1058 + mi binary64 x + 2 ^ 1058

-- ---- drawn lists: each coordinate of the machine's stands in a relation R to the other's. Document 01, "Type 2 machine": "An entry of that list, as of the Type 1 run's, is a kind and the points it goes to"

abbrev pub SamePoint : (ℤ → Float → Type 0) → Machine.Point → Point → Type 0
SamePoint R z p = R z.x p.x × R z.y p.y

abbrev pub SamePoints : (ℤ → Float → Type 0) → List Machine.Point → List Point → Type 0
SamePoints R [] [] = Unit {0}
SamePoints R [] (p ∷ ps) = ⊥
SamePoints R (z ∷ zs) [] = ⊥
SamePoints R (z ∷ zs) (p ∷ ps) = SamePoint R z p × SamePoints R zs ps

-- of the same kind, with as many points
abbrev pub SameEntry : (ℤ → Float → Type 0) → Entry Machine.Point → Command → Type 0
SameEntry R d c = (d.kind ≡ kind_of c) × SamePoints R d.points (points_of c)

-- as many entries, in the same order
abbrev pub SameDrawing : (ℤ → Float → Type 0) → List (Entry Machine.Point) → List Command → Type 0
SameDrawing R [] [] = Unit {0}
SameDrawing R [] (c ∷ cs) = ⊥
SameDrawing R (d ∷ ds) [] = ⊥
SameDrawing R (d ∷ ds) (c ∷ cs) = SameEntry R d c × SameDrawing R ds cs

-- ---- masks, of the declared stems ss. Document 01, "Stems and masks": "then one mask a group"

unfoldable pub masks_for : Matrix → List Stem → List Group → List Mask
masks_for m ss [] = []
masks_for m ss (g ∷ gs) = record { bits = mask_of (folded_stems (fold_of m) g.stems) ss; before = g.before } ∷ masks_for m ss gs

-- ---- the states that the machine goes through: the first, and that after each number and each operator. Document 01, "Type 2 machine"

abbrev pub reached : Step → (ℕ → Machine.State → List Machine.State) → List Machine.State
reached fault f = []
reached (stop s) f = s ∷ []
reached (on k s) f = f k s

-- of bytes of which the first k are taken already, as `Machine.run` takes them
unfoldable pub states : List ℕ → ℕ → Machine.State → List Machine.State
states [] k s = s ∷ []
states (b ∷ bs) zero s = s ∷ reached (step b bs s) (states bs)
states (b ∷ bs) (suc k) s = states bs k s

-- ---- document 01, "Type 1 run": "It is fed the charstring, the bank and lenIV, and nothing from the converter's stores."

abbrev pub unlimited_run : Source → Reading → Run.Outcome
unlimited_run x reading = run_of Run.unlimited x reading

-- the stems that document 01 leaves ("Stems and masks")
abbrev pub left : Matrix → State.State → Declared
left m s = declared (folded_groups (fold_of m) s.groups)

-- ---- the claim: of a source that, read so, converts under the matrix m; and of the glyph, whose program is finished by a default and a nominal width
pub record Demand3 (x : Source) (reading : Reading) (m : Matrix) (p : Widths) (g : Glyph) : Type 0 where
  -- "document 01's Type 1 run of that input": how it ends, by an endchar or without one
  pub state : State.State
  pub run : (unlimited_run x reading ≡ Run.going state) ⊎ (unlimited_run x reading ≡ Run.ending state)
  -- "document 01's Type 2 machine runs the finished bytes without a fault": no byte is left unread
  pub end : Machine.State
  pub ran : machine g.program ≡ ended end []
  -- "with at most 48 operands held"
  pub held : All (λ s. length s.ops ≤ 48) (states g.program 0 Machine.start)
  -- "and stops at an endchar that is their last byte."
  pub front : List ℕ
  pub last : g.program ≡ front ++ (14 ∷ [])
  -- "The width it reads is the number that Finishing puts first, rounded as under Numbers, or none where it puts none": the glyph's width is the run's, folded
  pub advance : g.width ≡ folded_width m state.width
  pub width : end.width ≡ width_for g.width p
  -- "and it counts as many stems as document 01 leaves."
  pub stems : end.stems ≡ length (stems_of (left m state))
  -- "It draws the same moves, lines, curves and flexes as document 01's Type 1 run of that input: as many, in the same order, each of the same kind. However long the path, each coordinate lies within 1/65536 of the folded one"
  pub drawn : SameDrawing Near end.drawn (folded_list (fold_of m) state.drawn)
  -- "and exactly on it if the matrix is the identity and no div ran."
  pub exact : is_identity m ≡ true → state.divided ≡ false → SameDrawing Is end.drawn (folded_list (fold_of m) state.drawn)
  -- "Where hints need masks, the machine records one for each group of the run, in order, each with as many drawn entries before it as the group has, and a bit is set exactly when its stem is one of the group's once folded; otherwise it records none."
  pub masks : end.masks ≡ cond (left m state).masked (masks_for m (stems_of (left m state)) state.groups) []
