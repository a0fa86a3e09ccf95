-- Definitions: how the box of the finished bytes (document 02, (a)) lies to the points of the Type 1 run, folded (demand 3). `Theorem.folded_in_box` proves it of every input that converts and every two widths that finishing accepts.
use Rattle.std.specs.Prelude.{ℕ, ◌≡◌, ◌↔◌, ◌⊎◌, true, false, ℤ, Float, Err}
use mathlib.Core.List.{List, [], ◌∷◌, ◌++◌, Memᴰ as OneOf}
use Rattle.geometry.specs.declared.Point.{Point}
use Rattle.geometry.specs.declared.Matrix.{Matrix}
use Rattle.outline.specs.Outline.{Command}
use Rattle.type1.specs.declared.Reading.{Reading}
use Rattle.type1.specs.Interpret.{Source}
use Rattle.type1.specs.State.{State}
use Rattle.type1.specs.Run as Run
use Rattle.folding.specs.Folding.{is_identity, fold_of, folded_list}
use Rattle.type2.specs.Number.{Is}
use Rattle.type1_to_type2.specs.Emission.{points_of}
use Rattle.refusal.specs.declared.Refusal.TheVariants.{NothingDrawn}
use Rattle.renderer.specs.Machine as Machine
use Rattle.boxes.specs.declared.Bounds.{Bounds}
use Rattle.boxes.specs.declared.Verdict.{Verdict}
use Rattle.boxes.specs.Answers.{boxed, answer}
use Rattle.boxes.specs.Points.{In, Says}
use Rattle.agreement.specs.Demand3.{Near, SamePoint, unlimited_run}

-- the points of a drawn list, in order
unfoldable pub all_points : List Command → List Point
all_points [] = []
all_points (c ∷ cs) = points_of c ++ all_points cs

-- the box b of the points ps, where R says how units of 1/65536 compare with a double: `Near`, at most 1/65536 apart, or `Is`, equal
pub record BoxAround (R : ℤ → Float → Type 0) (ps : List Point) (b : Bounds) : Type 0 where
  -- each point lies so to a point of the box
  pub holds : (p : Point) → OneOf p ps → (z : Machine.Point) × In z b × SamePoint R z p
  -- each side lies so to a point's coordinate
  pub left : (p : Point) × OneOf p ps × R b.left p.x
  pub bottom : (p : Point) × OneOf p ps × R b.bottom p.y
  pub right : (p : Point) × OneOf p ps × R b.right p.x
  pub top : (p : Point) × OneOf p ps × R b.top p.y

-- the claim: of a source that, read so, converts under the matrix m and is finished to a program; and of a window w
pub record FoldedInBox (x : Source) (reading : Reading) (m : Matrix) (program : List ℕ) (w : Bounds) : Type 0 where
  -- document 01's Type 1 run of that input
  pub state : State
  pub run : (unlimited_run x reading ≡ Run.going state) ⊎ (unlimited_run x reading ≡ Run.ending state)
  -- 21 is for "a glyph that draws no point": the run lists nothing. The machine does not fault.
  pub refused : (answer program w ≡ Err NothingDrawn) ↔ (state.drawn ≡ [])
  -- else the box is that of the folded points, each coordinate within 1/65536
  pub near : (b : Bounds) (v : Verdict) → answer program w ≡ boxed b v → BoxAround Near (all_points (folded_list (fold_of m) state.drawn)) b
  -- and exactly "if the matrix is the identity and no div ran"
  pub exact : is_identity m ≡ true → state.divided ≡ false → (b : Bounds) (v : Verdict) → answer program w ≡ boxed b v → BoxAround Is (all_points (folded_list (fold_of m) state.drawn)) b
  -- and the verdict is that box's
  pub verdict : (b : Bounds) (v : Verdict) → answer program w ≡ boxed b v → Says b w v
