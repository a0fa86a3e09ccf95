-- Definitions: what box, verdict and answer mean of points, in document 02's words, (a). `Theorems` proves it of `box_of`, `verdict_of` and `answer`.
use Rattle.std.specs.Prelude.{ℕ, ◌≡◌, ◌⊎◌, ◌≤ℤ◌, Ok, Err}
use mathlib.Core.List.{List, [], Memᴰ as OneOf}
use Rattle.renderer.specs.Machine.{Point, State, failed, ended, machine}
use Rattle.boxes.specs.Box.{points}
use Rattle.boxes.specs.declared.Bounds.{Bounds}
use Rattle.boxes.specs.declared.Verdict.{Verdict}
use Rattle.boxes.specs.declared.Verdict.TheVariants.{Within, Crossing, Outside}
use Rattle.refusal.specs.declared.Refusal.TheVariants.{NothingDrawn}
use Rattle.boxes.specs.Answers.{Answer}

-- p is a point of the box or window b: each coordinate lies between the least and the greatest, "touching edges included"
abbrev pub In : Point → Bounds → Type 0
In p b = (b.left ≤ℤ p.x) × (p.x ≤ℤ b.right) × (b.bottom ≤ℤ p.y) × (p.y ≤ℤ b.top)

-- no least is above its greatest: a box has a point, a window need not have one
abbrev pub HasPoint : Bounds → Type 0
HasPoint b = (b.left ≤ℤ b.right) × (b.bottom ≤ℤ b.top)

-- b is the box of ps: "the least and greatest coordinate of all points"
pub record IsBox (ps : List Point) (b : Bounds) : Type 0 where
  -- each point is in it
  pub holds : (p : Point) → OneOf p ps → In p b
  -- each side is the coordinate of a point
  pub left : (p : Point) × OneOf p ps × (p.x ≡ b.left)
  pub bottom : (p : Point) × OneOf p ps × (p.y ≡ b.bottom)
  pub right : (p : Point) × OneOf p ps × (p.x ≡ b.right)
  pub top : (p : Point) × OneOf p ps × (p.y ≡ b.top)

-- what a verdict says of the box b and the window w: "Within means all of the box, touching edges included. Outside means that box and window share no point, crossing is all else."
-- All else: a point of the box is in the window, and another is not.
abbrev pub Says : Bounds → Bounds → Verdict → Type 0
Says b w Within = (p : Point) → In p b → In p w
Says b w Outside = (p : Point) → In p b → ¬ In p w
Says b w Crossing = ((p : Point) × In p b × In p w) × ((q : Point) × In q b × (¬ In q w))

-- ---- what an answer means for a program and a window

-- refused: "bytes on which the machine faults", or "a glyph that draws no point"
abbrev pub NoBox : List ℕ → Type 0
NoBox program = (machine program ≡ failed) ⊎ ((s : State) × (rest : List ℕ) × (machine program ≡ ended s rest) × (points s.drawn ≡ []))

-- a box: the machine ends, the box is that of all points it draws, and the verdict is the box's and the window's
pub record HasBox (program : List ℕ) (w b : Bounds) (v : Verdict) : Type 0 where
  pub end : State
  pub rest : List ℕ
  pub ran : machine program ≡ ended end rest
  pub box : IsBox (points end.drawn) b
  pub verdict : Says b w v

-- the one refusal is 21
abbrev pub Means : List ℕ → Bounds → Answer → Type 0
Means program w (Err r) = (r ≡ NothingDrawn) × NoBox program
Means program w (Ok a) = HasBox program w a.bounds a.verdict
