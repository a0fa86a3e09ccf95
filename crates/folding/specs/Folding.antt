-- Definitions: folding a matrix into a run's drawn list, groups and width. Document 01, "Folding". Each operation rounds once, in the Rust's order.
use Rattle.std.specs.Prelude.{ℕ, Bool, true, false, ◌&&◌, ◌||◌, cond, List, [], ◌∷◌, eqb, pos, Float}
use Rattle.std.specs.Float.{fin, binary64}
use Rattle.std.specs.Float.Ieee.{add, sub, mul, eq, lt}
use Rattle.std.specs.Float.Ieee.Scale.{finite}
use Rattle.geometry.specs.declared.Point.{Point}
use Rattle.geometry.specs.declared.Matrix.{Matrix}
use Rattle.geometry.specs.Transform as Transform
use Rattle.folding.specs.declared.Fold.{Fold}
use Rattle.outline.specs.declared.Stem.{Stem}
use Rattle.outline.specs.Outline.{Command, move, line, curve, flex, Group, plus_zero}

-- document 01, "Numbers the board logs", 1: an entry of the matrix is not finite
unfoldable pub finite_matrix : Matrix → Bool
finite_matrix m = finite m.a && (finite m.b && (finite m.c && (finite m.d && (finite m.tx && finite m.ty))))

-- "Entries equal to 1 0 0 1 0 0 (-0 counts as 0) leave points alone; other matrices use `transform_point`."
abbrev pub one : Float
one = fin false 1 (pos 0)

unfoldable pub is_identity : Matrix → Bool
is_identity m = eq m.a one && (eq m.b plus_zero && (eq m.c plus_zero && (eq m.d one && (eq m.tx plus_zero && eq m.ty plus_zero))))

-- what is folded by: the matrix, and whether it leaves points alone
abbrev pub fold_of : Matrix → Fold
fold_of m = record { matrix = m; identity = is_identity m }

unfoldable pub folded_point : Fold → Point → Point
folded_point fold p = cond fold.identity p (Transform.point fold.matrix p.x p.y)

-- each point of an entry; a flex height is no coordinate
abbrev pub folded_command : Fold → Command → Command
folded_command fold (move p) = move (folded_point fold p)
folded_command fold (line p) = line (folded_point fold p)
folded_command fold (curve p q r) = curve (folded_point fold p) (folded_point fold q) (folded_point fold r)
folded_command fold (flex p q r s t u h) = flex (folded_point fold p) (folded_point fold q) (folded_point fold r) (folded_point fold s) (folded_point fold t) (folded_point fold u) h

unfoldable pub folded_list : Fold → List Command → List Command
folded_list fold [] = []
folded_list fold (c ∷ l) = folded_command fold c ∷ folded_list fold l

-- "The width passes `round10` always."
unfoldable pub folded_width : Matrix → Float → Float
folded_width m w = (Transform.delta m w plus_zero).x

-- ---- stems

-- "An hstem stays only if b = 0 and d > 0, a vstem if c = 0 and a > 0."
abbrev pub stays : Matrix → Bool → Bool
stays m true = eq m.b plus_zero && lt plus_zero m.d
stays m false = eq m.c plus_zero && lt plus_zero m.a

-- an edge, across or upright
abbrev pub edge : Matrix → Bool → Float → Float
edge m true e = add binary64 (mul binary64 m.d e) m.ty
edge m false e = add binary64 (mul binary64 m.a e) m.tx

abbrev pub scaled : Matrix → Bool → Float → Float
scaled m true w = mul binary64 m.d w
scaled m false w = mul binary64 m.a w

-- "Width -21 moves the edge at pos - 21, -20 the one at pos." Both widths are markers and stay.
abbrev pub twenty_one : Float
twenty_one = fin false 21 (pos 0)

abbrev pub minus21 : Float
minus21 = fin true 21 (pos 0)

abbrev pub minus20 : Float
minus20 = fin true 5 (pos 2)

unfoldable pub transformed_stem : Matrix → Stem → Stem
transformed_stem m s =
    let h = s.horizontal in
    cond (eq s.width minus21) (record { horizontal = h; pos = add binary64 (edge m h (sub binary64 s.pos twenty_one)) twenty_one; width = minus21 })
    (cond (eq s.width minus20) (record { horizontal = h; pos = edge m h s.pos; width = minus20 })
    (record { horizontal = h; pos = edge m h s.pos; width = scaled m h s.width }))

-- the identity leaves a stem alone, and it stays
abbrev pub stem_stays : Fold → Stem → Bool
stem_stays fold s = fold.identity || stays fold.matrix s.horizontal

abbrev pub folded_stem : Fold → Stem → Stem
folded_stem fold s = cond fold.identity s (transformed_stem fold.matrix s)

-- the stems that stay, folded
unfoldable pub folded_stems : Fold → List Stem → List Stem
folded_stems fold [] = []
folded_stems fold (s ∷ l) = cond (stem_stays fold s) (folded_stem fold s ∷ folded_stems fold l) (folded_stems fold l)

-- "in the folded groups each stem" ("Type 1 run")
abbrev pub folded_group : Fold → Group → Group
folded_group fold g = record { stems = folded_stems fold g.stems; before = g.before }

unfoldable pub folded_groups : Fold → List Group → List Group
folded_groups fold [] = []
folded_groups fold (g ∷ l) = folded_group fold g ∷ folded_groups fold l

-- ---- document 01, "Numbers the board logs", 14: a folded value is not finite
abbrev pub finite_point : Point → Bool
finite_point p = finite p.x && finite p.y

abbrev pub finite_command : Command → Bool
finite_command (move p) = finite_point p
finite_command (line p) = finite_point p
finite_command (curve p q r) = finite_point p && (finite_point q && finite_point r)
finite_command (flex p q r s t u h) = finite_point p && (finite_point q && (finite_point r && (finite_point s && (finite_point t && finite_point u))))

unfoldable pub finite_list : List Command → Bool
finite_list [] = true
finite_list (c ∷ l) = finite_command c && finite_list l

unfoldable pub finite_stems : List Stem → Bool
finite_stems [] = true
finite_stems (s ∷ l) = finite s.pos && (finite s.width && finite_stems l)

unfoldable pub finite_groups : List Group → Bool
finite_groups [] = true
finite_groups (g ∷ l) = finite_stems g.stems && finite_groups l

-- the number that is answered where writing was refused. Document 01, "Numbers the board logs": "folding, writing in byte order". So a number from before writing comes first (0 is none), then 14 for a folded point, then what writing was refused with
unfoldable pub refusal : ℕ → ℕ → Bool → ℕ
refusal before written points = cond (eqb before 0) (cond points written 14) before
