-- Definitions: the instructions of a program, from the declared stems, the folded drawn list and the folded groups.
-- Document 01, "Stems and masks", "Path"; TN#5177, section 4.
use Rattle.std.specs.Prelude.{ℕ, zero, suc, ◌+◌, Bool, true, false, ◌&&◌, cond, List, [], ◌∷◌, ◌++◌, length, leb, eqb, ℤ, Float}
use Rattle.std.specs.Float.{binary64}
use Rattle.std.specs.Float.Ieee.{add, sub}
use Rattle.geometry.specs.declared.Point.{Point}
use Rattle.outline.specs.declared.Stem.{Stem}
use Rattle.outline.specs.Outline.{Command, move, line, curve, flex, Group, plus_zero, origin}
use Rattle.type2.specs.Number.{quantized, units}
use Rattle.type2.specs.Path.{Kind, moves, lines, curves, flexes, delta, reaches, most}
use Rattle.type2.specs.Instruction.{Instr, instr, move_instr, mask_bytes}
use Rattle.type1_to_type2.specs.Stems.{Declared, stems_of, mask_of}

-- the number that is written for v, in whole 1/65536
abbrev pub written : Float → ℤ
written v = units (quantized v)

-- ---- stems: "23 stems an operator, each operator starting from 0"; each later edge runs from the second edge of the stem before it

abbrev pub pair : Float → Stem → List ℤ
pair from s = written (sub binary64 s.pos from) ∷ written s.width ∷ []

abbrev pub second_edge : Stem → Float
second_edge s = add binary64 (quantized s.pos) (quantized s.width)

-- op takes k stems more; `from` is the edge that the next one runs from, l the operands so far, is what follows
unfoldable pub stems_from : ℕ → List Stem → ℕ → Float → List ℤ → List Instr → List Instr
stems_from op [] k from [] is = is
stems_from op [] k from (u ∷ l) is = instr (u ∷ l) (op ∷ []) ∷ is
stems_from op (s ∷ ss) zero from l is = instr l (op ∷ []) ∷ stems_from op ss 22 (second_edge s) (pair plus_zero s) is
stems_from op (s ∷ ss) (suc k) from l is = stems_from op ss k (second_edge s) (l ++ pair from s) is

-- ---- deltas: "A delta runs from the point the renderer will have reached."

abbrev pub follow : Point → Point → Point
follow at p = record { x = reaches at.x p.x; y = reaches at.y p.y }

unfoldable pub deltas : Point → List Point → List ℤ
deltas at [] = []
deltas at (p ∷ ps) = units (delta at.x p.x) ∷ units (delta at.y p.y) ∷ deltas (follow at p) ps

unfoldable pub arrives : Point → List Point → Point
arrives at [] = at
arrives at (p ∷ ps) = arrives (follow at p) ps

-- ---- an entry's kind, its points, and after them a flex height
abbrev pub kind_of : Command → Kind
kind_of (move p) = moves
kind_of (line p) = lines
kind_of (curve p q r) = curves
kind_of (flex p q r s t u h) = flexes

abbrev pub points_of : Command → List Point
points_of (move p) = p ∷ []
points_of (line p) = p ∷ []
points_of (curve p q r) = p ∷ q ∷ r ∷ []
points_of (flex p q r s t u h) = p ∷ q ∷ r ∷ s ∷ t ∷ u ∷ []

abbrev pub height_of : Command → List ℤ
height_of (move p) = []
height_of (line p) = []
height_of (curve p q r) = []
height_of (flex p q r s t u h) = written h ∷ []

-- ---- the commands in order: the drawn list with each group's start where it stands (document 01, "Forms of the Rust that need another": "one entry a command, a group's start included")
pub data Cmd : Type 0 where
  hints : List Stem → Cmd
  shape : Command → Cmd

-- the groups that start with n entries before them
unfoldable pub starts_at : ℕ → List Group → List Cmd
starts_at n [] = []
starts_at n (g ∷ gs) = cond (eqb g.before n) (hints g.stems ∷ starts_at n gs) (starts_at n gs)

unfoldable pub commands : ℕ → List Group → List Command → List Cmd
commands n gs [] = starts_at n gs
commands n gs (c ∷ cs) = starts_at n gs ++ (shape c ∷ commands (suc n) gs cs)

-- ---- what is written for them: a mask, or an entry's deltas
pub data Item : Type 0 where
  mask : List Bool → Item
  go : Kind → List ℤ → Item

unfoldable pub items : Bool → List Stem → Point → List Cmd → List Item
items m ss at [] = []
items true ss at (hints g ∷ cs) = mask (mask_of g ss) ∷ items true ss at cs
items false ss at (hints g ∷ cs) = items false ss at cs
items m ss at (shape e ∷ cs) = go (kind_of e) (deltas at (points_of e) ++ height_of e) ∷ items m ss (arrives at (points_of e)) cs

-- ---- "Consecutive lines (23) or curves (7) share an operator": they wait until one comes that does not share it
pub data Waiting : Type 0 where
  idle : Waiting
  held : Kind → List ℤ → Waiting

-- rlineto, rrcurveto; the operators of moves and flexes are chosen below
abbrev pub code_of : Kind → ℕ
code_of moves = 21
code_of lines = 5
code_of curves = 8
code_of flexes = 12

abbrev pub same_kind : Kind → Kind → Bool
same_kind j k = eqb (code_of j) (code_of k)

abbrev pub flush : Waiting → List Instr → List Instr
flush idle is = is
flush (held k l) is = instr l (code_of k ∷ []) ∷ is

-- a move has two deltas; its operator is chosen by them
abbrev pub move_of : List ℤ → Instr
move_of [] = instr [] (21 ∷ [])
move_of (a ∷ []) = instr (a ∷ []) (22 ∷ [])
move_of (a ∷ b ∷ c ∷ l) = instr (a ∷ b ∷ c ∷ l) (21 ∷ [])
move_of (a ∷ b ∷ []) = move_instr a b

abbrev pub join : Kind → List ℤ → Waiting → (Waiting → List Instr) → List Instr
join k l idle f = f (held k l)
join k l (held j m) f = cond (same_kind j k && leb (length m + length l) (most k)) (f (held k (m ++ l))) (instr m (code_of j ∷ []) ∷ f (held k l))

unfoldable pub pack : List Item → Waiting → List Instr
pack [] w = flush w (instr [] (14 ∷ []) ∷ [])
pack (mask b ∷ is) w = flush w (instr [] (19 ∷ mask_bytes b) ∷ pack is idle)
pack (go moves l ∷ is) w = flush w (move_of l ∷ pack is idle)
pack (go lines l ∷ is) w = join lines l w (pack is)
pack (go curves l ∷ is) w = join curves l w (pack is)
pack (go flexes l ∷ is) w = flush w (instr l (12 ∷ 35 ∷ []) ∷ pack is idle)

-- ---- the program: hstem or hstemhm, vstem or vstemhm, the path, endchar
unfoldable pub program : Declared → List Cmd → List Instr
program d cs =
    stems_from (cond d.masked 18 1) d.across 23 plus_zero []
    (stems_from (cond d.masked 23 3) d.upright 23 plus_zero []
    (pack (items d.masked (stems_of d) origin cs) idle))
