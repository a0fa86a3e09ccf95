-- Laws: answers at worked examples, by computing. Bytes are hexadecimal; a box and a window are in units of 1/65536.
use Rattle.std.specs.Prelude.{◌≡◌, refl, ℕ, ◌*◌, [], ◌∷◌, ℤ, pos, negsuc}
use Rattle.type2.specs.Number.{read_from, read2}
use Rattle.renderer.specs.Machine.{run, step, push, operator, settle, stem, reach, last_of, all_small, draw, draws, across}
use Rattle.boxes.specs.Box.{box_from, points}
use Rattle.boxes.specs.Window.{verdict_of}
use Rattle.boxes.specs.Answers.{refused, boxed, answer}
use Rattle.boxes.specs.declared.Bounds.{Bounds}
use Rattle.boxes.specs.declared.Verdict.TheVariants.{Within, Crossing, Outside}

abbrev bounds : ℤ → ℤ → ℤ → ℤ → Bounds
bounds l d r u = record { left = l; bottom = d; right = r; top = u }

-- in whole numbers
abbrev whole : ℕ → ℕ → ℕ → ℕ → Bounds
whole l d r u = bounds (pos (l * 65536)) (pos (d * 65536)) (pos (r * 65536)) (pos (u * 65536))

-- ---- the box

-- a move to 0 0; the window is that point
within : answer (0x8B ∷ 0x16 ∷ 0x0E ∷ []) (whole 0 0 0 0) ≡ boxed (whole 0 0 0 0) Within
unfolding run step read_from push operator settle reach last_of all_small draw across box_from points
within = refl

-- a move to 100 100: the start, 0 0, is no point
outside : answer (0xEF ∷ 0xEF ∷ 0x15 ∷ 0x0E ∷ []) (whole 0 0 1 1) ≡ boxed (whole 100 100 100 100) Outside
unfolding run step read_from push operator settle reach last_of all_small draw box_from points
outside = refl

-- a line to 100 100: where it starts is no point of it
line_start : answer (0xEF ∷ 0xEF ∷ 0x05 ∷ 0x0E ∷ []) (whole 0 0 100 100) ≡ boxed (whole 100 100 100 100) Within
unfolding run step read_from push operator settle reach last_of all_small draw draws box_from points
line_start = refl

-- a move to 0 0, a line to 5 5 and a last move to 105 5
last_move : answer (0x8B ∷ 0x16 ∷ 0x90 ∷ 0x90 ∷ 0x05 ∷ 0xEF ∷ 0x16 ∷ 0x0E ∷ []) (whole 0 0 5 5) ≡ boxed (whole 0 0 105 5) Crossing
unfolding run step read_from push operator settle reach last_of all_small draw draws across box_from points
last_move = refl

-- a curve from 0 0 to 10 0 with control points at 0 100 and 10 100
control_points : answer (0x8B ∷ 0x16 ∷ 0x8B ∷ 0xEF ∷ 0x95 ∷ 0x8B ∷ 0x8B ∷ 0x27 ∷ 0x08 ∷ 0x0E ∷ []) (whole 0 0 10 0) ≡ boxed (whole 0 0 10 100) Crossing
unfolding run step read_from push operator settle reach last_of all_small draw draws across box_from points
control_points = refl

-- a move to -1 -2: coordinates below 0
below-zero : answer (0x8A ∷ 0x89 ∷ 0x15 ∷ 0x0E ∷ []) (whole 0 0 1 1) ≡ boxed (bounds (negsuc 65535) (negsuc 131071) (negsuc 65535) (negsuc 131071)) Outside
unfolding run step read_from push operator settle reach last_of all_small draw box_from points
below-zero = refl

-- bytes after the 14 are not read
after_the_14 : answer (0x8B ∷ 0x16 ∷ 0x0E ∷ 0xEF ∷ 0x16 ∷ 0x02 ∷ []) (whole 0 0 0 0) ≡ boxed (whole 0 0 0 0) Within
unfolding run step read_from push operator settle reach last_of all_small draw across box_from points
after_the_14 = refl

-- ---- refused

-- no point: the empty glyph, and a glyph of one stem
no_point : (answer (0x0E ∷ []) (whole 0 0 0 0) ≡ refused) × (answer (0x8C ∷ 0x8C ∷ 0x01 ∷ 0x0E ∷ []) (whole 0 0 0 0) ≡ refused)
unfolding run step read_from push operator settle stem box_from points
no_point = (refl, refl)

-- a fault: no byte, bytes that end after a move, a cut number, an unknown operator
faults : (answer [] (whole 0 0 0 0) ≡ refused) × (answer (0x8B ∷ 0x16 ∷ []) (whole 0 0 0 0) ≡ refused) × (answer (0x8B ∷ 0x16 ∷ 0xF7 ∷ []) (whole 0 0 0 0) ≡ refused) × (answer (0x8B ∷ 0x16 ∷ 0x02 ∷ 0x0E ∷ []) (whole 0 0 0 0) ≡ refused)
unfolding run step read_from read2 push operator settle reach last_of all_small draw across
faults = (refl, refl, refl, refl)

-- ---- the verdict, of the box 0 0 10 10
abbrev ten : Bounds
ten = whole 0 0 10 10

-- touching edges: the window is the box; one unit less on each side
edges : (verdict_of ten ten ≡ Within)
    × (verdict_of ten (bounds (pos 1) (pos 0) (pos 655360) (pos 655360)) ≡ Crossing) × (verdict_of ten (bounds (pos 0) (pos 1) (pos 655360) (pos 655360)) ≡ Crossing)
    × (verdict_of ten (bounds (pos 0) (pos 0) (pos 655359) (pos 655360)) ≡ Crossing) × (verdict_of ten (bounds (pos 0) (pos 0) (pos 655360) (pos 655359)) ≡ Crossing)
edges = (refl, refl, refl, refl, refl)

-- a corner in common is a shared point; one unit on there is none
corners : (verdict_of ten (whole 10 10 20 20) ≡ Crossing) × (verdict_of ten (bounds (pos 655361) (pos 655360) (pos 1310720) (pos 1310720)) ≡ Outside) × (verdict_of ten (bounds (pos 655360) (pos 655361) (pos 1310720) (pos 1310720)) ≡ Outside)
corners = (refl, refl, refl)

-- a window from 7 to 3 has no point
no_window : (verdict_of ten (whole 7 0 3 10) ≡ Outside) × (verdict_of ten (whole 0 7 10 3) ≡ Outside)
no_window = (refl, refl)
