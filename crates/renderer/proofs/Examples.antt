-- Laws: the Type 2 machine at worked examples, by computing. Bytes are hexadecimal.
use Rattle.std.specs.Prelude.{◌≡◌, refl, ℕ, ◌*◌, true, false, List, [], ◌∷◌, ◌++◌, replicate, ℤ, pos, negsuc}
use Rattle.std.proofs.Math.Option.{Option, none, some}
use Rattle.type2.specs.Number.{read_from, read2, read5}
use Rattle.type2.specs.Path.{Kind, moves, lines, curves, flexes}
use Rattle.renderer.specs.Machine.{Point, Entry, Mask, State, failed, ended, machine, run, step, push, operator, settle, stem, mask, bits, bits_of, none_set, reach, last_of, all_small, draw, draws, across, upward, escape}

-- ---- programs that end. A whole number n is n * 65536 units.
abbrev point : ℕ → ℕ → Point
point x y = record { x = pos (x * 65536); y = pos (y * 65536) }

abbrev entry : Kind → List Point → Entry Point
entry k ps = record { kind = k; points = ps }

abbrev at_end : Point → ℕ → Option ℤ → List (Entry Point) → List Mask → State
at_end p n w es ms = record { at = p; stems = n; width = w; begun = true; ops = []; drawn = es; masks = ms }

-- document 01, "Glyphs worked through": the empty glyph; bytes after the 14 are not read
empty : machine (0x0E ∷ 0x02 ∷ []) ≡ ended (at_end (point 0 0) 0 none [] []) (0x02 ∷ [])
unfolding run step operator settle
empty = refl

-- a move to 10 20 and a line to 15 20, with a width of 500 less nominal before them
with-width : machine (0xF8 ∷ 0x88 ∷ 0x95 ∷ 0x9F ∷ 0x15 ∷ 0x90 ∷ 0x8B ∷ 0x05 ∷ 0x0E ∷ []) ≡ ended (at_end (point 15 20) 0 (some (pos 32768000)) (entry moves (point 10 20 ∷ []) ∷ entry lines (point 15 20 ∷ []) ∷ []) []) []
unfolding run step read_from read2 push operator settle reach last_of all_small draw draws
with-width = refl

-- three moves by a third end at 65536 units
thirds : machine (0xFF ∷ 0x00 ∷ 0x00 ∷ 0x55 ∷ 0x55 ∷ 0x16 ∷ 0xFF ∷ 0x00 ∷ 0x00 ∷ 0x55 ∷ 0x56 ∷ 0x16 ∷ 0xFF ∷ 0x00 ∷ 0x00 ∷ 0x55 ∷ 0x55 ∷ 0x16 ∷ 0x0E ∷ [])
    ≡ ended (at_end (point 1 0) 0 none (entry moves (record { x = pos 21845; y = pos 0 } ∷ []) ∷ entry moves (record { x = pos 43691; y = pos 0 } ∷ []) ∷ entry moves (point 1 0 ∷ []) ∷ []) []) []
unfolding run step read_from read5 push operator settle reach last_of all_small draw across
thirds = refl

-- two hstemhm, one vstemhm, a mask before the move and one before the line; the bits of no stem are 0
masked : machine (0x8C ∷ 0x8D ∷ 0x8B ∷ 0x8F ∷ 0x12 ∷ 0x90 ∷ 0x91 ∷ 0x17 ∷ 0x13 ∷ 0xC0 ∷ 0x95 ∷ 0x9F ∷ 0x15 ∷ 0x13 ∷ 0x60 ∷ 0x90 ∷ 0x8B ∷ 0x05 ∷ 0x0E ∷ [])
    ≡ ended (at_end (point 15 20) 3 none (entry moves (point 10 20 ∷ []) ∷ entry lines (point 15 20 ∷ []) ∷ []) (record { bits = true ∷ true ∷ false ∷ []; before = 0 } ∷ record { bits = false ∷ true ∷ true ∷ []; before = 1 } ∷ [])) []
unfolding run step read_from push operator settle stem mask bits bits_of none_set reach last_of all_small draw draws
masked = refl

-- vmoveto 1, then two curves by one operator and a flex, every delta 1: the flex's 13th operand is no coordinate
curved : machine (0x8C ∷ 0x04 ∷ replicate 12 0x8C ++ 0x08 ∷ replicate 13 0x8C ++ 0x0C ∷ 0x23 ∷ 0x0E ∷ [])
    ≡ ended (at_end (point 12 13) 0 none (entry moves (point 0 1 ∷ []) ∷ entry curves (point 1 2 ∷ point 2 3 ∷ point 3 4 ∷ []) ∷ entry curves (point 4 5 ∷ point 5 6 ∷ point 6 7 ∷ [])
    ∷ entry flexes (point 7 8 ∷ point 8 9 ∷ point 9 10 ∷ point 10 11 ∷ point 11 12 ∷ point 12 13 ∷ []) ∷ []) []) []
unfolding run step read_from push operator settle reach last_of all_small draw draws upward escape
curved = refl

-- ---- faults

-- 48 operands pass, a 49th is a fault
operands_49 : (machine (replicate 48 0x8B ++ 0x01 ∷ 0x0E ∷ []) ≡ ended (at_end (point 0 0) 24 none [] []) []) × (machine (replicate 49 0x8B ++ 0x01 ∷ 0x0E ∷ []) ≡ failed)
unfolding run step read_from push operator settle stem
operands_49 = (refl, refl)

-- 96 stems pass, a 97th is a fault
abbrev stems_24 : List ℕ
stems_24 = replicate 48 0x8C ++ 0x12 ∷ []

stems_97 : (machine (stems_24 ++ stems_24 ++ stems_24 ++ stems_24 ++ 0x0E ∷ []) ≡ ended (at_end (point 0 0) 96 none [] []) []) × (machine (stems_24 ++ stems_24 ++ stems_24 ++ stems_24 ++ 0x8C ∷ 0x8C ∷ 0x12 ∷ 0x0E ∷ []) ≡ failed)
unfolding run step read_from push operator settle stem
stems_97 = (refl, refl)

-- one stem: its bit is the highest, and a spare bit that is set is a fault; so is a mask that is cut
spare-bits : (machine (0x8C ∷ 0x8C ∷ 0x12 ∷ 0x13 ∷ 0x80 ∷ 0x0E ∷ []) ≡ ended (at_end (point 0 0) 1 none [] (record { bits = true ∷ []; before = 0 } ∷ [])) [])
    × (machine (0x8C ∷ 0x8C ∷ 0x12 ∷ 0x13 ∷ 0xC0 ∷ 0x0E ∷ []) ≡ failed) × (machine (0x8C ∷ 0x8C ∷ 0x12 ∷ 0x13 ∷ []) ≡ failed)
unfolding run step read_from push operator settle stem mask bits bits_of none_set
spare-bits = (refl, refl, refl)

-- a coordinate of 2 ^ 60 units passes either way, and one unit more is a fault
abbrev far : ℤ → State
far z = record { at = record { x = z; y = pos 0 }; stems = 0; width = none; begun = true; ops = []; drawn = []; masks = [] }

coordinates : (run (0x8B ∷ 0x16 ∷ 0x0E ∷ []) 0 (far (pos 1152921504606846976)) ≡ ended (at_end (record { x = pos 1152921504606846976; y = pos 0 }) 0 none (entry moves (record { x = pos 1152921504606846976; y = pos 0 } ∷ []) ∷ []) []) [])
    × (run (0xFF ∷ 0x00 ∷ 0x00 ∷ 0x00 ∷ 0x01 ∷ 0x16 ∷ 0x0E ∷ []) 0 (far (pos 1152921504606846976)) ≡ failed)
    × (run (0x8B ∷ 0x16 ∷ 0x0E ∷ []) 0 (far (negsuc 1152921504606846975)) ≡ ended (at_end (record { x = negsuc 1152921504606846975; y = pos 0 }) 0 none (entry moves (record { x = negsuc 1152921504606846975; y = pos 0 } ∷ []) ∷ []) []) [])
    × (run (0xFF ∷ 0xFF ∷ 0xFF ∷ 0xFF ∷ 0xFF ∷ 0x16 ∷ 0x0E ∷ []) 0 (far (negsuc 1152921504606846975)) ≡ failed)
unfolding run step read_from read5 push operator settle reach last_of all_small draw across
coordinates = (refl, refl, refl, refl)

-- bytes that end before a 14, a cut number, an unknown operator, an unknown escape
cut_or_unknown : (machine [] ≡ failed) × (machine (0xF7 ∷ []) ≡ failed) × (machine (0x02 ∷ 0x0E ∷ []) ≡ failed) × (machine (0x0C ∷ 0x22 ∷ 0x0E ∷ []) ≡ failed)
unfolding run step read_from read2 operator escape
cut_or_unknown = (refl, refl, refl, refl)

-- operands: a stem operator with none, a width before the second operator, two operands too many at the first
operand_counts : (machine (0x01 ∷ 0x0E ∷ []) ≡ failed) × (machine (0x8B ∷ 0x16 ∷ 0x8B ∷ 0x8B ∷ 0x16 ∷ 0x0E ∷ []) ≡ failed) × (machine (0x8B ∷ 0x8B ∷ 0x8B ∷ 0x16 ∷ 0x0E ∷ []) ≡ failed)
unfolding run step read_from push operator settle reach last_of all_small draw across
operand_counts = (refl, refl, refl)
