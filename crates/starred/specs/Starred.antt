-- Laws: Document 01's starred examples. Each is closed by computing.
use Rattle.std.specs.Prelude.{◌≡◌, refl, ℕ, true, false, Ok, List, [], ◌∷◌, ◌++◌, pos, negsuc, Float}
use Rattle.std.specs.Float.{fin}
use Rattle.std.specs.Float.Ieee.{add, sub, mul, div, lt, le, eq, ne, of_int}
use Rattle.binary64.specs.Value.{mag}
use Rattle.binary64.specs.Rounding.{away, floored, abs}
use Rattle.geometry.specs.Transform.{identity, rounded10, delta}
use Rattle.charstring.specs.Cipher.{not_encrypted, plain, plain_byte, step}
use Rattle.bank.specs.Bank.{be16, be32, valid}
use Rattle.type1.specs.Operator.{of_byte, of_escape}
use Rattle.type1.specs.Number.{token}
use Rattle.outline.specs.Outline.{plus_zero}
use Rattle.type1.specs.Run.{reading_of, push, commit, enter, list, move_by, open_subpath, line_to, line_by, div_d, operate, charge, execute, run_bytes, run_body, run}
use Rattle.type1.specs.Interpret.{source_of, outcome}
use Rattle.type2.specs.Number.{units, number_bytes, whole_bytes, fixed_bytes, quantized}
use Rattle.folding.specs.Folding.{finite_matrix, is_identity, folded_point, folded_list, folded_groups, folded_width, finite_list, finite_groups}
use Rattle.type1_to_type2.specs.Stems.{all_stems, distinct, of_direction, sorted, in_order, declared}
use Rattle.type1_to_type2.specs.Emission.{stems_from, deltas, arrives, starts_at, commands, items, pack, program}
use Rattle.type1_to_type2.specs.Writing as Writing
use Rattle.type1_to_type2.specs.Writing.{Written, wrote, put, put_numbers, write}
use Rattle.type1_to_type2.specs.Convert as Convert
use Rattle.type1_to_type2.specs.Convert.{folds_finite, Conversion, glyph_of, converted, instructions, convert}
use Rattle.type1_to_type2.specs.Finish.{width_for, finish}
use Rattle.sorting.specs.Order.{count, all_finite}
use Rattle.widths.specs.Widths.{answer_of, keep, best, commonest, nominal, widths_of, chosen}

-- "Cipher `00 00`, lenIV 0: `10 D8`."
cipher : plain 0 (0x00 ∷ 0x00 ∷ []) ≡ 0x10 ∷ 0xD8 ∷ []
unfolding plain plain_byte step
cipher = refl

-- ---- "Numbers", from the double to the bytes

-- 107
number_107 : number_bytes (units (fin false 107 (pos 0))) ≡ 0xF6 ∷ []
unfolding units mag number_bytes whole_bytes
number_107 = refl

-- 108
number_108 : number_bytes (units (fin false 27 (pos 2))) ≡ 0xF7 ∷ 0x00 ∷ []
unfolding units mag number_bytes whole_bytes
number_108 = refl

-- 1131
number_1131 : number_bytes (units (fin false 1131 (pos 0))) ≡ 0xFA ∷ 0xFF ∷ []
unfolding units mag number_bytes whole_bytes
number_1131 = refl

-- 1132
number_1132 : number_bytes (units (fin false 283 (pos 2))) ≡ 0x1C ∷ 0x04 ∷ 0x6C ∷ []
unfolding units mag number_bytes whole_bytes
number_1132 = refl

-- -1132
number-minus_1132 : number_bytes (units (fin true 283 (pos 2))) ≡ 0x1C ∷ 0xFB ∷ 0x94 ∷ []
unfolding units mag number_bytes whole_bytes
number-minus_1132 = refl

-- 0.5
number-half : number_bytes (units (fin false 1 (negsuc 0))) ≡ 0xFF ∷ 0x00 ∷ 0x00 ∷ 0x80 ∷ 0x00 ∷ []
unfolding units mag number_bytes fixed_bytes
number-half = refl

-- ---- "Widths 500 500 600: 500 and 707.", with a scratch of 3
abbrev w500 : Float
w500 = fin false 125 (pos 2)

abbrev w600 : Float
w600 = fin false 75 (pos 3)

abbrev w707 : Float
w707 = fin false 707 (pos 0)

widths_500_500_600 : chosen (w500 ∷ w500 ∷ w600 ∷ []) 3 ≡ Ok (answer_of w500 w707)
unfolding chosen all_finite widths_of commonest nominal best keep count floored quantized abs away add sub lt le eq ne
widths_500_500_600 = refl

-- ---- "Glyphs worked through": with the bank `00 00 00 00 00 00`, not encrypted, under the identity, in stores of so many records and words and an output of so many bytes
glyph : List ℕ → ℕ → ℕ → ℕ → Conversion
unfolding convert Convert.folded instructions outcome valid be16 be32 run charge run_body plain run_bytes token of_byte of_escape execute operate push enter list move_by open_subpath line_to line_by div_d commit finite_matrix is_identity folded_point folded_list folded_groups folded_width folds_finite finite_list finite_groups rounded10 delta all_stems distinct of_direction sorted in_order declared stems_from deltas arrives starts_at commands items pack program write put put_numbers units mag number_bytes whole_bytes fixed_bytes quantized abs away of_int sub mul div le
glyph l records words room = convert (source_of l (0x00 ∷ 0x00 ∷ 0x00 ∷ 0x00 ∷ 0x00 ∷ 0x00 ∷ [])) (reading_of not_encrypted) identity (record { records = records; words = words; bytes = room })

-- "empty gives `0E`": the width 0, no bytes run
empty : glyph [] 0 0 1 ≡ converted (glyph_of plus_zero 0 (0x0E ∷ []))
unfolding glyph
empty = refl

-- "`8B F8 88 0D 95 9F 15 90 8B 05 09 0E` gives `95 9F 15 90 8B 05 0E`, width 500": 12 bytes run, two commands
abbrev worked : List ℕ
worked = 0x8B ∷ 0xF8 ∷ 0x88 ∷ 0x0D ∷ 0x95 ∷ 0x9F ∷ 0x15 ∷ 0x90 ∷ 0x8B ∷ 0x05 ∷ 0x09 ∷ 0x0E ∷ []

abbrev worked_program : List ℕ
worked_program = 0x95 ∷ 0x9F ∷ 0x15 ∷ 0x90 ∷ 0x8B ∷ 0x05 ∷ 0x0E ∷ []

worked_converts : glyph worked 0 28 7 ≡ converted (glyph_of w500 12 worked_program)
unfolding glyph
worked_converts = refl

-- "`8C 8E 0C 0C 16` three times": 15 bytes run, three commands
abbrev third : List ℕ
third = 0x8C ∷ 0x8E ∷ 0x0C ∷ 0x0C ∷ 0x16 ∷ []

thirds :
    glyph (third ++ third ++ third) 0 42 19
    ≡ converted (glyph_of plus_zero 15 (0xFF ∷ 0x00 ∷ 0x00 ∷ 0x55 ∷ 0x55 ∷ 0x16 ∷ 0xFF ∷ 0x00 ∷ 0x00 ∷ 0x55 ∷ 0x56 ∷ 0x16 ∷ 0xFF ∷ 0x00 ∷ 0x00 ∷ 0x55 ∷ 0x55 ∷ 0x16 ∷ 0x0E ∷ []))
unfolding glyph
thirds = refl

-- finishing what converting left, for a default and a nominal width, in an output of so many bytes
finished : Conversion → Float → Float → ℕ → Written
unfolding finish width_for
finished (Convert.refused n) default nominal room = Writing.refused n
finished (converted g) default nominal room = finish g.width g.program (record { default_width_x = default; nominal_width_x = nominal }) room

-- "default 500 adds nothing"
worked_default : finished (glyph worked 0 28 7) w500 plus_zero 7 ≡ wrote worked_program
unfolding glyph finished
worked_default = refl

-- "0 with nominal 0 adds `F8 88`"
worked-nominal : finished (glyph worked 0 28 7) plus_zero plus_zero 9 ≡ wrote (0xF8 ∷ 0x88 ∷ worked_program)
unfolding glyph finished
worked-nominal = refl
