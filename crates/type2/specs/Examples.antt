-- Laws: the reading of numbers, their bytes and their rounding at worked examples, by computing. Bytes are hexadecimal.
use Rattle.std.specs.Prelude.{◌≡◌, refl, true, false, [], ◌∷◌, pos, negsuc, Float}
use Rattle.std.specs.Float.{nan, fin}
use Rattle.std.specs.Float.Ieee.{round, sub, mul, div, lt}
use Rattle.binary64.specs.Value.{mag}
use Rattle.binary64.specs.Rounding.{away, abs}
use Rattle.type2.specs.Number.{quantized, units, read, read_from, read2, read3, read5, number, number_bytes, whole_bytes, fixed_bytes, gave, put, push_number}

-- ---- TN#5177, section 3.2: the ends of each form's range. A unit is 1/65536.
one_byte : (read (0x20 ∷ []) ≡ number (negsuc 7012351) 0) × (read (0x8B ∷ []) ≡ number (pos 0) 0) × (read (0xF6 ∷ []) ≡ number (pos 7012352) 0)
unfolding read_from
one_byte = (refl, refl, refl)

two_bytes : (read (0xF7 ∷ 0x00 ∷ []) ≡ number (pos 7077888) 1) × (read (0xFA ∷ 0xFF ∷ []) ≡ number (pos 74121216) 1) × (read (0xFB ∷ 0x00 ∷ []) ≡ number (negsuc 7077887) 1) × (read (0xFE ∷ 0xFF ∷ []) ≡ number (negsuc 74121215) 1)
unfolding read_from read2
two_bytes = (refl, refl, refl, refl)

three_bytes : (read (0x1C ∷ 0x7F ∷ 0xFF ∷ []) ≡ number (pos 2147418112) 2) × (read (0x1C ∷ 0x80 ∷ 0x00 ∷ []) ≡ number (negsuc 2147483647) 2)
unfolding read_from read3
three_bytes = (refl, refl)

five_bytes : (read (0xFF ∷ 0x00 ∷ 0x00 ∷ 0x80 ∷ 0x00 ∷ []) ≡ number (pos 32768) 4) × (read (0xFF ∷ 0xFF ∷ 0xFF ∷ 0xFF ∷ 0xFF ∷ []) ≡ number (negsuc 0) 4)
unfolding read_from read5
five_bytes = (refl, refl)

-- ---- pushes: 32767 passes, 32768 is 13 whatever the room, no room is 18, and nothing else of the output changes
abbrev whole_32767 : Float
whole_32767 = fin false 32767 (pos 0)

pushes : (push_number (1 ∷ 2 ∷ 3 ∷ 4 ∷ 5 ∷ []) 1 whole_32767 ≡ gave 0 4 (1 ∷ 0x1C ∷ 0x7F ∷ 0xFF ∷ 5 ∷ []))
    × (push_number (1 ∷ 2 ∷ 3 ∷ []) 1 whole_32767 ≡ gave 18 0 (1 ∷ 2 ∷ 3 ∷ []))
    × (push_number (1 ∷ 2 ∷ 3 ∷ []) 9 (fin false 1 (pos 0)) ≡ gave 18 0 (1 ∷ 2 ∷ 3 ∷ []))
    × (push_number [] 0 (fin false 1 (pos 15)) ≡ gave 13 0 [])
    × (push_number [] 0 nan ≡ gave 13 0 [])
unfolding push_number put units mag number_bytes whole_bytes fixed_bytes
pushes = (refl, refl, refl, refl, refl)

-- 1/131072 is a tie and becomes 1/65536; 0.1 is 6554/65536
quantizes : (quantized (fin false 1 (negsuc 16)) ≡ fin false 1 (negsuc 15)) × (quantized (fin true 1 (negsuc 16)) ≡ fin true 1 (negsuc 15)) × (quantized (fin false 3602879701896397 (negsuc 54)) ≡ fin false 3277 (negsuc 14))
unfolding quantized abs away round sub mul div lt
quantizes = (refl, refl, refl)
