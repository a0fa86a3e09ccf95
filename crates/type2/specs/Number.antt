-- Definitions: Type 2 numbers. How a double is rounded, how the bytes of a number read back, which bytes a number gets, and what a push into the output does.
-- A number is counted in whole units of 1/65536, as a ℤ.
use Rattle.std.specs.Prelude.{◌≡◌, ℕ, suc, ◌+◌, ◌-◌, ◌*◌, ◌/◌, ◌%◌, ◌^◌, Bool, false, ◌&&◌, cond, List, [], ◌∷◌, ◌++◌, length, take, drop, T, leb, ltb, eqb, ℤ, pos, negsuc, neg_ℤ, Float, Result, Ok, Err}
use Rattle.std.proofs.Math.IntN.{sub_ℕ}
use Rattle.std.specs.Float.{nan, inf, fin, Format, binary64}
use Rattle.std.specs.Float.Ieee.{sub, mul, div, lt, fits}
use Rattle.std.specs.Float.Ieee.Scale.{finite}
use Rattle.binary64.specs.Value.{sign, mag, pl, mi}
use Rattle.binary64.specs.Scaling.{two}
use Rattle.binary64.specs.Rounding.{round_away, abs}
use Rattle.refusal.specs.declared.Refusal.{Refusal}
use Rattle.refusal.specs.Refusal.{number_of}

-- ---- Document 01, "Numbers (T2)": "Rounding is half away from zero. A value strictly closer than 1e-9 to a whole number becomes that number, any other the nearest 1/65536."

-- the double that 1e-9 is
abbrev pub nano : Float
nano = fin false 4835703278458517 (negsuc 81)

unfoldable pub quantized : Float → Float
quantized v = cond (lt (abs (sub binary64 v (round_away v))) nano) (round_away v) (div binary64 (round_away (mul binary64 v (two 16))) (two 16))

-- a double as the nearest whole number of 1/65536, half away from zero: `mag` counts in 2 ^ -1074, and 1/65536 is 2 ^ 1058 of these. What is not finite is out of every range.
unfoldable pub units : Float → ℤ
units nan = pos 2147483648
units (inf s) = pos 2147483648
units (fin s m e) = let n = (2 * mag binary64 (fin s m e) + 2 ^ 1058) / (2 * 2 ^ 1058) in cond s (neg_ℤ (pos n)) (pos n)

-- z is the multiple of 2 ^ w nearest to v, a tie away from zero, and has v's sign; `mag` counts in the format's smallest value, so w = 1058 is 1/65536
pub record Nearest (f : Format) (w : ℕ) (v z : Float) : Type 0 where
  pub fine : T (finite z)
  pub signs : sign z ≡ sign v
  pub size : mag f z ≡ (2 * mag f v + 2 ^ w) / (2 * 2 ^ w) * 2 ^ w

-- a signed number is zp - zm, of which one is 0
abbrev pub zp : ℤ → ℕ
zp (pos n) = n
zp (negsuc n) = 0

abbrev pub zm : ℤ → ℕ
zm (pos n) = 0
zm (negsuc n) = suc n

-- v is u units of 1/65536 exactly
pub record Is (u : ℤ) (v : Float) : Type 0 where
  pub fit : T (fits binary64 v)
  pub fine : T (finite v)
  pub plus : pl binary64 v ≡ zp u * 2 ^ 1058
  pub minus : mi binary64 v ≡ zm u * 2 ^ 1058

-- ---- TN#5177, section 3.2: what the bytes of a number are worth

-- the first byte is 32 to 246: that less 139
abbrev pub one : ℕ → ℤ
one b = sub_ℕ (b * 65536) (139 * 65536)

-- 247 to 250, and a second byte w: (b - 247) * 256 + w + 108. 251 to 254: -(b - 251) * 256 - w - 108
abbrev pub pair : ℕ → ℕ → ℤ
pair b w = cond (ltb b 251) (sub_ℕ (((b - 247) * 256 + w + 108) * 65536) 0) (sub_ℕ 0 (((b - 251) * 256 + w + 108) * 65536))

-- 28, and two bytes: 16 bits in two's complement
abbrev pub short : ℕ → ℤ
short n = sub_ℕ (n * 65536) (cond (ltb n 32768) 0 (65536 * 65536))

-- 255, and four bytes: 32 bits in two's complement, the lower 16 of them the fraction
abbrev pub fixed : ℕ → ℤ
fixed n = sub_ℕ n (cond (ltb n 2147483648) 0 4294967296)

-- what the front of a list of bytes reads as: no complete number, or a number with the count of its bytes after the first
pub data Reading : Type 0 where
  no_number : Reading
  number : ℤ → ℕ → Reading

unfoldable pub read2 : ℕ → List ℕ → Reading
read2 b [] = no_number
read2 b (w ∷ bs) = number (pair b w) 1

unfoldable pub read3 : List ℕ → Reading
read3 [] = no_number
read3 (a ∷ []) = no_number
read3 (a ∷ b ∷ bs) = number (short (a * 256 + b)) 2

unfoldable pub read5 : List ℕ → Reading
read5 [] = no_number
read5 (a ∷ []) = no_number
read5 (a ∷ b ∷ []) = no_number
read5 (a ∷ b ∷ c ∷ []) = no_number
read5 (a ∷ b ∷ c ∷ d ∷ bs) = number (fixed (((a * 256 + b) * 256 + c) * 256 + d)) 4

unfoldable pub read_from : ℕ → List ℕ → Reading
read_from b bs =
    cond (eqb b 28) (read3 bs)
    (cond (ltb b 32) no_number
    (cond (ltb b 247) (number (one b) 0)
    (cond (ltb b 255) (read2 b bs)
    (cond (eqb b 255) (read5 bs) no_number))))

abbrev pub read : List ℕ → Reading
read [] = no_number
read (b ∷ bs) = read_from b bs

-- ---- Document 01, "Numbers (T2)": "Shortest form of -32768 to 32767, else 16.16."

-- the whole number p - m, of which one is 0: -107 to 107, 108 to 1131, -1131 to -108, and the others
unfoldable pub whole_bytes : ℕ → ℕ → List ℕ
whole_bytes p m =
    let n = (p + 65536 - m) % 65536 in
    cond (ltb p 108 && ltb m 108) ((p + 139 - m) ∷ [])
    (cond (ltb 107 p && ltb p 1132) (((p - 108) / 256 + 247) ∷ ((p - 108) % 256) ∷ [])
    (cond (ltb 107 m && ltb m 1132) (((m - 108) / 256 + 251) ∷ ((m - 108) % 256) ∷ [])
    (28 ∷ (n / 256) ∷ (n % 256) ∷ [])))

-- p - m units: 16.16
unfoldable pub fixed_bytes : ℕ → ℕ → List ℕ
fixed_bytes p m =
    let n = (p + 4294967296 - m) % 4294967296 in
    255 ∷ (n / 16777216) ∷ (n / 65536 % 256) ∷ (n / 256 % 256) ∷ (n % 256) ∷ []

unfoldable pub number_bytes : ℤ → List ℕ
number_bytes u = cond (eqb ((zp u + zm u) % 65536) 0) (whole_bytes (zp u / 65536) (zm u / 65536)) (fixed_bytes (zp u) (zm u))

-- from -32768 to below 32768: document 01, "Numbers the board logs", 13
abbrev pub in_range : ℤ → Bool
in_range u = ltb (zp u) 2147483648 && ltb (zm u) 2147483649

-- ---- a push into the lent output: document 01, "Numbers the board logs", 13 and 18, "a number's range before its space"

-- the number that is logged (0 if none), the place after what was written (0 on a refusal), and all that the output holds
pub record Push : Type 0 where
  pub number : ℕ
  pub next : ℕ
  pub holds : List ℕ

abbrev pub gave : ℕ → ℕ → List ℕ → Push
gave k n l = record { number = k; next = n; holds = l }

-- what a push gives that has this result: the place after the bytes, or a refusal
abbrev pub pushed : Result ℕ Refusal → List ℕ → Push
pushed (Ok n) l = gave 0 n l
pushed (Err r) l = gave (number_of r) 0 l

-- bytes in at a place, and nothing else changed; where they do not fit, nothing at all
unfoldable pub put : List ℕ → ℕ → List ℕ → Push
put out at bs = cond (leb (at + length bs) (length out)) (gave 0 (at + length bs) (take at out ++ bs ++ drop (at + length bs) out)) (gave 18 0 out)

-- the double v, to the nearest 1/65536. `Pushes.push-quantized`: `quantized v` in its place gives the same.
unfoldable pub push_number : List ℕ → ℕ → Float → Push
push_number out at v = cond (in_range (units v)) (put out at (number_bytes (units v))) (gave 13 0 out)
