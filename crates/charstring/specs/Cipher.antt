-- Definitions: the charstring cipher. Document 01, "Cipher"; Adobe Type 1 Font Format, chapter 7.
use Rattle.std.specs.Prelude.{ℕ, ◌+◌, ◌-◌, ◌*◌, ◌/◌, ◌%◌, ◌^◌, ◌<◌, Bool, cond, List, [], ◌∷◌, drop, ◌==◌, bit_xor, slice_index}

-- a list of bytes
abbrev pub Bytes : List ℕ → Type 0
Bytes l = (i : ℕ) → slice_index l i < 256

-- the key r before the first byte
abbrev pub start_key : ℕ
start_key = 4330

-- the key after the cipher byte c
unfoldable pub step : ℕ → ℕ → ℕ
step c r = ((c + r) * 52845 + 22719) % 65536

-- what the cipher byte c adds to the key's product: step c r is r × 52845 and this, modulo 65536 (`step_parts`)
unfoldable pub key_part : ℕ → ℕ
key_part c = (c * 52845 + 22719) % 65536

-- the plain byte of the cipher byte c
unfoldable pub plain_byte : ℕ → ℕ → ℕ
plain_byte c r = bit_xor c (r / 256)

-- the plain byte of a charstring's byte c, which may not be encrypted
abbrev pub byte_of : ℕ → ℕ → Bool → ℕ
byte_of c key encrypted = cond encrypted (plain_byte c key) c

-- all plain bytes, from a key on
abbrev pub decrypt : ℕ → List ℕ → List ℕ
decrypt r [] = []
decrypt r (c ∷ cs) = plain_byte c r ∷ decrypt (step c r) cs

-- the key after all these cipher bytes
abbrev pub key_after : ℕ → List ℕ → ℕ
key_after r [] = r
key_after r (c ∷ cs) = key_after (step c r) cs

-- the lenIV that means not encrypted: the largest usize
abbrev pub not_encrypted : ℕ
not_encrypted = 2 ^ 64 - 1

-- a charstring's plain bytes, without the first lenIV
unfoldable pub plain : ℕ → List ℕ → List ℕ
plain len_iv bytes = cond (len_iv == not_encrypted) bytes (drop len_iv (decrypt start_key bytes))

-- the most charstring bytes that one glyph may run (document 01, "Bytes run")
abbrev pub max_charstring_bytes : ℕ
max_charstring_bytes = 1048576
