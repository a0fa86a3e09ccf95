-- Definitions: a cursor that decrypts as it reads. Document 01, "Cipher" and "Forms of the Rust that need another" (a cursor with the running key).
use Rattle.std.specs.Prelude.{◌≡◌, ℕ, ◌+◌, ◌<◌, true, false, cond, Option, None, Some, List, [], ◌∷◌, length, take, drop, ◌==◌, slice_index}
use Rattle.charstring.specs.declared.Cursor.{Cursor}
use Rattle.charstring.specs.Cipher.{start_key, step, byte_of, decrypt, key_after, not_encrypted}

-- the plain bytes still to come from a cursor
unfoldable pub rest : Cursor → List ℕ → List ℕ
rest k code = cond k.encrypted (decrypt k.key (drop k.at code)) (drop k.at code)

-- the cursor of a whole charstring: the first lenIV bytes are passed, or all where there are fewer
unfoldable pub start : ℕ → List ℕ → Cursor
start len_iv code =
    cond (len_iv == not_encrypted)
    (record { at = 0; key = start_key; encrypted = false })
    (record { at = length (take len_iv code); key = key_after start_key (take len_iv code); encrypted = true })

-- the cursor after one byte more
unfoldable pub after : Cursor → List ℕ → Cursor
after k code =
    record { at = k.at + 1; key = cond k.encrypted (step (slice_index code k.at) k.key) k.key; encrypted = k.encrypted }

-- the plain byte at a cursor that is within the charstring
unfoldable pub byte_at : Cursor → List ℕ → ℕ
byte_at k code = byte_of (slice_index code k.at) k.key k.encrypted

-- the first of the bytes still to come, with the cursor after it; `None` where none is to come
abbrev pub first_of : List ℕ → Cursor → Option (ℕ × Cursor)
first_of [] k = None
first_of (b ∷ bs) k = Some (b, k)

unfoldable pub read : Cursor → List ℕ → Option (ℕ × Cursor)
read k code = first_of (rest k code) (after k code)

-- what a read of the byte b, with the cursor next after it, says: the list of bytes still to come is one shorter
pub record Passed (k : Cursor) (code : List ℕ) (b : ℕ) (next : Cursor) : Type 0 where
  pub within : k.at < length code
  pub place : next.at ≡ k.at + 1
  pub same : next ≡ after k code
  pub bytes : rest k code ≡ b ∷ rest next code
