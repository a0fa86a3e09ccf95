-- Laws: the cipher and the cursor. A loop that reads by a cursor consumes the list `rest`, byte by byte.
--     part_wraps, step_parts         the key step by operations that each wrap
--     step-key                       a key is below 65536
--     rest-start                     the bytes still to come from a new cursor are the plain bytes
--     rest-length, start-within      how many are to come; a new cursor is within the charstring
--     read_byte, read_end            what was read says of the bytes still to come and of the next cursor
--     read_first, read_last          the bytes still to come say what is read
--     read_more, read_none           the cursor's place says what is read
--     plain_not_encrypted, plain-none, plain-length    the strip of the first lenIV bytes
--     rest-bytes, plain-bytes        what is read are bytes
use Rattle.std.specs.Prelude.{◌≡◌, ℕ, zero, suc, ◌+◌, ◌-◌, ◌*◌, ◌/◌, ◌%◌, ◌<◌, ◌≤◌, Bool, true, false, cond, Some, None, ◌⊎◌, List, [], ◌∷◌, ◌++◌, length, take, drop, ◌==◌, ◌≢◌, nat_lt, slice_index}
use Rattle.std.proofs.Math.Nat.{mod-add-mod, mul-add-mod_self_left}
use Rattle.std.proofs.Common.{add-one, arith, inl, inr, ltb-true, ltb-false, ne_eqb, sym, ◌∙◌, lit<, length-take, get_or-drop}
use Rattle.std.proofs.Math.Logic.{⊎_elim}
use Rattle.std.proofs.Math.Path.{refl, ap}
use Rattle.std.proofs.lemmas.Nat.{xor_lt}
use Rattle.std.proofs.Math.ListN.{length-drop, drop_of_length-le}
use Rattle.std.proofs.Math.Seq.{drop-cons}
use Rattle.charstring.specs.declared.Cursor.{Cursor}
use Rattle.charstring.specs.Cipher.{Bytes, start_key, step, key_part, plain_byte, decrypt, key_after, not_encrypted, plain}
use Rattle.charstring.specs.Cursor.{rest, start, after, byte_at, read, Passed}

-- the key step by operations that each wrap: the byte's part, and the key's product before it is added
pub part_wraps : (c : ℕ) → ((c * 52845) % 65536 + 22719) % 65536 ≡ key_part c
unfolding key_part
part_wraps c = mod-add-mod (c * 52845) 65536 22719

pub step_parts : (c r : ℕ) → ((r * 52845) % 65536 + key_part c) % 65536 ≡ step c r
unfolding step key_part
step_parts c r =
    let a = r * 52845 in
    let b = c * 52845 + 22719 in
    let e : (c + r) * 52845 + 22719 ≡ 65536 * (a / 65536 + b / 65536) + (a % 65536 + b % 65536) = omega arith in
    sym (ap (λ (x : ℕ). x % 65536) e ∙ mul-add-mod_self_left 65536 (a / 65536 + b / 65536) (a % 65536 + b % 65536))

pub decrypt-length : (r : ℕ) (l : List ℕ) → length (decrypt r l) ≡ length l
decrypt-length r [] = refl
decrypt-length r (c ∷ l) = ap suc (decrypt-length (step c r) l)

-- the plain bytes after n are those of the bytes after n, from the key there
pub decrypt-drop : (n r : ℕ) (l : List ℕ) → decrypt (key_after r (take n l)) (drop n l) ≡ drop n (decrypt r l)
decrypt-drop zero r l = refl
decrypt-drop (suc n) r [] = refl
decrypt-drop (suc n) r (c ∷ l) = decrypt-drop n (step c r) l

pub key_more : (r c : ℕ) (l : List ℕ) → key_after r (l ++ c ∷ []) ≡ step c (key_after r l)
key_more r c [] = refl
key_more r c (b ∷ l) = key_more (step b r) c l

-- the bytes at a place that may lie beyond the end
drop-taken : (n : ℕ) (l : List ℕ) → drop (length (take n l)) l ≡ drop n l
drop-taken zero l = refl
drop-taken (suc n) [] = refl
drop-taken (suc n) (c ∷ l) = drop-taken n l

-- the bytes still to come from a new cursor are the plain bytes
pub rest-start : (len_iv : ℕ) (code : List ℕ) → rest (start len_iv code) code ≡ plain len_iv code
unfolding rest start plain
rest-start len_iv code = by_mode (len_iv == not_encrypted)
  where
    by_mode :
        (b : Bool) →
        rest
        (cond b
        (record { at = 0; key = start_key; encrypted = false })
        (record { at = length (take len_iv code); key = key_after start_key (take len_iv code); encrypted = true }))
        code
        ≡ cond b code (drop len_iv (decrypt start_key code))
    by_mode true = refl
    by_mode false = ap (decrypt (key_after start_key (take len_iv code))) (drop-taken len_iv code) ∙ decrypt-drop len_iv start_key code

either : {A : Type 0} (P : A → Type 0) (b : Bool) {x y : A} → P x → P y → P (cond b x y)
either P true p q = p
either P false p q = q

pub start-within : (len_iv : ℕ) (code : List ℕ) → (start len_iv code).at ≤ length code
unfolding start
start-within len_iv code =
    either (λ (k : Cursor). k.at ≤ length code) (len_iv == not_encrypted) (omega arith) (simp length-take (omega arith))

below_or_not : (a b : ℕ) → (a < b) ⊎ (b ≤ a)
below_or_not a b = by_test (nat_lt a b) refl
  where
    by_test : (t : Bool) → nat_lt a b ≡ t → (a < b) ⊎ (b ≤ a)
    by_test true e = inl (ltb-true a b e)
    by_test false e = inr (ltb-false a b e)

module _ (k : Cursor) (code : List ℕ) where
  pub rest-length : length (rest k code) ≡ length code - k.at
  unfolding rest
  rest-length = by_mode k.encrypted
    where
      by_mode : (b : Bool) → length (cond b (decrypt k.key (drop k.at code)) (drop k.at code)) ≡ length code - k.at
      by_mode true = decrypt-length k.key (drop k.at code) ∙ length-drop k.at code
      by_mode false = length-drop k.at code

  pub rest-none : length code ≤ k.at → rest k code ≡ []
  unfolding rest
  rest-none h = rw drop_of_length-le (by_mode k.encrypted)
    where
      by_mode : (b : Bool) → cond b (decrypt k.key []) [] ≡ []
      by_mode true = refl
      by_mode false = refl

  pub rest_more : k.at < length code → rest k code ≡ byte_at k code ∷ rest (after k code) code
  unfolding rest after byte_at
  rest_more h = rw (add-one, drop-cons code k.at 0) (by_mode k.encrypted)
    where
      c : ℕ
      c = slice_index code k.at

      l : List ℕ
      l = drop (suc k.at) code

      by_mode :
          (b : Bool) →
          cond b (decrypt k.key (c ∷ l)) (c ∷ l) ≡ cond b (plain_byte c k.key) c ∷ cond b (decrypt (cond b (step c k.key) k.key) l) l
      by_mode true = refl
      by_mode false = refl

  -- what reading gives, by the cursor's place
  pub read_more : k.at < length code → read k code ≡ Some (byte_at k code, after k code)
  unfolding read
  read_more h = rw (rest_more h)

  pub read_none : length code ≤ k.at → read k code ≡ None
  unfolding read
  read_none h = rw (rest-none h)

  -- what reading found says of the bytes still to come
  pub read_byte : {b : ℕ} {next : Cursor} → read k code ≡ Some (b, next) → Passed k code b next
  unfolding after
  read_byte {b} {next} e = ⊎_elim within (λ h. absurd (beyond h)) (below_or_not k.at (length code))
    where
      within : k.at < length code → Passed k code b next
      within h =
          let same : (byte_at k code, after k code) ≡ (b, next) = cc (read_more h, e) in
          let p : byte_at k code ≡ b = ap (λ (x : ℕ × Cursor). x.0) same in
          let q : next ≡ after k code = sym (ap (λ (x : ℕ × Cursor). x.1) same) in
          record { within = h; place = ap (λ (x : Cursor). x.at) q; same = q; bytes = rw (p, ← q) at (rest_more h) }

      beyond : length code ≤ k.at → ⊥
      beyond h = let z : ◌≡◌ {A = ℕ} 0 1 = cc (read_none h, e) in omega arith

  pub read_end : read k code ≡ None → rest k code ≡ []
  read_end e = ⊎_elim (λ h. cc (read_more h, e)) rest-none (below_or_not k.at (length code))

  -- the other way: the list of bytes still to come says what reading finds
  pub read_first : {b : ℕ} {bs : List ℕ} → rest k code ≡ b ∷ bs → (read k code ≡ Some (b, after k code)) × (rest (after k code) code ≡ bs)
  unfolding read
  read_first {b} {bs} e = (rw e, ⊎_elim within beyond (below_or_not k.at (length code)))
    where
      within : k.at < length code → rest (after k code) code ≡ bs
      within h = cc (rest_more h, e)

      beyond : length code ≤ k.at → rest (after k code) code ≡ bs
      beyond h = cc (rest-none h, e)

  pub read_last : rest k code ≡ [] → read k code ≡ None
  unfolding read
  read_last e = rw e

-- ---- the plain bytes of a charstring

pub plain_not_encrypted : (bytes : List ℕ) → plain not_encrypted bytes ≡ bytes
unfolding plain
plain_not_encrypted bytes = refl

-- lenIV at or beyond the length leaves nothing
pub plain-none : (len_iv : ℕ) (bytes : List ℕ) → (len_iv ≢ not_encrypted) → length bytes ≤ len_iv → plain len_iv bytes ≡ []
unfolding plain
plain-none len_iv bytes other h = rw (ne_eqb len_iv not_encrypted other) (drop_of_length-le (decrypt start_key bytes) {i = len_iv} (omega (arith, decrypt-length start_key bytes)))

pub plain-length : (len_iv : ℕ) (bytes : List ℕ) → length (plain len_iv bytes) ≤ length bytes
unfolding plain
plain-length len_iv bytes = by_mode (len_iv == not_encrypted)
  where
    by_mode : (b : Bool) → length (cond b bytes (drop len_iv (decrypt start_key bytes))) ≤ length bytes
    by_mode true = omega arith
    by_mode false = omega (arith, length-drop len_iv (decrypt start_key bytes), decrypt-length start_key bytes)

pub step-key : (c r : ℕ) → step c r < 65536
unfolding step
step-key c r = omega arith

plain_byte_lem : (c r : ℕ) → c < 256 → r < 65536 → plain_byte c r < 256
unfolding plain_byte
plain_byte_lem c r hc hr = xor_lt 8 c (r / 256) hc (omega arith)

pub decrypt-bytes : (r : ℕ) (l : List ℕ) → r < 65536 → Bytes l → Bytes (decrypt r l)
decrypt-bytes r [] h all i = all i
decrypt-bytes r (c ∷ l) h all zero = plain_byte_lem c r (all 0) h
decrypt-bytes r (c ∷ l) h all (suc i) = decrypt-bytes (step c r) l (step-key c r) (λ j. all (suc j)) i

pub rest-bytes : (k : Cursor) (code : List ℕ) → k.key < 65536 → Bytes code → Bytes (rest k code)
unfolding rest
rest-bytes k code h all =
    let some : Bytes (drop k.at code) = λ i. rw get_or-drop (all (k.at + i)) in
    either Bytes k.encrypted (decrypt-bytes k.key (drop k.at code) h some) some

pub plain-bytes : (len_iv : ℕ) (bytes : List ℕ) → Bytes bytes → Bytes (plain len_iv bytes)
unfolding plain
plain-bytes len_iv bytes all =
    either Bytes (len_iv == not_encrypted) all (λ i. rw get_or-drop (decrypt-bytes start_key bytes (lit< tt) all (len_iv + i)))
