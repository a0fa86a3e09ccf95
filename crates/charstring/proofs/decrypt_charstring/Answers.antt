-- `charstring::decrypt_charstring` meets its contract.
use Rattle.std.proofs.Common.{◌≡◌, ℕ, ◌-◌, ◌<◌, ◌≤◌, cond, List, ◌++◌, length, take, drop, replicate, sym, ap, ◌∙◌, arith, le-leb, Ok, Err, rules}
use Rattle.std.proofs.lemmas.List.{take_rest, length-drop}
use Rattle.std.proofs.Math.Seq.{take-append_seam}
use borrow.Author.Tests.{lt-leb}
use native.Mathlib.Nat.{sub-zero}
use Rattle.refusal.specs.declared.Refusal.TheVariants.{OutputShort}
use Rattle.charstring.specs.declared.Cursor.{Cursor}
use Rattle.charstring.specs.Cipher.{decrypt, plain}
use Rattle.charstring.specs.Cursor.{start, rest}
use Rattle.charstring.specs.Charstring.{decrypted, written}
use Rattle.charstring.specs.Laws.{rest-length, rest-start, start-within}
use Rattle.charstring.proofs.decrypt_charstring.Goals as goal

-- the bytes that a new cursor has before it
module _ (len_iv : ℕ) (code : List ℕ) (k : Cursor) (e : k ≡ start len_iv code) where
  abbrev bytes : List ℕ
  bytes = take (length code - k.at) (drop k.at code)

  all : cond k.encrypted (decrypt k.key bytes) bytes ≡ plain len_iv code
  unfolding rest
  all = rw (take_rest code k.at) (ap (λ x. rest x code) e ∙ rest-start len_iv code)

  left : length bytes ≡ length (plain len_iv code)
  left = rw (take_rest code k.at, length-drop k.at code) (sym (rest-length k code) ∙ ap length (ap (λ x. rest x code) e ∙ rest-start len_iv code))

  module _ (d out : List ℕ) where
    short-number : length d < length bytes → Err OutputShort ≡ decrypted len_iv code (length d)
    unfolding decrypted
    short-number h = rw (lt-leb _ _ (rw left at h))

    short-out : length d < length bytes → out ≡ replicate (length d) 0 → out ≡ written len_iv code (length d)
    unfolding written
    short-out h o = rw (lt-leb _ _ (rw left at h)) o

    number : length bytes ≤ length d → Ok (length bytes) ≡ decrypted len_iv code (length d)
    unfolding decrypted
    number h = rw (left, le-leb _ _ (rw left at h))

    whole :
        (copied : List ℕ) → length bytes ≤ length d → copied ≡ cond k.encrypted (decrypt k.key bytes) bytes ++ drop (length bytes) d
        → length copied ≡ length d → out ≡ take (length bytes) copied ++ replicate (length copied - length bytes) 0 → out ≡ written len_iv code (length d)
    unfolding written
    whole copied h is same o = rw (le-leb _ _ (rw left at h), o, same, is, all, left, take-append_seam)

pub slice_bounds-bytes-count : goal.slice_bounds-bytes-count
slice_bounds-bytes-count c = rw c.new-cursor.ensures (start-within _ _)

pub slice_bounds-bytes-start : goal.slice_bounds-bytes-start
slice_bounds-bytes-start c = let h : c.new-cursor.result.at ≤ length c.args.«data».now = rw c.new-cursor.ensures (start-within _ _) in search rules

pub returns-then-out-bytes-clause-value : goal.returns-then-out-bytes-clause-value
returns-then-out-bytes-clause-value c = short-number c.args.len_iv c.args.«data».now c.new-cursor.result c.new-cursor.ensures c.args.out.now c.zero_from.new.bytes c.if-out-bytes.true

pub returns-then-out-bytes-clause-out_after : goal.returns-then-out-bytes-clause-out_after
returns-then-out-bytes-clause-out_after c = short-out c.args.len_iv c.args.«data».now c.new-cursor.result c.new-cursor.ensures c.args.out.now c.zero_from.new.bytes c.if-out-bytes.true (c.zero_from.ensures ∙ ap (λ (m : ℕ). replicate {A = ℕ} m 0) (sub-zero (length c.args.out.now)))

pub returns-clause-value : goal.returns-clause-value
returns-clause-value c = number c.args.len_iv c.args.«data».now c.new-cursor.result c.new-cursor.ensures c.args.out.now c.args.out.now (omega arith)

pub returns-clause-out_after : goal.returns-clause-out_after
returns-clause-out_after c = whole c.args.len_iv c.args.«data».now c.new-cursor.result c.new-cursor.ensures c.args.out.now c.zero_from-2.new.bytes c.copy_rest.new.out c.if-out-bytes.false c.copy_rest.ensures c.copy_rest.auto.out c.zero_from-2.ensures
