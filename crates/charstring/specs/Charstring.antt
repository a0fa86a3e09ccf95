-- Definitions: the answer and the output of `decrypt_charstring`. Document 01, "Cipher" and "Numbers the board logs" (18).
use Rattle.std.specs.Prelude.{ℕ, ◌-◌, Bool, cond, Result, Ok, Err, List, ◌++◌, replicate, nat_le}
use Rattle.std.proofs.Math.ListN as ListN
use Rattle.refusal.specs.declared.Refusal.{Refusal}
use Rattle.refusal.specs.declared.Refusal.TheVariants.{OutputShort}
use Rattle.charstring.specs.Cipher.{plain}

-- the plain bytes have room
abbrev pub fits : ℕ → List ℕ → ℕ → Bool
fits len_iv bytes room = nat_le (ListN.length (plain len_iv bytes)) room

-- the number of plain bytes; 18 where the output is short
unfoldable pub decrypted : ℕ → List ℕ → ℕ → Result ℕ Refusal
decrypted len_iv bytes room = cond (fits len_iv bytes room) (Ok (ListN.length (plain len_iv bytes))) (Err OutputShort)

-- the output, whatever it held: the plain bytes, then zeros; zeros alone where it is short
unfoldable pub written : ℕ → List ℕ → ℕ → List ℕ
written len_iv bytes room =
    cond (fits len_iv bytes room)
    (plain len_iv bytes ++ replicate (room - ListN.length (plain len_iv bytes)) 0)
    (replicate room 0)
