-- Laws: what every step of the run keeps, the run keeps. Charstrings and the bank are lists of bytes: only so is a number small.
use Prim.Native.Nat.{ℕ, zero, suc, ◌+◌, ◌-◌, ◌*◌, ◌≤◌, ◌<◌}
use Rattle.std.proofs.Common.{arith, leb→le, ltb→lt, lit<, get_or-drop}
use Rattle.std.specs.Prelude.{Bool, true, false, not, cond, T, leb, ltb, eqb, pos, negsuc, nat_abs, Float, take, drop}
use mathlib.Core.List.{List, [], ◌∷◌}
use Rattle.std.proofs.Math.Option.{Option, none, some}
use Rattle.std.proofs.Math.IntN.{sub_ℕ}
use Rattle.std.specs.Float.Ieee.{le, to_unsigned}
use Rattle.std.proofs.Math.ListN.{length}
use Rattle.charstring.specs.Cipher.{Bytes, plain, max_charstring_bytes}
use Rattle.charstring.specs.Laws.{plain-bytes}
use Rattle.bank.specs.Bank.{count, body_start, body_end, body}
use Rattle.type1.specs.Operator.{Operator, of_byte}
use Rattle.type1.specs.Number.{one_byte, two_bytes, two_bytes_below, Token, cut, number, operator, token_two, token_five, token_escape, token, double}
use Rattle.outline.specs.Outline.{plus_zero, pick}
use Rattle.type1.specs.State.{State, with_ran}
use Rattle.type1.specs.Run.{Limits, Outcome, going, and_then, top, without, push, Font, charge, named, returned, call_body, call_subr, execute, consume, run_bytes, run_body, run}
use Rattle.type1.specs.Sound.{Ends, Stable, SmallToken, ByteBody}
use Rattle.type1.specs.Outcomes.{check_ends, needs_ends, returned_ends, then_ends}

-- ---- numbers are small
sub_small : (a b n : ℕ) → a ≤ n → b ≤ n → nat_abs (sub_ℕ a b) ≤ n
sub_small a b n h k = go (ltb a b) (ltb→lt a b)
  where
    go : (t : Bool) → (T t → a < b) → nat_abs (cond t (negsuc (b - suc a)) (pos (a - b))) ≤ n
    go true f = let g = f tt in omega arith
    go false f = omega arith

token-pick : (b : Bool) (x y : Token) → (T b → SmallToken x) → (T (not b) → SmallToken y) → SmallToken (pick b x y)
token-pick true x y f g = f tt
token-pick false x y f g = g tt

two_small : (v : ℕ) (l : List ℕ) → v < 256 → Bytes l → SmallToken (token_two v l)
two_small v [] h all = tt
two_small v (w ∷ l) h all = go (ltb v 251)
  where
    go : (b : Bool) → nat_abs (cond b (two_bytes v w) (two_bytes_below v w)) ≤ 4294967296
    go true = let k = all 0 in omega arith
    go false = let k = all 0 in sub_small 0 ((v - 251) * 256 + w + 108) 4294967296 (omega arith) (omega arith)

five_small : (l : List ℕ) → Bytes l → SmallToken (token_five l)
five_small [] all = tt
five_small (a ∷ []) all = tt
five_small (a ∷ b ∷ []) all = tt
five_small (a ∷ b ∷ c ∷ []) all = tt
five_small (a ∷ b ∷ c ∷ d ∷ l) all =
    let n = ((a * 256 + b) * 256 + c) * 256 + d in
    let p = all 0 in
    let q = all 1 in
    let r = all 2 in
    let t = all 3 in
    sub_small n (cond (ltb n 2147483648) 0 4294967296) 4294967296 (omega arith) (go (ltb n 2147483648))
  where
    go : (b : Bool) → cond b 0 4294967296 ≤ 4294967296
    go true = omega arith
    go false = omega arith

escape-small : (l : List ℕ) → SmallToken (token_escape l)
escape-small [] = tt
escape-small (e ∷ l) = tt

pub token-small : (v : ℕ) (l : List ℕ) → v < 256 → Bytes l → SmallToken (token v l)
unfolding token
token-small v l h all =
    token-pick (ltb v 32) _ _ (λ t. token-pick (eqb v 12) (token_escape l) (operator 0 (of_byte v)) (λ u. escape-small l) (λ u. tt)) (λ t.
    token-pick (ltb v 247) (number 0 (one_byte v)) _ (λ u. sub_small v 139 4294967296 (omega arith) (omega arith)) (λ u.
    token-pick (ltb v 255) (token_two v l) (token_five l) (λ w. two_small v l h all) (λ w. five_small l all)))

-- ---- a body's bytes are the bank's
take-bytes : (n : ℕ) (l : List ℕ) → Bytes l → Bytes (take n l)
take-bytes zero l all i = lit< tt
take-bytes (suc n) [] all i = lit< tt
take-bytes (suc n) (b ∷ l) all zero = all 0
take-bytes (suc n) (b ∷ l) all (suc i) = take-bytes n l (λ j. all (suc j)) i

body_bytes : (n : ℕ) (bank : List ℕ) → Bytes bank → ByteBody (body n bank)
unfolding body
body_bytes n bank all = go (ltb n (count bank))
  where
    go : (b : Bool) → ByteBody (cond b (some (take (body_end n bank - body_start n bank) (drop (body_start n bank) bank))) none)
    go true = take-bytes (body_end n bank - body_start n bank) (drop (body_start n bank) bank) (λ i. rw get_or-drop (all (body_start n bank + i)))
    go false = tt

pub named-bytes : (f : Font) (v : Float) → Bytes f.bank → ByteBody (named f v)
unfolding named
named-bytes f v all = go (le plus_zero v)
  where
    go : (b : Bool) → ByteBody (pick b (body (to_unsigned 64 v) f.bank) none)
    go true = body_bytes (to_unsigned 64 v) f.bank all
    go false = tt

-- ---- the run
module _ (lim : Limits) (Q : State → Type 0) (S : Stable lim Q) where
  pub charge_ends : (l : List ℕ) (s : State) → Q s → Ends Q (charge l s)
  unfolding charge
  charge_ends l s q = check_ends Q (leb (s.ran + length l) max_charstring_bytes) 3 (going (with_ran (s.ran + length l) s)) (λ t. S.charged (s.ran + length l) s (leb→le (s.ran + length l) max_charstring_bytes t) q)

  -- a body charged and run
  charged_body : (deep : List ℕ → State → Outcome) (l : List ℕ) → ((s : State) → Q s → Ends Q (deep l s)) → (s : State) → Q s → Ends Q (and_then (charge l s) (λ t. returned (deep l t)))
  charged_body deep l h s q = then_ends Q Q (charge l s) _ (charge_ends l s q) (λ t r. r) (λ t r. returned_ends Q (deep l t) (h t r))

  pub call_subr_ends : (f : Font) (deep : List ℕ → State → Outcome) → Bytes f.bank → ((l : List ℕ) (s : State) → Bytes l → Q s → Ends Q (deep l s)) → (s : State) → Q s → Ends Q (call_subr f deep s)
  unfolding call_subr call_body
  call_subr_ends f deep all h s q = needs_ends Q 1 s _ (λ m. go (named f (top 1 s)) (named-bytes f (top 1 s) all))
    where
      go : (o : Option (List ℕ)) → ByteBody o → Ends Q (call_body deep o (without 1 s))
      go none b = tt
      go (some l) b = charged_body deep l (λ t. h l t b) (without 1 s) (S.taken s q)

  pub execute_ends : (f : Font) (deep : List ℕ → State → Outcome) → Bytes f.bank → ((l : List ℕ) (s : State) → Bytes l → Q s → Ends Q (deep l s)) → (o : Operator) (s : State) → Q s → Ends Q (execute lim f deep o s)
  unfolding execute
  execute_ends f deep all h o s q = S.operator (call_subr f deep s) o s q (call_subr_ends f deep all h s q)

  pub run_bytes_ends : (g : Operator → State → Outcome) → ((o : Operator) (s : State) → Q s → Ends Q (g o s)) → (l : List ℕ) (m : ℕ) (s : State) → Bytes l → Q s → Ends Q (run_bytes lim g l m s)
  unfolding run_bytes
  run_bytes_ends g h [] m s all q = q
  run_bytes_ends g h (b ∷ l) (suc m) s all q = run_bytes_ends g h l m s (λ i. all (suc i)) q
  run_bytes_ends g h (b ∷ l) zero s all q = go (token b l) (token-small b l (all 0) (λ i. all (suc i))) (λ m t r. run_bytes_ends g h l m t (λ i. all (suc i)) r)
    where
      go : (k : Token) → SmallToken k → ((m : ℕ) (t : State) → Q t → Ends Q (run_bytes lim g l m t)) → Ends Q (consume lim g k s (run_bytes lim g l))
      go cut small on = tt
      go (number m z) small on = then_ends Q Q (push lim (double z) s) _ (S.number z small s q) (λ t r. r) (on m)
      go (operator m o) small on = then_ends Q Q (g o s) _ (h o s q) (λ t r. r) (on m)

  pub run_body_ends : (f : Font) → Bytes f.bank → (n : ℕ) (l : List ℕ) (s : State) → Bytes l → Q s → Ends Q (run_body lim f n l s)
  unfolding run_body
  run_body_ends f all zero l s b q = tt
  run_body_ends f all (suc n) l s b q = run_bytes_ends (execute lim f (run_body lim f n)) (execute_ends f (run_body lim f n) all (run_body_ends f all n)) (plain f.len_iv l) 0 s (plain-bytes f.len_iv l b) q

  pub run_ends : (f : Font) → Bytes f.bank → (l : List ℕ) (s : State) → Bytes l → Q s → Ends Q (run lim f l s)
  unfolding run
  run_ends f all l s b q = charged_body (run_body lim f _) l (λ t. run_body_ends f all _ l t b) s q
