-- `charstring::Cursor::next` meets its contract.
use Rattle.std.proofs.Common.{◌≡◌, ℕ, ◌+◌, ◌<◌, cond, List, length, get_or, sym, ◌∙◌, Some, ltb-true, ltb-false, arith}
use Rattle.charstring.specs.declared.Cursor.{Cursor}
use Rattle.charstring.specs.Cipher.{step, byte_of}
use Rattle.charstring.specs.Cursor.{read, byte_at, after}
use Rattle.charstring.specs.Laws.{read_none, read_more}
use Rattle.charstring.proofs.Cursor.next.Goals as goal
use Rattle.charstring.proofs.Cursor.next.Goals.{then-self, else-self}

read_by :
    (k : Cursor) (code : List ℕ) (x b r : ℕ) → k.at < length code → x ≡ get_or code k.at 0 → b ≡ byte_of x k.key k.encrypted
    → r ≡ cond k.encrypted (step x k.key) k.key → Some (b, record { at = k.at + 1; key = r; encrypted = k.encrypted }) ≡ read k code
unfolding byte_at after
read_by k code x b r h e p q = rw (read_more k code h, p, q, e)

pub returns-in_err-c : goal.returns-in_err-c
returns-in_err-c c = c.from_residual.ensures ∙ sym (read_none _ _ (ltb-false _ _ (sym c.in_err-c.ensures.lookup.0)))

pub returns : goal.returns
returns c =
    let k = c.args.self in
    let code = c.args.code.now in
    let x = c.in_ok-c.field-0.now in
    let h : k.at < length code = ltb-true _ _ (sym c.in_ok-c.ensures.lookup.0) in
    let next : c.if-self.key ≡ cond k.encrypted (step x k.key) k.key =
    elim c.if-self.branch [ then-self w ↦ rw w.if-self.true (w.key-is ∙ w.next_key-key.ensures) | else-self w ↦ rw w.if-self.false w.key-is ] in
    read_by k code x _ _ h (c.in_ok-c.ensures.lookup.4 (omega arith) 0) c.byte_of-b.ensures next
