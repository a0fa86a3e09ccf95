-- `charstring::Cursor::new` meets its contract.
use Rattle.std.proofs.Common.{◌≡◌, ℕ, length, take, ap, ◌∙◌, sym, eq-eqb, ne_eqb}
use Rattle.std.proofs.lemmas.List.{length-take, take_min}
use Rattle.charstring.specs.Cipher.{start_key, key_after, not_encrypted}
use Rattle.charstring.specs.Cursor.{start}
use Rattle.charstring.proofs.Cursor.new.Goals as goal

pub returns-then-len_iv-eq-NOT_ENCRYPTED : goal.returns-then-len_iv-eq-NOT_ENCRYPTED
unfolding start
returns-then-len_iv-eq-NOT_ENCRYPTED c = rw (eq-eqb c.args.len_iv not_encrypted c.if-len_iv-eq-NOT_ENCRYPTED.true)

pub returns : goal.returns
unfolding start
returns c =
    let code = c.args.code.now in
    let n = c.args.len_iv in
    let p : c.min-at.result ≡ length (take n code) = c.min-at.ensures ∙ sym (length-take n code) in
    let q : c.key_past.result ≡ key_after start_key (take n code) = c.key_past.ensures ∙ ap (key_after start_key) (ap (λ (m : ℕ). take m code) c.min-at.ensures ∙ take_min n code) in
    rw (ne_eqb n not_encrypted c.if-len_iv-eq-NOT_ENCRYPTED.false, p, q)
