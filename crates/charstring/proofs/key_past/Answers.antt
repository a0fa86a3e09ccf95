-- `charstring::key_past` meets its contract: the key is that after the bytes before c.
use Rattle.std.proofs.Common.{get_or, take, sym, ap, ◌∙◌, arith}
use Rattle.std.proofs.lemmas.List.{take_more}
use Rattle.charstring.specs.Cipher.{start_key, step}
use Rattle.charstring.specs.Laws.{key_more}
use Rattle.charstring.proofs.key_past.Goals as goal

pub loop-c-preserved : goal.loop-c-preserved
loop-c-preserved c =
    let bytes = c.args.bytes.now in
    let i = c.loop-c.c-index in
    c.next_key-key.ensures ∙ ap (step (get_or bytes i 0)) c.loop-c.invariant ∙ sym (rw (take_more bytes i 0 (omega arith)) (key_more start_key (get_or bytes i 0) (take i bytes)))
