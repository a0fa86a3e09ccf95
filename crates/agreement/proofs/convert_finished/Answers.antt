-- `agreement::convert_finished` meets its contract: it converts, finishes and wipes the program. Assumes nothing.
use Rattle.std.proofs.Common.{ap, ◌∙◌, replicate, ℕ}
use Rattle.std.proofs.Math.Facts.{Fits-lt-pow}
use Rattle.type1.specs.Interpret.{source_of}
use Rattle.agreement.proofs.FinishedLaws.{converts_finished}
use Rattle.agreement.proofs.convert_finished.Goals as goal

pub returns : goal.returns
returns c =
    let l = c.convert_charstring_transformed-g.auto.out in
    converts_finished (source_of c.args.charstring.now c.args.bank.now) _ _ _ _ _ c.convert_charstring_transformed-g.result _ _ _ _ _ _ (λ i. Fits-lt-pow (c.type_inv.charstring i)) (λ i. Fits-lt-pow (c.type_inv.bank i))
    c.convert_charstring_transformed-g.ensures l c.finish_glyph-r.ensures (c.wipe_bytes.ensures ∙ ap (λ (k : ℕ). replicate k 0) l)
