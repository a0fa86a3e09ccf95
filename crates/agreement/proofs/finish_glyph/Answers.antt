-- `agreement::finish_glyph` meets its contract.
use Rattle.std.proofs.Common.{◌≡◌, ℕ, ap, sym, ◌∙◌, subst, arith, refl}
use Rattle.std.specs.Prelude.{length, Ok, Err}
use Rattle.refusal.proofs.Numbers.{positive}
use Rattle.type1_to_type2.specs.FinishAnswer.{finished_of}
use Rattle.type1_to_type2.specs.declared.Type2Glyph.{Type2Glyph}
use Rattle.agreement.specs.Finished.{Finishes, refusal}
use Rattle.agreement.proofs.FinishedLaws.{is_finished, not_finished}
use Rattle.agreement.proofs.finish_glyph.Goals as goal

pub returns-in-Ok : goal.returns-in-Ok
returns-in-Ok c =
    is_finished _ _ c.args.program.now _ (finished_of (Ok c.in-Ok.len)) _ c.if-is_refused.false c.in-Ok.ensures.value c.in-Ok.ensures.out_after refl

pub returns-in-Err : goal.returns-in-Err
returns-in-Err c =
    let a = c.args in
    subst (λ (r : Type2Glyph). Finishes a.glyph a.widths a.program.now (length a.out.now) r c.charstring.new.out) (sym (c.refused-in-Err.ensures ∙ ap refusal c.number.ensures))
    (not_finished _ _ a.program.now _ (finished_of (Err c.in-Err.e)) _ c.if-is_refused.false c.in-Err.ensures.value c.in-Err.ensures.out_after (λ z. let p = positive c.in-Err.e in let y : ⊥ = omega (arith, p, z) in y))
