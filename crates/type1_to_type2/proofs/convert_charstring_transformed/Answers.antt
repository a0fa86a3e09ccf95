-- What the run leaves is stored, and what is left of it is converted.
use Rattle.std.proofs.Common.{◌≡◌, ℕ, ◌∙◌, ap, length, replicate, arith}
use Rattle.outline.specs.Outline.{zero_stem}
use Rattle.type1.specs.Interpret.{source_of, outcome}
use Rattle.type1_to_type2.proofs.RunLaws.{left_stored, entry_answers}
use Rattle.type1_to_type2.proofs.convert_charstring_transformed.Goals as goal

pub answered-g-requires : goal.answered-g-requires
answered-g-requires c =
    let a = c.args in
    left_stored _ _ _ a.commands.now a.stems.now (outcome (source_of a.charstring.now a.bank.now) a.reading (length a.stems.now) (length a.commands.now)) c.run_charstring-r.ensures

pub returns : goal.returns
returns c =
    let records : length c.answered-g.new.stems ≡ length c.args.stems.now = omega arith in
    let words : length c.answered-g.new.commands ≡ length c.args.commands.now = omega arith in
    let bytes : length c.answered-g.new.out ≡ length c.args.out.now = omega arith in
    entry_answers _ _ _ _ _ c.args.out.now _ _ _ c.run_charstring-r.ensures _ c.first_number.ensures _ c.answered-g.new.stems c.answered-g.new.commands _ c.answered-g.ensures.1.1 _ _ (c.wipe.ensures ∙ ap (λ (n : ℕ). replicate n zero_stem) records) (c.wipe_words.ensures ∙ ap (λ (n : ℕ). replicate n 0) words)
