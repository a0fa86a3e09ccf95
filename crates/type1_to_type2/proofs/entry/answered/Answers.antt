-- What is told of a run, with the number so far.
use Rattle.std.proofs.Common.{ℕ, length, sym, ap, ◌∙◌, subst, true}
use Rattle.type1_to_type2.specs.declared.Type2Glyph.{Type2Glyph}
use Rattle.type1_to_type2.specs.Entry.{Answers, from_run}
use Rattle.folding.specs.Folding as Folding
use Rattle.type1_to_type2.proofs.RunLaws.{told_glyph, told_refused}
use Rattle.type1_to_type2.proofs.entry.answered.Goals as goal

pub returns-in-Ok : goal.returns-in-Ok
returns-in-Ok c =
    let a = c.args in
    let e = c.in-Ok.ensures in
    (e.0, (e.1.0, told_glyph a.m (length a.out.now) a.r a.commands.now a.stems.now a.number _ c.in-Ok.g _ c.early.ensures e.1.1))

pub returns-in-Err : goal.returns-in-Err
returns-in-Err c =
    let a = c.args in
    let room = length a.out.now in
    let e = c.in-Err.ensures in
    let first = c.refusal.ensures ∙ ap (λ (j : ℕ). Folding.refusal a.number j true) c.number.ensures in (
      e.0,
      (
        e.1.0,
        subst (λ (g : Type2Glyph). Answers (from_run a.number a.m room a.r a.commands.now a.stems.now) room g c.convert_stored.new.out) (sym c.refuse.ensures)
            (told_refused a.m room a.r a.commands.now a.stems.now a.number _ c.in-Err.e _ _ c.early.ensures e.1.1 first),
      ),
    )
