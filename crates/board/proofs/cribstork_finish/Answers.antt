use Prim.Native.Nat.{ℕ}
use mathlib.Core.List.{List, [], ◌∷◌}
use lib.ListN.{length, take, get_or}
use Rattle.type2.specs.declared.Widths.{Widths}
use Rattle.type1_to_type2.specs.Finish.{finish}
use Rattle.type1_to_type2.specs.FinishAnswer.{finished_answer, finished_output}
use Rattle.board.specs.Answers.{widths_of, finished_words}
use Rattle.type1_to_type2.specs.FinishAnswer.{Finished}
use mathlib.Core.Path.{ap, ◌∙◌}
use Rattle.board.proofs.Words.{finish_all}
use Rattle.board.proofs.cribstork_finish.Goals as goal

pub returns : goal.returns
returns c =
    let room = length c.args.out.now in
    let same =
    ap (λ (p : Widths). finish c.args.width (take (length c.args.program.now) c.args.program.now) p room) c.widths_of.ensures
    ∙ finish_all c.args.width c.args.program.now (widths_of c.args.default_width c.args.nominal_width) room in
    let answer = c.charstring-f.ensures.value ∙ ap finished_answer same in
    record {
      value = ap (λ (l : List ℕ). get_or l 0 0) c.finished_words-words.ensures ∙ ap (λ (y : Finished). y.number) answer;
      answer_after = ap (λ (l : List ℕ). get_or l 0 0 ∷ get_or l 1 0 ∷ []) c.finished_words-words.ensures ∙ ap finished_words answer;
      out_after = c.charstring-f.ensures.out_after ∙ ap (finished_output room) same;
    }
