-- `type1_to_type2::finished_program` meets its contract: it is the output's front part.
use mathlib.Core.Path.{sym, subst}
use Rattle.type1_to_type2.specs.FinishAnswer.{Front}
use Rattle.type1_to_type2.proofs.FinishingLaws.{front_of}
use Rattle.type1_to_type2.proofs.finished_program.Goals as goal

pub returns : goal.returns
returns c =
    record { result_value = c.front.ensures.result_value; ref_ptr_value = c.front.ensures.ref_ptr_value; front = λ x e h. subst (Front x c.args.len c.args.out.now) (sym c.front.ensures.result_value) (front_of x c.args.len c.args.out.now e h) }
