use Rattle.type1_to_type2.proofs.CheckingLaws.{ended_first, first_refusal}
use mathlib.Core.Bool.{Bool, false}
use mathlib.Core.List.{[]}
use mathlib.Core.Path.{ap, ◌∙◌}
use Rattle.folding.specs.Folding as Folding
use Rattle.type1_to_type2.proofs.entry.end_program.Goals as goal

pub returns-in-Err : goal.returns-in-Err
returns-in-Err c =
    let first = first_refusal c.in-Err.refused c.unwrap_or.result _ _ _ _ c.number.ensures (c.refusal-number.ensures ∙ ap (λ (b : Bool). Folding.refusal 0 c.number.result b) c.finite_points-finite.ensures) c.try_from.ensures c.unwrap_or.ensures in
    ended_first _ _ _ _ c.in-Err.refused c.unwrap_or.result _ (c.in-Err.ensures false []) first
