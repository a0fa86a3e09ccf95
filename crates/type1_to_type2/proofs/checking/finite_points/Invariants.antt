use mathlib.Core.Path.{◌≡◌}
use mathlib.Core.Bool.{true}
use Rattle.outline.specs.Store.{drawn_in}
use Rattle.folding.specs.Folding.{folded_list, finite_list}
use Rattle.type1_to_type2.proofs.checking.finite_points.Given as goal

abbrev pub invariant-loop-e : goal.invariant-loop-e
invariant-loop-e l =
    true ≡ finite_list (folded_list l.fold (drawn_in l.e l.commands))
