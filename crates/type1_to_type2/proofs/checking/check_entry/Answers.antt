use mathlib.Core.Path.{◌∙◌}
use Rattle.type1_to_type2.proofs.CheckingLaws.{identity-finite}
use Rattle.type1_to_type2.proofs.checking.check_entry.Goals as goal

pub returns-then-fold : goal.returns-then-fold
returns-then-fold c =
    c.if-fold.true ∙ identity-finite c.args.fold _ c.if-fold.true c.requires.all
