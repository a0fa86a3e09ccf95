-- `type1::stems::is_last` meets its contract.
use mathlib.Core.Path.{refl, sym, subst, ◌∙◌}
use mathlib.Core.Bool.{Bool, not}
use lib.Dec.{T}
use Rattle.type1.proofs.Hints.{last_room, last_found, last_not}
use Rattle.type1.proofs.stems.is_last.Goals as goal

pub all_same-requires : goal.all_same-requires
all_same-requires c =
    (c.requires.0, last_room c.args.st c.args.stems.now c.args.edges.now c.args.across.now c.requires.1.0 c.requires.1.1 _ _ c.may_be_last.ensures refl (subst T (sym c.if-may_be_last.true) tt))

pub returns-then-may_be_last : goal.returns-then-may_be_last
returns-then-may_be_last c =
    last_found c.args.st c.args.stems.now c.args.edges.now c.args.across.now c.requires.1.0 c.requires.1.1 _ _ c.may_be_last.ensures refl (subst T (sym c.if-may_be_last.true) tt) _ c.all_same.ensures

pub returns-else-may_be_last : goal.returns-else-may_be_last
returns-else-may_be_last c =
    c.if-may_be_last.false ∙ last_not c.args.st c.args.stems.now c.args.edges.now c.args.across.now c.requires.1.0 c.requires.1.1 _ c.may_be_last.ensures (subst (λ (b : Bool). T (not b)) (sym c.if-may_be_last.false) tt)
