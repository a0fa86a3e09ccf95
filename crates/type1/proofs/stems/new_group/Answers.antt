use mathlib.Core.Path.{◌∙◌}
use native.Mathlib.Omega.{arith}
use lib.ListN.{length-set}
use Rattle.type1.proofs.Store.{wrote_3}
use Rattle.type1.proofs.Groups.{no_group, made_in, grown_same, space_same, grown_group, group_room, refused_not, goes-settled}
use Rattle.type1.proofs.stems.new_group.Goals as goal

pub returns-then-f-ne0 : goal.returns-then-f-ne0
returns-then-f-ne0 c =
    record { meets = λ m s q H. no_group _ _ s H _ _ _ _ _ (c.flow_of-f.ensures ∙ c.new_group.ensures) c.if-f-ne0.true c.made.ensures; changed_value = (λ z. refused_not _ _ _ c.made.ensures c.if-f-ne0.true z, space_same _ _ _ _ c.made.ensures); grown = grown_same _ _ _ _ _ c.made.ensures c.requires.bounds c.requires.stems_le_room }

pub bounds-cmds-at : goal.bounds-cmds-at
bounds-cmds-at c =
    let G = group_room _ _ _ _ _ _ _ (c.flow_of-f.ensures ∙ c.new_group.ensures) c.if-f-ne0.false in omega (arith, G.2)

pub bounds-cmds-at-2 : goal.bounds-cmds-at-2
bounds-cmds-at-2 c =
    let G = group_room _ _ _ _ _ _ _ (c.flow_of-f.ensures ∙ c.new_group.ensures) c.if-f-ne0.false in simp length-set (omega (arith, G.2))

pub bounds-cmds-at-3 : goal.bounds-cmds-at-3
bounds-cmds-at-3 c =
    let G = group_room _ _ _ _ _ _ _ (c.flow_of-f.ensures ∙ c.new_group.ensures) c.if-f-ne0.false in simp length-set (omega (arith, G.2))

pub overflow_add-s-2 : goal.overflow_add-s-2
overflow_add-s-2 c =
    let G = group_room _ _ _ _ _ _ _ (c.flow_of-f.ensures ∙ c.new_group.ensures) c.if-f-ne0.false in omega (arith, G.1)

pub returns : goal.returns
returns c =
    let G = group_room _ _ _ _ _ _ _ (c.flow_of-f.ensures ∙ c.new_group.ensures) c.if-f-ne0.false in
    record { meets = λ m s q H. made_in _ _ s _ q H _ _ c.made-2.ensures (wrote_3 _ _ _ _ _ (omega (arith, G.2))) G.0 G.1 G.2; changed_value = (λ z. goes-settled c.args.st _ c.made-2.ensures, λ z. G.1); grown = grown_group _ _ _ _ c.made-2.ensures c.requires.bounds G.0 G.1 G.2 }
