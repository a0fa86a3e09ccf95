use Rattle.type1_to_type2.proofs.CheckingLaws.{planned}
use Rattle.type1_to_type2.proofs.entry.make_plan.Goals as goal
use Rattle.std.proofs.Common.{rules}

pub returns : goal.returns
returns c = planned _ _ _ _ _ _ _ c.requires c.fold_width-width.ensures c.is_finite.ensures c.if-not-is_finite.false (search rules) (c.dropped-d.ensures.value, c.dropped-d.ensures.upright_bound) c.need_masks.ensures
