-- What was collected is the plan's, and what the parts answer is the conversion of what the run has left.
use Rattle.std.proofs.Common.{refl, sym, ap, ◌∙◌, subst, arith}
use Rattle.std.specs.Result.{result_unwrap_or}
use Rattle.type1_to_type2.specs.Passes.{Stored}
use Rattle.type1_to_type2.proofs.RunLaws.{planned-few, planned-tables, run_after}
use Rattle.type1_to_type2.proofs.entry.convert_run.Goals as goal

pub begin_program-w-requires : goal.begin_program-w-requires
begin_program-w-requires c =
    planned-few c.args.m c.new-fold.result c.new-fold.ensures c.args.r c.args.commands.now c.args.stems.now 0 _ _ _ _ c.and-planned.ensures c.make_plan.ensures

pub write_all-v-requires : goal.write_all-v-requires
write_all-v-requires c =
    let n = c.requires.1 in (
      subst (Stored c.args.r.entries c.args.commands.now) (sym c.collect_all-c.ensures.0) c.requires.0,
      (planned-tables c.args.m c.new-fold.result c.new-fold.ensures c.args.r c.args.commands.now c.args.stems.now 0 _ _ _ _ _ _ _ _ _ _ _ _ n.across_len n.upright_len c.none_collected.ensures c.collect_all-c.ensures.1 c.and-planned.ensures (c.unwrap_or-p.ensures ∙ ap (result_unwrap_or c.and-planned.result) c.nothing_planned.ensures) c.make_plan.ensures, n.places_len),
    )

pub returns : goal.returns
returns c =
    let n = c.requires.1 in (
      c.write_all-v.ensures.0 ∙ c.collect_all-c.ensures.0,
      (
        refl,
        run_after c.args.m c.new-fold.result c.new-fold.ensures c.args.r c.args.commands.now c.args.stems.now _ _ _ _ _ _ _ _ _ _ _ _ _ _ _ _ _ _ _ _ n.across_len n.upright_len c.count_groups-k.ensures c.none_collected.ensures c.collect_all-c.ensures.1 c.make_plan.ensures c.and-planned.ensures (c.unwrap_or-p.ensures ∙ ap (result_unwrap_or c.and-planned.result) c.nothing_planned.ensures) c.begin_program-w.ensures.opens c.collect_all-c.ensures.0 c.write_all-v.ensures.1 (omega arith) c.end_program.ensures c.and.ensures,
      ),
    )
