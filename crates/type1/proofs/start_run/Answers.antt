use mathlib.Core.Path.{◌∙◌}
use Rattle.type1.proofs.EntryLaws.{flow_is}
use Rattle.type1.proofs.start_run.Goals as goal

pub returns : goal.returns
returns c =
    flow_is _ _ _ _ _ c.made.ensures c.zero_state-st.ensures (c.flow_of.ensures ∙ c.refused_before.ensures)
