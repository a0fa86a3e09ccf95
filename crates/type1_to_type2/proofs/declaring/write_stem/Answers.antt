-- `type1_to_type2::declaring::write_stem` meets its contract.
use native.Mathlib.Omega.{arith}
use mathlib.Core.Path.{ap₂, ◌∙◌}
use lib.Ieee.{binary64, add}
use Rattle.type1_to_type2.proofs.StemTables.{stem-written, one_less}
use Rattle.type1_to_type2.proofs.declaring.write_stem.Goals as goal

pub returns : goal.returns
returns c =
    let s = c.begin_stem-b.ensures.still in
    let t = c.put_number-first.ensures.still in
    let u = c.put_number-second.ensures.still in
    record {
      then = stem-written _ c.args.x _ c.begin_stem-b.ensures (ap₂ (add binary64) c.quantize.ensures c.quantize-2.ensures) c.put_number-first.ensures.puts c.put_number-first.ensures.v_value c.put_number-second.ensures.puts c.put_number-second.ensures.v_value;
      still = record { x = u.x ∙ t.x ∙ s.x; y = u.y ∙ t.y ∙ s.y; waits = u.waits ∙ t.waits ∙ s.waits; held = u.held ∙ t.held ∙ s.held };
      few = one_less _ (c.begin_stem-b.ensures.few c.requires);
      same = c.put_number-second.ensures.puts.same ∙ c.put_number-first.ensures.puts.same ∙ c.begin_stem-b.ensures.same;
    }

pub overflow_sub-result : goal.overflow_sub-result
overflow_sub-result c = omega (arith, c.begin_stem-b.ensures.some)
