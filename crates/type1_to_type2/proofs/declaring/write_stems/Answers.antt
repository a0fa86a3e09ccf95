-- `type1_to_type2::declaring::write_stems` meets its contract.
use native.Mathlib.Omega.{arith}
use mathlib.Core.Path.{refl, ◌∙◌}
use lib.Ieee.{of_bits}
use Rattle.type1_to_type2.proofs.StemTables.{stem_again, stems_full, stems_last}
use Rattle.type1_to_type2.proofs.declaring.write_stems.Goals as goal

pub loop-i-init : goal.loop-i-init
loop-i-init c =
    (λ f. refl, (record { x = refl; y = refl; waits = refl; held = refl }, (refl, omega arith)))

pub write_stem-s-requires : goal.write_stem-s-requires
write_stem-s-requires c =
    c.loop-i.invariant.1.1.1

pub loop-i-preserved : goal.loop-i-preserved
loop-i-preserved c =
    let s = c.write_stem-s.ensures.still in
    let q = c.loop-i.invariant.1.0 in (
      stem_again c.args.op c.args.n c.loop-i.i c.args.horizontal c.args.table.now _ _ (omega arith) c.table_stem-x.ensures c.write_stem-s.ensures c.loop-i.invariant.0,
      (record { x = s.x ∙ q.x; y = s.y ∙ q.y; waits = s.waits ∙ q.waits; held = s.held ∙ q.held }, (c.write_stem-s.ensures.same ∙ c.loop-i.invariant.1.1.0, c.write_stem-s.ensures.few)),
    )

pub shape_of-out-then-s-eq23 : goal.shape_of-out-then-s-eq23
shape_of-out-then-s-eq23 c =
    c.loop-i.invariant.1.1.0

pub returns-then-s-eq23 : goal.returns-then-s-eq23
unfolding of_bits
returns-then-s-eq23 c =
    record { puts = record { then = λ f. stems_full c.loop-i.s _ c.args.op c.args.n c.loop-i.i c.args.horizontal c.args.table.now (omega arith) c.if-s-eq23.true f ∙ c.loop-i.invariant.0 f; same = c.loop-i.invariant.1.1.0 }; still = c.loop-i.invariant.1.0 }

pub put_byte-requires : goal.put_byte-requires
put_byte-requires c =
    tt

pub shape_of-out : goal.shape_of-out
shape_of-out c =
    c.put_byte.ensures.puts.same ∙ c.loop-i.invariant.1.1.0

pub returns : goal.returns
unfolding of_bits
returns c =
    let s = c.put_byte.ensures.still in
    let q = c.loop-i.invariant.1.0 in record { puts = record { then = λ f. stems_last c.loop-i.s c.args.op c.args.n c.loop-i.i c.args.horizontal c.args.table.now (omega arith) c.if-s-eq23.false c.put_byte.ensures.puts f ∙ c.loop-i.invariant.0 f; same = c.put_byte.ensures.puts.same ∙ c.loop-i.invariant.1.1.0 }; still = record { x = s.x ∙ q.x; y = s.y ∙ q.y; waits = s.waits ∙ q.waits; held = s.held ∙ q.held } }
