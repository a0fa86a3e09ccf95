-- `type1::stems::all_same` meets its contract.
use native.Mathlib.Omega.{arith}
use Rattle.type1.proofs.Hints.{same_begun, same_turn, same_stop}
use Rattle.type1.proofs.stems.all_same.Goals as goal

pub loop-i-init : goal.loop-i-init
loop-i-init c = same_begun c.args.stems.now c.args.first c.args.edges.now c.args.across.now

pub returns-then-not-same_stem : goal.returns-then-not-same_stem
returns-then-not-same_stem c =
    same_stop c.args.stems.now c.args.first c.args.edges.now c.args.across.now _ _ _ _ (omega (arith, c.requires.1)) c.stem_at.ensures c.same_stem.ensures _ c.loop-i-test.true c.requires.1 c.if-not-same_stem.true

pub loop-i-preserved : goal.loop-i-preserved
loop-i-preserved c =
    same_turn c.args.stems.now c.args.first c.args.edges.now c.args.across.now _ _ _ _ (omega (arith, c.requires.1)) c.stem_at.ensures c.same_stem.ensures c.if-not-same_stem.false c.loop-i.invariant
