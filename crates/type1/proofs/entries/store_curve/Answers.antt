use native.Mathlib.Omega.{arith}
use mathlib.Core.Path.{refl}
use lib.Ieee.Fits.{and_l, and_r}
use lib.Ieee.Scale.{finite}
use lib.ListN.{length-set}
use Rattle.type1.proofs.Drawing.{stores-none, stores_curve}
use Rattle.type1.proofs.entries.store_curve.Goals as goal

pub returns-then-cmds-at-lt-ENTRY : goal.returns-then-cmds-at-lt-ENTRY
returns-then-cmds-at-lt-ENTRY c =
    record { stores = stores-none _ _ _ c.if-cmds-at-lt-ENTRY.true; refused = refl }

pub bits-requires : goal.bits-requires
bits-requires c = and_l (finite c.args.p.x) (finite c.args.p.y) c.requires.t.0

pub bounds-cmds-at-2 : goal.bounds-cmds-at-2
bounds-cmds-at-2 c =
    simp length-set (omega arith)

pub bits-requires-2 : goal.bits-requires-2
bits-requires-2 c = and_r (finite c.args.p.x) (finite c.args.p.y) c.requires.t.0

pub bounds-cmds-at-3 : goal.bounds-cmds-at-3
bounds-cmds-at-3 c =
    simp length-set (omega arith)

pub bits-requires-3 : goal.bits-requires-3
bits-requires-3 c = and_l (finite c.args.q.x) (finite c.args.q.y) c.requires.t.1.0

pub bounds-cmds-at-4 : goal.bounds-cmds-at-4
bounds-cmds-at-4 c =
    simp length-set (omega arith)

pub bits-requires-4 : goal.bits-requires-4
bits-requires-4 c = and_r (finite c.args.q.x) (finite c.args.q.y) c.requires.t.1.0

pub bounds-cmds-at-5 : goal.bounds-cmds-at-5
bounds-cmds-at-5 c =
    simp length-set (omega arith)

pub bits-requires-5 : goal.bits-requires-5
bits-requires-5 c = and_l (finite c.args.r.x) (finite c.args.r.y) c.requires.t.1.1

pub bounds-cmds-at-6 : goal.bounds-cmds-at-6
bounds-cmds-at-6 c =
    simp length-set (omega arith)

pub bits-requires-6 : goal.bits-requires-6
bits-requires-6 c = and_r (finite c.args.r.x) (finite c.args.r.y) c.requires.t.1.1

pub bounds-cmds-at-7 : goal.bounds-cmds-at-7
bounds-cmds-at-7 c =
    simp length-set (omega arith)

pub shape_of-cmds : goal.shape_of-cmds
shape_of-cmds c = simp length-set

pub returns : goal.returns
returns c =
    record { stores = rw (c.bits.ensures.0, c.bits-2.ensures.0, c.bits-3.ensures.0, c.bits-4.ensures.0, c.bits-5.ensures.0, c.bits-6.ensures.0) (stores_curve _ _ c.requires.k_in_bounds c.if-cmds-at-lt-ENTRY.false c.args.p.x c.args.p.y c.args.q.x c.args.q.y c.args.r.x c.args.r.y c.bits.ensures.1 c.bits-2.ensures.1 c.bits-3.ensures.1 c.bits-4.ensures.1 c.bits-5.ensures.1 c.bits-6.ensures.1); refused = tt }
