use native.Mathlib.Omega.{arith}
use mathlib.Core.Path.{refl}
use lib.Ieee.Fits.{and_l, and_r}
use lib.Ieee.Scale.{finite}
use lib.ListN.{length-set}
use Rattle.type1.proofs.Drawing.{stores-none, stores-point}
use Rattle.type1.proofs.entries.store_point.Goals as goal

pub returns-then-cmds-at-lt-ENTRY : goal.returns-then-cmds-at-lt-ENTRY
returns-then-cmds-at-lt-ENTRY c =
    record { stores = stores-none _ _ _ c.if-cmds-at-lt-ENTRY.true; refused = refl }

pub bits-requires : goal.bits-requires
bits-requires c = and_l (finite c.args.p.x) (finite c.args.p.y) c.requires.t

pub bounds-cmds-at-2 : goal.bounds-cmds-at-2
bounds-cmds-at-2 c =
    simp length-set (omega arith)

pub bits-requires-2 : goal.bits-requires-2
bits-requires-2 c = and_r (finite c.args.p.x) (finite c.args.p.y) c.requires.t

pub bounds-cmds-at-3 : goal.bounds-cmds-at-3
bounds-cmds-at-3 c =
    simp length-set (omega arith)

pub returns : goal.returns
returns c =
    record { stores = rw (c.bits.ensures.0, c.bits-2.ensures.0) (stores-point _ _ c.requires.k_in_bounds c.if-cmds-at-lt-ENTRY.false _ c.args.p.x c.args.p.y c.bits.ensures.1 c.bits-2.ensures.1 c.requires.kind_nonzero.0 c.requires.kind_nonzero.1); refused = tt }
