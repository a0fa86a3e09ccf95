use Rattle.type1.proofs.Store.{flex_length}
use lib.Ieee.{binary64, to_bits}
use Rattle.type1.proofs.Store.{no_nan, enter_full, flex_entered, plain_same, plain_more}
use native.Mathlib.Omega.{arith}
use mathlib.Core.Path.{sym, subst}
use lib.ListN.{length-set}
use lib.Dec.{T}
use Prim.Native.Nat.{◌*◌}
use Rattle.type1.proofs.entries.enter_flex.Goals as goal

pub returns-then-cmds-at-lt-ENTRY : goal.returns-then-cmds-at-lt-ENTRY
returns-then-cmds-at-lt-ENTRY c =
    record { meets = λ m s room H. enter_full _ _ s H room _ _ c.made.ensures c.if-cmds-at-lt-ENTRY.true; plain = plain_same _ _ 17 c.made.ensures }

pub put_point-requires : goal.put_point-requires
put_point-requires c =
    (omega (arith, c.requires.entries_in_bounds, c.if-cmds-at-lt-ENTRY.false, length-set c.args.cmds.now (14 * c.args.st.entries) 4), c.requires.good_point.0)

pub put_point-requires-2 : goal.put_point-requires-2
put_point-requires-2 c =
    (omega (arith, c.requires.entries_in_bounds, c.if-cmds-at-lt-ENTRY.false, length-set c.args.cmds.now (14 * c.args.st.entries) 4, c.cmds-1.given), c.requires.good_point.1.0)

pub overflow_add-at-3 : goal.overflow_add-at-3
overflow_add-at-3 c =
    omega (arith, c.requires.entries_in_bounds, c.if-cmds-at-lt-ENTRY.false, c.well_formed.1.1.1.1.1.1.1.1)

pub put_point-requires-3 : goal.put_point-requires-3
put_point-requires-3 c =
    (omega (arith, c.requires.entries_in_bounds, c.if-cmds-at-lt-ENTRY.false, length-set c.args.cmds.now (14 * c.args.st.entries) 4, c.cmds-1.given, c.cmds-2-1.given), c.requires.good_point.1.1)

pub overflow_add-at-4 : goal.overflow_add-at-4
overflow_add-at-4 c =
    omega (arith, c.requires.entries_in_bounds, c.if-cmds-at-lt-ENTRY.false, c.well_formed.1.1.1.1.1.1.1.1)

pub put_point-requires-4 : goal.put_point-requires-4
put_point-requires-4 c =
    (omega (arith, c.requires.entries_in_bounds, c.if-cmds-at-lt-ENTRY.false, length-set c.args.cmds.now (14 * c.args.st.entries) 4, c.cmds-1.given, c.cmds-2-1.given, c.cmds-3-1.given), c.requires.good_point_2.0)

pub overflow_add-at-5 : goal.overflow_add-at-5
overflow_add-at-5 c =
    omega (arith, c.requires.entries_in_bounds, c.if-cmds-at-lt-ENTRY.false, c.well_formed.1.1.1.1.1.1.1.1)

pub put_point-requires-5 : goal.put_point-requires-5
put_point-requires-5 c = (
  omega (
    arith,
    c.requires.entries_in_bounds,
    c.if-cmds-at-lt-ENTRY.false,
    length-set c.args.cmds.now
        (14 * c.args.st.entries) 4,
    c.cmds-1.given,
    c.cmds-2-1.given,
    c.cmds-3-1.given,
    c.cmds-4-1.given,
  ),
  c.requires.good_point_2.1.0,
)

pub overflow_add-at-6 : goal.overflow_add-at-6
overflow_add-at-6 c =
    omega (arith, c.requires.entries_in_bounds, c.if-cmds-at-lt-ENTRY.false, c.well_formed.1.1.1.1.1.1.1.1)

pub put_point-requires-6 : goal.put_point-requires-6
put_point-requires-6 c = (
  omega (
    arith,
    c.requires.entries_in_bounds,
    c.if-cmds-at-lt-ENTRY.false,
    length-set c.args.cmds.now
        (14 * c.args.st.entries) 4,
    c.cmds-1.given,
    c.cmds-2-1.given,
    c.cmds-3-1.given,
    c.cmds-4-1.given,
    c.cmds-5-1.given,
  ),
  c.requires.good_point_2.1.1,
)

pub float_to_bits-cmds : goal.float_to_bits-cmds
float_to_bits-cmds c =
    no_nan _ c.requires.t

pub overflow_add-cmds : goal.overflow_add-cmds
overflow_add-cmds c =
    omega (arith, c.requires.entries_in_bounds, c.if-cmds-at-lt-ENTRY.false, c.well_formed.1.1.1.1.1.1.1.1)

pub offset_bounds-cmds-at-2 : goal.offset_bounds-cmds-at-2
offset_bounds-cmds-at-2 c =
    omega (arith, c.requires.entries_in_bounds, c.if-cmds-at-lt-ENTRY.false, c.well_formed.1.1.1.1.1.1.1.1)

pub bounds-cmds-at-2 : goal.bounds-cmds-at-2
bounds-cmds-at-2 c =
    omega (
      arith,
      c.requires.entries_in_bounds,
      c.if-cmds-at-lt-ENTRY.false,
      length-set c.args.cmds.now
          (14 * c.args.st.entries) 4,
      c.cmds-1.given,
      c.cmds-2-1.given,
      c.cmds-3-1.given,
      c.cmds-4-1.given,
      c.cmds-5-1.given,
      c.cmds-6-1.given,
    )

pub overflow_add-s : goal.overflow_add-s
overflow_add-s c =
    omega (arith, c.requires.entries_in_bounds, c.if-cmds-at-lt-ENTRY.false, c.well_formed.1.1.1.1.1.1.1.1)

pub shape_of-cmds : goal.shape_of-cmds
shape_of-cmds c =
    flex_length (14 * c.args.st.entries) (to_bits binary64 c.args.height)
    c.args.cmds.now _ _ _ _ _ _ c.args.p1 _ _ _ _ _ c.put_point.ensures
    c.put_point-2.ensures c.put_point-3.ensures c.put_point-4.ensures c.put_point-5.ensures c.put_point-6.ensures

pub returns : goal.returns
returns c = record {
  meets = λ m s room H. flex_entered _ _ s H room _ c.made-2.ensures
      c.if-cmds-at-lt-ENTRY.false _ _ _ _ _ _ _ _ _ _ _ _ _ c.put_point.ensures
      c.put_point-2.ensures c.put_point-3.ensures
      c.put_point-4.ensures c.put_point-5.ensures c.put_point-6.ensures
      c.requires.good_point
      c.requires.good_point_2 (subst T (sym c.well_formed.1.1.1.1.1.1.0.1) tt);
  plain = plain_more _ _ _ c.made-2.ensures;
}
