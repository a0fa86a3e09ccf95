use Rattle.type1.proofs.PathLaws.{curve_open, curve_stop, curve_move, space_of, space_move}
use Rattle.type1.proofs.paths.curve_by.Goals as goal

pub returns-then-st : goal.returns-then-st
returns-then-st c =
    record { step = curve_open _ c.args.st _ _ _ _ _ _ _ _ _ _ c.if-st.true c.curve_to.ensures.step; space = space_of _ _ _ c.curve_to.ensures.path }

pub returns-then-o-ne0 : goal.returns-then-o-ne0
returns-then-o-ne0 c =
    record { step = curve_stop _ c.args.st _ _ _ _ _ _ _ _ _ _ c.if-st.false c.open_subpath-o.ensures.step c.if-o-ne0.true; space = space_of _ _ _ c.open_subpath-o.ensures.path }

pub returns : goal.returns
returns c = record {
  step = curve_move _ c.args.st _ _ _ _ _ _ _ _ _ c.open_subpath-o.result _ _ c.if-st.false
      c.open_subpath-o.ensures.step c.if-o-ne0.false c.open_subpath-o.ensures.path c.cmds-2-1.given c.curve_to-2.ensures.step
      c.curve_to-2.ensures.path;
  space = space_move _ c.open_subpath-o.result _ _ c.open_subpath-o.ensures.path c.if-o-ne0.false c.curve_to-2.ensures.path;
}
