use Rattle.type1.proofs.PathLaws.{line_open, line_stop, line_move, space_of, space_move}
use Rattle.type1.proofs.paths.line_by.Goals as goal

pub returns-then-st : goal.returns-then-st
returns-then-st c =
    record { step = line_open _ c.args.st _ _ _ _ _ _ c.if-st.true c.line_to.ensures.step; space = space_of _ _ _ c.line_to.ensures.path }

pub returns-then-o-ne0 : goal.returns-then-o-ne0
returns-then-o-ne0 c =
    record { step = line_stop _ c.args.st _ _ _ _ _ _ c.if-st.false c.open_subpath-o.ensures.step c.if-o-ne0.true; space = space_of _ _ _ c.open_subpath-o.ensures.path }

pub returns : goal.returns
returns c = record {
  step = line_move _ c.args.st _ _ _ _ _ c.open_subpath-o.result _ _ c.if-st.false
      c.open_subpath-o.ensures.step c.if-o-ne0.false c.open_subpath-o.ensures.path c.cmds-2-1.given c.line_to-2.ensures.step
      c.line_to-2.ensures.path;
  space = space_move _ c.open_subpath-o.result _ _ c.open_subpath-o.ensures.path c.if-o-ne0.false c.line_to-2.ensures.path;
}
