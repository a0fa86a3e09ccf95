use Rattle.type1.proofs.PathLaws.{lists_stop, lists_on, path_enter, grown_enter}
use Rattle.type1.proofs.paths.list_point.Goals as goal

pub returns-then-c-ne0 : goal.returns-then-c-ne0
returns-then-c-ne0 c =
    record { step = lists_stop _ _ _ _ _ _ _ c.commit-c.ensures.step c.if-c-ne0.true; path = c.commit-c.ensures.path; grown = c.commit-c.ensures.grown }

pub returns : goal.returns
returns c =
    record { step = lists_on _ _ _ _ _ _ _ _ _ c.commit-c.ensures.step c.if-c-ne0.false c.cmds-1.given c.enter_point.ensures.meets c.enter_point.ensures.plain; path = path_enter _ _ _ _ c.commit-c.ensures.path c.if-c-ne0.false c.enter_point.ensures.plain; grown = grown_enter _ _ _ _ _ _ c.commit-c.ensures.grown c.enter_point.ensures.plain c.enter_point.ensures.entered c.cmds-1.given }
