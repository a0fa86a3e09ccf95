use borrow.Author.Tests.{not-true, not-false}
use Rattle.type1.proofs.Groups.{commits_none, commits_last, commits_new, path_none, path_last, path_new, grown_same, grown_last}
use Rattle.type1.proofs.stems.commit.Goals as goal

pub returns-then-not-st : goal.returns-then-not-st
returns-then-not-st c =
    record { step = commits_none _ _ _ _ _ c.made.ensures (not-true _ c.if-not-st.true); path = path_none _ _ _ c.made.ensures (not-true _ c.if-not-st.true); grown = grown_same _ _ 0 _ _ c.made.ensures c.requires.bounds c.requires.stems_le_room }

pub returns-then-same : goal.returns-then-same
returns-then-same c =
    record { step = commits_last _ c.args.st _ _ _ c.made-then-same.ensures (not-false _ c.if-not-st.false) c.if-same.true; path = path_last c.args.st _ _ c.made-then-same.ensures; grown = grown_last c.args.st _ _ _ c.made-then-same.ensures c.requires.bounds c.requires.stems_le_room }

pub returns : goal.returns
returns c =
    record { step = commits_new _ _ _ _ _ _ (not-false _ c.if-not-st.false) c.if-same.false c.new_group.ensures.meets; path = path_new _ _ _ (not-false _ c.if-not-st.false) c.new_group.ensures.changed_value.0 c.new_group.ensures.changed_value.1; grown = c.new_group.ensures.grown }
