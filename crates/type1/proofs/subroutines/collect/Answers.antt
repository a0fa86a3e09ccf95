use borrow.Author.Tests.{not-true, not-false}
use Rattle.type1.proofs.Stacks.{collect-none, collect-kept, collect_more, groups-kept}
use Rattle.type1.proofs.subroutines.collect.Goals as goal

pub returns-then-not-st : goal.returns-then-not-st
returns-then-not-st c =
    record { meets = λ m s H. collect-none _ _ s H _ c.made.ensures (not-true _ c.if-not-st.true); groups_value = groups-kept _ _ 9 c.made.ensures }

pub returns-then-n-lt7 : goal.returns-then-n-lt7
returns-then-n-lt7 c =
    record { meets = λ m s H. collect-kept _ _ s H (not-false _ c.if-not-st.false) _ c.made-then-n-lt7.ensures c.if-n-lt7.true; groups_value = groups-kept _ _ 0 c.made-then-n-lt7.ensures }

pub returns : goal.returns
returns c =
    record { meets = λ m s H. collect_more _ _ s H (not-false _ c.if-not-st.false) _ c.made-2.ensures c.if-n-lt7.false; groups_value = groups-kept _ _ 0 c.made-2.ensures }
