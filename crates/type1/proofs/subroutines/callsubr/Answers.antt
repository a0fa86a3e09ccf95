use Rattle.std.proofs.lemmas.Result.{err_from_is_err_and}
use Rattle.type1.proofs.Calls.{call_none, call_refused, call_goes}
use Rattle.type1.proofs.subroutines.callsubr.Goals as goal

pub returns-then-n-eq0 : goal.returns-then-n-eq0
returns-then-n-eq0 c =
    λ m s reading H. call_none _ reading _ _ s H c.if-n-eq0.true

pub returns-in_err-c : goal.returns-in_err-c
returns-in_err-c c =
    let p = err_from_is_err_and c.from_residual.result c.from_residual.ensures.1 in
    λ m s reading H. rw (p.1, p.2) (call_refused _ reading _ _ s H c.if-n-eq0.false c.requires.0 c.requires.1.1 c.in_err-c.ensures)

pub returns : goal.returns
returns c =
    λ m s reading H. call_goes _ reading _ _ s H c.if-n-eq0.false c.requires.0 c.requires.1.1 c.in_ok-c.ensures
