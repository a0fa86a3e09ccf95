use native.Mathlib.Omega.{arith}
use mathlib.Core.Path.{refl, ap, ◌∙◌}
use Rattle.refusal.specs.Refusal.{number_of}
use Rattle.type1.specs.Small.{ran_of}
use Rattle.type1.proofs.Store.{plain_same, plain_more, entered_same, entered_more}
use Rattle.type1.proofs.Drawing.{entered_so, entered_not}
use Rattle.type1.proofs.entries.enter_point.Goals as goal

pub returns-in-Ok : goal.returns-in-Ok
returns-in-Ok c =
    record { meets = λ m s room H. entered_so _ _ _ _ _ _ c.in-Ok.ensures.stores refl c.made.ensures m s room H; plain = plain_more _ _ _ c.made.ensures; entered = entered_more c.args.st _ _ c.made.ensures (let z = c.in-Ok.ensures.stores.space refl in omega arith) }

pub returns-in-Err : goal.returns-in-Err
returns-in-Err c =
    let e = c.made-in-Err.ensures ∙ ap (ran_of c.args.st) (c.number.ensures ∙ ap number_of c.in-Err.ensures.refused) in
    record { meets = λ m s room H. entered_not _ _ _ _ _ _ c.in-Err.ensures.stores refl e m s room H; plain = plain_same _ _ 17 e; entered = entered_same _ _ 17 _ e }
