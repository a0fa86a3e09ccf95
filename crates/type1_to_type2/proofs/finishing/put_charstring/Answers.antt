-- `type1_to_type2::finishing::put_charstring` meets its contract.
use Rattle.std.proofs.Common.{rules, ◌≡◌, ◌∙◌, sym, ap, subst, arith, length, ℕ, ◌+◌, refl}
use Rattle.std.proofs.lemmas.Result.{err_from_is_err_and}
use Rattle.std.proofs.lemmas.Slice.{take-put_mid}
use Rattle.std.specs.Prelude.{Result, Err}
use Rattle.refusal.specs.declared.Refusal.{Refusal}
use Rattle.type1_to_type2.specs.Finish.{finish}
use Rattle.type1_to_type2.specs.FinishAnswer.{Wrote}
use Rattle.type1_to_type2.proofs.FinishingLaws.{width_refused, at_within, no_room, charstring_written}
use Rattle.type1_to_type2.proofs.finishing.put_charstring.Goals as goal

pub returns-in_err-at : goal.returns-in_err-at
returns-in_err-at c =
    let p = err_from_is_err_and c.from_residual.result c.from_residual.ensures.1 in
    let a = c.args in
    subst (λ (r : Result ℕ Refusal). Wrote (length a.out.now) (finish a.width a.program.now a.widths (length a.out.now)) r c.push_width.new.out) (sym (p.1 ∙ ap (λ (e : Refusal). Err e) p.2))
    (width_refused _ _ _ _ _ _ c.in_err-at.ensures (search rules))

pub overflow_sub-out : goal.overflow_sub-out
overflow_sub-out c = let w = at_within c.args.out.now c.args.width c.args.widths c.args.program.now _ _ c.in_ok-at.ensures in omega arith

pub returns-then-out-at : goal.returns-then-out-at
returns-then-out-at c =
    no_room _ _ _ _ _ _ c.in_ok-at.ensures c.if-out-at.true

pub slice_bounds-copy-end : goal.slice_bounds-copy-end
slice_bounds-copy-end c = let w = at_within c.args.out.now c.args.width c.args.widths c.args.program.now _ _ c.in_ok-at.ensures in omega arith

pub returns : goal.returns
returns c =
    let w = at_within c.args.out.now c.args.width c.args.widths c.args.program.now _ _ c.in_ok-at.ensures in
    let same = c.copy.ensures in
    charstring_written _ _ _ _ _ _ c.in_ok-at.ensures _ _ _ refl c.if-out-at.false (take-put_mid _ _ _ _ _ (ap (λ (k : ℕ). c.in_ok-at.at + k) (sym (ap length same))) w) same (search rules)
