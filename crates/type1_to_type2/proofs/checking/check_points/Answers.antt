use borrow.Author.Rules.{rules}
use mathlib.Core.Path.{◌≡◌, refl, sym, ap, ◌∙◌}
use mathlib.Core.Bool.{Bool, true, false, ◌&&◌}
use Rattle.type1_to_type2.proofs.Coordinates.{and_then, and_else, three_left, six_left, good_move, good_line, good_curve, good_flex, fine, fine_move, fine_line, fine_curve, fine_flex, fine-none}
use Rattle.type1_to_type2.proofs.checking.check_points.Goals as goal
use Rattle.type1_to_type2.proofs.checking.check_points.Goals.{then-check_point, else-check_point, then-check_point-3, else-check_point-3, then-check_point-4, else-check_point-4, then-check_point-5, else-check_point-5, then-check_point-6, else-check_point-6}

pub check_point-requires-in-3-clause-good : goal.check_point-requires-in-3-clause-good
check_point-requires-in-3-clause-good c =
    (good_curve c.args.commands.now c.args.e c.requires.all c.in-3.is).0

pub check_point-requires-then-check_point-clause-good : goal.check_point-requires-then-check_point-clause-good
check_point-requires-then-check_point-clause-good c =
    (good_curve c.args.commands.now c.args.e c.requires.all c.in-3.is).1.0

pub check_point-requires-then-check_point-2-clause-good : goal.check_point-requires-then-check_point-2-clause-good
check_point-requires-then-check_point-2-clause-good c =
    (good_curve c.args.commands.now c.args.e c.requires.all c.in-3.is).1.1

pub check_point-requires-in-4-clause-good : goal.check_point-requires-in-4-clause-good
check_point-requires-in-4-clause-good c =
    (good_flex c.args.commands.now c.args.e c.requires.all c.in-4.is).0

pub check_point-requires-then-check_point-3-clause-good : goal.check_point-requires-then-check_point-3-clause-good
check_point-requires-then-check_point-3-clause-good c =
    (good_flex c.args.commands.now c.args.e c.requires.all c.in-4.is).1.0

pub check_point-requires-then-check_point-4-clause-good : goal.check_point-requires-then-check_point-4-clause-good
check_point-requires-then-check_point-4-clause-good c =
    (good_flex c.args.commands.now c.args.e c.requires.all c.in-4.is).1.1.0

pub check_point-requires-then-check_point-5-clause-good : goal.check_point-requires-then-check_point-5-clause-good
check_point-requires-then-check_point-5-clause-good c =
    (good_flex c.args.commands.now c.args.e c.requires.all c.in-4.is).1.1.1.0

pub check_point-requires-then-check_point-6-clause-good : goal.check_point-requires-then-check_point-6-clause-good
check_point-requires-then-check_point-6-clause-good c =
    (good_flex c.args.commands.now c.args.e c.requires.all c.in-4.is).1.1.1.1.0

pub check_point-requires-then-check_point-7-clause-good : goal.check_point-requires-then-check_point-7-clause-good
check_point-requires-then-check_point-7-clause-good c =
    (good_flex c.args.commands.now c.args.e c.requires.all c.in-4.is).1.1.1.1.1.0

pub returns-then-check_point-2 : goal.returns-then-check_point-2
returns-then-check_point-2 c =
    let p = fine c.args.commands.now c.args.e c.args.fold in
    let v : c.if-check_point.value ≡ (c.check_point-in-3.result && p 3) = elim c.if-check_point.branch [ then-check_point w ↦ and_then w.if-check_point.true w.value-is w.check_point-then-check_point.ensures | else-check_point w ↦ and_else _ w.if-check_point.false (w.value-is ∙ w.if-check_point.false) ] in
    let all : c.if-check_point.value ≡ (p 1 && p 3) = v ∙ ap (λ (b : Bool). b && p 3) c.check_point-in-3.ensures in
    and_then c.if-check_point-2.true refl c.check_point-then-check_point-2.ensures ∙ ap (λ (b : Bool). b && p 5) all ∙ three_left (p 1) (p 3) (p 5) ∙ fine_curve c.args.commands.now c.args.e c.args.fold c.in-3.is

pub returns-else-check_point-2 : goal.returns-else-check_point-2
returns-else-check_point-2 c =
    let p = fine c.args.commands.now c.args.e c.args.fold in
    let v : c.if-check_point.value ≡ (c.check_point-in-3.result && p 3) = elim c.if-check_point.branch [ then-check_point w ↦ and_then w.if-check_point.true w.value-is w.check_point-then-check_point.ensures | else-check_point w ↦ and_else _ w.if-check_point.false (w.value-is ∙ w.if-check_point.false) ] in
    let all : c.if-check_point.value ≡ (p 1 && p 3) = v ∙ ap (λ (b : Bool). b && p 3) c.check_point-in-3.ensures in
    and_else _ c.if-check_point-2.false c.if-check_point-2.false ∙ ap (λ (b : Bool). b && p 5) all ∙ three_left (p 1) (p 3) (p 5) ∙ fine_curve c.args.commands.now c.args.e c.args.fold c.in-3.is

pub returns-then-check_point-7 : goal.returns-then-check_point-7
returns-then-check_point-7 c =
    let p = fine c.args.commands.now c.args.e c.args.fold in
    let v3 : c.if-check_point-3.value ≡ (c.check_point-in-4.result && p 3) = elim c.if-check_point-3.branch [ then-check_point-3 w ↦ and_then w.if-check_point-3.true w.value-is w.check_point-then-check_point-3.ensures | else-check_point-3 w ↦ and_else _ w.if-check_point-3.false (w.value-is ∙ w.if-check_point-3.false) ] in
    let v4 : c.if-check_point-4.value ≡ (c.if-check_point-3.value && p 5) = elim c.if-check_point-4.branch [ then-check_point-4 w ↦ and_then w.if-check_point-4.true w.value-is w.check_point-then-check_point-4.ensures | else-check_point-4 w ↦ and_else _ w.if-check_point-4.false (w.value-is ∙ w.if-check_point-4.false) ] in
    let v5 : c.if-check_point-5.value ≡ (c.if-check_point-4.value && p 7) = elim c.if-check_point-5.branch [ then-check_point-5 w ↦ and_then w.if-check_point-5.true w.value-is w.check_point-then-check_point-5.ensures | else-check_point-5 w ↦ and_else _ w.if-check_point-5.false (w.value-is ∙ w.if-check_point-5.false) ] in
    let v6 : c.if-check_point-6.value ≡ (c.if-check_point-5.value && p 9) = elim c.if-check_point-6.branch [ then-check_point-6 w ↦ and_then w.if-check_point-6.true w.value-is w.check_point-then-check_point-6.ensures | else-check_point-6 w ↦ and_else _ w.if-check_point-6.false (w.value-is ∙ w.if-check_point-6.false) ] in
    let all : c.if-check_point-6.value ≡ ((((p 1 && p 3) && p 5) && p 7) && p 9) = v6 ∙ ap (λ (b : Bool). b && p 9) (v5 ∙ ap (λ (b : Bool). b && p 7) (v4 ∙ ap (λ (b : Bool). b && p 5) (v3 ∙ ap (λ (b : Bool). b && p 3) c.check_point-in-4.ensures))) in
    and_then c.if-check_point-7.true refl c.check_point-then-check_point-7.ensures ∙ ap (λ (b : Bool). b && p 11) all ∙ six_left (p 1) (p 3) (p 5) (p 7) (p 9) (p 11) ∙ fine_flex c.args.commands.now c.args.e c.args.fold c.in-4.is

pub returns-else-check_point-7 : goal.returns-else-check_point-7
returns-else-check_point-7 c =
    let p = fine c.args.commands.now c.args.e c.args.fold in
    let v3 : c.if-check_point-3.value ≡ (c.check_point-in-4.result && p 3) = elim c.if-check_point-3.branch [ then-check_point-3 w ↦ and_then w.if-check_point-3.true w.value-is w.check_point-then-check_point-3.ensures | else-check_point-3 w ↦ and_else _ w.if-check_point-3.false (w.value-is ∙ w.if-check_point-3.false) ] in
    let v4 : c.if-check_point-4.value ≡ (c.if-check_point-3.value && p 5) = elim c.if-check_point-4.branch [ then-check_point-4 w ↦ and_then w.if-check_point-4.true w.value-is w.check_point-then-check_point-4.ensures | else-check_point-4 w ↦ and_else _ w.if-check_point-4.false (w.value-is ∙ w.if-check_point-4.false) ] in
    let v5 : c.if-check_point-5.value ≡ (c.if-check_point-4.value && p 7) = elim c.if-check_point-5.branch [ then-check_point-5 w ↦ and_then w.if-check_point-5.true w.value-is w.check_point-then-check_point-5.ensures | else-check_point-5 w ↦ and_else _ w.if-check_point-5.false (w.value-is ∙ w.if-check_point-5.false) ] in
    let v6 : c.if-check_point-6.value ≡ (c.if-check_point-5.value && p 9) = elim c.if-check_point-6.branch [ then-check_point-6 w ↦ and_then w.if-check_point-6.true w.value-is w.check_point-then-check_point-6.ensures | else-check_point-6 w ↦ and_else _ w.if-check_point-6.false (w.value-is ∙ w.if-check_point-6.false) ] in
    let all : c.if-check_point-6.value ≡ ((((p 1 && p 3) && p 5) && p 7) && p 9) = v6 ∙ ap (λ (b : Bool). b && p 9) (v5 ∙ ap (λ (b : Bool). b && p 7) (v4 ∙ ap (λ (b : Bool). b && p 5) (v3 ∙ ap (λ (b : Bool). b && p 3) c.check_point-in-4.ensures))) in
    and_else _ c.if-check_point-7.false c.if-check_point-7.false ∙ ap (λ (b : Bool). b && p 11) all ∙ six_left (p 1) (p 3) (p 5) (p 7) (p 9) (p 11) ∙ fine_flex c.args.commands.now c.args.e c.args.fold c.in-4.is

pub check_point-requires-clause-good : goal.check_point-requires-clause-good
check_point-requires-clause-good c = good_move c.args.commands.now c.args.e c.requires.all c.in-1.is

pub returns-in-1 : goal.returns-in-1
returns-in-1 c = c.check_point.ensures ∙ fine_move c.args.commands.now c.args.e c.args.fold c.in-1.is

pub check_point-requires-in-2-clause-good : goal.check_point-requires-in-2-clause-good
check_point-requires-in-2-clause-good c = good_line c.args.commands.now c.args.e c.requires.all c.in-2.is

pub returns-in-2 : goal.returns-in-2
returns-in-2 c = c.check_point-in-2.ensures ∙ fine_line c.args.commands.now c.args.e c.args.fold c.in-2.is

pub returns-in_default : goal.returns-in_default
returns-in_default c = fine-none c.args.commands.now c.args.e c.args.fold (search rules) (search rules) (search rules) (search rules)
