use Prim.Native.Nat.{◌≤◌}
use Rattle.type1.proofs.Dispatch.{path_arm, bearing_arm, stems_arm, div_arm, pop_arm, other_arm, state_arm, rest_arm, closes, of_two, lines_of, move_no_pop, line_no_pop, curve_no_pop}
use Rattle.type1.proofs.Stacks.{cleared_holds}
use Rattle.geometry.specs.declared.Point.{Point}
use Rattle.type1.specs.declared.St.{St}
use Rattle.type1.specs.Operator.{of_byte, of_escape}
use Rattle.type1.specs.Operator as op
use Rattle.type1.specs.State.{with_open}
use Rattle.type1.specs.Run.{operate, stems3, going, returning, ending, refused, cleared}
use Rattle.type1.specs.Memory.{operator_of}
use Rattle.type1.specs.Reading.{with_count}
use Rattle.type1.specs.Small.{ran_of, closed_ran}
use lib.Dec.{lit≤}
use mathlib.Core.Bool.{true, false}
use mathlib.Core.Logic.{inl, inr}
use mathlib.Core.Path.{refl, sym, ap, ◌∙◌, subst}
use Rattle.type1.specs.Run.{move_by, line_by}
use Rattle.type1.specs.Deltas.{axes_of, tangents_of, by_point, by_curve, stem_from}
use Rattle.type1.specs.DeltaLaws.{moves, lines, curves, hstems, vstems}
use Rattle.type1.proofs.operators.plain.Goals as goal
use Rattle.type1.proofs.operators.plain.Goals.{in-8-1, in-4-1, in_default+else-op-lt3+else-op-lt8+else-op-lt21+else-op-lt23+else-op-lt30+then-op-lt32, in_default+else-op-lt3+else-op-lt8+else-op-lt21+then-op-lt23, in_default-via-then-op-lt3, in_default-via-else-op-lt3+else-op-lt8+then-op-lt21, in_default-via-else-op-lt3+else-op-lt8+else-op-lt21+else-op-lt23+then-op-lt30, in_default-via-else-op-lt3+else-op-lt8+else-op-lt21+else-op-lt23+else-op-lt30+else-op-lt32}
use native.Mathlib.Omega.{arith}
use mathlib.Core.Logic.{◌⊎◌}
use mathlib.Core.Path.{◌≡◌}
use Rattle.type1.proofs.Dispatch.{Outside}

pub returns-in-1 : goal.returns-in-1
unfolding operator_of of_byte
returns-in-1 c = let both = stems_arm c.args.reading _ _ _ _ _ _ _ _ _ _ _ _ op.hstem c.in-1.is refl refl (stem_from true _) _ _ _ refl (λ s lim b. hstems lim (refused 6) s ∙ ap (λ (p : Point). stem_from true p.y lim s) b) _ refl (c.one_stem.ensures.hinted, c.one_stem.ensures.groups_value) in record { meets = both.0; space = both.1 }

pub returns-in-3 : goal.returns-in-3
unfolding operator_of of_byte
returns-in-3 c = let both = stems_arm c.args.reading _ _ _ _ _ _ _ _ _ _ _ _ op.vstem c.in-3.is refl refl (stem_from false _) _ _ _ refl (λ s lim b. vstems lim (refused 6) s ∙ ap (λ (p : Point). stem_from false p.x lim s) b) _ refl (c.one_stem-in-3.ensures.hinted, c.one_stem-in-3.ensures.groups_value) in record { meets = both.0; space = both.1 }

pub returns-in-9 : goal.returns-in-9
unfolding operator_of of_byte operate
returns-in-9 c = let both = state_arm c.args.reading _ _ _ _ _ _ _ _ _ _ _ _ op.closepath c.in-9.is refl (λ s. going (with_open false (cleared s))) (closed_ran c.args.st).st 0 c.closepath.ensures refl (λ s lim. refl) (closes c.args.st) in record { meets = both.0; space = both.1 }

pub returns-in-11 : goal.returns-in-11
unfolding operator_of of_byte operate
returns-in-11 c = let both = state_arm c.args.reading _ _ _ _ _ _ _ _ _ _ _ _ op.return c.in-11.is refl returning c.args.st 1 c.made.ensures refl (λ s lim. refl) (λ m s H. (refl, H)) in record { meets = both.0; space = both.1 }

pub returns-in-13 : goal.returns-in-13
unfolding operator_of of_byte
returns-in-13 c = let both = bearing_arm c.args.reading _ _ _ _ _ _ _ _ _ _ _ _ op.hsbw c.in-13.is refl refl _ c.hsbw.ensures.meets c.hsbw.ensures.groups_value in record { meets = both.0; space = both.1 }

pub returns-in-14 : goal.returns-in-14
unfolding operator_of of_byte operate
returns-in-14 c = let both = state_arm c.args.reading _ _ _ _ _ _ _ _ _ _ _ _ op.endchar c.in-14.is refl (λ s. ending (cleared s)) (with_count 0 c.args.st) 2 (c.made-in-14.ensures ∙ ap (λ (u : St). ran_of u 2) c.cleared.ensures) refl (λ s lim. refl) (λ m s H. (refl, cleared_holds _ m s H)) in record { meets = both.0; space = both.1 }

pub returns-in-256 : goal.returns-in-256
unfolding operator_of of_escape operate
returns-in-256 c = let both = state_arm c.args.reading _ _ _ _ _ _ _ _ _ _ _ _ op.dotsection c.in-256.is refl (λ s. going (cleared s)) (with_count 0 c.args.st) 0 (c.made-in-256.ensures ∙ ap (λ (u : St). ran_of u 0) c.cleared-in-256.ensures) refl (λ s lim. refl) (λ m s H. (refl, cleared_holds _ m s H)) in record { meets = both.0; space = both.1 }

pub stems3-requires : goal.stems3-requires
stems3-requires c =
    subst (λ (t : St). (t.operands ≤ 256) × (t.hints ≤ 256)) (sym c.copied.ensures) (c.requires.bounds.operands, c.requires.bounds.hints)

pub returns-in-257 : goal.returns-in-257
unfolding operator_of of_escape operate
returns-in-257 c = let both = stems_arm c.args.reading _ _ _ _ _ _ _ _ _ _ _ _ op.vstem3 c.in-257.is refl refl (λ lim. stems3 lim false _) _ _ _ c.kept.ensures (λ s lim b. ap (λ (p : Point). stems3 lim false p.x s) b) _ c.copied.ensures (c.stems3.ensures.hinted, c.stems3.ensures.groups_value) in record { meets = both.0; space = both.1 }

pub stems3-requires-in-258 : goal.stems3-requires-in-258
stems3-requires-in-258 c =
    subst (λ (t : St). (t.operands ≤ 256) × (t.hints ≤ 256)) (sym c.copied-in-258.ensures) (c.requires.bounds.operands, c.requires.bounds.hints)

pub returns-in-258 : goal.returns-in-258
unfolding operator_of of_escape operate
returns-in-258 c = let both = stems_arm c.args.reading _ _ _ _ _ _ _ _ _ _ _ _ op.hstem3 c.in-258.is refl refl (λ lim. stems3 lim true _) _ _ _ c.kept-in-258.ensures (λ s lim b. ap (λ (p : Point). stems3 lim true p.y s) b) _ c.copied-in-258.ensures (c.stems3-in-258.ensures.hinted, c.stems3-in-258.ensures.groups_value) in record { meets = both.0; space = both.1 }

pub returns-in-262 : goal.returns-in-262
unfolding operator_of of_escape operate
returns-in-262 c = let both = state_arm c.args.reading _ _ _ _ _ _ _ _ _ _ _ _ op.seac c.in-262.is refl (λ s. refused 12) c.args.st 12 c.made-in-262.ensures refl (λ s lim. refl) (λ m s H. (refl, lit≤ tt)) in record { meets = both.0; space = both.1 }

pub returns-in-263 : goal.returns-in-263
unfolding operator_of of_escape
returns-in-263 c = let both = bearing_arm c.args.reading _ _ _ _ _ _ _ _ _ _ _ _ op.sbw c.in-263.is refl refl _ c.sbw.ensures.meets c.sbw.ensures.groups_value in record { meets = both.0; space = both.1 }

pub returns-in-268 : goal.returns-in-268
unfolding operator_of of_escape operate
returns-in-268 c = let both = div_arm c.args.reading _ _ _ _ _ _ _ _ _ _ _ _ op.div c.in-268.is refl _ (λ s lim. refl) c.div.ensures.meets c.div.ensures.groups_value in record { meets = both.0; space = both.1 }

pub returns-in-272 : goal.returns-in-272
unfolding operator_of of_escape operate
returns-in-272 c = let both = other_arm c.args.reading _ _ _ _ _ _ _ _ _ _ _ _ op.callothersubr c.in-272.is refl refl _ _ _ _ c.kept-in-272.ensures (λ s lim. refl) c.callothersubr.ensures.meets c.callothersubr.ensures.space in record { meets = both.0; space = both.1 }

pub returns-in-273 : goal.returns-in-273
unfolding operator_of of_escape operate
returns-in-273 c = let both = pop_arm c.args.reading _ _ _ _ _ _ _ _ _ _ _ _ op.pop c.in-273.is refl _ (λ s lim. refl) c.pop.ensures.meets c.pop.ensures.groups_value in record { meets = both.0; space = both.1 }

pub setcurrentpoint-requires : goal.setcurrentpoint-requires
setcurrentpoint-requires c =
    record { bounds = c.requires.bounds; stems_le_room = c.requires.stems_le_room; t = (c.requires.finite.x, c.requires.finite.y); by_index = c.requires.finite.operands }

pub returns-in-289 : goal.returns-in-289
unfolding operator_of of_escape
returns-in-289 c = let both = path_arm c.args.reading _ _ _ _ _ _ _ _ _ _ _ _ op.setcurrentpoint c.in-289.is refl refl _ _ _ c.kept-in-289.ensures (λ lim s. refl) c.setcurrentpoint.ensures.takes c.setcurrentpoint.ensures.space in record { meets = both.0; space = both.1 }

pub line_operator-requires : goal.line_operator-requires
line_operator-requires c =
    record { bounds = c.requires.bounds; stems_le_room = c.requires.stems_le_room; t = (c.requires.finite.x, c.requires.finite.y) }

pub returns-in-5 : goal.returns-in-5
returns-in-5 c = let both = path_arm c.args.reading _ _ _ _ _ _ _ _ _ _ _ _ _ refl refl (line_no_pop _ (lines_of _ c.in-5.if-op-lt3-own.false c.in-5.if-op-lt8-own.true c.in-5.in_default-own.rest)) (by_point line_by (axes_of c.args.op)) _ _ c.kept-in-5.ensures (λ lim s. lines lim (refused 6) s _ (lines_of _ c.in-5.if-op-lt3-own.false c.in-5.if-op-lt8-own.true c.in-5.in_default-own.rest)) c.line_operator.ensures.takes c.line_operator.ensures.space in record { meets = both.0; space = both.1 }

pub returns-in_default : goal.returns-in_default
returns-in_default c = let both = rest_arm c.args.reading _ _ _ _ _ _ _ _ _ _ _ c.made-in_default.ensures c.in_default-1.rest (let z : Outside c.args.op = elim c.in_default.branch [ in_default-via-then-op-lt3 w ↦ inl (omega arith) | in_default-via-else-op-lt3+else-op-lt8+then-op-lt21 w ↦ inr (inl (omega arith, omega arith)) | in_default-via-else-op-lt3+else-op-lt8+else-op-lt21+else-op-lt23+then-op-lt30 w ↦ inr (inr (inl (omega arith, omega arith))) | in_default-via-else-op-lt3+else-op-lt8+else-op-lt21+else-op-lt23+else-op-lt30+else-op-lt32 w ↦ inr (inr (inr (omega arith))) ] in z) in record { meets = both.0; space = both.1 }

pub curve_operator-requires : goal.curve_operator-requires
curve_operator-requires c =
    record { bounds = c.requires.bounds; stems_le_room = c.requires.stems_le_room; t = (c.requires.finite.x, c.requires.finite.y) }

pub returns-in-8 : goal.returns-in-8
returns-in-8 c =
    let key = (let z : (c.args.op ≡ 8) ⊎ ((c.args.op ≡ 30) ⊎ (c.args.op ≡ 31)) = elim c.in-8-1.branch [ in-8-1 w ↦ inl (omega arith) | in_default+else-op-lt3+else-op-lt8+else-op-lt21+else-op-lt23+else-op-lt30+then-op-lt32 w ↦ inr (of_two _ 30 (omega arith) (omega arith)) ] in z) in
    let both = path_arm c.args.reading _ _ _ _ _ _ _ _ _ _ _ _ _ refl refl (curve_no_pop _ key) (by_curve (tangents_of c.args.op)) _ _ c.kept-in-8.ensures (λ lim s. curves lim (refused 6) s _ key) c.curve_operator.ensures.takes c.curve_operator.ensures.space in record { meets = both.0; space = both.1 }

pub returns-in-21 : goal.returns-in-21
returns-in-21 c =
    let key = (let z : (c.args.op ≡ 4) ⊎ ((c.args.op ≡ 21) ⊎ (c.args.op ≡ 22)) = elim c.in-21-1.branch [ in-4-1 w ↦ inl (omega arith) | in_default+else-op-lt3+else-op-lt8+else-op-lt21+then-op-lt23 w ↦ inr (of_two _ 21 (omega arith) (omega arith)) ] in z) in
    let both = path_arm c.args.reading _ _ _ _ _ _ _ _ _ _ _ _ _ refl refl (move_no_pop _ key) (by_point move_by (axes_of c.args.op)) _ _ c.kept-in-21.ensures (λ lim s. moves lim (refused 6) s _ key) c.move_operator.ensures.takes c.move_operator.ensures.space in record { meets = both.0; space = both.1 }
