-- `boxes::glyph_box` meets its contract.
use Rattle.std.proofs.Common.{◌≡◌, rules, sym, ◌∙◌}
use native.Mathlib.Omega.{arith}
use Rattle.renderer.specs.declared.Operation.TheVariants.{End}
use Rattle.boxes.proofs.BoxLaws.{draws_first, draws-limited, fault_answer, end_answer, still_on, small_from, drawn_on}
use Rattle.boxes.proofs.glyph_box.Goals as goal
use Rattle.boxes.proofs.glyph_box.Goals.{then-is_drawing, else-is_drawing}

pub loop-operator-init : goal.loop-operator-init
loop-operator-init c =
    draws_first c.new-reader.ensures

pub answered-requires : goal.answered-requires
answered-requires c =
    draws-limited c.loop-operator.invariant

pub returns-then-eq : goal.returns-then-eq
returns-then-eq c =
    let e : c.in-Some.operator.operation ≡ End = search rules in
    end_answer c.loop-operator.invariant c.in-Some.ensures e _ _ c.answered.ensures

pub extended-extent-requires : goal.extended-extent-requires
extended-extent-requires c =
    small_from c.loop-operator.invariant c.in-Some.ensures (sym c.is_drawing.ensures ∙ c.if-is_drawing.true) _ (omega arith)

pub loop-operator-preserved : goal.loop-operator-preserved
loop-operator-preserved c =
    let n : c.in-Some.operator.operation ≡ End → ⊥ = λ e. search rules in
    elim c.if-is_drawing.branch [
      | then-is_drawing w ↦ rw w.extent-is (drawn_on c.loop-operator.invariant c.in-Some.ensures n (sym c.is_drawing.ensures ∙ w.if-is_drawing.true) _ (omega arith) _ w.extended-extent.ensures)
      | else-is_drawing w ↦ rw w.extent-is (still_on c.loop-operator.invariant c.in-Some.ensures n (sym c.is_drawing.ensures ∙ w.if-is_drawing.false))
    ]

pub returns : goal.returns
returns c =
    fault_answer c.loop-operator.invariant c.in_default.ensures _
