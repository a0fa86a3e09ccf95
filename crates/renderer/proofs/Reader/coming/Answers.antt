-- `renderer::Reader::coming` meets its contract.
use Rattle.std.proofs.Common.{sym, ◌∙◌}
use Rattle.renderer.proofs.NextLaws.{none_comes, still_comes, out_comes, drawn_comes}
use Rattle.renderer.proofs.Reader.coming.Goals as goal

pub returns-in_err-operator : goal.returns-in_err-operator
returns-in_err-operator c =
    rw c.from_residual.ensures (none_comes _ c.args.self _ c.find.array_long c.in_err-operator.ensures)

pub returns-then-not-is_drawing : goal.returns-then-not-is_drawing
returns-then-not-is_drawing c =
    still_comes c.args.self c.find.array_long c.requires c.in_ok-operator.ensures (sym c.is_drawing.ensures ∙ c.if-not-is_drawing.true)

pub returns-in_err-position : goal.returns-in_err-position
returns-in_err-position c =
    rw c.from_residual-in_err-position.ensures (out_comes c.args.self c.find.array_long c.requires c.in_ok-operator.ensures (sym c.is_drawing.ensures ∙ c.if-not-is_drawing.false) c.in_err-position.ensures)

pub returns : goal.returns
returns c =
    drawn_comes c.args.self c.find.array_long c.requires c.in_ok-operator.ensures (sym c.is_drawing.ensures ∙ c.if-not-is_drawing.false) c.in_ok-position.ensures
