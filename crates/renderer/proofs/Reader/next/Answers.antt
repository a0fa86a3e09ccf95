-- `renderer::Reader::next` meets its contract.
use Rattle.std.proofs.Common.{sym, ◌∙◌}
use Rattle.renderer.proofs.NextLaws.{impossible_comes}
use Rattle.renderer.proofs.Reader.next.Goals as goal

pub returns-then-not-is_possible : goal.returns-then-not-is_possible
returns-then-not-is_possible c =
    impossible_comes _ c.args.self _ c.told-ops (sym c.is_possible.ensures ∙ c.if-not-is_possible.true)
