-- `type1_to_type2::writing::flush` meets its contract.
use Rattle.type1.specs.Run.{point_at}
use mathlib.Core.Path.{refl, ap₂}
use Rattle.type1_to_type2.proofs.Draws.{waiting, as_put, flushed_none}
use Rattle.type1_to_type2.proofs.writing.flush.Goals as goal

pub returns-then-w-eq0 : goal.returns-then-w-eq0
returns-then-w-eq0 c =
    record { puts = record { then = flushed_none c.args.w _ c.if-w-eq0.true; same = refl }; at = refl; waits = c.if-w-eq0.true; held = refl }

pub returns : goal.returns
returns c =
    let q = as_put _ c.put_byte-r.ensures.puts (waiting _ c.if-w-eq0.false) in record { puts = record { then = q.then; same = q.same }; at = ap₂ point_at c.put_byte-r.ensures.still.x c.put_byte-r.ensures.still.y; waits = refl; held = refl }
