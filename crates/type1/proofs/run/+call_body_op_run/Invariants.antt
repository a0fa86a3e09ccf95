-- The cycle of calls {call_body, op, run}. The measure is three times levels, one more for `op`, two more for `run`.
use Rattle.std.proofs.Common.{length, ◌-◌, ◌≡◌, ◌+◌}
use Rattle.type1.specs.Cycle.{mem_of}
use Rattle.type1.proofs.CycleLaws.{Onward}
use Rattle.type1.proofs.run.+call_body_op_run.Given as goal

abbrev pub decreases-call_body : goal.decreases-call_body
decreases-call_body l = l.levels + l.levels + l.levels

abbrev pub decreases-op : goal.decreases-op
decreases-op l = l.levels + l.levels + l.levels + 1

abbrev pub decreases-run : goal.decreases-run
decreases-run l = l.levels + l.levels + l.levels + 2

-- the lent stores keep their lengths, and what is left of the bytes does what the whole does
abbrev pub invariant-run-loop-i : goal.invariant-run-loop-i
invariant-run-loop-i l = record {
  cmds_kept : length l.cmds ≡ length l.fn.cmds;
  stems_kept : length l.stems ≡ length l.fn.stems;
  onward : Onward l.bank l.reading l.levels l.code l.e l.fn.st (mem_of l.fn.ops l.fn.ps l.fn.cells l.fn.edges l.fn.across l.fn.cmds l.fn.stems) l.i l.key l.s (mem_of l.ops l.ps l.cells l.edges l.across l.cmds l.stems);
}

abbrev pub decreases-run-loop-i : goal.decreases-run-loop-i
decreases-run-loop-i l = length l.code - l.i
