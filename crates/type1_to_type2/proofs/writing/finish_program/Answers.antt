-- `type1_to_type2::writing::finish_program` meets its contract.
use mathlib.Core.Path.{◌∙◌}
use borrow.Author.Rules.{rules}
use Rattle.type1_to_type2.proofs.Draws.{ended, finished}
use Rattle.type1_to_type2.proofs.writing.finish_program.Goals as goal
use Prim.Native.Nat.{ℕ}
use mathlib.Core.Path.{ap}
use Rattle.stores.specs.Zeros.{kept}

pub returns : goal.returns
returns c = λ masked ss.
    finished _ _ _ _ c.put_byte-end.result.next c.put_byte-end.new.out _ _ (ended c.flush-f.ensures c.put_byte-end.ensures.puts masked ss) (c.put_byte-end.ensures.puts.same ∙ c.flush-f.ensures.puts.same) c.put_byte-end.ensures.next_in_bounds c.number_of.ensures
    (c.kept_bytes-kept.ensures ∙ ap (λ (j : ℕ). kept c.number_of.result j) c.unwrap_or.ensures) c.zero_from.ensures (search rules)
