-- `binary64::round` meets its contract: a zero comes back, and a negative value is rounded by its size. Assumes nothing.
use Rattle.std.proofs.Common.{T, sym, ap, ◌∙◌, subst}
use lib.Ieee.{binary64, of_bits, neg}
use Rattle.binary64.specs.Round.{at_zero, negative, not_negative, away_neg}
use Rattle.binary64.proofs.round.Goals as goal

pub round_positive-requires : goal.round_positive-requires
unfolding of_bits
round_positive-requires c = negative binary64 c.args.v (subst T (sym c.well_formed.0.1) tt) c.if-v-2.true

pub round_positive-requires-else-v-2 : goal.round_positive-requires-else-v-2
unfolding of_bits
round_positive-requires-else-v-2 c = not_negative binary64 c.args.v (subst T (sym c.well_formed.0.1) tt) c.if-v.false c.if-v-2.false

pub returns-then-v : goal.returns-then-v
unfolding of_bits
returns-then-v c = at_zero binary64 c.args.v (subst T (sym c.well_formed.0.1) tt) c.if-v.true

pub returns-then-v-2 : goal.returns-then-v-2
returns-then-v-2 c = ap neg c.round_positive.ensures ∙ away_neg binary64 c.args.v
