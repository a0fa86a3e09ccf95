-- `type2::nearest` meets its contract: what comes back from the sum is v, or a whole number closer than a half; any other value is rounded.
use mathlib.Core.Path.{refl, sym, subst}
use lib.Dec.{T}
use lib.Ieee.{binary64, fits, of_bits, neg, ne}
use borrow.Author.Tests.{not-true}
use Rattle.type2.specs.Whole.{came_back, came_near}
use Rattle.type2.proofs.nearest.Goals as goal

pub returns-then-r-v : goal.returns-then-r-v
unfolding of_bits neg
returns-then-r-v c = came_back c.args.v (let z : T (fits binary64 c.args.v) = subst T (sym c.well_formed.0.1) tt in z) c.if-v.true c.if-v-2.true c.if-r-v.true

pub returns-then-r : goal.returns-then-r
unfolding of_bits neg ne
returns-then-r c =
    came_near c.args.v (let z : T (fits binary64 c.args.v) = subst T (sym c.well_formed.0.1) tt in z) c.if-v.true c.if-v-2.true _ refl c.if-d.true c.if-d-2.true (not-true _ c.if-r.true)
