use mathlib.Core.Path.{sym, ◌∙◌}
use lib.Ieee.{of_bits}
use Rattle.type1.specs.Run.{div_d}
use Rattle.type1.proofs.Stacks.{too_few, div-zero, div_infinite, div_done, groups-kept}
use Rattle.type1.proofs.operators.div.Goals as goal

pub returns-then-n-lt2 : goal.returns-then-n-lt2
unfolding div_d
returns-then-n-lt2 c =
    record { meets = λ m s H. too_few _ _ s H 2 _ _ c.made.ensures c.if-n-lt2.true; groups_value = groups-kept _ _ 7 c.made.ensures }

pub returns-then-b : goal.returns-then-b
unfolding of_bits
returns-then-b c =
    record { meets = λ m s H. div-zero _ _ s H c.if-n-lt2.false _ c.made-then-b.ensures c.if-b.true; groups_value = groups-kept _ _ 10 c.made-then-b.ensures }

pub returns-then-not-is_finite : goal.returns-then-not-is_finite
unfolding of_bits
returns-then-not-is_finite c =
    record { meets = λ m s H. div_infinite _ _ s H c.if-n-lt2.false c.if-b.false _ c.made-then-not-is_finite.ensures (sym c.is_finite.ensures ∙ c.if-not-is_finite.true); groups_value = groups-kept _ _ 14 c.made-then-not-is_finite.ensures }

pub returns : goal.returns
unfolding of_bits
returns c =
    record { meets = λ m s H. div_done _ _ s H c.if-n-lt2.false c.if-b.false _ c.made-2.ensures (sym c.is_finite.ensures ∙ c.if-not-is_finite.false); groups_value = groups-kept _ _ 0 c.made-2.ensures }
