-- `type1_to_type2::declaring::write_front` meets its contract.
use mathlib.Core.Path.{refl, ap, sym, ◌∙◌}
use mathlib.Core.Bool.{Bool, cond}
use lib.Ieee.{of_bits}
use Rattle.type1_to_type2.proofs.StemTables.{front_written}
use Rattle.type1_to_type2.proofs.declaring.write_front.Goals as goal

pub returns-then-masked : goal.returns-then-masked
unfolding of_bits
returns-then-masked c = record {
  declares = front_written _ _ _ _ _ _ _ (ap (λ (t : Bool). cond t 18 1) (sym c.if-masked.true)) (ap (λ (t : Bool). cond t 23 3) (sym c.if-masked.true)) refl refl refl refl
      c.write_stems-a.ensures.puts c.write_stems-a.ensures.still c.write_stems.ensures.puts c.write_stems.ensures.still;
  out_len_unchanged = c.write_stems.ensures.puts.same ∙ c.write_stems-a.ensures.puts.same;
}

pub returns : goal.returns
unfolding of_bits
returns c = record {
  declares = front_written _ _ _ _ _ _ _ (ap (λ (t : Bool). cond t 18 1) (sym c.if-masked.false)) (ap (λ (t : Bool). cond t 23 3) (sym c.if-masked.false)) refl refl refl refl
      c.write_stems-a-2.ensures.puts c.write_stems-a-2.ensures.still c.write_stems-2.ensures.puts c.write_stems-2.ensures.still;
  out_len_unchanged = c.write_stems-2.ensures.puts.same ∙ c.write_stems-a-2.ensures.puts.same;
}
