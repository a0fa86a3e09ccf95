-- `type1_to_type2::drawing::write_entry` meets its contract.
use Rattle.type1_to_type2.proofs.Entries.{is_move_lem, good_entry, points_good, height_good, draws_as, entry-drawn, mask-drawn, mask_left, entry-written}
use Rattle.outline.specs.Outline.{move}
use native.Mathlib.Omega.{arith}
use mathlib.Core.Path.{refl, ap, ◌∙◌}
use lib.ListN.{take}
use Rattle.type1_to_type2.specs.Stems.{mask_of}
use Rattle.type1_to_type2.proofs.StemBits.{mask-length}
use mathlib.Core.Bool.{true}
use mathlib.Core.List.{[]}
use borrow.Author.Rules.{rules}
use Rattle.type1_to_type2.proofs.drawing.write_entry.Goals as goal

pub read_point-p-requires : goal.read_point-p-requires
read_point-p-requires c =
    record { entry_words_in_bounds = (c.requires.0, omega arith); of_point = good_entry _ _ _ (is_move_lem _ _ c.in-1.is) c.requires.1.1 }

pub returns-in-1 : goal.returns-in-1
returns-in-1 c =
    let d = draws_as _ _ (ap move c.read_point-p.ensures) c.move_to.ensures in (λ ss g cs l h. entry-drawn _ _ _ 1 _ c.in-1.is refl (is_move_lem _ _ c.in-1.is) d _ ss g cs, (d true []).same)

pub returns-then-masked : goal.returns-then-masked
returns-then-masked c =
    (λ ss g cs l h. mask-drawn _ _ _ (mask_of g ss) _ c.in-5.is c.if-masked.true (c.write_mask.ensures.masks (mask_of g ss) (mask-length g ss ∙ l) (h c.if-masked.true)) ss g cs refl, c.write_mask.ensures.out_len_unchanged)

pub returns-else-masked : goal.returns-else-masked
returns-else-masked c =
    (λ ss g cs l h. mask_left c.args.w _ _ _ _ _ c.in-5.is c.if-masked.false ss g cs, refl)

pub draw_points-b-requires : goal.draw_points-b-requires
draw_points-b-requires c =
    record { entry_words_in_bounds = (c.requires.0, c.points_of.ensures.1); all = points_good _ _ _ _ refl c.points_of.ensures.0 c.requires.1.1 }

pub end_entry-requires : goal.end_entry-requires
end_entry-requires c =
    record { entry_words_in_bounds = c.requires.0; good = height_good _ _ _ refl c.requires.1.1 }

pub returns-in_default : goal.returns-in_default
returns-in_default c =
    entry-written _ _ _ _ _ refl (search rules) (search rules) c.points_of.ensures.0 c.begin_entry-a.ensures c.draw_points-b.ensures c.end_entry.ensures _ c.args.n (take c.args.k c.args.places.now)
