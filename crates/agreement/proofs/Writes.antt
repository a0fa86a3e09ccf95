-- Laws: finishing puts the width first.
use Rattle.std.specs.Prelude.{◌≡◌, ℕ, List, [], ◌++◌, T, Float}
use Rattle.std.proofs.Common.{sym, ap, ◌∙◌, append-nil}
use Rattle.type2.specs.declared.Widths.{Widths}
use Rattle.type2.specs.Instruction.{numbers, fine}
use Rattle.type1_to_type2.specs.Writing.{wrote, put}
use Rattle.type1_to_type2.specs.Finish.{width_for, first, finish}
use Rattle.type1_to_type2.specs.Fine.{wrote_inj, put_is, numbers_is}

pub finish_is : (width : Float) (program : List ℕ) (p : Widths) (room : ℕ) (out : List ℕ) → finish width program p room ≡ wrote out
    → (out ≡ numbers (first (width_for width p)) ++ program) × T (fine (first (width_for width p)))
unfolding finish
finish_is width program p room out e =
    let w = first (width_for width p) in
    let (c, left, h, o, f) = numbers_is w room (λ left. put left program (λ k. wrote [])) out e in
    let (d, x, y) = put_is left program (λ k. wrote []) c h in
    (o ∙ ap (λ (l : List ℕ). numbers w ++ l) (y ∙ ap (λ (l : List ℕ). program ++ l) (sym (wrote_inj x)) ∙ append-nil program), f)
