-- Laws: folding and writing refuse with 13, 14 and 18 alone, and finishing with 13 and 18: never with 0.
use Rattle.std.specs.Prelude.{◌≡◌, refl, ℕ, ◌-◌, Bool, cond, leb, eqb, ℤ, Float}
use Rattle.std.proofs.Common.{subst}
use borrow.Author.Tests.{eqb-false}
use Rattle.std.proofs.Math.Bool.{true, false}
use mathlib.Core.List.{List, [], ◌∷◌, ◌++◌}
use Rattle.std.proofs.Math.ListN.{length}
use Rattle.geometry.specs.declared.Matrix.{Matrix}
use Rattle.outline.specs.Outline.{pick}
use Rattle.type1.specs.State.{State}
use Rattle.folding.specs.Folding.{folded_width}
use Rattle.type2.specs.Number.{number_bytes, in_range}
use Rattle.type2.specs.Instruction.{Instr}
use Rattle.type1_to_type2.specs.Writing.{Written, refused, wrote, then_write, put, put_numbers, write}
use Rattle.type1_to_type2.specs.Convert as Convert
use Rattle.type1_to_type2.specs.Convert.{folds_finite, instructions, Glyph, glyph_of, Conversion, writes, folded}
use Rattle.type2.specs.declared.Widths.{Widths}
use Rattle.type1_to_type2.specs.Finish.{first, width_for, finish}

-- ---- k is neither 13 nor 18
module _ (k : ℕ) (range : eqb 13 k ≡ false) (space : eqb 18 k ≡ false) where
  abbrev Other : Written → Type 0
  Other (refused n) = n ≡ k → ⊥
  Other (wrote b) = Unit {0}

  then_other : (x : Written) (b : List ℕ) → Other x → Other (then_write x (λ c. wrote (b ++ c)))
  then_other (refused n) b h = h
  then_other (wrote c) b h = tt

  put_other : (room : ℕ) (b : List ℕ) (f : ℕ → Written) → ((left : ℕ) → Other (f left)) → Other (put room b f)
  unfolding put
  put_other room b f h = go (leb (length b) room)
    where
      go : (t : Bool) → Other (cond t (then_write (f (room - length b)) (λ c. wrote (b ++ c))) (refused 18))
      go true = then_other (f (room - length b)) b (h (room - length b))
      go false = eqb-false 18 k space

  numbers_other : (l : List ℤ) (room : ℕ) (f : ℕ → Written) → ((left : ℕ) → Other (f left)) → Other (put_numbers l room f)
  unfolding put_numbers
  numbers_other [] room f h = h room
  numbers_other (u ∷ l) room f h = go (in_range u) (put_other room (number_bytes u) (λ left. put_numbers l left f) (λ left. numbers_other l left f h))
    where
      go : (t : Bool) → Other (put room (number_bytes u) (λ left. put_numbers l left f)) → Other (cond t (put room (number_bytes u) (λ left. put_numbers l left f)) (refused 13))
      go true r = r
      go false r = eqb-false 13 k range

  write_other : (is : List Instr) (room : ℕ) → Other (write is room)
  unfolding write
  write_other [] room = tt
  write_other (i ∷ is) room = numbers_other i.operands room (λ left. put left i.code (write is)) (λ left. put_other left i.code (write is) (write_other is))

  finish_other : (width : Float) (program : List ℕ) (p : Widths) (room : ℕ) → Other (finish width program p room)
  unfolding finish
  finish_other width program p room = numbers_other (first (width_for width p)) room (λ left. put left program (λ j. wrote [])) (λ left. put_other left program (λ j. wrote []) (λ j. tt))

  pub finish_not : (width : Float) (program : List ℕ) (p : Widths) (room : ℕ) → finish width program p room ≡ refused k → ⊥
  finish_not width program p room e = subst Other e (finish_other width program p room) refl

  -- nor 14
  module _ (fold : eqb 14 k ≡ false) where
    abbrev Apart : Conversion → Type 0
    Apart (Convert.refused n) = n ≡ k → ⊥
    Apart (Convert.converted g) = Unit {0}

    writes_apart : (g : List ℕ → Glyph) (x : Written) → Other x → Apart (writes g x)
    writes_apart g (refused n) h = h
    writes_apart g (wrote b) h = tt

    folded_apart : (m : Matrix) (room : ℕ) (s : State) → Apart (folded m room s)
    unfolding folded
    folded_apart m room s = go (folds_finite m s)
      where
        go : (b : Bool) → Apart (pick b (writes (glyph_of (folded_width m s.width) s.ran) (write (instructions m s) room)) (Convert.refused 14))
        go true = writes_apart (glyph_of (folded_width m s.width) s.ran) (write (instructions m s) room) (write_other (instructions m s) room)
        go false = eqb-false 14 k fold

    pub folded_not : (m : Matrix) (room : ℕ) (s : State) → folded m room s ≡ Convert.refused k → ⊥
    folded_not m room s e = subst Apart e (folded_apart m room s) refl

pub folded_nonzero : (m : Matrix) (room : ℕ) (s : State) → folded m room s ≡ Convert.refused 0 → ⊥
folded_nonzero = folded_not 0 refl refl refl

pub finish_nonzero : (width : Float) (program : List ℕ) (p : Widths) (room : ℕ) → finish width program p room ≡ refused 0 → ⊥
finish_nonzero = finish_not 0 refl refl
