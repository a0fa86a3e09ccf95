-- Laws: the limits of a reading beside those of document 01 (document 02, (c)).
use mathlib.Core.Path.{◌≡◌, refl, ap}
use Prim.Native.Nat.{ℕ}
use mathlib.Core.Bool.{Bool, true, false}
use borrow.Author.Tests.{ne_eqb}
use Rattle.outline.specs.Outline.{pick}
use Rattle.operand_stack.specs.Stack.{operand_refusal}
use Rattle.type1.specs.declared.Reading.{Reading}
use Rattle.type1.specs.Operator.{Operator}
use Rattle.type1.specs.State.{State}
use Rattle.type1.specs.Sound.{is_pop}
use Rattle.type1.specs.Strict.{operate-strictly}
use Rattle.type1.specs.Run.{Limits, within, strictly, limits_of, Outcome, refused, check, allowed, operate}

-- an operator but pop, which pushes, knows nothing of the reading
pub operate-limits : (reading : Reading) (lim : Limits) (c : Outcome) (o : Operator) (s : State) → is_pop o ≡ false → operate (limits_of reading lim) c o s ≡ operate lim c o s
operate-limits reading lim c o s h = go reading.strict
  where
    go : (b : Bool) → operate (pick b (strictly lim) lim) c o s ≡ operate lim c o s
    go true = operate-strictly lim c o s h
    go false = refl

-- what the limits answer for operands
pub limit_is : (reading : Reading) (room words n : ℕ) → (limits_of reading (within room words)).operands n ≡ operand_refusal reading.strict n
limit_is reading room words n = go reading.strict
  where
    go : (b : Bool) → (pick b (strictly (within room words)) (within room words)).operands n ≡ operand_refusal b n
    go true = refl
    go false = refl

pub allowed-none : (f : ℕ) (o : Outcome) → f ≡ 0 → allowed f o ≡ o
allowed-none f o e = ap (λ (k : ℕ). allowed k o) e

pub allowed_not : (f : ℕ) (o : Outcome) → (f ≡ 0 → ⊥) → allowed f o ≡ refused f
allowed_not f o n = ap (λ (b : Bool). check b f o) (ne_eqb f 0 n)
