-- Laws: a refusal's number is 1 to 22, and no two refusals have the same.
use Rattle.std.proofs.Common.{◌≡◌, ℕ, ◌<◌, ◌≤◌, sym, ap, ◌∙◌, refl, arith, [], ◌∷◌, get_or}
use Rattle.refusal.specs.declared.Refusal.{Refusal}
use Rattle.refusal.specs.declared.Refusal.TheVariants.{MatrixNotFinite, BankLayout, TooManyBytes, TooDeep, Cut, UnknownOperator, MissingOperands, NoSuchSubroutine, Flex, DivByZero, NothingToPop, Seac, OutOfRange, NotFinite, StackFull, StemsFull, CommandsFull, OutputShort, WidthNotFinite, ScratchShort, NothingDrawn, StrictStackFull}
use Rattle.refusal.specs.Refusal.{number_of}

-- the refusal of a number
abbrev refusal_of : ℕ → Refusal
refusal_of n = get_or (MatrixNotFinite ∷ MatrixNotFinite ∷ BankLayout ∷ TooManyBytes ∷ TooDeep ∷ Cut ∷ UnknownOperator ∷ MissingOperands ∷ NoSuchSubroutine ∷ Flex ∷ DivByZero ∷ NothingToPop ∷ Seac ∷ OutOfRange ∷ NotFinite ∷ StackFull ∷ StemsFull ∷ CommandsFull ∷ OutputShort ∷ WidthNotFinite ∷ ScratchShort ∷ NothingDrawn ∷ StrictStackFull ∷ []) n MatrixNotFinite

decoded : (r : Refusal) → refusal_of (number_of r) ≡ r
decoded MatrixNotFinite = refl
decoded BankLayout = refl
decoded TooManyBytes = refl
decoded TooDeep = refl
decoded Cut = refl
decoded UnknownOperator = refl
decoded MissingOperands = refl
decoded NoSuchSubroutine = refl
decoded Flex = refl
decoded DivByZero = refl
decoded NothingToPop = refl
decoded Seac = refl
decoded OutOfRange = refl
decoded NotFinite = refl
decoded StackFull = refl
decoded StemsFull = refl
decoded CommandsFull = refl
decoded OutputShort = refl
decoded WidthNotFinite = refl
decoded ScratchShort = refl
decoded NothingDrawn = refl
decoded StrictStackFull = refl

pub same_number : (a b : Refusal) → number_of a ≡ number_of b → a ≡ b
same_number a b h = sym (decoded a) ∙ ap refusal_of h ∙ decoded b

pub positive : (r : Refusal) → 0 < number_of r
positive MatrixNotFinite = omega arith
positive BankLayout = omega arith
positive TooManyBytes = omega arith
positive TooDeep = omega arith
positive Cut = omega arith
positive UnknownOperator = omega arith
positive MissingOperands = omega arith
positive NoSuchSubroutine = omega arith
positive Flex = omega arith
positive DivByZero = omega arith
positive NothingToPop = omega arith
positive Seac = omega arith
positive OutOfRange = omega arith
positive NotFinite = omega arith
positive StackFull = omega arith
positive StemsFull = omega arith
positive CommandsFull = omega arith
positive OutputShort = omega arith
positive WidthNotFinite = omega arith
positive ScratchShort = omega arith
positive NothingDrawn = omega arith
positive StrictStackFull = omega arith

pub most : (r : Refusal) → number_of r ≤ 22
most MatrixNotFinite = omega arith
most BankLayout = omega arith
most TooManyBytes = omega arith
most TooDeep = omega arith
most Cut = omega arith
most UnknownOperator = omega arith
most MissingOperands = omega arith
most NoSuchSubroutine = omega arith
most Flex = omega arith
most DivByZero = omega arith
most NothingToPop = omega arith
most Seac = omega arith
most OutOfRange = omega arith
most NotFinite = omega arith
most StackFull = omega arith
most StemsFull = omega arith
most CommandsFull = omega arith
most OutputShort = omega arith
most WidthNotFinite = omega arith
most ScratchShort = omega arith
most NothingDrawn = omega arith
most StrictStackFull = omega arith
