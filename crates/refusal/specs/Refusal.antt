-- Definitions: the numbers of refusals. Document 01, "Numbers the board logs"; document 02, (a) for 21 and (c) for 22.
use Rattle.std.specs.Prelude.{◌≡◌, ℕ, ◌<◌, Result, Ok, Err, MatchResult}
use Rattle.refusal.specs.declared.Refusal.{Refusal}
use Rattle.refusal.specs.declared.UnknownNumber.{UnknownNumber}
use Rattle.refusal.specs.declared.Refusal.TheVariants.{MatrixNotFinite, BankLayout, TooManyBytes, TooDeep, Cut, UnknownOperator, MissingOperands, NoSuchSubroutine, Flex, DivByZero, NothingToPop, Seac, OutOfRange, NotFinite, StackFull, StemsFull, CommandsFull, OutputShort, WidthNotFinite, ScratchShort, NothingDrawn, StrictStackFull}

abbrev pub number_of : Refusal → ℕ
number_of MatrixNotFinite = 1
number_of BankLayout = 2
number_of TooManyBytes = 3
number_of TooDeep = 4
number_of Cut = 5
number_of UnknownOperator = 6
number_of MissingOperands = 7
number_of NoSuchSubroutine = 8
number_of Flex = 9
number_of DivByZero = 10
number_of NothingToPop = 11
number_of Seac = 12
number_of OutOfRange = 13
number_of NotFinite = 14
number_of StackFull = 15
number_of StemsFull = 16
number_of CommandsFull = 17
number_of OutputShort = 18
number_of WidthNotFinite = 19
number_of ScratchShort = 20
number_of NothingDrawn = 21
number_of StrictStackFull = 22

-- the first word of an answer: 0 with a result, else the refusal's number
abbrev pub number_in : {A : Type 0} → Result A Refusal → ℕ
number_in (Ok x) = 0
number_in (Err r) = number_of r

-- the refusal of a number, or an error where the number is not 1 to 22
abbrev pub Decodes : ℕ → Result Refusal UnknownNumber → Type 0
Decodes n r = MatchResult r (λ x. number_of x ≡ n) (λ e. (e.0 ≡ n) × (0 < n → 22 < n))
