-- Laws: document 01's example of number 2, whatever the charstring and the stores are.
use Rattle.std.specs.Prelude.{ℕ, ◌≡◌, refl, List, [], ◌∷◌}
use Rattle.type1.specs.declared.Reading.{Reading}
use Rattle.bank.specs.Bank.{be16, be32, valid}
use Rattle.type1.specs.Run.{refused}
use Rattle.type1.specs.Interpret.{source_of, outcome}

bad_bank : (charstring : List ℕ) (reading : Reading) (records words : ℕ) → outcome (source_of charstring (0x00 ∷ 0x01 ∷ [])) reading records words ≡ refused 2
unfolding outcome valid be16 be32
bad_bank charstring reading records words = refl
