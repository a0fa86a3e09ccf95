-- Laws: small banks, by computing.
use Rattle.std.specs.Prelude.{ℕ, ◌≡◌, refl, true, false, List, [], ◌∷◌}
use Rattle.std.proofs.Math.Option.{none, some}
use Rattle.std.proofs.Common.{arith}
use Rattle.bank.specs.Laws.{body-none}
use Rattle.bank.specs.Bank.{be16, be32, valid, body}

-- document 01, number 2: bank `00 01`
cut : valid (0x00 ∷ 0x01 ∷ []) ≡ false
unfolding valid be16 be32
cut = refl

-- `00 00 00 00 00 00`: no subroutines
abbrev no_bodies : List ℕ
no_bodies = 0x00 ∷ 0x00 ∷ 0x00 ∷ 0x00 ∷ 0x00 ∷ 0x00 ∷ []

no_bodies_lem : valid no_bodies ≡ true
unfolding valid be16 be32
no_bodies_lem = refl

no_body : (n : ℕ) → body n no_bodies ≡ none
unfolding be16
no_body n = body-none no_bodies n (omega arith)

-- two bodies, the first empty
abbrev two_bodies : List ℕ
two_bodies =
    0x00 ∷ 0x02 ∷ 0x00 ∷ 0x00 ∷ 0x00 ∷ 0x00 ∷ 0x00 ∷ 0x00 ∷ 0x00 ∷ 0x00 ∷ 0x00 ∷ 0x00 ∷ 0x00 ∷ 0x02 ∷ 0x8B ∷ 0x0B ∷ []

two_bodies_lem : valid two_bodies ≡ true
unfolding valid be16 be32
two_bodies_lem = refl

body_0 : body 0 two_bodies ≡ some []
unfolding body be16 be32
body_0 = refl

body_1 : body 1 two_bodies ≡ some (0x8B ∷ 0x0B ∷ [])
unfolding body be16 be32
body_1 = refl

body_2 : body 2 two_bodies ≡ none
unfolding body be16 be32
body_2 = refl
