-- Definitions: Type 1's operators, and the bytes that stand for them. Document 01, "Reading"; Adobe Type 1 Font Format, section 6.4 and appendix 2.
use Rattle.std.specs.Prelude.{ℕ, List, [], ◌∷◌, eqb}
use Rattle.outline.specs.Outline.{pick}

-- T1's names of them; `unknown` is any other byte
pub data Operator : Type 0 where
  hstem vstem vmoveto rlineto hlineto vlineto rrcurveto closepath callsubr return hsbw endchar rmoveto hmoveto vhcurveto hvcurveto : Operator
  dotsection vstem3 hstem3 seac sbw div callothersubr pop setcurrentpoint : Operator
  unknown : Operator

-- what a table has for a byte; what it has not is unknown
abbrev pub look : List (ℕ × Operator) → ℕ → Operator
look [] b = unknown
look (e ∷ l) b = pick (eqb b e.0) e.1 (look l b)

-- operators of one byte
abbrev pub one_byte : List (ℕ × Operator)
one_byte =
    (1, hstem) ∷ (3, vstem) ∷ (4, vmoveto) ∷ (5, rlineto) ∷ (6, hlineto) ∷ (7, vlineto) ∷ (8, rrcurveto) ∷ (9, closepath)
    ∷ (10, callsubr) ∷ (11, return) ∷ (13, hsbw) ∷ (14, endchar) ∷ (21, rmoveto) ∷ (22, hmoveto) ∷ (30, vhcurveto) ∷ (31, hvcurveto) ∷ []

-- operators of two, the first of which is 12
abbrev pub two_bytes : List (ℕ × Operator)
two_bytes =
    (0, dotsection) ∷ (1, vstem3) ∷ (2, hstem3) ∷ (6, seac) ∷ (7, sbw) ∷ (12, div) ∷ (16, callothersubr) ∷ (17, pop)
    ∷ (33, setcurrentpoint) ∷ []

unfoldable pub of_byte : ℕ → Operator
of_byte b = look one_byte b

unfoldable pub of_escape : ℕ → Operator
of_escape b = look two_bytes b
