-- Definitions: the states that a run goes through, and whether it comes to hold a 25th operand. Document 01, "Type 1 run"; document 02, (c): "24 operands fit, a 25th ends the run".
use Rattle.std.specs.Prelude.{ℕ, zero, suc, Bool, true, false, ◌||◌, List, [], ◌∷◌, ◌++◌, leb, ltb, length}
use Rattle.std.proofs.Math.Option.{Option, none, some}
use Rattle.charstring.specs.Cipher.{plain}
use Rattle.outline.specs.Outline.{pick}
use Rattle.type1.specs.Operator as op
use Rattle.type1.specs.Operator.{Operator}
use Rattle.type1.specs.Number.{Token, cut, number, operator, token, double}
use Rattle.type1.specs.State.{State, start}
use Rattle.type1.specs.Run.{Limits, within, limits_of, reading_of, Outcome, going, returning, ending, refused, top, without, push, Font, font_of, charge, named, execute, run_body}
use Rattle.type1.specs.Interpret.{Source}

-- ---- after each number and each operator, and within a body after each of its own

-- the state that a step leaves, and those after it
abbrev pub reached : Outcome → (State → List State) → List State
reached (going s) more = s ∷ more s
reached (returning s) more = s ∷ []
reached (ending s) more = s ∷ []
reached (refused n) more = []

-- those of a body, once its bytes are counted
abbrev pub counted : Outcome → (State → List State) → List State
counted (going s) more = more s
counted (returning s) more = []
counted (ending s) more = []
counted (refused n) more = []

abbrev pub in_body : (List ℕ → State → List State) → Option (List ℕ) → State → List State
in_body deep none s = []
in_body deep (some l) s = counted (charge l s) (deep l)

abbrev pub is_call : Operator → Bool
is_call op.hstem = false
is_call op.vstem = false
is_call op.vmoveto = false
is_call op.rlineto = false
is_call op.hlineto = false
is_call op.vlineto = false
is_call op.rrcurveto = false
is_call op.closepath = false
is_call op.callsubr = true
is_call op.return = false
is_call op.hsbw = false
is_call op.endchar = false
is_call op.rmoveto = false
is_call op.hmoveto = false
is_call op.vhcurveto = false
is_call op.hvcurveto = false
is_call op.dotsection = false
is_call op.vstem3 = false
is_call op.hstem3 = false
is_call op.seac = false
is_call op.sbw = false
is_call op.div = false
is_call op.callothersubr = false
is_call op.pop = false
is_call op.setcurrentpoint = false
is_call op.unknown = false

-- those of the body that an operator runs: callsubr's alone
unfoldable pub in_call : Font → (List ℕ → State → List State) → Operator → State → List State
in_call f deep o s = pick (is_call o) (pick (leb 1 (length s.operands)) (in_body deep (named f (top 1 s)) (without 1 s)) []) []

abbrev pub at_token : Limits → (Operator → State → Outcome) → (Operator → State → List State) → Token → State → (ℕ → State → List State) → List State
at_token lim f g cut s more = []
at_token lim f g (number m z) s more = reached (push lim (double z) s) (more m)
at_token lim f g (operator m o) s more = g o s ++ reached (f o s) (more m)

-- of bytes of which the first m are taken already, as `Run.run_bytes` takes them
unfoldable pub in_bytes : Limits → (Operator → State → Outcome) → (Operator → State → List State) → List ℕ → ℕ → State → List State
in_bytes lim f g [] m s = []
in_bytes lim f g (b ∷ l) (suc m) s = in_bytes lim f g l m s
in_bytes lim f g (b ∷ l) zero s = at_token lim f g (token b l) s (in_bytes lim f g l)

-- of a body, with so many levels left, as `Run.run_body` runs it
unfoldable pub in_levels : Limits → Font → ℕ → List ℕ → State → List State
in_levels lim f zero l s = []
in_levels lim f (suc n) l s = in_bytes lim (execute lim f (run_body lim f n)) (in_call f (in_levels lim f n)) (plain f.len_iv l) 0 s

-- of the whole run
unfoldable pub states : Limits → Font → List ℕ → State → List State
states lim f l s = counted (charge l s) (in_levels lim f 11 l)

-- ---- a 25th operand
abbrev pub is_over24 : State → Bool
is_over24 s = ltb 24 (length s.operands)

unfoldable pub any_over24 : List State → Bool
any_over24 [] = false
any_over24 (s ∷ l) = is_over24 s || any_over24 l

-- the present reading's run of a source, in stores of so many records and words, comes to hold one
unfoldable pub holds25 : Source → ℕ → ℕ → ℕ → Bool
holds25 x len_iv records words = any_over24 (states (limits_of (reading_of len_iv) (within records words)) (font_of x.bank (reading_of len_iv)) x.charstring start)

-- ---- limits with room for any number on the PostScript stack
abbrev pub any_postscript : Limits → Limits
any_postscript lim = record { operands = lim.operands; postscript = λ n. 0; hints = lim.hints; groups = lim.groups; stems = lim.stems; commands = lim.commands }
