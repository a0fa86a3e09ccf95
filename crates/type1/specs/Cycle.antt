-- Definitions: what the byte runner and the operator step, which call each other, say of the run. Document 01, "Reading": "that body may call again; depth 10 runs, 11 is refused".
use Rattle.std.specs.Prelude.{ℕ, suc, Bool, List, length, Float}
use Rattle.outline.specs.declared.Stem.{Stem}
use Rattle.type1.specs.declared.St.{St}
use Rattle.type1.specs.declared.Ran.{Ran}
use Rattle.type1.specs.declared.Reading.{Reading}
use Rattle.type1.specs.State.{State}
use Rattle.type1.specs.Run.{Limits, within, limits_of, font_of, Outcome, returned, execute, run_body}
use Rattle.type1.specs.Memory.{Mem, abs, Fit, Holds, Meets, operator_of}
use Rattle.type1.specs.Sound.{Sound}

abbrev pub mem_of : List Float → List Float → List Float → List Float → List Bool → List ℕ → List Stem → Mem
mem_of o p x e a c z = record { ops = o; ps = p; cells = x; edges = e; across = a; cmds = c; stems = z }

-- the state is one that the arrays hold, and its numbers are finite
pub record Ready (t : St) (m : Mem) : Type 0 where
  pub fit : Fit t m
  pub sound : Sound (abs t m)

-- the limits of a reading in the lent stores: document 01, numbers 15 to 17; document 02, (c)
abbrev pub limits_in : Reading → Mem → Limits
limits_in reading m = limits_of reading (within (length m.stems) (length m.cmds))

-- what the run does, from each state that is held so
pub record From : Type 0 where
  pub state : St
  pub mem : Mem
  pub does : State → Outcome

abbrev pub MeetsFrom : Ran → Mem → From → Type 0
MeetsFrom r m x = (s : State) → Holds x.state x.mem s → Meets r m (x.does s)

-- one operator, with so many levels left for bodies
abbrev pub op_d : List ℕ → Reading → ℕ → ℕ → St → Mem → From
op_d bank reading levels op t m = record { state = t; mem = m; does = execute (limits_in reading m) (font_of bank reading) (run_body (limits_in reading m) (font_of bank reading) levels) (operator_of op) }

-- a body's bytes, with so many levels left below it; one that returns goes on after the call
abbrev pub run_d : List ℕ → Reading → ℕ → List ℕ → St → Mem → From
run_d bank reading levels code t m = record { state = t; mem = m; does = λ s. returned (run_body (limits_in reading m) (font_of bank reading) (suc levels) code s) }
