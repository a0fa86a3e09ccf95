-- Definitions: what a run leaves, with stem stores of its own. Document 01, "Bytes run", "What each entry is held to" (a).
use Rattle.std.specs.Prelude.{ℕ, List}
use Rattle.outline.specs.declared.Stem.{Stem}
use Rattle.type1.specs.declared.Interpreted.{Interpreted}
use Rattle.type1.specs.Run.{Outcome}
use Rattle.type1.specs.Interpret.{Leaves}

-- the answer and the command store are a run's that ends so, for the stem stores before and after it
pub record Runs (r : Interpreted) (words words' : List ℕ) (o : Outcome) : Type 0 where
  pub before : List Stem
  pub after : List Stem
  pub leaves : Leaves r words' after words before o
