-- Laws: what an input that converts says of its Type 1 run.
use Rattle.std.specs.Prelude.{◌≡◌, refl, ℕ, Bool, List}
use Rattle.std.proofs.Common.{sym, ap, ◌∙◌, inl, inr, arith}
use Rattle.std.proofs.Math.Bool.{true, false}
use Rattle.bank.specs.Bank.{valid}
use Rattle.geometry.specs.declared.Matrix.{Matrix}
use Rattle.type1.specs.declared.Reading.{Reading}
use Rattle.outline.specs.Outline.{pick}
use Rattle.type1.specs.State.{State, start}
use Rattle.type1.specs.Run as Run
use Rattle.type1.specs.Run.{Outcome, going, returning, ending, Limits, within, limits_of, Font, font_of, check}
use Rattle.type1.specs.Interpret.{Source, run_of, outcome}
use Rattle.type1.specs.Sound.{Ends, LimitOr}
use Rattle.type1.specs.Outcomes.{ends_going, ends_ending}
use Rattle.type1.specs.Invariants.{run_not_returning}
use Rattle.type1.specs.Limited.{reading_limiting, run-limited, limited_going, limited_ending}
use Rattle.folding.specs.Folding.{finite_matrix, folded_width}
use Rattle.type1_to_type2.specs.Writing as Writing
use Rattle.type1_to_type2.specs.Writing.{Written, wrote, write}
use Rattle.type1_to_type2.specs.Convert.{folds_finite, Glyph, glyph_of, Rooms, refused, converted, instructions, writes, folded, ended, convert}
use Rattle.agreement.specs.Demand3.{unlimited_run}
use Rattle.agreement.specs.Simulation.{OutcomeIs, Unrefused, Folds}

never : {A : Type 0} {k : ℕ} {g : Glyph} → refused k ≡ converted g → A
never e = absurd (let z : ◌≡◌ {A = ℕ} 0 1 = cc in let y : ⊥ = omega arith in y)

pub ends_so : (Q : State → Type 0) (o : Outcome) → Ends Q o → (s : State) → OutcomeIs o s → Q s
ends_so Q o h s (inl e) = ends_going Q o h s e
ends_so Q o h s (inr e) = ends_ending Q o h s e

-- ---- folding and writing
writes_is : (x : Written) (f : List ℕ → Glyph) (g : Glyph) → writes f x ≡ converted g → (b : List ℕ) × (x ≡ wrote b) × (f b ≡ g)
writes_is (Writing.refused k) f g e = never e
writes_is (Writing.wrote b) f g e = (b, refl, cc)

folds : (m : Matrix) (room : ℕ) (s : State) (g : Glyph) → folded m room s ≡ converted g → Folds m room s g
unfolding folded
folds m room s g = go (folds_finite m s) refl
  where
    go : (b : Bool) → folds_finite m s ≡ b → pick b (writes (glyph_of (folded_width m s.width) s.ran) (write (instructions m s) room)) (refused 14) ≡ converted g → Folds m room s g
    go true f e =
        let (b, q, h) = writes_is (write (instructions m s) room) (glyph_of (folded_width m s.width) s.ran) g e in
        record { finite = f; wrote = q ∙ ap (λ (k : Glyph). wrote k.program) h; width = sym (ap (λ (k : Glyph). k.width) h) }
    go false f e = never e

-- ---- the run
module _ (x : Source) (reading : Reading) (m : Matrix) (r : Rooms) (g : Glyph) where
  abbrev limits : Limits
  limits = limits_of reading (within r.records r.words)

  abbrev font : Font
  font = font_of x.bank reading

  abbrev limited : Outcome
  limited = run_of limits x reading

  same : LimitOr limited (unlimited_run x reading)
  same = run-limited limits (reading_limiting reading r.records r.words) font x.charstring start

  unrefused : (o : Outcome) → limited ≡ o → ended m r.bytes o ≡ converted g → Unrefused x reading m r.bytes g
  unrefused (going s) e h = record { state = s; run = inl (limited_going _ _ same s e); folds = folds m r.bytes s g h }
  unrefused (returning s) e h = absurd (run_not_returning limits font x.charstring start s e)
  unrefused (ending s) e h = record { state = s; run = inr (limited_ending _ _ same s e); folds = folds m r.bytes s g h }
  unrefused (Run.refused k) e h = never h

  checked : (b : Bool) → ended m r.bytes (check b 2 limited) ≡ converted g → Unrefused x reading m r.bytes g
  checked true e = unrefused limited refl e
  checked false e = never e

  pub converts : convert x reading m r ≡ converted g → Unrefused x reading m r.bytes g
  unfolding convert outcome
  converts = go (finite_matrix m)
    where
      go : (b : Bool) → pick b (ended m r.bytes (check (valid x.bank) 2 limited)) (refused 1) ≡ converted g → Unrefused x reading m r.bytes g
      go true e = checked (valid x.bank) e
      go false e = never e
