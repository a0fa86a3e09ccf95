-- `type1_to_type2::writing::put_delta` meets its contract.
use mathlib.Core.Path.{refl, sym, ap, ◌∙◌, subst}
use Prim.Native.Nat.{ℕ}
use mathlib.Core.Bool.{true≢false}
use borrow.Author.Rules.{rules}
use Rattle.std.specs.Prelude.{Result, is_ok}
use Rattle.refusal.specs.declared.Refusal.{Refusal}
use Rattle.type2.specs.Number.{pushed}
use Rattle.type1_to_type2.specs.Streaming.{resumed}
use Rattle.type1_to_type2.proofs.Draws.{delta_refused, delta-pushed, delta_at}
use Rattle.type1_to_type2.proofs.Writes.{stays_refused}
use Rattle.type1_to_type2.proofs.writing.put_delta.Goals as goal

pub returns-in_default : goal.returns-in_default
returns-in_default c =
    record { puts = record { then = λ f. stays_refused _ _ _ _ c.in_default.is; same = refl }; at = λ n z. absurd (true≢false (sym (ap is_ok (sym c.in_default.is ∙ z)))); waits = refl; held = refl }

pub returns-in_default-pushed : goal.returns-in_default-pushed
returns-in_default-pushed c =
    let e = c.in_default-pushed.is in
    record {
      puts = record {
        then = λ f. ap (λ (r : Result ℕ Refusal). resumed r c.push_step-a.new.out f) e ∙ delta_refused c.args.w _ _ c.args.py _ c.in-Ok.is _ _ (ap (λ (r : Result ℕ Refusal). pushed r c.push_step-a.new.out) (sym e) ∙ c.push_step-a.ensures.out_after) f;
        same = search rules;
      };
      at = λ n z. absurd (true≢false (sym (ap is_ok (sym e ∙ z))));
      waits = refl;
      held = refl;
    }

pub returns : goal.returns
returns c =
    let w = c.args.w in
    record {
      puts = record { then = delta-pushed w _ _ _ _ c.in-Ok.is _ _ _ _ (ap (λ (r : Result ℕ Refusal). pushed r c.push_step-a.new.out) (sym c.in-Ok-pushed.is) ∙ c.push_step-a.ensures.out_after) c.push_step-b.ensures.out_after; same = search rules };
      at = λ n z. delta_at w _ _ _ _ c.push_step-a.ensures.reached_value c.push_step-b.ensures.reached_value;
      waits = refl;
      held = refl;
    }
