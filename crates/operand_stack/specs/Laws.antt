-- Laws: what a refusal of an operand says, and what it says that there is none.
use Rattle.std.specs.Prelude.{◌≡◌, refl, ℕ, ◌+◌, ◌≤◌, ◌<◌, Bool, true, false, leb, eqb}
use Rattle.std.proofs.Common.{sym, ap, ap₂, ◌∙◌, pos_of_ne-zero, arith, true≢false, leb→le, lit≤, ne_eqb, le-leb}
use Rattle.std.proofs.lemmas.Bool.{eqb-false, lt-leb}
use Rattle.hints.specs.Hints.{at_most}
use Rattle.outline.specs.Outline.{pick}
use Rattle.std.specs.Prelude.{Result, Ok, Err, IsOk}
use Rattle.std.specs.Result.{result_and}
use Rattle.refusal.specs.declared.Refusal.{Refusal}
use Rattle.refusal.specs.Refusal.{number_of, number_in}
use Rattle.refusal.proofs.Numbers.{positive}
use Rattle.operand_stack.specs.Stack.{depth_of, overflow_of, operand_refusal, number_if, first_refusal}

-- ---- one operand more
pub has_room : (strict : Bool) (n d : ℕ) → d ≡ depth_of strict → n < d → 0 ≡ operand_refusal strict (n + 1)
has_room strict n d e h = sym (ap (λ (b : Bool). pick b 0 (overflow_of strict)) (le-leb (n + 1) (depth_of strict) (omega (arith, e, h))))

pub has-none : (strict : Bool) (n d k : ℕ) → d ≡ depth_of strict → d ≤ n → k ≡ overflow_of strict → k ≡ operand_refusal strict (n + 1)
has-none strict n d k e h z = z ∙ sym (ap (λ (b : Bool). pick b 0 (overflow_of strict)) (lt-leb (n + 1) (depth_of strict) (omega (arith, e, h))))

fit_under : (most k n : ℕ) → (k ≡ 0 → ⊥) → at_most most k n ≡ 0 → n ≤ most
fit_under most k n h e = go (leb n most) refl e
  where
    go : (b : Bool) → leb n most ≡ b → pick b 0 k ≡ 0 → n ≤ most
    go true is z = leb→le n most (rw is tt)
    go false is z = absurd (h z)

-- what is not refused is at most 256
pub operands_fit : (strict : Bool) (n : ℕ) → operand_refusal strict n ≡ 0 → n ≤ 256
operands_fit true n e = let h = fit_under 24 22 n (λ z. let y : ⊥ = omega (arith, z) in y) e in omega (arith, h)
operands_fit false n e = fit_under 256 15 n (λ z. let y : ⊥ = omega (arith, z) in y) e

-- a refusal's number is 15 or 22
refusal_is : (b : Bool) (k : ℕ) → 3 ≤ k → (pick b 0 k ≡ 0 → ⊥) → 3 ≤ pick b 0 k
refusal_is true k h f = absurd (f refl)
refusal_is false k h f = h

pub refusal-above : (strict : Bool) (n : ℕ) → (operand_refusal strict n ≡ 0 → ⊥) → 3 ≤ operand_refusal strict n
refusal-above true n = refusal_is (leb n 24) 22 (lit≤ tt)
refusal-above false n = refusal_is (leb n 256) 15 (lit≤ tt)

-- ---- the first of two refusals
pub first_taken : (a b : ℕ) → (a ≡ 0 → ⊥) → a ≡ first_refusal a b
first_taken a b h = sym (ap (λ (t : Bool). pick t b a) (ne_eqb a 0 h))

pub first_left : (a b : ℕ) → a ≡ 0 → b ≡ first_refusal a b
first_left a b e = sym (ap (λ (k : ℕ). pick (eqb k 0) b a) e)

pub refused_by : (f a b x y : ℕ) → f ≡ first_refusal a b → a ≡ x → b ≡ y → f ≡ first_refusal x y
refused_by f a b x y p q r = p ∙ ap₂ first_refusal q r

-- of which the first is k where c
pub first_is : (c : Bool) (k g : ℕ) → c ≡ true → (k ≡ 0 → ⊥) → first_refusal (number_if c k) g ≡ k
first_is true k g e h = ap (λ (b : Bool). pick b g k) (ne_eqb k 0 h)
first_is false k g e h = absurd (true≢false (sym e))

pub second_is : (c : Bool) (k g : ℕ) → c ≡ false → first_refusal (number_if c k) g ≡ g
second_is true k g e = absurd (true≢false e)
second_is false k g e = refl

pub none_refused : (c : Bool) (k g : ℕ) → (k ≡ 0 → ⊥) → first_refusal (number_if c k) g ≡ 0 → (c ≡ false) × (g ≡ 0)
none_refused true k g h e = absurd (h (sym (first_is true k g refl h) ∙ e))
none_refused false k g h e = (refl, e)

-- there is room for one operand more
pub room_left : (strict : Bool) (n k f : ℕ) (c : Bool) → (k ≡ 0 → ⊥) → f ≡ first_refusal (number_if c k) (operand_refusal strict (n + 1)) → f ≡ 0 → n < 256
room_left strict n k f c h e z = let fits = operands_fit strict (n + 1) (none_refused c k (operand_refusal strict (n + 1)) h (sym e ∙ z)).1 in omega (arith, fits)

-- p is not 0
pub some_left : (p k g f : ℕ) → (k ≡ 0 → ⊥) → f ≡ first_refusal (number_if (eqb p 0) k) g → f ≡ 0 → 1 ≤ p
some_left p k g f h e z = pos_of_ne-zero (eqb-false p 0 (none_refused (eqb p 0) k g h (sym e ∙ z)).0)

-- ---- as numbers
pub number_refused : {A : Type 0} (c : Bool) (r : Refusal) (x : Result A Refusal) → (c ≡ true → x ≡ Err r) → (c ≡ false → IsOk x) → number_in x ≡ number_if c (number_of r)
number_refused true r x f g = ap number_in (f refl)
number_refused false r (Ok a) f g = refl
number_refused false r (Err e) f g = absurd (true≢false (sym (g refl)))

pub number_first : {A : Type 0} (a b x : Result A Refusal) → x ≡ result_and a b → number_in x ≡ first_refusal (number_in a) (number_in b)
number_first (Ok a) b x e = ap number_in e
number_first (Err r) b x e = ap number_in e ∙ first_taken (number_of r) (number_in b) (λ z. let p = positive r in omega (arith, z, p))
