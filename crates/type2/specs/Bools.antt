-- Laws: tests on numbers, and choices by a test.
use Rattle.std.specs.Prelude.{◌≡◌, refl, ℕ, ◌+◌, ◌≤◌, ◌<◌, Bool, true, false, not, ◌&&◌, cond, T, leb, ltb, eqb}
use Rattle.std.proofs.Common.{subst, arith, leb→le, ltb→lt, eqb→eq, le→leb, lt→ltb}
use Rattle.std.proofs.Math.Dec.{eqb_refl}
use Rattle.binary64.specs.Units.{bool_iff}

pub yes : (b : Bool) → T b → b ≡ true
yes true t = refl
yes false t = absurd t

pub never : (b : Bool) → (T b → ⊥) → b ≡ false
never true t = absurd (t tt)
never false t = refl

pub is_lt : (a b : ℕ) → a < b → ltb a b ≡ true
is_lt a b h = yes (ltb a b) (lt→ltb a b h)

pub not_lt : (a b : ℕ) → b ≤ a → ltb a b ≡ false
not_lt a b h = never (ltb a b) (λ t. let l : a < b = ltb→lt a b t in let z : ⊥ = omega arith in z)

pub is_le : (a b : ℕ) → a ≤ b → leb a b ≡ true
is_le a b h = yes (leb a b) (le→leb a b h)

pub not_le : (a b : ℕ) → b < a → leb a b ≡ false
not_le a b h = never (leb a b) (λ t. let l : a ≤ b = leb→le a b t in let z : ⊥ = omega arith in z)

pub leb_add : (n k c : ℕ) → leb (n + c) (k + c) ≡ leb n k
leb_add n k c = bool_iff (leb (n + c) (k + c)) (leb n k)
    (λ t. le→leb n k (let h : n + c ≤ k + c = leb→le (n + c) (k + c) t in let z : n ≤ k = omega arith in z))
    (λ t. le→leb (n + c) (k + c) (let h : n ≤ k = leb→le n k t in let z : n + c ≤ k + c = omega arith in z))

pub not_eq : (a b : ℕ) → (a ≡ b → ⊥) → eqb a b ≡ false
not_eq a b h = never (eqb a b) (λ t. h (eqb→eq a b t))

pub is_eq : (a b : ℕ) → a ≡ b → eqb a b ≡ true
is_eq a b h = subst (λ (x : ℕ). eqb a x ≡ true) h (yes (eqb a a) (eqb_refl a))

pub and_both : (a b : Bool) → T (a && b) → T a × T b
and_both true true t = (tt, tt)
and_both true false t = absurd t
and_both false b t = absurd t

-- what holds of both choices, each with what the test says, holds of the choice
pub choose {ℓ} : {A : Type ℓ} (b : Bool) (P : A → Type 0) (x y : A) → (T b → P x) → (T (not b) → P y) → P (cond b x y)
choose true P x y f g = f tt
choose false P x y f g = g tt
