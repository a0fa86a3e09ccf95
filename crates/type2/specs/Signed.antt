-- Laws: signed whole numbers by their two parts, as balances on ℕ.
use Rattle.std.specs.Prelude.{◌≡◌, refl, ◌⊎◌, ℕ, suc, ◌+◌, ◌-◌, T, ltb, ℤ, pos, negsuc, ◌+ℤ◌}
use Rattle.std.proofs.Common.{ap, inl, inr, arith, ltb→lt, nltb→le, eqb→eq}
use Rattle.std.proofs.Math.IntN.{sub_ℕ}
use Rattle.type2.specs.Number.{zp, zm}
use Rattle.type2.specs.Instruction.{is_zero}
use Rattle.type2.specs.Bools.{choose}

pub same : (a b : ℤ) → zp a + zm b ≡ zm a + zp b → a ≡ b
same (pos m) (pos n) h = ap pos (let z : m ≡ n = omega arith in z)
same (pos m) (negsuc n) h = absurd (let z : ⊥ = omega arith in z)
same (negsuc m) (pos n) h = absurd (let z : ⊥ = omega arith in z)
same (negsuc m) (negsuc n) h = ap negsuc (let z : m ≡ n = omega arith in z)

pub sub_bal : (P M : ℕ) → zp (sub_ℕ P M) + M ≡ zm (sub_ℕ P M) + P
sub_bal P M = choose (ltb P M) (λ (z : ℤ). zp z + M ≡ zm z + P) (negsuc (M - suc P)) (pos (P - M)) (λ t. let h = ltb→lt P M t in omega arith) (λ t. let h = nltb→le P M t in omega arith)

pub sub_is : (u : ℤ) (P M : ℕ) → zp u + M ≡ zm u + P → sub_ℕ P M ≡ u
sub_is u P M h = same (sub_ℕ P M) u (let b = sub_bal P M in omega arith)

pub add_bal : (a b : ℤ) → zp (a +ℤ b) + zm a + zm b ≡ zm (a +ℤ b) + zp a + zp b
add_bal (pos a) (pos b) = omega arith
add_bal (pos a) (negsuc b) = let h = sub_bal a (suc b) in omega arith
add_bal (negsuc a) (pos b) = let h = sub_bal b (suc a) in omega arith
add_bal (negsuc a) (negsuc b) = omega arith

pub one_sided : (a : ℤ) → (zp a ≡ 0) ⊎ (zm a ≡ 0)
one_sided (pos n) = inr refl
one_sided (negsuc n) = inl refl

pub zero_is : (u : ℤ) → T (is_zero u) → u ≡ pos 0
zero_is u t = let e : zp u + zm u ≡ 0 = eqb→eq (zp u + zm u) 0 t in same u (pos 0) (omega arith)
