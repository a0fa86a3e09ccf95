-- Laws: of `lib.Signed`'s order, what that library does not have; and of `lesser` and `greater`.
use Rattle.std.specs.Prelude.{◌≡◌, refl, ◌⊎◌, Bool, true, false, not, T, ℤ, pos, negsuc, ◌≤ℤ◌, ◌<ℤ◌}
use Rattle.std.proofs.Common.{ap, le_of_lt, le_antisymm, inl, inr, leb→le, le→leb, ltb→lt, lt→ltb}
use Rattle.std.proofs.Math.Dec.{nleb→lt}
use Rattle.std.specs.Int.Signed.{lt_z, le_z, le_z_yes, lt_z_yes, ≤ℤ_refl, <ℤ-≤ℤ_trans, clash_ℤ}
use Rattle.type2.specs.Bools.{choose}
use Rattle.boxes.specs.Box.{lesser, greater}

fails : (a b : ℤ) → T (not (le_z a b)) → T (lt_z b a)
fails (pos a) (pos b) t = lt→ltb b a (nleb→lt a b t)
fails (pos a) (negsuc b) t = tt
fails (negsuc a) (pos b) t = absurd t
fails (negsuc a) (negsuc b) t = lt→ltb a b (nleb→lt b a t)

less : (a b : ℤ) → T (lt_z a b) → T (le_z a b)
less (pos a) (pos b) t = le→leb a b (le_of_lt (ltb→lt a b t))
less (pos a) (negsuc b) t = absurd t
less (negsuc a) (pos b) t = tt
less (negsuc a) (negsuc b) t = le→leb b a (le_of_lt (ltb→lt b a t))

equal : (a b : ℤ) → T (le_z a b) → T (le_z b a) → a ≡ b
equal (pos a) (pos b) t u = ap pos (le_antisymm (leb→le a b t) (leb→le b a u))
equal (pos a) (negsuc b) t u = absurd t
equal (negsuc a) (pos b) t u = absurd u
equal (negsuc a) (negsuc b) t u = ap negsuc (le_antisymm (leb→le a b u) (leb→le b a t))

pub le_z_no : {a b : ℤ} → T (not (le_z a b)) → b <ℤ a
le_z_no {a} {b} t = lt_z_yes (fails a b t)

pub <ℤ_≤ℤ : {a b : ℤ} → a <ℤ b → a ≤ℤ b
<ℤ_≤ℤ {a} {b} h = le_z_yes (less a b h.lt)

pub ≤ℤ_antisymm : {a b : ℤ} → a ≤ℤ b → b ≤ℤ a → a ≡ b
≤ℤ_antisymm {a} {b} h k = equal a b h.le k.le

-- by a test
pub either : {A : Type 0} (b : Bool) → (T b → A) → (T (not b) → A) → A
either true f g = f tt
either false f g = g tt

pub ≤ℤ_trans : {a b c : ℤ} → a ≤ℤ b → b ≤ℤ c → a ≤ℤ c
≤ℤ_trans {a} {b} {c} h k = either (le_z a c) le_z_yes (λ t. clash_ℤ (<ℤ-≤ℤ_trans (le_z_no t) h) k)

-- ---- lesser and greater: a bound of both, and one of them

pub lesser_left : (a b : ℤ) → lesser a b ≤ℤ a
lesser_left a b = choose (le_z a b) (λ z. z ≤ℤ a) a b (λ t. ≤ℤ_refl a) (λ t. <ℤ_≤ℤ (le_z_no t))

pub lesser_right : (a b : ℤ) → lesser a b ≤ℤ b
lesser_right a b = choose (le_z a b) (λ z. z ≤ℤ b) a b (λ t. le_z_yes t) (λ t. ≤ℤ_refl b)

pub lesser_one : (a b : ℤ) → (a ≡ lesser a b) ⊎ (b ≡ lesser a b)
lesser_one a b = choose (le_z a b) (λ z. (a ≡ z) ⊎ (b ≡ z)) a b (λ t. inl refl) (λ t. inr refl)

pub greater_left : (a b : ℤ) → a ≤ℤ greater a b
greater_left a b = choose (le_z a b) (λ z. a ≤ℤ z) b a (λ t. le_z_yes t) (λ t. ≤ℤ_refl a)

pub greater_right : (a b : ℤ) → b ≤ℤ greater a b
greater_right a b = choose (le_z a b) (λ z. b ≤ℤ z) b a (λ t. ≤ℤ_refl b) (λ t. <ℤ_≤ℤ (le_z_no t))

pub greater_one : (a b : ℤ) → (a ≡ greater a b) ⊎ (b ≡ greater a b)
greater_one a b = choose (le_z a b) (λ z. (a ≡ z) ⊎ (b ≡ z)) b a (λ t. inr refl) (λ t. inl refl)

pub greater-least : (a b : ℤ) {z : ℤ} → a ≤ℤ z → b ≤ℤ z → greater a b ≤ℤ z
greater-least a b {z} h k = choose (le_z a b) (λ x. x ≤ℤ z) b a (λ t. k) (λ t. h)
