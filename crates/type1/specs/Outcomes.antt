-- Laws: what holds of the state that a step leaves, through the ways steps are put together; and lists of which each has a property.
use Prim.Native.Nat.{ℕ, zero, suc, ◌≤◌, ◌<◌}
use Rattle.std.proofs.Common.{le_of_suc-le-suc, ap, subst, leb→le}
use native.Mathlib.Omega.{arith}
use Rattle.std.specs.Prelude.{◌≡◌, refl, Bool, true, false, not, T, eqb, leb, length, take, drop, get_or}
use mathlib.Core.List.{List, [], ◌∷◌, ◌++◌}
use Rattle.outline.specs.Outline.{pick}
use Rattle.type1.specs.State.{State}
use Rattle.type1.specs.Run.{Outcome, going, returning, ending, refused, and_then, check, allowed, needs, returned}
use Rattle.type1.specs.Sound.{All, Ends, Goes}

-- ---- a limit by its test
pub limit_check : (b : Bool) (n : ℕ) (o : Outcome) → eqb n 0 ≡ false → allowed (pick b 0 n) o ≡ check b n o
limit_check true n o h = refl
limit_check false n o h = ap (λ (c : Bool). check c n o) h

-- ---- steps
module _ (Q : State → Type 0) where
  pub check_ends : (b : Bool) (n : ℕ) (o : Outcome) → (T b → Ends Q o) → Ends Q (check b n o)
  check_ends true n o h = h tt
  check_ends false n o h = tt

  pub allowed_ends : (n : ℕ) (o : Outcome) → Ends Q o → Ends Q (allowed n o)
  allowed_ends n o h = check_ends (eqb n 0) n o (λ t. h)

  pub pick_ends : (b : Bool) (x y : Outcome) → (T b → Ends Q x) → (T (not b) → Ends Q y) → Ends Q (pick b x y)
  pick_ends true x y h k = h tt
  pick_ends false x y h k = k tt

  pub needs_ends : (n : ℕ) (s : State) (o : Outcome) → (n ≤ length s.operands → Ends Q o) → Ends Q (needs n s o)
  needs_ends n s o h = check_ends (leb n (length s.operands)) 7 o (λ t. h (leb→le n (length s.operands) t))

  pub returned_ends : (o : Outcome) → Ends Q o → Ends Q (returned o)
  returned_ends (going s) q = q
  returned_ends (returning s) q = q
  returned_ends (ending s) q = q
  returned_ends (refused n) q = tt

  -- of an outcome that is known
  pub ends_going : (o : Outcome) → Ends Q o → (s : State) → o ≡ going s → Q s
  ends_going o q s e = subst (Ends Q) e q

  pub ends_ending : (o : Outcome) → Ends Q o → (s : State) → o ≡ ending s → Q s
  ends_ending o q s e = subst (Ends Q) e q

-- after a step that leaves Q, steps that from Q leave R
module _ (Q R : State → Type 0) where
  pub then_ends : (o : Outcome) (k : State → Outcome) → Ends Q o → ((s : State) → Q s → R s) → ((s : State) → Q s → Ends R (k s)) → Ends R (and_then o k)
  then_ends (going s) k q f h = h s q
  then_ends (returning s) k q f h = f s q
  then_ends (ending s) k q f h = f s q
  then_ends (refused n) k q f h = tt

  pub weaken_ends : (o : Outcome) → ((s : State) → Q s → R s) → Ends Q o → Ends R o
  weaken_ends (going s) f q = f s q
  weaken_ends (returning s) f q = f s q
  weaken_ends (ending s) f q = f s q
  weaken_ends (refused n) f q = tt

module _ (Q : State → Type 0) where
  pub check-goes : (b : Bool) (n : ℕ) (o : Outcome) → (T b → Goes Q o) → Goes Q (check b n o)
  check-goes true n o h = h tt
  check-goes false n o h = tt

  pub allowed-goes : (n : ℕ) (o : Outcome) → Goes Q o → Goes Q (allowed n o)
  allowed-goes n o h = check-goes (eqb n 0) n o (λ t. h)

  pub pick_goes : (b : Bool) (x y : Outcome) → (T b → Goes Q x) → (T (not b) → Goes Q y) → Goes Q (pick b x y)
  pick_goes true x y h k = h tt
  pick_goes false x y h k = k tt

  pub then_goes : (R : State → Type 0) (o : Outcome) (k : State → Outcome) → Goes Q o → ((s : State) → Q s → Ends R (k s)) → Ends R (and_then o k)
  then_goes R (going s) k q h = h s q
  then_goes R (returning s) k q h = absurd q
  then_goes R (ending s) k q h = absurd q
  then_goes R (refused n) k q h = tt

-- ---- lists
module _ {A : Type 0} (P : A → Type 0) where
  pub all_append : (l m : List A) → All P l → All P m → All P (l ++ m)
  unfolding All
  all_append [] m p q = q
  all_append (a ∷ l) m p q = (p.0, all_append l m p.1 q)

  pub all_snoc : (l : List A) (a : A) → All P l → P a → All P (l ++ (a ∷ []))
  unfolding All
  all_snoc l a p q = all_append l (a ∷ []) p (q, tt)

  pub all_take : (n : ℕ) (l : List A) → All P l → All P (take n l)
  unfolding All
  all_take zero l p = tt
  all_take (suc n) [] p = tt
  all_take (suc n) (a ∷ l) p = (p.0, all_take n l p.1)

  pub all_drop : (n : ℕ) (l : List A) → All P l → All P (drop n l)
  unfolding All
  all_drop zero l p = p
  all_drop (suc n) [] p = tt
  all_drop (suc n) (a ∷ l) p = all_drop n l p.1

  pub all_get_d : (l : List A) (i : ℕ) (d : A) → All P l → i < length l → P (get_or l i d)
  unfolding All
  all_get_d [] i d p h = absurd (let z : ⊥ = omega arith in z)
  all_get_d (a ∷ l) zero d p h = p.0
  all_get_d (a ∷ l) (suc i) d p h = all_get_d l i d p.1 (le_of_suc-le-suc h)

  -- the default has it too
  pub all_get_d_default : (l : List A) (i : ℕ) (d : A) → All P l → P d → P (get_or l i d)
  unfolding All
  all_get_d_default [] i d p q = q
  all_get_d_default (a ∷ l) zero d p q = p.0
  all_get_d_default (a ∷ l) (suc i) d p q = all_get_d_default l i d p.1 q

pub all_map : {A : Type 0} (P R : A → Type 0) → ((a : A) → P a → R a) → (l : List A) → All P l → All R l
unfolding All
all_map P R f [] p = tt
all_map P R f (a ∷ l) p = (f a p.0, all_map P R f l p.1)
