-- Laws: what a test of the code says, as the laws take it.
use mathlib.Core.Path.{◌≡◌, sym, subst}
use mathlib.Core.Bool.{Bool, not}
use mathlib.Core.List.{List}
use Prim.Native.Nat.{ℕ}
use lib.Dec.{T, eqb}
use lib.ListN.{get_or}
use mir.Val.{Fits}
use mir.Syntax.{w8}
use borrow.Author.Tests.{ne_eqb, eq-eqb}
use Rattle.charstring.specs.Cipher.{Bytes}

pub differ : (a b : ℕ) → (a ≡ b → ⊥) → T (not (eqb a b))
differ a b h = subst (λ (x : Bool). T (not x)) (sym (ne_eqb a b h)) tt

pub agree : (a b : ℕ) → a ≡ b → T (not (not (eqb a b)))
agree a b h = subst (λ (x : Bool). T (not (not x))) (sym (eq-eqb a b h)) tt

pub equal : (a b : ℕ) → a ≡ b → T (eqb a b)
equal a b h = subst T (sym (eq-eqb a b h)) tt

pub bytes : (l : List ℕ) → ((i : ℕ) → Fits w8 (get_or l i 0)) → Bytes l
bytes l h i = (h i).fits
