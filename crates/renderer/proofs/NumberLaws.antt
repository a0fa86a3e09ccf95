-- Laws: the number that starts with a byte, as `number` reads it.
use mathlib.Core.Path.{◌≡◌, refl, sym, ap, ap₂, ◌∙◌}
use Prim.Native.Nat.{ℕ, ◌+◌, ◌-◌, ◌*◌, ◌≤◌, ◌<◌}
use native.Mathlib.Omega.{arith}
use mathlib.Core.Bool.{Bool, true, false, ◌||◌, cond}
use mathlib.Core.List.{List, [], ◌∷◌}
use lib.ListN.{length, drop, get_or, length-drop}
use lib.Dec.{ltb, eqb}
use lib.IntN.{ℤ, sub_ℕ}
use Rattle.type2.specs.Number.{no_number, number, read_from, read2, read3, read5, short, fixed}
use Rattle.type2.specs.Bools.{is_lt, not_lt, not_le, not_eq, is_eq}
use borrow.Author.Tests.{ltb-true, ltb-false}
use Rattle.type2.specs.Signed.{sub_bal, sub_is}
use Rattle.renderer.specs.Reader.{unit}
use Rattle.renderer.proofs.ReaderLaws.{cons_at}
use Rattle.renderer.specs.Reads.{starts_number, IsByte, Reads}
use Rattle.std.specs.Prelude.{Some, None}

pub sub_same : (P M Q N : ℕ) → P + N ≡ Q + M → sub_ℕ P M ≡ sub_ℕ Q N
sub_same P M Q N h = sub_is (sub_ℕ Q N) P M (let b = sub_bal Q N in omega arith)

-- ---- the bytes at a place
cons2 : (P : List ℕ) (i : ℕ) → i + 1 < length P → drop i P ≡ get_or P i 0 ∷ get_or P (i + 1) 0 ∷ drop (i + 1 + 1) P
cons2 P i h = cons_at P i (omega arith) ∙ ap (λ (l : List ℕ). get_or P i 0 ∷ l) (cons_at P (i + 1) h)

cons4 : (P : List ℕ) (i : ℕ) → i + 3 < length P → drop i P ≡ get_or P i 0 ∷ get_or P (i + 1) 0 ∷ get_or P (i + 2) 0 ∷ get_or P (i + 3) 0 ∷ drop (i + 3 + 1) P
cons4 P i h =
    let e : i + 1 + 1 ≡ i + 2 = omega arith in
    let f : i + 2 + 1 ≡ i + 3 = omega arith in
    cons2 P i (omega arith) ∙ ap (λ (l : List ℕ). get_or P i 0 ∷ get_or P (i + 1) 0 ∷ l)
    (ap (λ (n : ℕ). drop n P) e ∙ cons_at P (i + 2) (omega arith) ∙ ap (λ (l : List ℕ). get_or P (i + 2) 0 ∷ l) (ap (λ (n : ℕ). drop n P) f ∙ cons_at P (i + 3) h))

-- ---- what `number` gives
pub none_read : (b : ℕ) (P : List ℕ) (at : ℕ) → read_from b (drop at P) ≡ no_number → Reads b P at None
none_read b P at e = record { same = e; onward = tt }

some_read : (b : ℕ) (P : List ℕ) (at v n k : ℕ) → n ≡ at + k → read_from b (drop at P) ≡ number (unit v) k → Reads b P at (Some (record { value = v; next = n }))
some_read b P at v n k p e =
    let q : n - at ≡ k = omega arith in
    record { same = rw q e; onward = omega arith }

-- ---- the forms
is_28 : (b : ℕ) → b < 32 → starts_number b ≡ true → eqb b 28 ≡ true
is_28 b h e = go (eqb b 28) (rw (not_le 32 b h) at e)
  where
    go : (x : Bool) → (x || false) ≡ true → x ≡ true
    go true e = refl
    go false e = e

too_few3 : (l : List ℕ) → length l < 2 → read3 l ≡ no_number
unfolding read3
too_few3 [] h = refl
too_few3 (a ∷ []) h = refl
too_few3 (a ∷ b ∷ l) h = absurd (let z : ⊥ = omega arith in z)

too_few5 : (l : List ℕ) → length l < 4 → read5 l ≡ no_number
unfolding read5
too_few5 [] h = refl
too_few5 (a ∷ []) h = refl
too_few5 (a ∷ b ∷ []) h = refl
too_few5 (a ∷ b ∷ c ∷ []) h = refl
too_few5 (a ∷ b ∷ c ∷ d ∷ l) h = absurd (let z : ⊥ = omega arith in z)

nothing : (l : List ℕ) (b : ℕ) → length l < 1 → read2 b l ≡ no_number
unfolding read2
nothing [] b h = refl
nothing (a ∷ l) b h = absurd (let z : ⊥ = omega arith in z)

from_28 : (b : ℕ) (l : List ℕ) → b < 32 → starts_number b ≡ true → read_from b l ≡ read3 l
unfolding read_from
from_28 b l h e = rw (is_28 b h e)

from_pair : (b : ℕ) (l : List ℕ) → 247 ≤ b → b < 255 → read_from b l ≡ read2 b l
unfolding read_from
from_pair b l h k = rw (not_eq b 28 (λ z. omega arith), not_lt b 32 (omega arith), not_lt b 247 h, is_lt b 255 k)

from_255 : (b : ℕ) (l : List ℕ) → 255 ≤ b → b < 256 → read_from b l ≡ read5 l
unfolding read_from
from_255 b l h k = rw (not_eq b 28 (λ z. omega arith), not_lt b 32 (omega arith), not_lt b 247 (omega arith), not_lt b 255 h, is_eq b 255 (omega arith))

module _ (b : ℕ) (P : List ℕ) (at : ℕ) where
  pub cut3 : b < 32 → starts_number b ≡ true → length P < at + 2 → Reads b P at None
  cut3 h e k = none_read b P at (from_28 b (drop at P) h e ∙ too_few3 (drop at P) (let d = length-drop at P in omega arith))

  pub cut2 : b < 256 → 247 ≤ b → length P ≤ at → Reads b P at None
  cut2 low h k = none_read b P at (cut_at (ltb b 255) refl)
    where
      cut_at : (x : Bool) → ltb b 255 ≡ x → read_from b (drop at P) ≡ no_number
      cut_at true e = from_pair b (drop at P) h (let z = ltb-true b 255 e in z) ∙ nothing (drop at P) b (let d = length-drop at P in omega arith)
      cut_at false e = from_255 b (drop at P) (ltb-false b 255 e) low ∙ too_few5 (drop at P) (let d = length-drop at P in omega arith)

  pub cut5 : b < 256 → 255 ≤ b → length P < at + 4 → Reads b P at None
  cut5 low h k = none_read b P at (from_255 b (drop at P) h low ∙ too_few5 (drop at P) (let d = length-drop at P in omega arith))

  pub byte1 : 32 ≤ b → b < 247 → Reads b P at (Some (record { value = b * 65536 + 2138374144; next = at }))
  unfolding read_from
  byte1 h k = some_read b P at (b * 65536 + 2138374144) at 0 (omega arith)
      (rw (not_eq b 28 (λ z. omega arith), not_lt b 32 h, is_lt b 247 k) (ap (λ (z : ℤ). number z 0) (sub_same (b * 65536) (139 * 65536) (b * 65536 + 2138374144) 2147483648 (omega arith))))

  pub byte3 : (v w : ℕ) → IsByte P at v → IsByte P (at + 1) w → b < 32 → starts_number b ≡ true
      → (m : ℕ) → (v * 256 + w < 32768 → m ≡ (v * 256 + w) * 65536 + 2147483648) × (32768 ≤ v * 256 + w → m + 2147483648 ≡ (v * 256 + w) * 65536) → Reads b P at (Some (record { value = m; next = at + 2 }))
  unfolding read3
  byte3 v w p q h e m d = some_read b P at m (at + 2) 2 refl
      (from_28 b (drop at P) h e ∙ ap read3 (cons2 P at q.inside) ∙ ap (λ (z : ℤ). number z 2) (ap short (ap₂ (λ (x y : ℕ). x * 256 + y) (sym p.is) (sym q.is)) ∙ value (ltb (v * 256 + w) 32768) refl))
    where
      value : (x : Bool) → ltb (v * 256 + w) 32768 ≡ x → sub_ℕ ((v * 256 + w) * 65536) (cond x 0 (65536 * 65536)) ≡ unit m
      value true e = let k = d.0 (ltb-true (v * 256 + w) 32768 e) in sub_same ((v * 256 + w) * 65536) 0 m 2147483648 (omega arith)
      value false e = let k = d.1 (ltb-false (v * 256 + w) 32768 e) in sub_same ((v * 256 + w) * 65536) 4294967296 m 2147483648 (omega arith)

  pub byte2_plus : (v : ℕ) → IsByte P at v → 247 ≤ b → b < 251 → Reads b P at (Some (record { value = ((b - 247) * 256 + v + 108) * 65536 + 2147483648; next = at + 1 }))
  unfolding read2
  byte2_plus v p h j = some_read b P at _ (at + 1) 1 refl
      (from_pair b (drop at P) h (omega arith) ∙ ap (read2 b) (cons_at P at p.inside) ∙ ap (λ (z : ℤ). number z 1) (rw (is_lt b 251 j, ← p.is) (sub_same (((b - 247) * 256 + v + 108) * 65536) 0 (((b - 247) * 256 + v + 108) * 65536 + 2147483648) 2147483648 (omega arith))))

  pub byte2_minus : (v m : ℕ) → IsByte P at v → 251 ≤ b → b < 255 → m + ((b - 251) * 256 + v + 108) * 65536 ≡ 2147483648 → Reads b P at (Some (record { value = m; next = at + 1 }))
  unfolding read2
  byte2_minus v m p h j e = some_read b P at m (at + 1) 1 refl
      (from_pair b (drop at P) (omega arith) j ∙ ap (read2 b) (cons_at P at p.inside) ∙ ap (λ (z : ℤ). number z 1) (rw (not_lt b 251 h, ← p.is) (sub_same 0 (((b - 251) * 256 + v + 108) * 65536) m 2147483648 (omega arith))))

  pub byte5 : b < 256 → (v w x y : ℕ) → IsByte P at v → IsByte P (at + 1) w → IsByte P (at + 2) x → IsByte P (at + 3) y → 255 ≤ b
      → (m : ℕ) → (((v * 256 + w) * 256 + x) * 256 + y < 2147483648 → m ≡ ((v * 256 + w) * 256 + x) * 256 + y + 2147483648) × (2147483648 ≤ ((v * 256 + w) * 256 + x) * 256 + y → m + 2147483648 ≡ ((v * 256 + w) * 256 + x) * 256 + y) → Reads b P at (Some (record { value = m; next = at + 4 }))
  unfolding read5
  byte5 low v w x y p q r s h m d = some_read b P at m (at + 4) 4 refl
      (from_255 b (drop at P) h low ∙ ap read5 (cons4 P at s.inside) ∙ ap (λ (z : ℤ). number z 4) (ap fixed (sym (ap₂ (λ (a c : ℕ). a * 256 + c) (ap₂ (λ (a c : ℕ). a * 256 + c) (ap₂ (λ (a c : ℕ). a * 256 + c) p.is q.is) r.is) s.is)) ∙ value (ltb (((v * 256 + w) * 256 + x) * 256 + y) 2147483648) refl))
    where
      value : (z : Bool) → ltb (((v * 256 + w) * 256 + x) * 256 + y) 2147483648 ≡ z → sub_ℕ (((v * 256 + w) * 256 + x) * 256 + y) (cond z 0 4294967296) ≡ unit m
      value true e = let k = d.0 (ltb-true (((v * 256 + w) * 256 + x) * 256 + y) 2147483648 e) in sub_same (((v * 256 + w) * 256 + x) * 256 + y) 0 m 2147483648 (omega arith)
      value false e = let k = d.1 (ltb-false (((v * 256 + w) * 256 + x) * 256 + y) 2147483648 e) in sub_same (((v * 256 + w) * 256 + x) * 256 + y) 4294967296 m 2147483648 (omega arith)
