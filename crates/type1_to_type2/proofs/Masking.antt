-- Laws: the bytes of a mask.
use mathlib.Core.Path.{◌≡◌, refl, sym, ap, ap₂, ◌∙◌, fun_ext}
use Prim.Native.Nat.{ℕ, suc, ◌+◌, ◌-◌, ◌*◌, ◌/◌, ◌≤◌, ◌<◌}
use native.Mathlib.Nat.{add-zero, add-div_right, div-eq_of_lt}
use native.Mathlib.Omega.{arith}
use native.Mathlib.Numerals.{add-one}
use mathlib.Core.Bool.{Bool, true, false}
use lib.Dec.{leb}
use borrow.Author.Tests.{leb-true, leb-false}
use mathlib.Core.List.{List, [], ◌∷◌, ◌++◌}
use lib.ListN.{length, take, drop, get_or, replicate, length-drop, drop_of_length-le}
use lib.Seq.{get_or-drop, drop-drop}
use Rattle.type1.specs.Run.{point_at}
use Rattle.type2.specs.Instruction.{bit, value, packed, mask_bytes}
use Rattle.type1_to_type2.proofs.Writes.{put_nil, put_cons}
use Rattle.type1_to_type2.specs.declared.Writer.{Writer}
use Rattle.type1_to_type2.specs.Writing.{Written, put}
use Rattle.type1_to_type2.specs.Streaming.{resumed, closed, streamed, Puts, Still, Flushed, Masks}

-- ---- eight of them
eight : (m : List Bool) → take 8 (m ++ replicate 8 false) ≡ get_or m 0 false ∷ get_or m 1 false ∷ get_or m 2 false ∷ get_or m 3 false ∷ get_or m 4 false ∷ get_or m 5 false ∷ get_or m 6 false ∷ get_or m 7 false ∷ []
eight [] = refl
eight (a ∷ []) = refl
eight (a ∷ b ∷ []) = refl
eight (a ∷ b ∷ c ∷ []) = refl
eight (a ∷ b ∷ c ∷ d ∷ []) = refl
eight (a ∷ b ∷ c ∷ d ∷ e ∷ []) = refl
eight (a ∷ b ∷ c ∷ d ∷ e ∷ f ∷ []) = refl
eight (a ∷ b ∷ c ∷ d ∷ e ∷ f ∷ g ∷ []) = refl
eight (a ∷ b ∷ c ∷ d ∷ e ∷ f ∷ g ∷ h ∷ l) = refl

value-eight : (a b c d e f g h : Bool) → value (a ∷ b ∷ c ∷ d ∷ e ∷ f ∷ g ∷ h ∷ []) ≡ ((((((bit a * 2 + bit b) * 2 + bit c) * 2 + bit d) * 2 + bit e) * 2 + bit f) * 2 + bit g) * 2 + bit h
unfolding value
value-eight a b c d e f g h = omega arith

pub byte_of : (l : List Bool) (i : ℕ) →
    ((((((bit (get_or l i false) * 2 + bit (get_or l (i + 1) false)) * 2 + bit (get_or l (i + 2) false)) * 2 + bit (get_or l (i + 3) false)) * 2 + bit (get_or l (i + 4) false)) * 2 + bit (get_or l (i + 5) false)) * 2 + bit (get_or l (i + 6) false)) * 2 + bit (get_or l (i + 7) false)
    ≡ value (take 8 (drop i l ++ replicate 8 false))
byte_of l i =
    rw (eight (drop i l), value-eight (get_or (drop i l) 0 false) (get_or (drop i l) 1 false) (get_or (drop i l) 2 false) (get_or (drop i l) 3 false) (get_or (drop i l) 4 false) (get_or (drop i l) 5 false) (get_or (drop i l) 6 false) (get_or (drop i l) 7 false), get_or-drop i l 0 false, get_or-drop i l 1 false, get_or-drop i l 2 false, get_or-drop i l 3 false, get_or-drop i l 4 false, get_or-drop i l 5 false, get_or-drop i l 6 false, get_or-drop i l 7 false, add-zero i)

-- ---- a byte more
count_more : (n : ℕ) → 1 ≤ n → (n + 7) / 8 ≡ suc ((n - 8 + 7) / 8)
count_more n h = ap (λ (x : ℕ). x / 8) (let z : n + 7 ≡ n - 1 + 8 = omega arith in z) ∙ add-div_right (n - 1) (let z : 0 < 8 = omega arith in z) ∙ add-one ((n - 1) / 8) ∙ ap suc (of (leb 8 n) refl)
  where
    of : (t : Bool) → leb 8 n ≡ t → (n - 1) / 8 ≡ (n - 8 + 7) / 8
    of true e = let g : 8 ≤ n = leb-true 8 n e in ap (λ (x : ℕ). x / 8) (let z : n - 1 ≡ n - 8 + 7 = omega arith in z)
    of false e = let g : n < 8 = leb-false 8 n e in div-eq_of_lt (let z : n - 1 < 8 = omega arith in z) ∙ sym (div-eq_of_lt (let z : n - 8 + 7 < 8 = omega arith in z))

bytes_cons : (l : List Bool) → 1 ≤ length l → mask_bytes l ≡ value (take 8 (l ++ replicate 8 false)) ∷ mask_bytes (drop 8 l)
unfolding mask_bytes packed
bytes_cons l h = rw (count_more (length l) h, length-drop 8 l)

pub mask_step : {r s : Writer} {a z : List ℕ} (l : List Bool) (i n v : ℕ) (x : (ℕ → Written) → Written) → length l ≡ n → i < n → v ≡ value (take 8 (drop i l ++ replicate 8 false)) → Puts (λ f left. put left (v ∷ []) f) r a s z →
    ((f : ℕ → Written) → resumed r.next a (λ left. put left (mask_bytes (drop i l)) f) ≡ x f) → (f : ℕ → Written) → resumed s.next z (λ left. put left (mask_bytes (drop (i + 8) l)) f) ≡ x f
mask_step {r} {s} {a} {z} l i n v x e h ev p inv f =
    p.then (λ left. put left (mask_bytes (drop (i + 8) l)) f)
    ∙ ap (resumed r.next a) (fun_ext (λ left. put_cons left v (mask_bytes (drop (i + 8) l)) f ∙ ap (λ (m : List ℕ). put left m f) (sym whole)))
    ∙ inv f
  where
    whole : mask_bytes (drop i l) ≡ v ∷ mask_bytes (drop (i + 8) l)
    whole = bytes_cons (drop i l) (let z : 1 ≤ length (drop i l) = omega (arith, length-drop i l) in z) ∙ ap₂ (λ (k : ℕ) (m : List Bool). k ∷ mask_bytes m) (sym ev) (drop-drop 8 i l)

pub mask_end : {w r s t : Writer} {b a z o : List ℕ} (l : List Bool) (i : ℕ) → length l ≤ i → Flushed w b r a → Puts (λ f left. put left (19 ∷ []) f) r a s z → Still r s →
    ((f : ℕ → Written) → resumed t.next o (λ left. put left (mask_bytes (drop i l)) f) ≡ resumed s.next z (λ left. put left (mask_bytes l) f)) → Still s t → length o ≡ length z → Masks l w b t o
unfolding streamed mask_bytes packed
mask_end {w} {r} {s} {t} {b} {a} {z} {o} l i h p q e inv d m = record {
  then = λ is.
      ap₂ (λ (k n : ℕ). resumed t.next o (streamed is k n)) (d.waits ∙ e.waits ∙ p.waits) (d.held ∙ e.held ∙ p.held)
      ∙ ap (resumed t.next o) (fun_ext (λ left. sym (put_nil left (streamed is 0 0)) ∙ ap (λ (c : List Bool). put left (mask_bytes c) (streamed is 0 0)) (sym (drop_of_length-le l h))))
      ∙ inv (streamed is 0 0)
      ∙ q.then (λ left. put left (mask_bytes l) (streamed is 0 0))
      ∙ p.puts.then (λ left. put left (19 ∷ []) (λ k. put k (mask_bytes l) (streamed is 0 0)))
      ∙ ap (λ (g : ℕ → Written). resumed w.next b (λ left. closed w.waits left g)) (fun_ext (λ left. put_cons left 19 (mask_bytes l) (streamed is 0 0)));
  at = ap₂ point_at (d.x ∙ e.x) (d.y ∙ e.y) ∙ p.at;
  same = m ∙ q.same ∙ p.puts.same;
}
