-- Laws: the stems of a table, written one by one.
use mathlib.Core.Path.{◌≡◌, refl, sym, ap, ap₂, ◌∙◌, fun_ext}
use Prim.Native.Nat.{ℕ, zero, suc, ◌+◌, ◌-◌, ◌≤◌, ◌<◌}
use native.Mathlib.Numerals.{add-one}
use native.Mathlib.Omega.{arith}
use mathlib.Core.Bool.{Bool, true, false, cond}
use mathlib.Core.List.{List, [], ◌∷◌}
use lib.ListN.{length, drop, drop_of_length-le}
use lib.Seq.{drop-cons}
use lib.Dec.{eqb}
use lib.IntN.{ℤ}
use lib.Ieee.{Float, binary64, sub}
use borrow.Author.Tests.{eq-eqb, ne_eqb}
use Rattle.geometry.specs.declared.Point.{Point}
use Rattle.outline.specs.declared.Stem.{Stem}
use Rattle.outline.specs.Outline.{plus_zero, origin, pick}
use Rattle.type1.specs.Run.{point_at}
use Rattle.type2.specs.Number.{units}
use Rattle.type1_to_type2.proofs.Draws.{in_turn}
use Rattle.type1_to_type2.proofs.Packing.{write-program}
use Rattle.type1_to_type2.proofs.TableLaws.{table_length, table_at}
use Rattle.type1_to_type2.specs.declared.Writer.{Writer}
use Rattle.type1_to_type2.specs.declared.StemWriter.{StemWriter}
use Rattle.std.specs.Prelude.{Result, Ok}
use Rattle.refusal.specs.declared.Refusal.{Refusal}
use Rattle.type1_to_type2.specs.Emission.{Item, items, written, second_edge}
use Rattle.type1_to_type2.specs.Writing.{Written, refused, wrote, then_write, put, put_numbers}
use Rattle.type1_to_type2.specs.Table.{table_stems}
use Rattle.type1_to_type2.specs.Collecting.{table_stem}
use Rattle.type1_to_type2.specs.Passes.{both}
use Rattle.type1_to_type2.specs.Entry.{declared_by, Declares}
use Rattle.type1_to_type2.specs.Streaming.{resumed, resumed_items, point_of, streamed, stems_written, Puts, Still, Begins, Stemmed}

-- ---- an operator that takes no more
pub next-operator : {v : Writer} {b a : List ℕ} (op : ℕ) (s : StemWriter) → s.left ≡ 0 → Puts (λ f left. put left (op ∷ []) f) s.w b v a → (x : Stem) (ss : List Stem) (f : ℕ → Written) →
    resumed v.next a (λ room. stems_written op (x ∷ ss) 23 plus_zero room f) ≡ resumed s.w.next b (λ room. stems_written op (x ∷ ss) s.left s.from room f)
unfolding stems_written
next-operator {b = b} op s e p x ss f =
    p.then (λ room. stems_written op (x ∷ ss) 23 plus_zero room f)
    ∙ ap (λ (k : ℕ). resumed s.w.next b (λ room. stems_written op (x ∷ ss) k s.from room f)) (sym e)

-- ---- a stem
one_stem : (op : ℕ) (x : Stem) (ss : List Stem) (from : Float) (k room : ℕ) (f : ℕ → Written) → 1 ≤ k → written (sub binary64 x.pos from) ≡ units (sub binary64 x.pos from) → written x.width ≡ units x.width →
    put_numbers (units (sub binary64 x.pos from) ∷ []) room (λ left. put_numbers (units x.width ∷ []) left (λ l. stems_written op ss (k - 1) (second_edge x) l f)) ≡ stems_written op (x ∷ ss) k from room f
unfolding stems_written put_numbers
one_stem op x ss from zero room f h c d = absurd (let z : ⊥ = omega arith in z)
one_stem op x ss from (suc k) room f h c d =
    ap (λ (j : ℕ). put_numbers (units (sub binary64 x.pos from) ∷ units x.width ∷ []) room (λ l. stems_written op ss j (second_edge x) l f)) (let z : suc k - 1 ≡ k = omega arith in z)
    ∙ ap₂ (λ (u v : ℤ). put_numbers (u ∷ v ∷ []) room (λ l. stems_written op ss k (second_edge x) l f)) (sym c) (sym d)

pub stem-written : {v u : Writer} {b a z o : List ℕ} {s r : StemWriter} (op : ℕ) (x : Stem) (d : Float) → Begins op s b r a → d ≡ second_edge x →
    Puts (λ f left. put_numbers (units (sub binary64 x.pos r.from) ∷ []) left f) r.w a v z → written (sub binary64 x.pos r.from) ≡ units (sub binary64 x.pos r.from) →
    Puts (λ f left. put_numbers (units x.width ∷ []) left f) v z u o → written x.width ≡ units x.width → (ss : List Stem) (f : ℕ → Written) →
    resumed u.next o (λ room. stems_written op ss (r.left - 1) d room f) ≡ resumed s.w.next b (λ room. stems_written op (x ∷ ss) s.left s.from room f)
stem-written {v} {u} {b} {a} {z} {o} {s} {r} op x d bg e p wp q wq ss f =
    ap (λ (y : Float). resumed u.next o (λ room. stems_written op ss (r.left - 1) y room f)) e
    ∙ (in_turn p q).then (λ room. stems_written op ss (r.left - 1) (second_edge x) room f)
    ∙ ap (resumed r.w.next a) (fun_ext (λ room. one_stem op x ss r.from r.left room f bg.some wp wq))
    ∙ bg.then x ss f

pub one_less : (k : ℕ) → k ≤ 23 → k - 1 ≤ 23
one_less k h = omega arith

-- ---- the table
pub stem_again : {s r : StemWriter} {b a : List ℕ} (op n i : ℕ) (h : Bool) (t : List Float) (y : Stem) (x : (ℕ → Written) → Written) → i < n → y ≡ table_stem h i t → Stemmed op y s b r a →
    ((f : ℕ → Written) → resumed s.w.next b (λ room. stems_written op (drop i (table_stems h n t)) s.left s.from room f) ≡ x f) →
    (f : ℕ → Written) → resumed r.w.next a (λ room. stems_written op (drop (i + 1) (table_stems h n t)) r.left r.from room f) ≡ x f
stem_again {s} {r} {b} {a} op n i h t y x l e p inv f =
    p.then (drop (i + 1) (table_stems h n t)) f
    ∙ ap (λ (ss : List Stem). resumed s.w.next b (λ room. stems_written op ss s.left s.from room f)) (sym whole)
    ∙ inv f
  where
    whole : drop i (table_stems h n t) ≡ y ∷ drop (i + 1) (table_stems h n t)
    whole = drop-cons (table_stems h n t) i y (let z : i < length (table_stems h n t) = omega (arith, table_length h t n) in z) ∙ ap₂ (λ (x : Stem) (k : ℕ). x ∷ drop k (table_stems h n t)) (table_at h t n i y l ∙ sym e) (sym (add-one i))

-- no stem is left
none_left : (op n i : ℕ) (t : List Float) (h : Bool) (k : ℕ) (from : Float) (room : ℕ) (f : ℕ → Written) → n ≤ i → pick (eqb k 23) (f room) (put room (op ∷ []) f) ≡ stems_written op (drop i (table_stems h n t)) k from room f
unfolding stems_written
none_left op n i t h k from room f l = ap (λ (ss : List Stem). stems_written op ss k from room f) (sym (drop_of_length-le (table_stems h n t) (let z : length (table_stems h n t) ≤ i = omega (arith, table_length h t n) in z)))

pub stems_full : (s : StemWriter) (b : List ℕ) (op n i : ℕ) (h : Bool) (t : List Float) → n ≤ i → s.left ≡ 23 → (f : ℕ → Written) → resumed s.w.next b f ≡ resumed s.w.next b (λ room. stems_written op (drop i (table_stems h n t)) s.left s.from room f)
stems_full s b op n i h t l e f =
    ap (resumed s.w.next b) (fun_ext (λ room. ap (λ (c : Bool). pick c (f room) (put room (op ∷ []) f)) (sym (eq-eqb s.left 23 e)) ∙ none_left op n i t h s.left s.from room f l))

pub stems_last : {r : Writer} {b a : List ℕ} (s : StemWriter) (op n i : ℕ) (h : Bool) (t : List Float) → n ≤ i → (s.left ≡ 23 → ⊥) → Puts (λ f left. put left (op ∷ []) f) s.w b r a →
    (f : ℕ → Written) → resumed r.next a f ≡ resumed s.w.next b (λ room. stems_written op (drop i (table_stems h n t)) s.left s.from room f)
stems_last {b = b} s op n i h t l e p f =
    p.then f
    ∙ ap (resumed s.w.next b) (fun_ext (λ room. ap (λ (c : Bool). pick c (f room) (put room (op ∷ []) f)) (sym (ne_eqb s.left 23 e)) ∙ none_left op n i t h s.left s.from room f l))

-- ---- both tables, from the start
from_start : (out : List ℕ) (f : ℕ → Written) → resumed (Ok 0) out f ≡ f (length out)
unfolding resumed
from_start out f = ap (λ (k : ℕ). then_write (f k) (λ c. wrote c)) (let z : length out - 0 ≡ length out = omega arith in z) ∙ all (f (length out))
  where
    all : (x : Written) → then_write x (λ c. wrote c) ≡ x
    all (refused n) = refl
    all (wrote b) = refl

pub front_written : {w a r : Writer} {b z o : List ℕ} (p q na nu : ℕ) (ta tu : List Float) (masked : Bool) → p ≡ cond masked 18 1 → q ≡ cond masked 23 3 → w.next ≡ Ok 0 → point_of w ≡ origin → w.waits ≡ 0 → w.held ≡ 0 →
    Puts (λ f left. stems_written p (table_stems true na ta) 23 plus_zero left f) w b a z → Still w a → Puts (λ f left. stems_written q (table_stems false nu tu) 23 plus_zero left f) a z r o → Still a r →
    Declares masked na nu ta tu (length b) r o
front_written {w} {a} {r} {b} {z} {o} p q na nu ta tu masked ep eq k0 at0 w0 h0 x sx y sy cs =
    ap (λ (e : Point). resumed_items r o (items masked (both na nu ta tu) e cs)) (ap₂ point_at (sy.x ∙ sx.x) (sy.y ∙ sx.y) ∙ at0)
    ∙ ap₂ (λ (k n : ℕ). resumed r.next o (streamed path k n)) (sy.waits ∙ sx.waits ∙ w0) (sy.held ∙ sx.held ∙ h0)
    ∙ (in_turn x y).then (streamed path 0 0)
    ∙ ap (λ (n : Result ℕ Refusal). resumed n b (whole p q)) k0
    ∙ from_start b (whole p q)
    ∙ ap₂ (λ (i j : ℕ). whole i j (length b)) ep eq
    ∙ sym (write-program (declared_by masked na nu ta tu) cs (length b))
  where
    path : List Item
    path = items masked (both na nu ta tu) origin cs

    whole : ℕ → ℕ → ℕ → Written
    whole i j left = stems_written i (table_stems true na ta) 23 plus_zero left (λ k. stems_written j (table_stems false nu tu) 23 plus_zero k (streamed path 0 0))
