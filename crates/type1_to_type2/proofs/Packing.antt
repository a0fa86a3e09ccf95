-- Laws: a program's instructions, written as they come.
use mathlib.Core.Path.{◌≡◌, refl, sym, ap, ◌∙◌, fun_ext}
use Prim.Native.Nat.{ℕ, zero, suc, ◌+◌, ◌<◌}
use native.Mathlib.Omega.{arith}
use mathlib.Core.Bool.{Bool, true, false, ◌&&◌, cond}
use mathlib.Core.List.{List, [], ◌∷◌, ◌++◌}
use lib.ListN.{length, length-append}
use lib.Dec.{leb}
use lib.IntN.{ℤ}
use lib.Ieee.{Float}
use borrow.Author.Tests.{eq-eqb, ne_eqb}
use Rattle.outline.specs.declared.Stem.{Stem}
use Rattle.outline.specs.Outline.{plus_zero, origin, pick}
use Rattle.type2.specs.Number.{in_range, number_bytes}
use Rattle.type2.specs.Path.{Kind, moves, lines, curves, flexes, most}
use Rattle.type2.specs.Instruction.{Instr, instr, mask_bytes}
use Rattle.type1_to_type2.specs.Stems.{Declared, stems_of}
use Rattle.type1_to_type2.specs.Emission.{Cmd, Item, mask, go, items, Waiting, idle, held, code_of, same_kind, flush, move_of, join, pack, pair, second_edge, stems_from, program}
use Rattle.type1_to_type2.specs.Writing.{Written, refused, wrote, put, put_numbers, write}
use Rattle.type1_to_type2.specs.Streaming.{put_instr, closed, joined, streamed, stems_written}

put-append : (l m : List ℤ) (room : ℕ) (f : ℕ → Written) → put_numbers (l ++ m) room f ≡ put_numbers l room (λ left. put_numbers m left f)
unfolding put_numbers
put-append [] m room f = refl
put-append (u ∷ l) m room f = ap (λ (g : ℕ → Written). cond (in_range u) (put room (number_bytes u) g) (refused 13)) (fun_ext (λ left. put-append l m left f))

-- ---- what waits: its operands are written, its operator is not
abbrev operands_of : Waiting → List ℤ
operands_of idle = []
operands_of (held k l) = l

abbrev operator_of : Waiting → ℕ
operator_of idle = 0
operator_of (held k l) = code_of k

code_closed : (k : Kind) (room : ℕ) (f : ℕ → Written) → put room (code_of k ∷ []) f ≡ closed (code_of k) room f
unfolding closed
code_closed moves room f = refl
code_closed lines room f = refl
code_closed curves room f = refl
code_closed flexes room f = refl

write-flush : (w : Waiting) (is : List Instr) (room : ℕ) → write (flush w is) room ≡ put_numbers (operands_of w) room (λ left. closed (operator_of w) left (write is))
unfolding write put_numbers closed
write-flush idle is room = refl
write-flush (held k l) is room = ap (put_numbers l room) (fun_ext (λ left. code_closed k left (write is)))

-- an instruction after the one that waits
first : (w : Waiting) (i : Instr) (is : List Instr) (f : ℕ → Written) (room : ℕ) → ((left : ℕ) → write is left ≡ put_numbers [] left f) → write (flush w (i ∷ is)) room ≡ put_numbers (operands_of w) room (λ left. closed (operator_of w) left (λ r. put_instr i r f))
unfolding write put_numbers
first w i is f room h = write-flush w (i ∷ is) room ∙ ap (λ (g : ℕ → Written). put_numbers (operands_of w) room (λ left. closed (operator_of w) left (λ r. put_instr i r g))) (fun_ext h)

-- lines and curves
write-join : (j : Kind) (l : List ℤ) (w : Waiting) (is : Waiting → List Instr) (f : ℕ → ℕ → ℕ → Written) → (code_of j ≡ 0 → ⊥) → ((m : List ℤ) (room : ℕ) → write (is (held j m)) room ≡ put_numbers m room (f (code_of j) (length m))) → (room : ℕ) →
    write (join j l w is) room ≡ put_numbers (operands_of w) room (λ left. joined j l (operator_of w) (length (operands_of w)) left f)
unfolding joined put_numbers closed write
write-join j l idle is f z h room = rw (ne_eqb 0 (code_of j) (λ e. z (sym e))) (h l room)
write-join j l (held k m) is f z h room = both (same_kind k j && leb (length m + length l) (most j))
  where
    both : (t : Bool) → write (cond t (is (held j (m ++ l))) (instr m (code_of k ∷ []) ∷ is (held j l))) room ≡ put_numbers m room (λ left. pick t (put_numbers l left (f (code_of j) (length m + length l))) (closed (code_of k) left (λ r. put_numbers l r (f (code_of j) (length l)))))
    both true = h (m ++ l) room ∙ ap (λ (n : ℕ). put_numbers (m ++ l) room (f (code_of j) n)) (length-append m l) ∙ put-append m l room (f (code_of j) (length m + length l))
    both false = ap (put_numbers m room) (fun_ext (λ left. ap (put left (code_of k ∷ [])) (fun_ext (h l)) ∙ code_closed k left (λ r. put_numbers l r (f (code_of j) (length l)))))

-- ---- the path
write-pack : (is : List Item) (w : Waiting) (room : ℕ) → write (pack is w) room ≡ put_numbers (operands_of w) room (streamed is (operator_of w) (length (operands_of w)))
unfolding pack streamed put_numbers
write-pack [] w room = write-flush w (instr [] (14 ∷ []) ∷ []) room ∙ one
  where
    one : put_numbers (operands_of w) room (λ left. closed (operator_of w) left (write (instr [] (14 ∷ []) ∷ []))) ≡ put_numbers (operands_of w) room (λ left. closed (operator_of w) left (λ r. put r (14 ∷ []) (λ k. wrote [])))
    one = unfold write put_numbers in refl
write-pack (mask b ∷ is) w room = first w (instr [] (19 ∷ mask_bytes b)) (pack is idle) (streamed is 0 0) room (write-pack is idle)
write-pack (go moves l ∷ is) w room = first w (move_of l) (pack is idle) (streamed is 0 0) room (write-pack is idle)
write-pack (go lines l ∷ is) w room = write-join lines l w (pack is) (streamed is) (λ e. let z : ⊥ = omega arith in z) (λ m r. write-pack is (held lines m) r) room
write-pack (go curves l ∷ is) w room = write-join curves l w (pack is) (streamed is) (λ e. let z : ⊥ = omega arith in z) (λ m r. write-pack is (held curves m) r) room
write-pack (go flexes l ∷ is) w room = first w (instr l (12 ∷ 35 ∷ [])) (pack is idle) (streamed is 0 0) room (write-pack is idle)

-- ---- the stems

-- with no operands the operator takes 23 stems, else fewer
abbrev Taken : List ℤ → ℕ → Type 0
Taken [] k = k ≡ 23
Taken (u ∷ l) k = k < 23

taken_more : (l : List ℤ) (a b : ℤ) (k : ℕ) → Taken l (suc k) → Taken (l ++ (a ∷ b ∷ [])) k
taken_more [] a b k h = omega arith
taken_more (u ∷ l) a b k h = omega arith

write_stems : (op : ℕ) (ss : List Stem) (k : ℕ) (from : Float) (l : List ℤ) (is : List Instr) → Taken l k → (room : ℕ) → write (stems_from op ss k from l is) room ≡ put_numbers l room (λ left. stems_written op ss k from left (write is))
unfolding stems_from stems_written write put_numbers
write_stems op [] k from [] is h room = ap (λ (t : Bool). pick t (write is room) (put room (op ∷ []) (write is))) (sym (eq-eqb k 23 h))
write_stems op [] k from (u ∷ l) is h room = ap (λ (t : Bool). put_numbers (u ∷ l) room (λ left. pick t (write is left) (put left (op ∷ []) (write is)))) (sym (ne_eqb k 23 (λ e. let z : ⊥ = omega arith in z)))
write_stems op (s ∷ ss) zero from [] is h room = absurd (let z : ⊥ = omega arith in z)
write_stems op (s ∷ ss) zero from (u ∷ l) is h room =
    ap (put_numbers (u ∷ l) room) (fun_ext (λ left. ap (put left (op ∷ [])) (fun_ext (write_stems op ss 22 (second_edge s) (pair plus_zero s) is (let z : 22 < 23 = omega arith in z)))))
write_stems op (s ∷ ss) (suc k) from l is h room =
    write_stems op ss k (second_edge s) (l ++ pair from s) is (taken_more l _ _ k h) room
    ∙ put-append l (pair from s) room (λ left. stems_written op ss k (second_edge s) left (write is))

-- ---- the program
pub write-program : (d : Declared) (cs : List Cmd) (room : ℕ) → write (program d cs) room ≡ stems_written (cond d.masked 18 1) d.across 23 plus_zero room (λ left. stems_written (cond d.masked 23 3) d.upright 23 plus_zero left (streamed (items d.masked (stems_of d) origin cs) 0 0))
unfolding program put_numbers
write-program d cs room =
    write_stems (cond d.masked 18 1) d.across 23 plus_zero [] _ refl room
    ∙ ap (stems_written (cond d.masked 18 1) d.across 23 plus_zero room)
    (fun_ext (λ left. write_stems (cond d.masked 23 3) d.upright 23 plus_zero [] _ refl left ∙ ap (stems_written (cond d.masked 23 3) d.upright 23 plus_zero left) (fun_ext (write-pack (items d.masked (stems_of d) origin cs) idle))))
