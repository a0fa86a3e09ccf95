-- Laws: what is written with no refusal is the bytes of the instructions, each number in range; and then every point that was written is finite.
use Rattle.std.specs.Prelude.{◌≡◌, refl, ℕ, zero, suc, ◌+◌, ◌-◌, Bool, true, false, ◌&&◌, cond, List, [], ◌∷◌, ◌++◌, length, T, leb, eqb, ℤ, Float}
use Rattle.std.proofs.Common.{sym, ap, ◌∙◌, subst, arith, append_assoc}
use Rattle.std.specs.Float.{nan, inf, fin, binary64}
use Rattle.std.specs.Float.Ieee.{add, sub, mul, div, neg, lt}
use Rattle.binary64.specs.Rounding.{abs, away}
use Rattle.std.specs.Float.Ieee.Scale.{finite}
use Rattle.std.specs.Float.Ieee.Fits.{and_i}
use Rattle.geometry.specs.declared.Point.{Point}
use Rattle.outline.specs.declared.Stem.{Stem}
use Rattle.outline.specs.Outline.{Command, move, line, curve, flex, Group, plus_zero, origin}
use Rattle.type2.specs.Path.{Kind, moves, lines, curves, flexes, delta, most}
use Rattle.type2.specs.Number.{quantized, units, number_bytes, in_range}
use Rattle.type2.proofs.Casts.{in_range-finite}
use Rattle.type2.specs.Instruction.{Instr, instr, numbers, bytes, fine, all_fine, is_zero}
use Rattle.type2.specs.Bools.{choose, and_both}
use Rattle.type2.specs.Signed.{zero_is}
use Rattle.folding.specs.Folding.{finite_point, finite_command, finite_list}
use Rattle.type1_to_type2.specs.Stems.{Declared, stems_of}
use Rattle.type1_to_type2.specs.Emission.{pair, second_edge, stems_from, follow, deltas, arrives, points_of, height_of, Cmd, hints, shape, starts_at, commands, move_of, Item, mask, go, items, Waiting, idle, held, code_of, same_kind, flush, join, pack, program}
use Rattle.type1_to_type2.specs.Writing.{Written, refused, wrote, then_write, put, put_numbers, write}

pub wrote_inj : {a b : List ℕ} → wrote a ≡ wrote b → a ≡ b
wrote_inj {a} {b} p = cc

never : {A : Type 0} {n : ℕ} {b : List ℕ} → refused n ≡ wrote b → A
never p = absurd (let z : ◌≡◌ {A = ℕ} 0 1 = cc in let y : ⊥ = omega arith in y)

pub put_is : (room : ℕ) (b : List ℕ) (f : ℕ → Written) (out : List ℕ) → put room b f ≡ wrote out → (c : List ℕ) × (f (room - length b) ≡ wrote c) × (out ≡ b ++ c)
unfolding put
put_is room b f out =
    choose (leb (length b) room) (λ (x : Written). x ≡ wrote out → (c : List ℕ) × (f (room - length b) ≡ wrote c) × (out ≡ b ++ c)) (then_write (f (room - length b)) (λ c. wrote (b ++ c))) (refused 18)
    (λ t. go (f (room - length b)) refl) (λ t p. never p)
  where
    go : (x : Written) → f (room - length b) ≡ x → then_write x (λ c. wrote (b ++ c)) ≡ wrote out → (c : List ℕ) × (f (room - length b) ≡ wrote c) × (out ≡ b ++ c)
    go (refused n) e p = never p
    go (wrote c) e p = (c, e, sym (wrote_inj p))

pub numbers_is : (l : List ℤ) (room : ℕ) (f : ℕ → Written) (out : List ℕ) → put_numbers l room f ≡ wrote out → (c : List ℕ) × (left : ℕ) × (f left ≡ wrote c) × (out ≡ numbers l ++ c) × T (fine l)
unfolding put_numbers numbers fine
numbers_is [] room f out p = (out, room, p, refl, tt)
numbers_is (u ∷ l) room f out p =
    let k = choose (in_range u) (λ (x : Written). x ≡ wrote out → T (in_range u) × (put room (number_bytes u) (λ left. put_numbers l left f) ≡ wrote out)) (put room (number_bytes u) (λ left. put_numbers l left f)) (refused 13) (λ t q. (t, q)) (λ t q. never q) p in
    let (b, e, d) = put_is room (number_bytes u) (λ left. put_numbers l left f) out k.1 in
    let (c, left, g, o, t) = numbers_is l (room - length (number_bytes u)) f b e in
    (c, left, g, d ∙ ap (λ (x : List ℕ). number_bytes u ++ x) o ∙ sym (append_assoc (number_bytes u) (numbers l) c), and_i (in_range u) (fine l) k.0 t)

pub write_is : (is : List Instr) (room : ℕ) (out : List ℕ) → write is room ≡ wrote out → (out ≡ bytes is) × T (all_fine is)
unfolding write bytes all_fine
write_is [] room out p = (sym (wrote_inj p), tt)
write_is (i ∷ is) room out p =
    let (c, left, g, o, t) = numbers_is i.operands room (λ left. put left i.code (write is)) out p in
    let (d, e, q) = put_is left i.code (write is) c g in
    let (r, a) = write_is is (left - length i.code) d e in
    (o ∙ ap (λ (x : List ℕ). numbers i.operands ++ x) (q ∙ ap (λ (x : List ℕ). i.code ++ x) r), and_i (fine i.operands) (all_fine is) t a)

-- ---- items: every delta is in range
unfoldable pub items_fine : List Item → Bool
items_fine [] = true
items_fine (mask b ∷ is) = items_fine is
items_fine (go k l ∷ is) = fine l && items_fine is

abbrev pub wait_fine : Waiting → Bool
wait_fine idle = true
wait_fine (held k l) = fine l

-- where the bytes are in range, so are the items
abbrev pub PackFine : List Item → Type 0
PackFine is = (w : Waiting) → T (all_fine (pack is w)) → T (wait_fine w) × T (items_fine is)

-- ---- what the bytes were not refused for, the items were not
fine_left : (l m : List ℤ) → T (fine (l ++ m)) → T (fine l) × T (fine m)
unfolding fine
fine_left [] m t = (tt, t)
fine_left (u ∷ l) m t =
    let w = and_both (in_range u) (fine (l ++ m)) t in
    let r = fine_left l m w.1 in
    (and_i (in_range u) (fine l) w.0 r.0, r.1)

flush-fine : (w : Waiting) (is : List Instr) → T (all_fine (flush w is)) → T (wait_fine w) × T (all_fine is)
unfolding all_fine
flush-fine idle is t = (tt, t)
flush-fine (held k l) is t = and_both (fine l) (all_fine is) t

move_fine : (l : List ℤ) → T (fine (move_of l).operands) → T (fine l)
unfolding fine
move_fine [] t = t
move_fine (a ∷ []) t = t
move_fine (a ∷ b ∷ c ∷ l) t = t
move_fine (a ∷ b ∷ []) t =
    choose (is_zero b) (λ (i : Instr). T (fine i.operands) → T (fine (a ∷ b ∷ []))) (instr (a ∷ []) (22 ∷ [])) (cond (is_zero a) (instr (b ∷ []) (4 ∷ [])) (instr (a ∷ b ∷ []) (21 ∷ [])))
    (λ z t. and_i (in_range a) (in_range b && true) (and_both (in_range a) true t).0 (subst (λ (x : ℤ). T (in_range x && true)) (sym (zero_is b z)) tt))
    (λ y t. choose (is_zero a) (λ (i : Instr). T (fine i.operands) → T (fine (a ∷ b ∷ []))) (instr (b ∷ []) (4 ∷ [])) (instr (a ∷ b ∷ []) (21 ∷ []))
    (λ z t. and_i (in_range a) (in_range b && true) (subst (λ (x : ℤ). T (in_range x)) (sym (zero_is a z)) tt) t) (λ z t. t) t) t

join-fine : (k : Kind) (l : List ℤ) (is : List Item) (w : Waiting) → PackFine is → T (all_fine (join k l w (pack is))) → T (wait_fine w) × T (fine l && items_fine is)
unfolding all_fine
join-fine k l is idle f t = let r = f (held k l) t in (tt, and_i (fine l) (items_fine is) r.0 r.1)
join-fine k l is (held j m) f t =
    choose (same_kind j k && leb (length m + length l) (most k)) (λ (x : List Instr). T (all_fine x) → T (fine m) × T (fine l && items_fine is)) (pack is (held k (m ++ l))) (instr m (code_of j ∷ []) ∷ pack is (held k l))
    (λ z t. let r = f (held k (m ++ l)) t in let q = fine_left m l r.0 in (q.0, and_i (fine l) (items_fine is) q.1 r.1))
    (λ z t. let q = and_both (fine m) (all_fine (pack is (held k l))) t in let r = f (held k l) q.1 in (q.0, and_i (fine l) (items_fine is) r.0 r.1)) t

alone_fine : (x : Instr) (is : List Item) (w : Waiting) → PackFine is → T (all_fine (flush w (x ∷ pack is idle))) → T (wait_fine w) × T (fine x.operands) × T (items_fine is)
unfolding all_fine
alone_fine x is w f t =
    let a = flush-fine w (x ∷ pack is idle) t in
    let b = and_both (fine x.operands) (all_fine (pack is idle)) a.1 in
    (a.0, b.0, (f idle b.1).1)

pub pack-fine : (is : List Item) → PackFine is
unfolding pack items_fine
pack-fine [] w t = ((flush-fine w (instr [] (14 ∷ []) ∷ []) t).0, tt)
pack-fine (mask b ∷ is) w t = let a = alone_fine (instr [] _) is w (pack-fine is) t in (a.0, a.2)
pack-fine (go moves l ∷ is) w t = let a = alone_fine (move_of l) is w (pack-fine is) t in (a.0, and_i (fine l) (items_fine is) (move_fine l a.1) a.2)
pack-fine (go lines l ∷ is) w t = join-fine lines l is w (pack-fine is) t
pack-fine (go curves l ∷ is) w t = join-fine curves l is w (pack-fine is) t
pack-fine (go flexes l ∷ is) w t = let a = alone_fine (instr l (12 ∷ 35 ∷ [])) is w (pack-fine is) t in (a.0, and_i (fine l) (items_fine is) a.1 a.2)

-- ---- stems come first
stems_fine : (op : ℕ) (ss : List Stem) (k : ℕ) (from : Float) (l : List ℤ) (is : List Instr) → T (all_fine (stems_from op ss k from l is)) → T (all_fine is)
unfolding stems_from all_fine
stems_fine op [] k from [] is t = t
stems_fine op [] k from (u ∷ l) is t = (and_both (fine (u ∷ l)) (all_fine is) t).1
stems_fine op (s ∷ ss) zero from l is t = stems_fine op ss 22 (second_edge s) (pair plus_zero s) is (and_both (fine l) (all_fine (stems_from op ss 22 (second_edge s) (pair plus_zero s) is)) t).1
stems_fine op (s ∷ ss) (suc k) from l is t = stems_fine op ss k (second_edge s) (l ++ pair from s) is t

-- ---- a delta in range runs to a finite coordinate
sub-finite : (x y : Float) → T (finite (sub binary64 x y)) → T (finite x)
unfolding sub add neg
sub-finite (fin s m e) y t = tt
sub-finite nan y t = absurd t
sub-finite (inf true) nan t = absurd t
sub-finite (inf true) (inf true) t = absurd t
sub-finite (inf true) (inf false) t = absurd t
sub-finite (inf true) (fin s m e) t = absurd t
sub-finite (inf false) nan t = absurd t
sub-finite (inf false) (inf true) t = absurd t
sub-finite (inf false) (inf false) t = absurd t
sub-finite (inf false) (fin s m e) t = absurd t

quantized-finite : (v : Float) → T (finite (quantized v)) → T (finite v)
unfolding quantized abs away sub add neg mul div lt
quantized-finite (fin s m e) t = tt
quantized-finite nan t = absurd t
quantized-finite (inf true) t = absurd t
quantized-finite (inf false) t = absurd t

reached-finite : (at p : Float) → T (in_range (units (delta at p))) → T (finite p)
reached-finite at p t = sub-finite p at (quantized-finite (sub binary64 p at) (in_range-finite (delta at p) t))

-- ---- and so do the points of an entry, and of all
point-fine : (at p : Point) (l : List ℤ) → T (fine (units (delta at.x p.x) ∷ units (delta at.y p.y) ∷ l)) → T (finite_point p) × T (fine l)
unfolding fine
point-fine at p l t =
    let ux = units (delta at.x p.x) in
    let uy = units (delta at.y p.y) in
    let a = and_both (in_range ux) (in_range uy && fine l) t in
    let b = and_both (in_range uy) (fine l) a.1 in
    (and_i (finite p.x) (finite p.y) (reached-finite at.x p.x a.0) (reached-finite at.y p.y b.0), b.1)

command_fine : (at : Point) (c : Command) → T (fine (deltas at (points_of c) ++ height_of c)) → T (finite_command c)
unfolding deltas
command_fine at (move p) t = (point-fine at p [] t).0
command_fine at (line p) t = (point-fine at p [] t).0
command_fine at (curve p q r) t =
    let a = point-fine at p _ t in
    let b = point-fine (follow at p) q _ a.1 in
    let c = point-fine (follow (follow at p) q) r _ b.1 in
    and_i (finite_point p) (finite_point q && finite_point r) a.0 (and_i (finite_point q) (finite_point r) b.0 c.0)
command_fine at (flex p q r s u v h) t =
    let a = point-fine at p _ t in
    let b = point-fine (follow at p) q _ a.1 in
    let c = point-fine (follow (follow at p) q) r _ b.1 in
    let d = point-fine (follow (follow (follow at p) q) r) s _ c.1 in
    let e = point-fine (follow (follow (follow (follow at p) q) r) s) u _ d.1 in
    let f = point-fine (follow (follow (follow (follow (follow at p) q) r) s) u) v _ e.1 in
    and_i (finite_point p) _ a.0 (and_i (finite_point q) _ b.0 (and_i (finite_point r) _ c.0 (and_i (finite_point s) _ d.0 (and_i (finite_point u) (finite_point v) e.0 f.0))))

-- the groups' starts draw nothing
hints_fine : (m : Bool) (ss : List Stem) (at : Point) (g : List Stem) (cs : List Cmd) → T (items_fine (items m ss at (hints g ∷ cs))) → T (items_fine (items m ss at cs))
unfolding items items_fine
hints_fine true ss at g cs t = t
hints_fine false ss at g cs t = t

starts_fine : (m : Bool) (ss : List Stem) (at : Point) (n : ℕ) (gs : List Group) (cs : List Cmd) → T (items_fine (items m ss at (starts_at n gs ++ cs))) → T (items_fine (items m ss at cs))
unfolding starts_at
starts_fine m ss at n [] cs t = t
starts_fine m ss at n (g ∷ gs) cs t = starts_fine m ss at n gs cs (first (eqb g.before n) t)
  where
    first : (b : Bool) → T (items_fine (items m ss at (cond b (hints g.stems ∷ starts_at n gs) (starts_at n gs) ++ cs))) → T (items_fine (items m ss at (starts_at n gs ++ cs)))
    first false u = u
    first true u = hints_fine m ss at g.stems (starts_at n gs ++ cs) u

shape_fine : (m : Bool) (ss : List Stem) (at : Point) (c : Command) (cs : List Cmd) → T (items_fine (items m ss at (shape c ∷ cs))) → T (finite_command c) × T (items_fine (items m ss (arrives at (points_of c)) cs))
unfolding items items_fine
shape_fine true ss at c cs t = let a = and_both (fine (deltas at (points_of c) ++ height_of c)) (items_fine (items true ss (arrives at (points_of c)) cs)) t in (command_fine at c a.0, a.1)
shape_fine false ss at c cs t = let a = and_both (fine (deltas at (points_of c) ++ height_of c)) (items_fine (items false ss (arrives at (points_of c)) cs)) t in (command_fine at c a.0, a.1)

commands-fine : (m : Bool) (ss : List Stem) (at : Point) (n : ℕ) (gs : List Group) (l : List Command) → T (items_fine (items m ss at (commands n gs l))) → T (finite_list l)
unfolding commands finite_list
commands-fine m ss at n gs [] t = tt
commands-fine m ss at n gs (c ∷ l) t =
    let a = shape_fine m ss at c (commands (suc n) gs l) (starts_fine m ss at n gs (shape c ∷ commands (suc n) gs l) t) in
    and_i (finite_command c) (finite_list l) a.0 (commands-fine m ss (arrives at (points_of c)) (suc n) gs l a.1)

-- a program that is written draws to finite points only
pub written-finite : (d : Declared) (gs : List Group) (l : List Command) (room : ℕ) (b : List ℕ) → write (program d (commands 0 gs l)) room ≡ wrote b → T (finite_list l)
unfolding program
written-finite d gs l room b e =
    let is = pack (items d.masked (stems_of d) origin (commands 0 gs l)) idle in
    let us = stems_from (cond d.masked 23 3) d.upright 23 plus_zero [] is in
    let t = stems_fine (cond d.masked 23 3) d.upright 23 plus_zero [] is (stems_fine (cond d.masked 18 1) d.across 23 plus_zero [] us (write_is (program d (commands 0 gs l)) room b e).1) in
    commands-fine d.masked (stems_of d) origin 0 gs l (pack-fine (items d.masked (stems_of d) origin (commands 0 gs l)) idle t).1
