-- Laws: operators that wait, deltas, and the commands that they draw.
use mathlib.Core.Path.{◌≡◌, refl, sym, ap, ap₂, ◌∙◌, subst, fun_ext}
use mathlib.Core.Logic.{◌⊎◌, inl, inr}
use Prim.Native.Nat.{ℕ, zero, suc, ◌+◌, ◌-◌, ◌*◌, ◌%◌, ◌^◌, ◌≤◌, ◌<◌}
use native.Mathlib.Nat.{sub-zero}
use native.Mathlib.Omega.{arith}
use mathlib.Core.Bool.{Bool, true, false, ◌&&◌, cond, and-false}
use mathlib.Core.List.{List, [], ◌∷◌, ◌++◌, append-nil}
use lib.ListN.{length, take, replicate, length-take}
use lib.Dec.{T, eqb, leb, leb→le, eqb→eq}
use lib.IntN.{ℤ}
use lib.Pow.{pow_pos}
use lib.Ieee.{Float, nan, inf, fin, binary64, sub, add, neg, mul, div, lt, fits, eq}
use lib.Ieee.Fits.{eq→eqb, sub-fits}
use borrow.Author.Tests.{eq-eqb, ne_eqb}
use Rattle.binary64.specs.Units.{bool_iff}
use Rattle.binary64.specs.Value.{mag, pl, mi}
use Rattle.binary64.specs.Rounding.{away, abs}
use Rattle.binary64.specs.Tests.{eq→balance, balance→eq}
use Rattle.geometry.specs.declared.Point.{Point}
use Rattle.stores.specs.Zeros.{zeros_from, kept}
use Rattle.std.specs.Prelude.{Result, Ok, Err, IfOk}
use Rattle.std.specs.Result.{result_unwrap_or}
use Rattle.refusal.specs.declared.Refusal.{Refusal}
use Rattle.refusal.specs.Refusal.{number_in}
use Rattle.refusal.proofs.Numbers.{positive}
use Rattle.outline.specs.declared.Stem.{Stem}
use Rattle.outline.specs.Outline.{Command, move, line, curve, flex, plus_zero, pick}
use Rattle.type1.specs.Run.{point_at}
use Rattle.type2.specs.Number.{quantized, units, zp, zm, pushed, push_number}
use Rattle.type2.specs.Signed.{one_sided}
use Rattle.type2.proofs.Fixed.{units-quantized}
use Rattle.type2.proofs.Pushes.{rounded_is}
use Rattle.type2.specs.Instruction.{Instr, instr, is_zero, move_instr}
use Rattle.type2.specs.Path.{Kind, lines, curves, reaches, most, takes}
use Rattle.type1_to_type2.proofs.Writes.{refused_stays, not_before, put_cons, pair_refused, pair-pushed}
use Rattle.type1_to_type2.specs.declared.Writer.{Writer}
use Rattle.type1_to_type2.specs.Emission.{Cmd, shape, Item, go, items, code_of, deltas, arrives, points_of, height_of, kind_of, written}
use Rattle.type1_to_type2.specs.Writing.{Written, refused, wrote, put, put_numbers}
use Rattle.type1_to_type2.specs.Streaming.{resumed, resumed_items, resumed_all, point_of, closed, joined, streamed, put_instr, shares, Puts, Still, Flushed, Batched, Goes, Draws, Ends}

-- ---- one after the other
pub in_turn : {g h : (ℕ → Written) → ℕ → Written} {w r s : Writer} {b a z : List ℕ} → Puts g w b r a → Puts h r a s z → Puts (λ f. g (h f)) w b s z
in_turn {h = h} p q = record { then = λ f. q.then f ∙ p.then (h f); same = q.same ∙ p.same }

-- two numbers and a byte
pub two_numbers : (c d : ℤ) (k : ℕ) {w r s t : Writer} {b a z y : List ℕ} → Puts (λ f left. put_numbers (c ∷ []) left f) w b r a → Puts (λ f left. put_numbers (d ∷ []) left f) r a s z → Puts (λ f left. put left (k ∷ []) f) s z t y →
    Puts (λ f left. put_numbers (c ∷ d ∷ []) left (λ l. put l (k ∷ []) f)) w b t y
unfolding put_numbers
two_numbers c d k p q o = let x = in_turn p (in_turn q o) in record { then = x.then; same = x.same }

-- what was put, said otherwise
pub as_put : {g : (ℕ → Written) → ℕ → Written} {w r : Writer} {b a : List ℕ} (h : (ℕ → Written) → ℕ → Written) → Puts g w b r a → ((f : ℕ → Written) (left : ℕ) → g f left ≡ h f left) → Puts h w b r a
as_put {w = w} {b = b} h p e = record { then = λ f. p.then f ∙ ap (resumed w.next b) (fun_ext (e f)); same = p.same }

-- ---- refusals: from there on the point does not count, and what is not refused was not refused before
at_either : (n : Result ℕ Refusal) (a : List ℕ) (p q : Point) (f : Point → ℕ → Written) → ((k : ℕ) → n ≡ Ok k → p ≡ q) → resumed n a (f p) ≡ resumed n a (f q)
at_either (Ok k) a p q f h = ap (λ (x : Point). resumed (Ok k) a (f x)) (h k refl)
at_either (Err e) a p q f h = refused_stays e a a (f p) (f q)

abbrev is_written : Written → Bool
is_written (refused n) = false
is_written (wrote b) = true

fine-written : (k : ℕ) (a : List ℕ) → is_written (resumed (Ok k) a (λ left. wrote [])) ≡ true
unfolding resumed
fine-written k a = refl

refused_unwritten : (e : Refusal) (b : List ℕ) (f : ℕ → Written) → is_written (resumed (Err e) b f) ≡ false
unfolding resumed
refused_unwritten e b f = refl

not_refused : (n m : Result ℕ Refusal) (k : ℕ) (a b : List ℕ) (g : (ℕ → Written) → ℕ → Written) → ((f : ℕ → Written) → resumed n a f ≡ resumed m b (g f)) → n ≡ Ok k → (j : ℕ) × (m ≡ Ok j)
not_refused n (Ok j) k a b g h e = (j, refl)
not_refused n (Err r) k a b g h e =
    absurd (subst T (sym (fine-written k a) ∙ ap is_written (ap (λ (x : Result ℕ Refusal). resumed x a (λ left. wrote [])) (sym e) ∙ h (λ left. wrote [])) ∙ refused_unwritten r b (g (λ left. wrote []))) tt)

was_fine : {g : (ℕ → Written) → ℕ → Written} {w r : Writer} {b a : List ℕ} {k : ℕ} → Puts g w b r a → r.next ≡ Ok k → (j : ℕ) × (w.next ≡ Ok j)
was_fine {g} {w} {r} {b} {a} {k} p = not_refused r.next w.next k a b g p.then

-- ---- an operator that waits
pub no_waiting : (k : ℕ) → k ≡ 0 → (left : ℕ) (f : ℕ → Written) → f left ≡ closed k left f
unfolding closed
no_waiting k e left f = rw (eq-eqb k 0 e)

pub waiting : (k : ℕ) → (k ≡ 0 → ⊥) → (f : ℕ → Written) (left : ℕ) → put left (k % 256 ∷ []) f ≡ closed k left f
unfolding closed
waiting k e f left = rw (ne_eqb k 0 e)

pub flushed_none : (w : Writer) (b : List ℕ) → w.waits ≡ 0 → (f : ℕ → Written) → resumed w.next b f ≡ resumed w.next b (λ left. closed w.waits left f)
flushed_none w b e f = ap (resumed w.next b) (fun_ext (λ left. no_waiting w.waits e left f))

-- ---- operands that share it, or not
pub is_shared : (w : Writer) (op : ℕ) (more : Bool) → w.waits ≡ op → more ≡ true → shares op more w ≡ true
is_shared w op more e h = ap₂ ◌&&◌ (eq-eqb w.waits op e) h

pub not_shared : (w : Writer) (op : ℕ) (more : Bool) → (w.waits ≡ op → ⊥) ⊎ (more ≡ false) → shares op more w ≡ false
not_shared w op more (inl e) = ap (λ (t : Bool). t && more) (ne_eqb w.waits op e)
not_shared w op more (inr h) = ap (λ (t : Bool). eqb w.waits op && t) h ∙ and-false (eqb w.waits op)

-- an operator that takes them has few operands
pub takes_few : (n m : ℕ) (more : Bool) → m < 256 → more ≡ leb n m → more ≡ true → n < 256
takes_few n m more h e t = let le : n ≤ m = leb→le n m (subst T (sym t ∙ e) tt) in omega (arith, le, h)

pub shared_none : (w : Writer) (b : List ℕ) (op : ℕ) (more : Bool) → shares op more w ≡ true → (f : ℕ → Written) → resumed w.next b f ≡ resumed w.next b (λ left. pick (shares op more w) (f left) (closed w.waits left f))
shared_none w b op more t f = ap (λ (x : Bool). resumed w.next b (λ left. pick x (f left) (closed w.waits left f))) (sym t)

pub first-closed : (w : Writer) (op : ℕ) (more : Bool) → shares op more w ≡ false → (f : ℕ → Written) (left : ℕ) → closed w.waits left f ≡ pick (shares op more w) (f left) (closed w.waits left f)
first-closed w op more t f left = ap (λ (x : Bool). pick x (f left) (closed w.waits left f)) (sym t)

-- ---- the two deltas of a point: the first is refused, or neither is
module _ (w : Writer) (b : List ℕ) (px py : Float) (i : ℕ) (z : w.next ≡ Ok i) where
  abbrev dx : Float
  dx = sub binary64 px w.x

  abbrev dy : Float
  dy = sub binary64 py w.y

  rounded : (v u : Float) → units (quantized (sub binary64 v u)) ≡ units (sub binary64 v u)
  rounded v u = units-quantized (sub binary64 v u) (sub-fits binary64 v u)

  pub delta_refused : (n : Refusal) (a : List ℕ) → pushed (Err n) a ≡ push_number b i dx → (f : ℕ → Written) → resumed (Err n) a f ≡ resumed w.next b (λ left. put_numbers (deltas (point_of w) (point_at px py ∷ [])) left f)
  unfolding deltas
  delta_refused n a e f =
      not_before i _ _ _ z (pair_refused b i dx (units (quantized dy)) n a f e ∙ ap (λ (u : ℤ). resumed (Ok i) b (λ left. put_numbers (u ∷ units (quantized dy) ∷ []) left f)) (sym (rounded px w.x)))

  pub delta-pushed : (k : ℕ) (a : List ℕ) (m : Result ℕ Refusal) (c : List ℕ) → pushed (Ok k) a ≡ push_number b i dx → pushed m c ≡ push_number a k dy → (f : ℕ → Written) → resumed m c f ≡ resumed w.next b (λ left. put_numbers (deltas (point_of w) (point_at px py ∷ [])) left f)
  unfolding deltas
  delta-pushed k a m c e d f =
      not_before i _ _ _ z (pair-pushed b i dx dy k a m c f e d ∙ ap₂ (λ (u v : ℤ). resumed (Ok i) b (λ left. put_numbers (u ∷ v ∷ []) left f)) (sym (rounded px w.x)) (sym (rounded py w.y)))

pub delta_at : (w : Writer) (px py x y : Float) → x ≡ reaches w.x px → y ≡ reaches w.y py → point_at x y ≡ arrives (point_of w) (point_at px py ∷ [])
unfolding arrives
delta_at w px py x y e d = ap₂ point_at e d

-- ---- points in turn
pub goes_one : {w r s : Writer} {b a z : List ℕ} {p : Point} {ps : List Point} → Goes (p ∷ []) w b r a → Goes ps r a s z → Goes (p ∷ ps) w b s z
unfolding deltas arrives put_numbers
goes_one {w} {r} {s} {b} {a} {z} {p} {ps} x y = record {
  puts = record {
    then = λ f.
        y.puts.then f
        ∙ at_either r.next a (point_of r) (arrives (point_of w) (p ∷ [])) (λ q l. put_numbers (deltas q ps) l f) x.at
        ∙ x.puts.then (λ l. put_numbers (deltas (arrives (point_of w) (p ∷ [])) ps) l f);
    same = y.puts.same ∙ x.puts.same;
  };
  at = λ k e. let (j, d) = was_fine y.puts e in y.at k e ∙ ap (λ (q : Point). arrives q ps) (x.at j d);
  waits = y.waits ∙ x.waits;
  held = y.held ∙ x.held;
}

pub goes_none : (w : Writer) (b : List ℕ) → Goes [] w b w b
unfolding deltas arrives put_numbers
goes_none w b = record { puts = record { then = λ f. refl; same = refl }; at = λ k e. refl; waits = refl; held = refl }

-- ---- a command's items
pub items_shape : (m : Bool) (ss : List Stem) (at : Point) (e : Command) (cs : List Cmd) → items m ss at (shape e ∷ cs) ≡ go (kind_of e) (deltas at (points_of e) ++ height_of e) ∷ items m ss (arrives at (points_of e)) cs
unfolding items
items_shape true ss at e cs = refl
items_shape false ss at e cs = refl

pub draws : {g : (ℕ → Written) → ℕ → Written} {w r : Writer} {b a : List ℕ} (e : Command) → Puts g w b r a → ((k : ℕ) → r.next ≡ Ok k → point_of r ≡ arrives (point_of w) (points_of e)) →
    ((is : List Item) (left : ℕ) → g (streamed is r.waits r.held) left ≡ streamed (go (kind_of e) (deltas (point_of w) (points_of e) ++ height_of e) ∷ is) w.waits w.held left) →
    (masked : Bool) (ss : List Stem) → Draws masked ss (shape e ∷ []) w b r a
draws {g} {w} {r} {b} {a} e p q h masked ss = record {
  then = λ ds.
      at_either r.next a (point_of r) (arrives (point_of w) (points_of e)) (λ x. streamed (items masked ss x ds) r.waits r.held) q
      ∙ p.then (streamed (items masked ss (arrives (point_of w) (points_of e)) ds) r.waits r.held)
      ∙ ap (resumed w.next b) (fun_ext (h (items masked ss (arrives (point_of w) (points_of e)) ds)))
      ∙ ap (resumed_items w b) (sym (items_shape masked ss (point_of w) e ds));
  same = p.same;
}

-- no points draw nothing
pub nothing_drawn : {w r : Writer} {b a : List ℕ} → Goes [] w b r a → (masked : Bool) (ss : List Stem) (ds : List Cmd) → resumed_all masked ss r a ds ≡ resumed_all masked ss w b ds
unfolding deltas arrives put_numbers
nothing_drawn {w} {r} {b} {a} g masked ss ds =
    at_either r.next a (point_of r) (point_of w) (λ x. streamed (items masked ss x ds) r.waits r.held) g.at
    ∙ g.puts.then (streamed (items masked ss (point_of w) ds) r.waits r.held)
    ∙ ap₂ (λ (k n : ℕ). resumed w.next b (streamed (items masked ss (point_of w) ds) k n)) g.waits g.held

-- ---- lines and curves
joins : (j : Kind) (op count : ℕ) → code_of j ≡ op → (l : List ℤ) → length l ≡ count → (k n room : ℕ) (f : ℕ → ℕ → ℕ → Written) (more t : Bool) → leb (n + count) (most j) ≡ more → (eqb k op && more) ≡ t →
    pick t (put_numbers l room (f op (pick t (n + count) count))) (closed k room (λ left. put_numbers l left (f op (pick t (n + count) count)))) ≡ joined j l k n room f
unfolding joined
joins j op count c l e k n room f more t m h = rw (c, e, m, h) (both t)
  where
    both : (t : Bool) → pick t (put_numbers l room (f op (pick t (n + count) count))) (closed k room (λ left. put_numbers l left (f op (pick t (n + count) count)))) ≡ pick t (put_numbers l room (f op (n + count))) (closed k room (λ left. put_numbers l left (f op count)))
    both true = refl
    both false = refl

-- one law for both: op is the kind's operator
batch_draws : (e : Command) (j : Kind) (op count : ℕ) → height_of e ≡ [] → code_of j ≡ op → ((at : Point) → length (deltas at (points_of e)) ≡ count) →
    ((l : List ℤ) (is : List Item) (k n left : ℕ) → joined j l k n left (streamed is) ≡ streamed (go (kind_of e) l ∷ is) k n left) →
    {w r s : Writer} {b a z : List ℕ} → Batched op count (takes j w.held count) w b r a → Goes (points_of e) r a s z → (masked : Bool) (ss : List Stem) → Draws masked ss (shape e ∷ []) w b s z
batch_draws e j op count flat c len st {w} {r} {s} {b} {a} {z} x y =
    draws e (in_turn x.puts y.puts) (λ k z. y.at k z ∙ ap (λ (q : Point). arrives q (points_of e)) x.at)
    (λ is left.
    ap (λ (q : Point). part is left q s.waits s.held) x.at
    ∙ ap₂ (λ (k n : ℕ). part is left (point_of w) k n) (y.waits ∙ x.waits) (y.held ∙ x.held)
    ∙ joins j op count c (deltas (point_of w) (points_of e)) (len (point_of w)) w.waits w.held left (streamed is) more (shares op more w) refl refl
    ∙ st (deltas (point_of w) (points_of e)) is w.waits w.held left
    ∙ ap (λ (l : List ℤ). streamed (go (kind_of e) l ∷ is) w.waits w.held left) (sym (ap (λ (l : List ℤ). deltas (point_of w) (points_of e) ++ l) flat ∙ append-nil (deltas (point_of w) (points_of e)))))
  where
    more : Bool
    more = takes j w.held count

    part : List Item → ℕ → Point → ℕ → ℕ → Written
    part is left q k n = pick (shares op more w) (put_numbers (deltas q (points_of e)) left (streamed is k n)) (closed w.waits left (λ l. put_numbers (deltas q (points_of e)) l (streamed is k n)))

pub line_drawn : {w r s : Writer} {b a z : List ℕ} (p : Point) → Batched 5 2 (takes lines w.held 2) w b r a → Goes (p ∷ []) r a s z → (masked : Bool) (ss : List Stem) → Draws masked ss (shape (line p) ∷ []) w b s z
unfolding deltas streamed
line_drawn p x y = batch_draws (line p) lines 5 2 refl refl (λ at. refl) (λ l is k n left. refl) x y

pub curve_drawn : {w r s : Writer} {b a z : List ℕ} (p q t : Point) → Batched 8 6 (takes curves w.held 6) w b r a → Goes (p ∷ q ∷ t ∷ []) r a s z → (masked : Bool) (ss : List Stem) → Draws masked ss (shape (curve p q t) ∷ []) w b s z
unfolding deltas streamed
curve_drawn p q t x y = batch_draws (curve p q t) curves 8 6 refl refl (λ at. refl) (λ l is k n left. refl) x y

-- ---- moves and flexes: the waiting operator first
pub puts_to : {g : (ℕ → Written) → ℕ → Written} {w r s : Writer} {b a : List ℕ} → Puts g w b r a → s.next ≡ r.next → Puts g w b s a
puts_to {a = a} p d = record { then = λ f. ap (λ (n : Result ℕ Refusal). resumed n a f) d ∙ p.then f; same = p.same }

closed-draws : {g : (ℕ → Written) → ℕ → Written} {w r s : Writer} {b a z : List ℕ} (e : Command) → Puts (λ f left. closed w.waits left f) w b r a → r.waits ≡ 0 → r.held ≡ 0 → Puts g r a s z →
    ((k : ℕ) → s.next ≡ Ok k → point_of s ≡ arrives (point_of w) (points_of e)) → s.waits ≡ r.waits → s.held ≡ r.held →
    ((is : List Item) (k n left : ℕ) → closed k left (g (streamed is 0 0)) ≡ streamed (go (kind_of e) (deltas (point_of w) (points_of e) ++ height_of e) ∷ is) k n left) →
    (masked : Bool) (ss : List Stem) → Draws masked ss (shape e ∷ []) w b s z
closed-draws {g} {w} {r} {s} e p k0 n0 q at ks ns h =
    draws e (in_turn p q) at
    (λ is left. ap₂ (λ (k n : ℕ). closed w.waits left (g (streamed is k n))) (ks ∙ k0) (ns ∙ n0) ∙ h is w.waits w.held left)

-- a delta that is 0 as a number is 0 units
no_units : (p m W x y : ℕ) → x ≡ p * W → y ≡ m * W → 0 < W → (p ≡ 0) ⊎ (m ≡ 0) → x + 0 ≡ y + 0 → p + m ≡ 0
no_units zero zero W x y h k w o g = refl
no_units zero (suc m) W x y h k w o g = absurd (let z : ⊥ = omega arith in z)
no_units (suc p) zero W x y h k w o g = absurd (let z : ⊥ = omega arith in z)
no_units (suc p) (suc m) W x y h k w (inl z) g = absurd (let z : ⊥ = omega arith in z)
no_units (suc p) (suc m) W x y h k w (inr z) g = absurd (let z : ⊥ = omega arith in z)

zero-sum : (p m W x y : ℕ) → x ≡ p * W → y ≡ m * W → p + m ≡ 0 → x + 0 ≡ y + 0
zero-sum zero zero W x y h k g = omega arith
zero-sum zero (suc m) W x y h k g = absurd (let z : ⊥ = omega arith in z)
zero-sum (suc p) m W x y h k g = absurd (let z : ⊥ = omega arith in z)

zero-fits : T (fits binary64 plus_zero)
unfolding fits
zero-fits = tt

zero-mag : mag binary64 plus_zero ≡ 0
unfolding mag
zero-mag = refl

zero-quantized : (v : Float) → T (fits binary64 v) → eq (quantized v) plus_zero ≡ is_zero (units (quantized v))
zero-quantized nan a = unfold units quantized abs away sub add neg mul div lt eq in refl
zero-quantized (inf true) a = unfold units quantized abs away sub add neg mul div lt eq in refl
zero-quantized (inf false) a = unfold units quantized abs away sub add neg mul div lt eq in refl
zero-quantized (fin s m e) a =
    let v = fin s m e in
    let q = quantized v in
    let u = units v in
    let i = rounded_is v a tt in
    bool_iff (eq q plus_zero) (is_zero u)
    (λ t. eq→eqb (no_units (zp u) (zm u) (2 ^ 1058) (pl binary64 q) (mi binary64 q) i.plus i.minus (pow_pos 1058) (one_sided u) (subst (λ (n : ℕ). pl binary64 q + 0 ≡ mi binary64 q + n) zero-mag (eq→balance binary64 q plus_zero i.fit i.fine zero-fits tt t))))
    (λ t. balance→eq binary64 q plus_zero i.fit i.fine zero-fits tt (subst (λ (n : ℕ). pl binary64 q + 0 ≡ mi binary64 q + n) (sym zero-mag) (zero-sum (zp u) (zm u) (2 ^ 1058) (pl binary64 q) (mi binary64 q) i.plus i.minus (eqb→eq (zp u + zm u) 0 t))))
    ∙ ap is_zero (sym (units-quantized v a))

zero-units : (v d : Float) → d ≡ quantized v → T (fits binary64 v) → eq d plus_zero ≡ is_zero (units d)
zero-units v d e a = rw e (zero-quantized v a)

pub is_hmove : (v d : Float) (a : ℤ) → d ≡ quantized v → T (fits binary64 v) → eq d plus_zero ≡ true → move_instr a (units d) ≡ instr (a ∷ []) (22 ∷ [])
is_hmove v d a e f t = rw (sym (zero-units v d e f) ∙ t)

pub is_vmove : (u v c d : Float) → c ≡ quantized u → d ≡ quantized v → T (fits binary64 u) → T (fits binary64 v) → eq c plus_zero ≡ true → eq d plus_zero ≡ false → move_instr (units c) (units d) ≡ instr (units d ∷ []) (4 ∷ [])
is_vmove u v c d p q f g t o = rw (sym (zero-units v d q g) ∙ o, sym (zero-units u c p f) ∙ t)

pub is_rmove : (u v c d : Float) → c ≡ quantized u → d ≡ quantized v → T (fits binary64 u) → T (fits binary64 v) → eq c plus_zero ≡ false → eq d plus_zero ≡ false → move_instr (units c) (units d) ≡ instr (units c ∷ units d ∷ []) (21 ∷ [])
is_rmove u v c d p q f g t o = rw (sym (zero-units v d q g) ∙ o, sym (zero-units u c p f) ∙ t)

pub move_drawn : {w r s : Writer} {b a z : List ℕ} (px py dx dy : Float) (i : Instr) → dx ≡ quantized (sub binary64 px w.x) → dy ≡ quantized (sub binary64 py w.y) → move_instr (units dx) (units dy) ≡ i →
    Puts (λ f left. closed w.waits left f) w b r a → r.waits ≡ 0 → r.held ≡ 0 → Puts (λ f left. put_instr i left f) r a s z →
    s.x ≡ add binary64 w.x dx → s.y ≡ add binary64 w.y dy → s.waits ≡ r.waits → s.held ≡ r.held → (masked : Bool) (ss : List Stem) → Draws masked ss (shape (move (point_at px py)) ∷ []) w b s z
unfolding arrives deltas streamed
move_drawn {w} px py _ _ i e d m p k0 n0 q sx sy ks ns =
    closed-draws (move (point_at px py)) p k0 n0 q
    (λ k z. ap₂ point_at (sx ∙ ap (add binary64 w.x) e) (sy ∙ ap (add binary64 w.y) d)) ks ns
    (λ is k n left. ap (λ (j : Instr). closed k left (λ l. put_instr j l (streamed is 0 0))) (sym m ∙ ap₂ (λ (x y : Float). move_instr (units x) (units y)) e d))

-- a number and two bytes
pub number-bytes : (h : Float) (c d : ℕ) {w r s t : Writer} {b a z y : List ℕ} → Puts (λ f left. put_numbers (units h ∷ []) left f) w b r a → written h ≡ units h → Puts (λ f left. put left (c ∷ []) f) r a s z → Puts (λ f left. put left (d ∷ []) f) s z t y →
    Puts (λ f left. put_numbers (written h ∷ []) left (λ l. put l (c ∷ d ∷ []) f)) w b t y
number-bytes h c d num e p q =
    as_put _ (in_turn num (in_turn p q))
    (λ f left. ap₂ (λ (u : ℤ) (g : ℕ → Written). put_numbers (u ∷ []) left g) (sym e) (fun_ext (λ l. put_cons l c (d ∷ []) f)))

pub flex_drawn : {w r s t : Writer} {b a z y : List ℕ} (p1 p2 p3 p4 p5 p6 : Point) (h : Float) → Flushed w b r a → Goes (p1 ∷ p2 ∷ p3 ∷ p4 ∷ p5 ∷ p6 ∷ []) r a s z → Puts (λ f left. put_numbers (written h ∷ []) left (λ l. put l (12 ∷ 35 ∷ []) f)) s z t y × Still s t →
    (masked : Bool) (ss : List Stem) → Draws masked ss (shape (flex p1 p2 p3 p4 p5 p6 h) ∷ []) w b t y
unfolding deltas streamed put_numbers
flex_drawn {w} {r} {s} {t} p1 p2 p3 p4 p5 p6 h fl ds op =
    closed-draws (flex p1 p2 p3 p4 p5 p6 h) fl.puts fl.waits fl.held (in_turn ds.puts op.0)
    (λ k z. ap₂ point_at op.1.x op.1.y ∙ (let (j, d) = was_fine op.0 z in ds.at j d) ∙ ap (λ (q : Point). arrives q (p1 ∷ p2 ∷ p3 ∷ p4 ∷ p5 ∷ p6 ∷ [])) fl.at)
    (op.1.waits ∙ ds.waits)
    (op.1.held ∙ ds.held)
    (λ is k n left.
    ap (λ (q : Point). closed k left (λ l. put_numbers (deltas q (p1 ∷ p2 ∷ p3 ∷ p4 ∷ p5 ∷ p6 ∷ [])) l (λ m. put_numbers (written h ∷ []) m (λ o. put o (12 ∷ 35 ∷ []) (streamed is 0 0))))) fl.at)

-- ---- the end
pub ended : {w r s : Writer} {b a z : List ℕ} → Flushed w b r a → Puts (λ f left. put left (14 ∷ []) f) r a s z → (masked : Bool) (ss : List Stem) → resumed s.next z (λ left. wrote []) ≡ resumed_all masked ss w b []
unfolding items streamed
ended p q true ss = (in_turn p.puts q).then (λ left. wrote [])
ended p q false ss = (in_turn p.puts q).then (λ left. wrote [])

-- n is the place after the last byte, z the output, and o the output with zeros from there on
finished_refused : (room : ℕ) (e : Refusal) (z o : List ℕ) (x : Written) → resumed (Err e) z (λ left. wrote []) ≡ x → length z ≡ room → o ≡ zeros_from 0 z → Ends room x (Err e) o
unfolding resumed
finished_refused room e z o x h l d = subst (λ (y : Written). Ends room y (Err e) o) h (positive e, (refl, d ∙ ap (λ (n : ℕ). replicate n 0) (sub-zero (length z) ∙ l)))

finished-written : (room n : ℕ) (z o : List ℕ) (x : Written) → resumed (Ok n) z (λ left. wrote []) ≡ x → length z ≡ room → n ≤ length z → o ≡ zeros_from n z → length o ≡ room → Ends room x (Ok n) o
unfolding resumed
finished-written room n z o x h l f d m =
    let w : length (take n z) ≡ n = omega (arith, length-take n z) in
    subst (λ (y : Written). Ends room y (Ok n) o) (ap wrote (sym (append-nil (take n z))) ∙ h)
    (ap (λ (k : ℕ). Ok k) (sym w), (d ∙ ap₂ (λ (i j : ℕ). take n z ++ replicate (i - j) 0) l (sym w), m))

-- n is the end's number, k how many bytes are kept, d of no use
pub finished : (room n k d : ℕ) (end : Result ℕ Refusal) (z o : List ℕ) (x : Written) → resumed end z (λ left. wrote []) ≡ x → length z ≡ room → IfOk end (λ i. i ≤ length z) → n ≡ number_in end → k ≡ kept n (result_unwrap_or end d) → o ≡ zeros_from k z → length o ≡ room → Ends room x end o
finished room n k d (Ok i) z o x h l f a b c m = finished-written room i z o x h l f (c ∙ ap (λ (j : ℕ). zeros_from j z) (b ∙ ap (λ (j : ℕ). kept j i) a)) m
finished room n k d (Err e) z o x h l f a b c m =
    finished_refused room e z o x h l (c ∙ ap (λ (j : ℕ). zeros_from j z) (b ∙ ap (λ (t : Bool). cond t d 0) (ne_eqb n 0 (λ (q : n ≡ 0). let p = positive e in let y : ⊥ = omega (arith, a, q, p) in y))))
