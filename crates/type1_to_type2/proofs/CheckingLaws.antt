-- Laws: the entries checked one after the other; what is planned. Assumes nothing.
use mathlib.Core.Path.{◌≡◌, refl, sym, ◌∙◌, ap, ap₂, subst}
use Prim.Native.Nat.{ℕ, zero, suc, ◌+◌, ◌*◌, ◌≤◌, ◌<◌}
use native.Mathlib.Omega.{arith}
use native.Mathlib.Numerals.{add-one}
use mathlib.Core.Bool.{Bool, true, false, ◌&&◌}
use mathlib.Core.List.{List, [], ◌∷◌, ◌++◌}
use lib.ListN.{length, get_or, length-replicate}
use lib.Dec.{eqb, ltb}
use borrow.Author.Tests.{eq-eqb, ne_eqb, ltb-true, ltb-false}
use lib.Ieee.{Float}
use lib.Ieee.Scale.{finite}
use Rattle.geometry.specs.declared.Point.{Point}
use Rattle.geometry.specs.declared.Matrix.{Matrix}
use Rattle.folding.specs.declared.Fold.{Fold}
use Rattle.outline.specs.Outline.{Command, move, line, curve, flex, pick, plus_zero}
use Rattle.outline.specs.Store.{word, command_in, drawn_in}
use Rattle.type1.specs.Memory.{Good}
use Rattle.type1.specs.Sound.{All, OfPoint, OfCommand}
use Rattle.type1_to_type2.specs.declared.Collected.{Collected}
use Rattle.type2.specs.Bools.{yes}
use Rattle.folding.specs.Folding as Folding
use Rattle.folding.specs.Folding.{finite_matrix, folded_point, folded_command, folded_list, folded_width, finite_point, finite_command, finite_list}
use Rattle.type1_to_type2.specs.Table.{table_stems}
use Rattle.type1_to_type2.specs.Collecting.{Counted, dropped_counts, needs_masks}
use Rattle.std.specs.Prelude.{Result, Ok, Err, is_ok}
use Rattle.std.specs.Result.{result_unwrap_or}
use Rattle.refusal.specs.declared.Refusal.{Refusal}
use Rattle.refusal.specs.declared.Refusal.TheVariants.{NotFinite}
use Rattle.refusal.specs.declared.UnknownNumber.{UnknownNumber}
use Rattle.refusal.specs.Refusal.{number_of, Decodes}
use Rattle.refusal.proofs.Numbers.{positive, most, same_number}
use mathlib.Core.Bool.{cond, true≢false, and-false}
use Rattle.type1_to_type2.specs.Writing as Writing
use Rattle.type1_to_type2.specs.Writing.{Written, refused, write}
use Rattle.type1_to_type2.specs.Convert.{Glyph, glyph_of, writes}
use Rattle.type1_to_type2.specs.Streaming.{Ends}
use Rattle.type1_to_type2.specs.Passes.{BothTables}
use Rattle.type1_to_type2.specs.Entry.{group_count, first_number, Planned, settles, Gives}
use Rattle.type1_to_type2.proofs.EntryLaws.{list_end}
use Rattle.type1_to_type2.proofs.Ordering.{dropped_tables, declared-across, declared-upright, declared_masked}

and_assoc : (a b c : Bool) → (a && (b && c)) ≡ ((a && b) && c)
and_assoc true b c = refl
and_assoc false b c = refl

finite_end : (l k : List Command) → finite_list (l ++ k) ≡ (finite_list l && finite_list k)
unfolding finite_list
finite_end [] k = refl
finite_end (x ∷ l) k = ap (λ (b : Bool). finite_command x && b) (finite_end l k) ∙ and_assoc (finite_command x) (finite_list l) (finite_list k)

-- under the identity a point is itself
alone : (fold : Fold) (p : Point) → fold.identity ≡ true → OfPoint Good p → finite_point (folded_point fold p) ≡ true
unfolding folded_point
alone fold p i g = rw i (ap₂ ◌&&◌ (yes (finite p.x) g.0.fine) (yes (finite p.y) g.1.fine))

all_alone : (fold : Fold) (k : Command) → fold.identity ≡ true → OfCommand Good k → finite_command (folded_command fold k) ≡ true
all_alone fold (move p) i g = alone fold p i g
all_alone fold (line p) i g = alone fold p i g
all_alone fold (curve p q r) i g = ap₂ ◌&&◌ (alone fold p i g.0) (ap₂ ◌&&◌ (alone fold q i g.1.0) (alone fold r i g.1.1))
all_alone fold (flex p q r s t u h) i g =
    ap₂ ◌&&◌ (alone fold p i g.0) (ap₂ ◌&&◌ (alone fold q i g.1.0) (ap₂ ◌&&◌ (alone fold r i g.1.1.0) (ap₂ ◌&&◌ (alone fold s i g.1.1.1.0) (ap₂ ◌&&◌ (alone fold t i g.1.1.1.1.0) (alone fold u i g.1.1.1.1.1.0)))))

pub identity-finite : (fold : Fold) (l : List Command) → fold.identity ≡ true → All (OfCommand Good) l → true ≡ finite_list (folded_list fold l)
unfolding All folded_list finite_list
identity-finite fold [] i g = refl
identity-finite fold (k ∷ l) i g = ap₂ ◌&&◌ (sym (all_alone fold k i g.0)) (identity-finite fold l i g.1)

module _ (fold : Fold) (c : List ℕ) where
  pub points_none : true ≡ finite_list (folded_list fold (drawn_in 0 c))
  unfolding drawn_in folded_list finite_list
  points_none = refl

  pub points_more : (e : ℕ) (f b d : Bool) → f ≡ finite_list (folded_list fold (drawn_in e c)) → b ≡ finite_list (folded_list fold (command_in c e)) → d ≡ (f && b) → d ≡ finite_list (folded_list fold (drawn_in (e + 1) c))
  unfolding drawn_in
  points_more e f b d ef eb ed =
      ed ∙ ap₂ ◌&&◌ ef eb ∙ sym (finite_end (folded_list fold (drawn_in e c)) (folded_list fold (command_in c e))) ∙ ap finite_list (sym (list_end fold (drawn_in e c) (command_in c e)))
      ∙ ap (λ (k : ℕ). finite_list (folded_list fold (drawn_in k c))) (sym (add-one e))

  -- one that is not finite
  pub points_false : (e n : ℕ) → e < n → finite_list (folded_list fold (command_in c e)) ≡ false → false ≡ finite_list (folded_list fold (drawn_in n c))
  unfolding drawn_in
  points_false e zero h f = absurd (let z : ⊥ = omega (arith, h) in z)
  points_false e (suc n) h f = go (ltb e n) refl (λ l. points_false e n l f) ∙ sym (finite_end (folded_list fold (drawn_in n c)) (folded_list fold (command_in c n))) ∙ ap finite_list (sym (list_end fold (drawn_in n c) (command_in c n)))
    where
      go : (b : Bool) → ltb e n ≡ b → (e < n → false ≡ finite_list (folded_list fold (drawn_in n c))) → false ≡ (finite_list (folded_list fold (drawn_in n c)) && finite_list (folded_list fold (command_in c n)))
      go true q r = ap (λ (b : Bool). b && finite_list (folded_list fold (command_in c n))) (r (ltb-true e n q))
      go false q r = let z : e ≡ n = (let l = ltb-false e n q in omega (arith, h, l)) in sym (ap (λ (b : Bool). finite_list (folded_list fold (drawn_in n c)) && b) (sym (ap (λ (i : ℕ). finite_list (folded_list fold (command_in c i))) z) ∙ f) ∙ and-false (finite_list (folded_list fold (drawn_in n c))))

pub groups_none : (c : List ℕ) → 0 ≡ group_count 0 c
unfolding group_count
groups_none c = refl

pub groups_more : (c : List ℕ) (e g k : ℕ) → g ≡ group_count e c → k ≡ pick (eqb (word c e 0) 5) 1 0 → g + k ≡ group_count (e + 1) c
unfolding group_count
groups_more c e g k eg ek = ap₂ ◌+◌ eg ek ∙ ap (λ (n : ℕ). group_count n c) (sym (add-one e))

pub groups_same : (c : List ℕ) (e g : ℕ) → g ≡ group_count e c → ◌≡◌ {A = ℕ} 0 (pick (eqb (word c e 0) 5) 1 0) → g ≡ group_count (e + 1) c
groups_same c e g eg ek = let z = groups_more c e g 0 eg ek in omega (arith, z)

pub points_all : (fold : Fold) (c : List ℕ) (n e : ℕ) (f : Bool) → e ≡ n → f ≡ finite_list (folded_list fold (drawn_in e c)) → f ≡ finite_list (folded_list fold (drawn_in n c))
points_all fold c n e f q ef = ef ∙ ap (λ (k : ℕ). finite_list (folded_list fold (drawn_in k c))) q

pub groups_all : (c : List ℕ) (n e g : ℕ) → e ≡ n → g ≡ group_count e c → g ≡ group_count n c
groups_all c n e g q eg = eg ∙ ap (λ (k : ℕ). group_count k c) q

first_word : (c : List ℕ) (e : ℕ) → word c e 0 ≡ get_or c (14 * e) 0
first_word c e = ap (λ (i : ℕ). get_or c i 0) (let z : 14 * e + 0 ≡ 14 * e = omega arith in z)

pub is_start : (c : List ℕ) (e : ℕ) → get_or c (14 * e) 0 ≡ 5 → ◌≡◌ {A = ℕ} 1 (pick (eqb (word c e 0) 5) 1 0) × (1 ≤ 1)
is_start c e h = (sym (ap (λ (b : Bool). pick b 1 0) (eq-eqb (word c e 0) 5 (first_word c e ∙ h))), omega arith)

pub no_start : (c : List ℕ) (e : ℕ) → (get_or c (14 * e) 0 ≡ 5 → ⊥) → ◌≡◌ {A = ℕ} 0 (pick (eqb (word c e 0) 5) 1 0) × (0 ≤ 1)
no_start c e h = (sym (ap (λ (b : Bool). pick b 1 0) (ne_eqb (word c e 0) 5 (λ (q : word c e 0 ≡ 5). h (sym (first_word c e) ∙ q)))), omega arith)

-- ---- the plan
pub matrix_fine : (m : Matrix) (b : Bool) (n : ℕ) → b ≡ finite_matrix m → b ≡ true → n ≡ first_number m n
matrix_fine m b n e t = sym (ap (λ (x : Bool). pick x n 1) (sym e ∙ t))

pub matrix_not : (m : Matrix) (b : Bool) (n : ℕ) → b ≡ finite_matrix m → b ≡ false → 1 ≡ first_number m n
matrix_not m b n e t = sym (ap (λ (x : Bool). pick x n 1) (sym e ∙ t))

pub planned : (c d : Collected) (m : Matrix) (width w : Float) (f b : Bool) → Counted c → w ≡ folded_width m width → f ≡ finite w → f ≡ true → c.finite ≡ true → (d ≡ dropped_counts c) × (d.across + d.upright ≤ 96)
    → b ≡ needs_masks d
    → Planned c m width (record { masked = b; across = d.across; upright = d.upright; width = w })
planned c d m width w f b few ew ef t u ed eb = record {
  fine = ap₂ ◌&&◌ (ap finite (sym ew) ∙ sym ef ∙ t) u;
  width_is = ew;
  few = ed.1;
  stems = λ gs ta tu C g. λ i. record {
    across = (declared-across gs c ta tu C few u ∙ sym (ap (λ (x : Collected). table_stems true x.across ta) ed.0)) i;
    upright = (declared-upright gs c ta tu C few u ∙ sym (ap (λ (x : Collected). table_stems false x.upright tu) ed.0)) i;
    masked = (declared_masked gs c ta tu C few u g ∙ sym (eb ∙ ap needs_masks ed.0)) i;
  };
  order = λ l ta tu C. subst (λ (x : Collected). BothTables x.across x.upright ta tu) (sym ed.0) (dropped_tables c l ta tu C);
}

-- ---- the program's end
-- the refusal of the number that comes first
pub first_refusal : (e y : Refusal) (points : Bool) (k n : ℕ) (r : Result Refusal UnknownNumber) → k ≡ number_of e → n ≡ Folding.refusal 0 k points → Decodes n r → y ≡ result_unwrap_or r e → number_of y ≡ cond points (number_of e) 14
unfolding Folding.refusal
first_refusal e y points k n r p q d u = go r d u
  where
    first : n ≡ cond points (number_of e) 14
    first = q ∙ ap (λ (i : ℕ). cond points i 14) p

    within : (b : Bool) → n ≡ cond b (number_of e) 14 → (0 < n) × (n ≤ 22)
    within true h = let s = positive e in let t = most e in (omega (arith, h, s), omega (arith, h, t))
    within false h = (omega (arith, h), omega (arith, h))

    go : (s : Result Refusal UnknownNumber) → Decodes n s → y ≡ result_unwrap_or s e → number_of y ≡ cond points (number_of e) 14
    go (Ok z) h w = ap number_of w ∙ h ∙ first
    go (Err z) h w = absurd (let a = within points first in let b = h.1 a.0 in let c = a.1 in let y : ⊥ = omega (arith, b, c) in y)

module _ (x : Written) (room : ℕ) (out : List ℕ) (points : Bool) where
  pub ended_refused : (e : Refusal) (g : List ℕ → Glyph) → Ends room x (Err e) out → points ≡ true → Gives (settles points (writes g x)) room (Err e) out
  ended_refused e g F t = go x F
    where
      go : (y : Written) → Ends room y (Err e) out → Gives (settles points (writes g y)) room (Err e) out
      go (Writing.refused j) F = record { glyph = ap (λ (i : ℕ). record { number = i; len = 0; width = plus_zero; ran = 0 }) (F.1.0 ∙ ap (λ (b : Bool). cond b j 14) (sym t)); bytes = F.1.1; same = ap length F.1.1 ∙ length-replicate room 0 }
      go (Writing.wrote b) F = absurd (true≢false (ap is_ok (sym F.0)))

  pub ended_folding : (e : Refusal) (g : List ℕ → Glyph) → Ends room x (Err e) out → points ≡ false → Gives (settles points (writes g x)) room (Err NotFinite) out
  ended_folding e g F t = go x F
    where
      go : (y : Written) → Ends room y (Err e) out → Gives (settles points (writes g y)) room (Err NotFinite) out
      go (Writing.refused j) F = record { glyph = ap (λ (b : Bool). record { number = cond b j 14; len = 0; width = plus_zero; ran = 0 }) (sym t); bytes = F.1.1; same = ap length F.1.1 ∙ length-replicate room 0 }
      go (Writing.wrote b) F = absurd (true≢false (ap is_ok (sym F.0)))

  -- with the refusal that comes first
  pub ended_first : (e y : Refusal) (g : List ℕ → Glyph) → Ends room x (Err e) out → number_of y ≡ cond points (number_of e) 14 → Gives (settles points (writes g x)) room (Err y) out
  ended_first e y g F t = go points refl t
    where
      go : (b : Bool) → points ≡ b → number_of y ≡ cond b (number_of e) 14 → Gives (settles points (writes g x)) room (Err y) out
      go true q s = subst (λ (r : Refusal). Gives (settles points (writes g x)) room (Err r) out) (same_number e y (sym s)) (ended_refused e g F q)
      go false q s = subst (λ (r : Refusal). Gives (settles points (writes g x)) room (Err r) out) (same_number NotFinite y (sym s)) (ended_folding e g F q)

  pub ended-written : (k : ℕ) (w : Float) (n : ℕ) → Ends room x (Ok k) out → Gives (settles points (writes (glyph_of w n) x)) room (Ok (record { number = 0; len = k; width = w; ran = n })) out
  ended-written k w n F = go x F
    where
      len_of : Result ℕ Refusal → ℕ
      len_of (Ok i) = i
      len_of (Err e) = 0

      go : (y : Written) → Ends room y (Ok k) out → Gives (settles points (writes (glyph_of w n) y)) room (Ok (record { number = 0; len = k; width = w; ran = n })) out
      go (Writing.refused j) F = absurd (let z : ⊥ = omega (arith, F.0, F.1.0) in z)
      go (Writing.wrote b) F = record { glyph = ap (λ (r : Result ℕ Refusal). record { number = 0; len = len_of r; width = w; ran = n }) F.0; bytes = F.1.0; same = F.1.1 }
