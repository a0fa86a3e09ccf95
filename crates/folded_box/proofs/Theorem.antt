-- Theorem: `FoldedInBox`, by demand 3.
use Rattle.std.specs.Prelude.{◌≡◌, refl, ℕ, ◌↔◌, ℤ, Float}
use Rattle.std.proofs.Common.{sym, subst}
use Rattle.std.proofs.Math.Path.{ap}
use mathlib.Core.List.Memᴰ
use mathlib.Core.List.{List, [], ◌∷◌, ◌++◌, Memᴰ as OneOf, cons≢nil}
use Rattle.charstring.specs.Cipher.{Bytes}
use Rattle.geometry.specs.declared.Point.{Point}
use Rattle.geometry.specs.declared.Matrix.{Matrix}
use Rattle.outline.specs.Outline.{Command, move, line, curve, flex}
use Rattle.type1.specs.declared.Reading.{Reading}
use Rattle.type1.specs.Interpret.{Source}
use Rattle.folding.specs.declared.Fold.{Fold}
use Rattle.folding.specs.Folding.{fold_of, folded_list}
use Rattle.type2.specs.declared.Widths.{Widths}
use Rattle.type2.specs.Number.{Is}
use Rattle.type1_to_type2.specs.Emission.{points_of}
use Rattle.type1_to_type2.specs.Writing.{wrote}
use Rattle.type1_to_type2.specs.Convert.{Glyph, Rooms, converted, convert}
use Rattle.type1_to_type2.specs.Finish.{finish}
use Rattle.renderer.specs.Machine as Machine
use Rattle.renderer.specs.Machine.{Entry}
use Rattle.boxes.specs.declared.Bounds.{Bounds}
use Rattle.boxes.specs.Box.{points}
use Rattle.boxes.specs.Points.{IsBox}
use Rattle.boxes.proofs.Theorems.{boxed_says, refused_exactly}
use Rattle.agreement.specs.Demand3.{Near, SamePoint, SamePoints, SameDrawing}
use Rattle.agreement.proofs.Agreement.{demand3}
use Rattle.folded_box.specs.FoldedBox.{all_points, BoxAround, FoldedInBox}

-- ---- the points of two drawings that are the same

module _ (R : ℤ → Float → Type 0) where
  same_append : (zs us : List Machine.Point) (ps qs : List Point) → SamePoints R zs ps → SamePoints R us qs → SamePoints R (zs ++ us) (ps ++ qs)
  same_append [] us [] qs s t = t
  same_append [] us (p ∷ ps) qs s t = absurd s
  same_append (z ∷ zs) us [] qs s t = absurd s
  same_append (z ∷ zs) us (p ∷ ps) qs (r, s) t = (r, same_append zs us ps qs s t)

  same_points : (ds : List (Entry Machine.Point)) (cs : List Command) → SameDrawing R ds cs → SamePoints R (points ds) (all_points cs)
  unfolding points all_points
  same_points [] [] s = s
  same_points [] (c ∷ cs) s = absurd s
  same_points (d ∷ ds) [] s = absurd s
  same_points (d ∷ ds) (c ∷ cs) (e, s) = same_append d.points (points ds) (points_of c) (all_points cs) e.1 (same_points ds cs s)

  -- a point has a partner, either way
  partner : (zs : List Machine.Point) (ps : List Point) (p : Point) → SamePoints R zs ps → OneOf p ps → (z : Machine.Point) × OneOf z zs × SamePoint R z p
  partner [] [] p s o = absurd (Memᴰ.not-nil o)
  partner [] (q ∷ ps) p s o = absurd s
  partner (z ∷ zs) [] p s o = absurd s
  partner (z ∷ zs) (q ∷ ps) p (r, s) (OneOf.head e) = (z, OneOf.head refl, subst (SamePoint R z) (sym e) r)
  partner (z ∷ zs) (q ∷ ps) p (r, s) (OneOf.tail o) = let (u, m, t) = partner zs ps p s o in (u, OneOf.tail m, t)

  partner⁻¹ : (zs : List Machine.Point) (ps : List Point) (z : Machine.Point) → SamePoints R zs ps → OneOf z zs → (p : Point) × OneOf p ps × SamePoint R z p
  partner⁻¹ [] [] z s o = absurd (Memᴰ.not-nil o)
  partner⁻¹ [] (q ∷ ps) z s o = absurd s
  partner⁻¹ (u ∷ zs) [] z s o = absurd s
  partner⁻¹ (u ∷ zs) (q ∷ ps) z (r, s) (OneOf.head e) = (q, OneOf.head refl, subst (λ (y : Machine.Point). SamePoint R y q) (sym e) r)
  partner⁻¹ (u ∷ zs) (q ∷ ps) z (r, s) (OneOf.tail o) = let (p, m, t) = partner⁻¹ zs ps z s o in (p, OneOf.tail m, t)

  -- a coordinate of a machine's point is one of its partner's: c and k are both `x`, or both `y`
  reached : (zs : List Machine.Point) (ps : List Point) → SamePoints R zs ps → (c : Machine.Point → ℤ) (k : Point → Float) → ((z : Machine.Point) (p : Point) → SamePoint R z p → R (c z) (k p))
      → (v : ℤ) → (z : Machine.Point) × OneOf z zs × (c z ≡ v) → (p : Point) × OneOf p ps × R v (k p)
  reached zs ps s c k part v (z, o, e) = let (p, m, r) = partner⁻¹ zs ps z s o in (p, m, subst (λ (u : ℤ). R u (k p)) e (part z p r))

  around : (ds : List (Entry Machine.Point)) (cs : List Command) (b : Bounds) → SameDrawing R ds cs → IsBox (points ds) b → BoxAround R (all_points cs) b
  around ds cs b s i =
      let same = same_points ds cs s in
      let across = reached (points ds) (all_points cs) same (λ z. z.x) (λ p. p.x) (λ z p r. r.0) in
      let up = reached (points ds) (all_points cs) same (λ z. z.y) (λ p. p.y) (λ z p r. r.1) in
      record {
        holds = λ p o. let (z, m, r) = partner (points ds) (all_points cs) p same o in (z, i.holds z m, r);
        left = across b.left i.left;
        bottom = up b.bottom i.bottom;
        right = across b.right i.right;
        top = up b.top i.top;
      }

  -- nothing is drawn by either
  no_points : (ps : List Point) → SamePoints R [] ps → ps ≡ []
  no_points [] s = refl
  no_points (p ∷ ps) s = absurd s

  no_entries : (ds : List (Entry Machine.Point)) → SameDrawing R ds [] → ds ≡ []
  no_entries [] s = refl
  no_entries (d ∷ ds) s = absurd s

-- an entry has a point
no_commands : (cs : List Command) → all_points cs ≡ [] → cs ≡ []
unfolding all_points
no_commands [] e = refl
no_commands (move p ∷ cs) e = absurd (cons≢nil e)
no_commands (line p ∷ cs) e = absurd (cons≢nil e)
no_commands (curve p q r ∷ cs) e = absurd (cons≢nil e)
no_commands (flex p q r s t u h ∷ cs) e = absurd (cons≢nil e)

none-folded : (fold : Fold) (cs : List Command) → (folded_list fold cs ≡ []) ↔ (cs ≡ [])
unfolding folded_list
none-folded fold [] = (λ e. refl, λ e. refl)
none-folded fold (c ∷ cs) = (λ e. absurd (cons≢nil e), λ e. absurd (cons≢nil e))

draws-none : (R : ℤ → Float → Type 0) (ds : List (Entry Machine.Point)) (cs : List Command) → SameDrawing R ds cs → (points ds ≡ []) ↔ (cs ≡ [])
draws-none R ds cs s = (
  λ e. no_commands cs (no_points R (all_points cs) (subst (λ (l : List Machine.Point). SamePoints R l (all_points cs)) e (same_points R ds cs s))),
  λ e. points_none (no_entries R ds (subst (SameDrawing R ds) e s)),
)
  where
    points_none : ds ≡ [] → points ds ≡ []
    points_none e = unfold points in ap points e

-- ---- THE BOX OF A GLYPH THAT CONVERTS. The hypotheses are demand 3's.
pub folded_in_box : (x : Source) (reading : Reading) (m : Matrix) (r : Rooms) (g : Glyph) (p : Widths) (room : ℕ) (out : List ℕ) (w : Bounds)
    → Bytes x.charstring → Bytes x.bank → convert x reading m r ≡ converted g → finish g.width g.program p room ≡ wrote out
    → FoldedInBox x reading m out w
folded_in_box x reading m r g p room out w code bodies c h =
    let D = demand3 x reading m r g p room out code bodies c h in
    let drawn = D.state.drawn in
    let none = draws-none Near D.end.drawn (folded_list (fold_of m) drawn) D.drawn in
    let refused = refused_exactly out w D.end [] D.ran in
    record {
      state = D.state;
      run = D.run;
      refused = (λ a. (none-folded (fold_of m) drawn).0 (none.0 (refused.0 a)), λ e. refused.1 (none.1 ((none-folded (fold_of m) drawn).1 e)));
      near = λ b v a. around Near D.end.drawn (folded_list (fold_of m) drawn) b D.drawn (boxed_says out w D.end [] b v D.ran a).0;
      exact = λ i d b v a. around Is D.end.drawn (folded_list (fold_of m) drawn) b (D.exact i d) (boxed_says out w D.end [] b v D.ran a).0;
      verdict = λ b v a. (boxed_says out w D.end [] b v D.ran a).1;
    }
