-- Laws: an entry of the command store, and what is written for it.
use mathlib.Core.Path.{◌≡◌, refl, sym, ap, ap₂, ◌∙◌, subst}
use Prim.Native.Nat.{ℕ, ◌*◌}
use native.Mathlib.Nat.{add-zero}
use native.Mathlib.Omega.{arith}
use mathlib.Core.Bool.{Bool, true, false}
use mathlib.Core.List.{List, [], ◌∷◌, ◌++◌}
use lib.ListN.{length, get_or}
use lib.Dec.{eqb}
use lib.Ieee.{Float}
use borrow.Author.Tests.{ne_eqb, eqb-true, eqb-false}
use Rattle.geometry.specs.declared.Point.{Point}
use Rattle.folding.specs.declared.Fold.{Fold}
use Rattle.outline.specs.declared.Stem.{Stem}
use Rattle.outline.specs.Outline.{Command, move, line, curve, flex, pick}
use Rattle.outline.specs.Store.{word, coordinate, point_in, command_in}
use Rattle.type1.specs.Memory.{Good}
use Rattle.type1.specs.Sound.{All, OfPoint, OfCommand}
use Rattle.type1_to_type2.specs.declared.Writer.{Writer}
use Rattle.folding.specs.Folding.{folded_command}
use Rattle.type1_to_type2.specs.Stems.{mask_of}
use Rattle.type2.specs.Number.{units}
use Rattle.type2.specs.Path.{lines, curves, takes}
use Rattle.type1_to_type2.specs.Emission.{Cmd, shape, items, written}
use Rattle.type1_to_type2.specs.Emission as Emission
use Rattle.type1_to_type2.specs.Streaming.{point_of, resumed_items, resumed_all, cmds_in, points_in, folded_points, point_count, Puts, Still, Flushed, Batched, EntryBegins, EntryEnds, Goes, Draws, Writes, Masks}
use Rattle.type1_to_type2.specs.Writing.{put, put_numbers}
use Rattle.type1_to_type2.proofs.Draws.{number-bytes, nothing_drawn, line_drawn, curve_drawn, flex_drawn}

-- ---- what an entry is, by its first word
kind_word : (c : List ℕ) (e k : ℕ) → get_or c (14 * e) 0 ≡ k → word c e 0 ≡ k
kind_word c e k h = ap (λ (i : ℕ). get_or c i 0) (add-zero (14 * e)) ∙ h

pub is_move_lem : (c : List ℕ) (e : ℕ) → get_or c (14 * e) 0 ≡ 1 → command_in c e ≡ move (point_in c e 1) ∷ []
unfolding command_in
is_move_lem c e h = rw (kind_word c e 1 h)

is_line : (c : List ℕ) (e : ℕ) → get_or c (14 * e) 0 ≡ 2 → command_in c e ≡ line (point_in c e 1) ∷ []
unfolding command_in
is_line c e h = rw (kind_word c e 2 h)

is_curve : (c : List ℕ) (e : ℕ) → get_or c (14 * e) 0 ≡ 3 → command_in c e ≡ curve (point_in c e 1) (point_in c e 3) (point_in c e 5) ∷ []
unfolding command_in
is_curve c e h = rw (kind_word c e 3 h)

is_flex : (c : List ℕ) (e : ℕ) → get_or c (14 * e) 0 ≡ 4 → command_in c e ≡ flex (point_in c e 1) (point_in c e 3) (point_in c e 5) (point_in c e 7) (point_in c e 9) (point_in c e 11) (coordinate c e 13) ∷ []
unfolding command_in
is_flex c e h = rw (kind_word c e 4 h)

-- its numbers are finite
pub good_entry : (c : List ℕ) (e : ℕ) (x : Command) → command_in c e ≡ x ∷ [] → All (OfCommand Good) (command_in c e) → OfCommand Good x
unfolding All
good_entry c e x h g = (subst (λ (l : List Command). All (OfCommand Good) l) h g).0

-- ---- the points of an entry, by its kind
by_kind : (kind : ℕ) (P : ℕ → Type 0) → (kind ≡ 3 → P 3) → (kind ≡ 2 → P 1) → (kind ≡ 4 → P 6) → ((kind ≡ 3 → ⊥) → (kind ≡ 2 → ⊥) → (kind ≡ 4 → ⊥) → P 0) → P (point_count kind)
by_kind kind P a b c d = go (eqb kind 3) refl (eqb kind 2) refl (eqb kind 4) refl
  where
    go : (x : Bool) → eqb kind 3 ≡ x → (y : Bool) → eqb kind 2 ≡ y → (z : Bool) → eqb kind 4 ≡ z → P (pick x 3 (pick y 1 (pick z 6 0)))
    go true e y f z g = a (eqb-true kind 3 e)
    go false e true f z g = b (eqb-true kind 2 f)
    go false e false f true g = c (eqb-true kind 4 g)
    go false e false f false g = d (eqb-false kind 3 e) (eqb-false kind 2 f) (eqb-false kind 4 g)

-- they are finite, and so is a flex's height
pub points_good : (c : List ℕ) (e kind n : ℕ) → get_or c (14 * e) 0 ≡ kind → n ≡ point_count kind → All (OfCommand Good) (command_in c e) → All (OfPoint Good) (points_in c e 1 n)
unfolding All points_in
points_good c e kind n h u g =
    subst (λ (k : ℕ). All (OfPoint Good) (points_in c e 1 k)) (sym u)
    (by_kind kind (λ (k : ℕ). All (OfPoint Good) (points_in c e 1 k))
    (λ k. let p = good_entry c e _ (is_curve c e (h ∙ k)) g in (p.0, (p.1.0, (p.1.1, tt))))
    (λ k. (good_entry c e _ (is_line c e (h ∙ k)) g, tt))
    (λ k. let p = good_entry c e _ (is_flex c e (h ∙ k)) g in (p.0, (p.1.0, (p.1.1.0, (p.1.1.1.0, (p.1.1.1.1.0, (p.1.1.1.1.1.0, tt)))))))
    (λ x y z. tt))

pub height_good : (c : List ℕ) (e kind : ℕ) → get_or c (14 * e) 0 ≡ kind → All (OfCommand Good) (command_in c e) → kind ≡ 4 → Good (coordinate c e 13)
height_good c e kind h g k = (good_entry c e _ (is_flex c e (h ∙ k)) g).1.1.1.1.1.1

-- ---- before the points and after them, by the kind
pub begins_curve : {w r : Writer} {b a : List ℕ} (kind : ℕ) (more : Bool) → kind ≡ 3 → more ≡ takes curves w.held 6 → Batched 8 6 more w b r a → EntryBegins kind w b r a
begins_curve {w} {r} {b} {a} kind more e m x =
    record { curve = λ d. subst (λ (t : Bool). Batched 8 6 t w b r a) m x; line = λ d. absurd (let v : ⊥ = omega arith in v); flex = λ d. absurd (let v : ⊥ = omega arith in v); other = λ n3 n2 n4. absurd (n3 e) }

pub begins_line : {w r : Writer} {b a : List ℕ} (kind : ℕ) (more : Bool) → kind ≡ 2 → more ≡ takes lines w.held 2 → Batched 5 2 more w b r a → EntryBegins kind w b r a
begins_line {w} {r} {b} {a} kind more e m x =
    record { curve = λ d. absurd (let v : ⊥ = omega arith in v); line = λ d. subst (λ (t : Bool). Batched 5 2 t w b r a) m x; flex = λ d. absurd (let v : ⊥ = omega arith in v); other = λ n3 n2 n4. absurd (n2 e) }

pub begins_flex : {w r : Writer} {b a : List ℕ} (kind : ℕ) → kind ≡ 4 → Flushed w b r a → EntryBegins kind w b r a
begins_flex kind e x = record { curve = λ d. absurd (let v : ⊥ = omega arith in v); line = λ d. absurd (let v : ⊥ = omega arith in v); flex = λ d. x; other = λ n3 n2 n4. absurd (n4 e) }

pub begins_none : (w : Writer) (b : List ℕ) (kind : ℕ) → (kind ≡ 3 → ⊥) → (kind ≡ 2 → ⊥) → (kind ≡ 4 → ⊥) → EntryBegins kind w b w b
begins_none w b kind n3 n2 n4 = record { curve = λ d. absurd (n3 d); line = λ d. absurd (n2 d); flex = λ d. absurd (n4 d); other = λ x y z. (refl, refl) }

pub ends_flex : {w r s t : Writer} {b a z y : List ℕ} (kind : ℕ) (h : Float) → kind ≡ 4 → Puts (λ f left. put_numbers (units h ∷ []) left f) w b r a × (Still w r × (written h ≡ units h)) → Puts (λ f left. put left (12 ∷ []) f) r a s z × Still r s → Puts (λ f left. put left (35 ∷ []) f) s z t y × Still s t →
    EntryEnds kind h w b t y
ends_flex kind h e num esc op = record {
  flex = λ d. (
    number-bytes h 12 35 num.0 num.1.1 esc.0 op.0,
    record { x = op.1.x ∙ esc.1.x ∙ num.1.0.x; y = op.1.y ∙ esc.1.y ∙ num.1.0.y; waits = op.1.waits ∙ esc.1.waits ∙ num.1.0.waits; held = op.1.held ∙ esc.1.held ∙ num.1.0.held },
  );
  other = λ n4. absurd (n4 e);
}

pub ends_none : (w : Writer) (b : List ℕ) (kind : ℕ) (h : Float) → (kind ≡ 4 → ⊥) → EntryEnds kind h w b w b
ends_none w b kind h n4 = record { flex = λ d. absurd (n4 d); other = λ x. (refl, refl) }

-- ---- the point that was read is the folded one
pub draws_as : {w r : Writer} {b a : List ℕ} (x y : Command) → x ≡ y → ((masked : Bool) (ss : List Stem) → Draws masked ss (shape x ∷ []) w b r a) → (masked : Bool) (ss : List Stem) → Draws masked ss (shape y ∷ []) w b r a
draws_as {w} {r} {b} {a} x y e d masked ss = subst (λ (z : Command). Draws masked ss (shape z ∷ []) w b r a) e (d masked ss)

-- ---- an entry is written
pub entry-drawn : {w r : Writer} {b a : List ℕ} (fold : Fold) (c : List ℕ) (e k : ℕ) (x : Command) → get_or c (14 * e) 0 ≡ k → eqb k 5 ≡ false → command_in c e ≡ x ∷ [] → ((masked : Bool) (ss : List Stem) → Draws masked ss (shape (folded_command fold x) ∷ []) w b r a) →
    (masked : Bool) (ss g : List Stem) (cs : List Cmd) → resumed_all masked ss r a cs ≡ resumed_all masked ss w b (cmds_in fold c e g ++ cs)
unfolding cmds_in
entry-drawn fold c e k x h five q d masked ss g cs = rw (kind_word c e k h, five, q) ((d masked ss).then cs)

pub mask-drawn : {w r : Writer} {b a : List ℕ} (fold : Fold) (c : List ℕ) (e : ℕ) (bits : List Bool) (masked : Bool) → get_or c (14 * e) 0 ≡ 5 → masked ≡ true → Masks bits w b r a →
    (ss g : List Stem) (cs : List Cmd) → bits ≡ mask_of g ss → resumed_all masked ss r a cs ≡ resumed_all masked ss w b (cmds_in fold c e g ++ cs)
unfolding cmds_in items
mask-drawn {w} {r} {b} {a} fold c e bits true h t d ss g cs f =
    rw (kind_word c e 5 h) (ap (λ (p : Point). resumed_items r a (items true ss p cs)) d.at ∙ d.then (items true ss (point_of w) cs) ∙ ap (λ (l : List Bool). resumed_items w b (Emission.mask l ∷ items true ss (point_of w) cs)) f)
mask-drawn fold c e bits false h t d ss g cs f = absurd (cc)

pub mask_left : (w : Writer) (b : List ℕ) (fold : Fold) (c : List ℕ) (e : ℕ) (masked : Bool) → get_or c (14 * e) 0 ≡ 5 → masked ≡ false → (ss g : List Stem) (cs : List Cmd) → resumed_all masked ss w b cs ≡ resumed_all masked ss w b (cmds_in fold c e g ++ cs)
unfolding cmds_in items
mask_left w b fold c e true h t ss g cs = absurd (cc)
mask_left w b fold c e false h t ss g cs = rw (kind_word c e 5 h)

entry-none : (w : Writer) (b : List ℕ) (fold : Fold) (c : List ℕ) (e k : ℕ) (masked : Bool) → get_or c (14 * e) 0 ≡ k → (k ≡ 1 → ⊥) → (k ≡ 2 → ⊥) → (k ≡ 3 → ⊥) → (k ≡ 4 → ⊥) → (k ≡ 5 → ⊥) → (ss g : List Stem) (cs : List Cmd) → resumed_all masked ss w b cs ≡ resumed_all masked ss w b (cmds_in fold c e g ++ cs)
unfolding cmds_in command_in
entry-none w b fold c e k masked h n1 n2 n3 n4 n5 ss g cs = rw (kind_word c e k h, ne_eqb k 1 n1, ne_eqb k 2 n2, ne_eqb k 3 n3, ne_eqb k 4 n4, ne_eqb k 5 n5)

-- a line, a curve, a flex, or no entry that is drawn
pub entry-written : {w r s t : Writer} {b a z y : List ℕ} (fold : Fold) (c : List ℕ) (e kind n : ℕ) → get_or c (14 * e) 0 ≡ kind → (kind ≡ 1 → ⊥) → (kind ≡ 5 → ⊥) → n ≡ point_count kind →
    EntryBegins kind w b r a → Goes (folded_points fold (points_in c e 1 n)) r a s z → EntryEnds kind (coordinate c e 13) s z t y →
    (masked : Bool) (k : ℕ) (p : List ℕ) → Writes masked fold c e k p w b t y
unfolding points_in folded_points
entry-written {w} {r} {s} {t} {b} {a} {z} {y} fold c e kind n h n1 n5 u x gs q masked k p =
    by_kind kind (λ (i : ℕ). Goes (folded_points fold (points_in c e 1 i)) r a s z → Writes masked fold c e k p w b t y)
    (λ e3 g. left_so (λ e4. let v : ⊥ = omega arith in v) (drawn 3 e3 refl _ (is_curve c e (h ∙ e3)) (curve_drawn _ _ _ (x.curve e3) g)))
    (λ e2 g. left_so (λ e4. let v : ⊥ = omega arith in v) (drawn 2 e2 refl _ (is_line c e (h ∙ e2)) (line_drawn _ (x.line e2) g)))
    (λ e4 g. drawn 4 e4 refl _ (is_flex c e (h ∙ e4)) (flex_drawn _ _ _ _ _ _ _ (x.flex e4) g (q.flex e4)))
    (λ n3 n2 n4 g.
    let o = x.other n3 n2 n4 in
    left_so n4 (λ ss gr cs i f. nothing_drawn g masked ss cs ∙ ap₂ (λ (v : Writer) (l : List ℕ). resumed_all masked ss v l cs) o.0 o.1 ∙ entry-none w b fold c e kind masked h n1 n2 n3 n4 n5 ss gr cs, g.puts.same ∙ ap length o.1))
    (subst (λ (i : ℕ). Goes (folded_points fold (points_in c e 1 i)) r a s z) u gs)
  where
    drawn : {v : Writer} {o : List ℕ} (i : ℕ) → kind ≡ i → eqb i 5 ≡ false → (d : Command) → command_in c e ≡ d ∷ [] → ((masked : Bool) (ss : List Stem) → Draws masked ss (shape (folded_command fold d) ∷ []) w b v o) → Writes masked fold c e k p w b v o
    drawn i j five d l f = (λ ss gr cs _ _. entry-drawn fold c e i d (h ∙ j) five l f masked ss gr cs, (f true []).same)

    -- nothing comes after the points
    left_so : (kind ≡ 4 → ⊥) → Writes masked fold c e k p w b s z → Writes masked fold c e k p w b t y
    left_so n4 f = let i = q.other n4 in (λ ss gr cs l v. ap₂ (λ (d : Writer) (o : List ℕ). resumed_all masked ss d o cs) i.0 i.1 ∙ f.0 ss gr cs l v, ap length i.1 ∙ f.1)
