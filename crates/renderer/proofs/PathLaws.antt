-- Laws: the point that a path has reached, as `Position::follow` holds it.
use Rattle.std.proofs.Common.{◌≡◌, ℕ, zero, suc, ◌+◌, ◌*◌, ◌/◌, ◌≤◌, ◌<◌, true, ◌&&◌, List, [], ◌∷◌, length, get_or, drop, refl, ap, ◌∙◌, subst, arith, length-drop, get_or-take, get_or-drop}
use Rattle.std.specs.Simd.{first_chunks}
use Rattle.std.specs.Prelude.{Some, None}
use Rattle.renderer.specs.Machine.{Point, reach, last_of, all_small}
use Rattle.renderer.specs.Reader.{held, point_at, is_near}
use Rattle.renderer.specs.Reads.{moved_by, Moves, Follows}
use Rattle.renderer.specs.declared.path.Position.{Position}
use Rattle.renderer.proofs.ReaderLaws.{cons_at, small_is, reach_more, reach_done}

-- ---- the loop: what is left after the first i pairs decides and ends as the whole
pub record Walks (p : Position) (d : List ℕ) (q : Position) (i : ℕ) : Type 0 where
  pub near : is_near q ≡ true
  pub small : all_small (reach (point_at p) (held d)) ≡ all_small (reach (point_at q) (held (drop (i * 2) d)))
  pub last : last_of (point_at p) (reach (point_at p) (held d)) ≡ last_of (point_at q) (reach (point_at q) (held (drop (i * 2) d)))

pub walks_first : (p : Position) (d : List ℕ) → is_near p ≡ true → Walks p d p 0
walks_first p d n = record { near = n; small = refl; last = refl }

pub all_more : (q : Position) (l : List Point) → all_small (point_at q ∷ l) ≡ (is_near q && all_small l)
unfolding all_small
all_more q l = rw (small_is q.x, small_is q.y)

last_more : (p q : Point) (l : List Point) → last_of p (q ∷ l) ≡ last_of q l
unfolding last_of
last_more p q l = refl

-- an element of the pair at a place
pair_at : (k : ℕ) (d : List ℕ) (i j : ℕ) → i < k → j < 2 → get_or (get_or (first_chunks 2 k d) i []) j 0 ≡ get_or d (i * 2 + j) 0
pair_at zero d i j h b = absurd (omega arith)
pair_at (suc k) d zero j h b = get_or-take 2 d j 0 b ∙ ap (λ (n : ℕ). get_or d n 0) (let e : j ≡ 0 * 2 + j = omega arith in e)
pair_at (suc k) d (suc i) j h b =
    pair_at k (drop 2 d) i j (omega arith) b ∙ get_or-drop 2 d (i * 2 + j) 0 ∙ ap (λ (n : ℕ). get_or d n 0) (let e : 2 + (i * 2 + j) ≡ suc i * 2 + j = omega arith in e)

pub pair_is : (d : List ℕ) {chunks : List (List ℕ)} (i : ℕ) → chunks ≡ first_chunks 2 (length d / 2) d → i < length d / 2
    → (get_or (get_or chunks i []) 0 0 ≡ get_or d (i * 2) 0) × (get_or (get_or chunks i []) 1 0 ≡ get_or d (i * 2 + 1) 0)
pair_is d {chunks} i e h =
    let z : i * 2 + 0 ≡ i * 2 = omega arith in
    (rw e (pair_at (length d / 2) d i 0 h (omega arith)) ∙ ap (λ (n : ℕ). get_or d n 0) z, rw e (pair_at (length d / 2) d i 1 h (omega arith)))

-- the point that it goes to from q, and those after it
pub first_pair : (d : List ℕ) (i : ℕ) (q : Position) → is_near q ≡ true → i < length d / 2 → {v u : ℕ} → v ≡ get_or d (i * 2) 0 → u ≡ get_or d (i * 2 + 1) 0
    → reach (point_at q) (held (drop (i * 2) d)) ≡ point_at (moved_by q v u) ∷ reach (point_at (moved_by q v u)) (held (drop ((i + 1) * 2) d))
first_pair d i q n more {v} {u} a b = ap (λ (l : List ℕ). reach (point_at q) (held l)) front ∙ reach_more q v u (drop ((i + 1) * 2) d) n
  where
    front : drop (i * 2) d ≡ v ∷ u ∷ drop ((i + 1) * 2) d
    front =
        let e : i * 2 + 1 + 1 ≡ (i + 1) * 2 = omega arith in
        cons_at d (i * 2) (omega arith) ∙ rw (← a, cons_at d (i * 2 + 1) (omega arith), ← b, e)

module _ {p : Position} {d : List ℕ} {q : Position} {i : ℕ} (w : Walks p d q i) where
  pub done : length d / 2 ≤ i → Follows p d (Some q)
  unfolding all_small last_of
  done h =
      let l = length-drop (i * 2) d in
      let e = reach_done q (drop (i * 2) d) (omega arith) in
      record { small = w.small ∙ rw e; at_is = w.last ∙ rw e; near = w.near }

  module _ (more : i < length d / 2) {v u : ℕ} (a : v ≡ get_or d (i * 2) 0) (b : u ≡ get_or d (i * 2 + 1) 0) where
    first_of : reach (point_at q) (held (drop (i * 2) d)) ≡ point_at (moved_by q v u) ∷ reach (point_at (moved_by q v u)) (held (drop ((i + 1) * 2) d))
    first_of = first_pair d i q w.near more a b

    decided : all_small (reach (point_at p) (held d)) ≡ (is_near (moved_by q v u) && all_small (reach (point_at (moved_by q v u)) (held (drop ((i + 1) * 2) d))))
    decided = w.small ∙ ap all_small first_of ∙ all_more (moved_by q v u) _

    pub far : Moves q v u None → Follows p d None
    far n = decided ∙ rw n

    pub walks_more : (r : Position) → Moves q v u (Some r) → Walks p d r (i + 1)
    walks_more r m =
        let n : is_near (moved_by q v u) ≡ true = subst (λ (z : Position). is_near z ≡ true) m.0 m.1 in
        rw m.0
        (record {
          near = n;
          small = decided ∙ rw n;
          last = w.last ∙ ap (last_of (point_at q)) first_of ∙ last_more (point_at q) (point_at (moved_by q v u)) _;
        })
