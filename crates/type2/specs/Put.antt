-- Laws: what the stores of a push leave is `put`'s output.
use Rattle.std.specs.Prelude.{◌≡◌, Bool, true, false, leb, take, drop, refl, ℕ, suc, ◌+◌, ◌-◌, ◌≤◌, ◌<◌, List, [], ◌∷◌, length, set}
use Rattle.std.proofs.Common.{sym, ap, ◌∙◌, append_assoc, add-suc, add-one, arith}
use Rattle.std.proofs.lemmas.List.Edits.{sets, sets-eq, paste_all}
use Rattle.std.proofs.lemmas.Slice.{put_mid-paste}
use borrow.Rule.Slice.PartMut.{put_mid}
use borrow.Author.Tests.{leb-true, leb-false}
use Rattle.type2.specs.Number.{Push, gave, put}
use Rattle.type2.specs.Bools.{is_le, not_le}

-- bytes stored one by one, at `at + j` and on
abbrev pub stores : List ℕ → ℕ → ℕ → List ℕ → List ℕ
stores l at j [] = l
stores l at j (b ∷ bs) = stores (set l (at + j) b) at (suc j) bs

stores_sets : (l : List ℕ) (at j : ℕ) (bs : List ℕ) → stores l at j bs ≡ sets l (at + j) bs
stores_sets l at j [] = refl
stores_sets l at j (b ∷ bs) = stores_sets (set l (at + j) b) at (suc j) bs ∙ ap (λ (i : ℕ). sets (set l (at + j) b) i bs) (add-suc at j)

pub stored : (out : List ℕ) (at b : ℕ) (bs : List ℕ) → at + suc (length bs) ≤ length out → gave 0 (at + suc (length bs)) (stores (set out at b) at 1 bs) ≡ put out at (b ∷ bs)
unfolding put
stored out at b bs h =
    rw (is_le (at + suc (length bs)) (length out) h)
    (ap (gave 0 (at + suc (length bs))) (stores_sets (set out at b) at 1 bs ∙ ap (λ (i : ℕ). sets (set out at b) i bs) (add-one at) ∙ sets-eq (b ∷ bs) out at h))

pub no_room : (out : List ℕ) (at r k : ℕ) (bs : List ℕ) → r ≡ length out - at → r < k → k ≡ length bs → gave 18 0 out ≡ put out at bs
unfolding put
no_room out at r k bs e h f = rw (not_le (at + length bs) (length out) (let z : length out < at + length bs = omega arith in z))

-- the same bytes, written otherwise
pub same_bytes : {p : Push} {bs cs : List ℕ} (out : List ℕ) (at : ℕ) → p ≡ put out at bs → cs ≡ bs → p ≡ put out at cs
same_bytes out at e f = e ∙ ap (put out at) (sym f)

-- bytes copied into the part of the output that is as long
pub copied : (out : List ℕ) (at n k : ℕ) (bs ys : List ℕ) → at ≤ length out → n ≤ length out - at → n ≡ length bs → n ≡ k → ys ≡ bs → gave 0 (at + n) (put_mid at k out ys) ≡ put out at bs
unfolding put
copied out at n k bs ys a h e f g =
    rw (is_le (at + length bs) (length out) (let z : at + length bs ≤ length out = omega arith in z), ← e)
    (ap (gave 0 (at + n)) (put_mid-paste at k out ys bs n g f e ∙ paste_all out at bs n e ∙ sym (append_assoc (take at out) bs (drop (at + n) out))))

pub too_short : (out : List ℕ) (at n : ℕ) (bs : List ℕ) → n ≡ length bs → (at ≤ length out → length out - at < n) → gave 18 0 out ≡ put out at bs
unfolding put
too_short out at n bs e h = rw (not_le (at + length bs) (length out) (short (leb at (length out)) refl)) refl
  where
    short : (b : Bool) → leb at (length out) ≡ b → length out < at + length bs
    short true t = let l = h (leb-true at (length out) t) in omega arith
    short false t = let l = leb-false at (length out) t in omega arith
