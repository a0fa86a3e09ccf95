-- Definitions: the Type 2 machine. Document 01, "Type 2 machine (T2)"; the operators are those of TN#5177, section 4.
-- A program is a list of bytes. Every number is a whole count of 1/65536, as crate `type2`'s `Number` reads it.
use Rattle.std.specs.Prelude.{ℕ, zero, suc, ◌+◌, ◌-◌, ◌/◌, ◌%◌, ◌^◌, Bool, true, false, not, ◌&&◌, ◌||◌, cond, List, [], ◌∷◌, ◌++◌, length, take, drop, leb, ltb, eqb, ℤ, pos, ◌+ℤ◌}
use Rattle.std.proofs.Math.Option.{Option, none, some}
use Rattle.type2.specs.Number.{zp, zm, Reading, no_number, number, read_from}
use Rattle.type2.specs.Path.{Kind, moves, lines, curves, flexes}

-- ---- "State: point (0, 0), stem count (0), width (none), operands, drawn list and masks (all empty)."

-- "An entry of that list, as of the Type 1 run's, is a kind and the points it goes to, its start not among them." P is a point of either run.
pub record Entry (P : Type 0) : Type 0 where
  pub kind : Kind
  pub points : List P

pub record Point : Type 0 where
  pub x : ℤ
  pub y : ℤ

-- a mask: one bit a stem, and "the number of entries drawn before it"
pub record Mask : Type 0 where
  pub bits : List Bool
  pub before : ℕ

-- `ops` are the operands held, the lowest first; `begun` says that an operator has run
pub record State : Type 0 where
  pub at : Point
  pub stems : ℕ
  pub width : Option ℤ
  pub begun : Bool
  pub ops : List ℤ
  pub drawn : List (Entry Point)
  pub masks : List Mask

abbrev pub origin : Point
origin = record { x = pos 0; y = pos 0 }

abbrev pub start : State
start = record { at = origin; stems = 0; width = none; begun = false; ops = []; drawn = []; masks = [] }

-- a step: a fault, the end, or on, with the count of bytes taken after the first
pub data Step : Type 0 where
  fault : Step
  stop : State → Step
  on : ℕ → State → Step

-- a run: a fault, or the state at the end with the bytes that were not read
pub data Result : Type 0 where
  failed : Result
  ended : State → List ℕ → Result

-- ---- a state with one part anew. "Every operator clears": all but the first two leave no operands.
abbrev pub with_ops : List ℤ → State → State
with_ops l s = record { at = s.at; stems = s.stems; width = s.width; begun = s.begun; ops = l; drawn = s.drawn; masks = s.masks }

abbrev pub begin : Option ℤ → List ℤ → State → State
begin w l s = record { at = s.at; stems = s.stems; width = w; begun = true; ops = l; drawn = s.drawn; masks = s.masks }

abbrev pub with_stems : ℕ → State → State
with_stems n s = record { at = s.at; stems = n; width = s.width; begun = s.begun; ops = []; drawn = s.drawn; masks = s.masks }

abbrev pub with_mask : List Bool → State → State
with_mask m s = record { at = s.at; stems = s.stems; width = s.width; begun = s.begun; ops = []; drawn = s.drawn; masks = s.masks ++ (record { bits = m; before = length s.drawn } ∷ []) }

abbrev pub with_entry : Kind → List Point → Point → State → State
with_entry k ps p s = record { at = p; stems = s.stems; width = s.width; begun = s.begun; ops = []; drawn = s.drawn ++ (record { kind = k; points = ps } ∷ []); masks = s.masks }

-- ---- "A number (first byte 28, 32 to 255) joins the operands." "A 49th operand [..] is a fault": so no run that ends ever held more than 48.
unfoldable pub push : ℕ → ℤ → State → Step
push m v s = cond (ltb (length s.ops) 48) (on m (with_ops (s.ops ++ (v ∷ [])) s)) fault

abbrev pub joins : Reading → State → Step
joins no_number s = fault
joins (number v m) s = push m v s

-- ---- operands: exactly so many, or a multiple that is not 0.
-- "The first operator may have one operand more, lowest, which is the width less nominal."
pub data Takes : Type 0 where
  exactly : ℕ → Takes
  many : ℕ → Takes

abbrev pub least : Takes → ℕ
least (exactly k) = k
least (many k) = k

-- how many of n operands are left over
abbrev pub spare : Takes → ℕ → ℕ
spare (exactly k) n = n - k
spare (many k) n = n % k

-- with none left over the operands are l; one left over is the width, if no operator has run; else a fault
abbrev pub settled : ℕ → List ℤ → State → Option State
settled zero l s = some (begin s.width l s)
settled (suc zero) [] s = none
settled (suc zero) (w ∷ l) s = cond s.begun none (some (begin (some w) l s))
settled (suc (suc n)) l s = none

unfoldable pub settle : Takes → State → Option State
settle t s = cond (ltb (length s.ops) (least t)) none (settled (spare t (length s.ops)) s.ops s)

abbrev pub after : Option State → (State → Step) → Step
after none f = fault
after (some s) f = f s

-- ---- hstem, vstem, hstemhm, vstemhm: "1, 3, 18, 23 take one pair or more and add their count of pairs to the stems." "A 97th stem [..] is a fault."
unfoldable pub stem : State → Step
stem s = let n = s.stems + length s.ops / 2 in cond (ltb n 97) (on 0 (with_stems n s)) fault

-- ---- hintmask: "19 takes none, reads one bit a stem in whole bytes, spare bits 0, and records this mask"

-- the bits of a byte, highest first
unfoldable pub bits_of : ℕ → ℕ → List Bool
bits_of zero v = []
bits_of (suc k) v = leb (2 ^ k) v ∷ bits_of k (cond (leb (2 ^ k) v) (v - 2 ^ k) v)

unfoldable pub bits : List ℕ → List Bool
bits [] = []
bits (b ∷ bs) = bits_of 8 b ++ bits bs

unfoldable pub none_set : List Bool → Bool
none_set [] = true
none_set (b ∷ bs) = not b && none_set bs

unfoldable pub mask : List ℕ → State → Step
mask bs s =
    let k = (s.stems + 7) / 8 in
    let all = bits (take k bs) in
    cond (leb k (length bs) && none_set (drop s.stems all)) (on k (with_mask (take s.stems all) s)) fault

-- ---- the path

abbrev pub moved : Point → ℤ → ℤ → Point
moved p a b = record { x = p.x +ℤ a; y = p.y +ℤ b }

-- the points that pairs of operands go to, each from the one before. An operand with no partner is none: the height of a flex.
unfoldable pub reach : Point → List ℤ → List Point
reach p [] = []
reach p (a ∷ []) = []
reach p (a ∷ b ∷ l) = moved p a b ∷ reach (moved p a b) l

unfoldable pub last_of : Point → List Point → Point
last_of p [] = p
last_of p (q ∷ l) = last_of q l

-- "a coordinate beyond 2^60 units either way [..] is a fault", of every point, those on the way included
abbrev pub small : ℤ → Bool
small z = ltb (zp z + zm z) (2 ^ 60 + 1)

unfoldable pub all_small : List Point → Bool
all_small [] = true
all_small (p ∷ l) = small p.x && small p.y && all_small l

-- one entry
unfoldable pub draw : Kind → List ℤ → State → Step
draw k l s = let ps = reach s.at l in cond (all_small ps) (on 0 (with_entry k ps (last_of s.at ps) s)) fault

abbrev pub and_then : Step → (State → Step) → Step
and_then fault f = fault
and_then (stop s) f = stop s
and_then (on m s) f = f s

-- n entries, of k operands each
unfoldable pub draws : Kind → ℕ → ℕ → List ℤ → State → Step
draws c k zero l s = on 0 (with_ops [] s)
draws c k (suc n) l s = and_then (draw c (take k l) s) (draws c k n (drop k l))

-- hmoveto and vmoveto: the other delta is 0
unfoldable pub across : State → Step
across s = draw moves (s.ops ++ (pos 0 ∷ [])) s

unfoldable pub upward : State → Step
upward s = draw moves (pos 0 ∷ s.ops) s

-- ---- the operators

-- flex: "12 35 takes 13"
unfoldable pub escape : List ℕ → State → Step
escape [] s = fault
escape (b ∷ bs) s = cond (eqb b 35) (after (settle (exactly 13) s) (λ t. and_then (draw flexes t.ops t) (on 1))) fault

-- "21, 22, 4 move; 5 takes pairs, 8 sixes, each at least one; 12 35 takes 13; 14 takes none and stops." "Anything else is a fault."
unfoldable pub operator : ℕ → List ℕ → State → Step
operator b bs s =
    cond (eqb b 1 || eqb b 3 || eqb b 18 || eqb b 23) (after (settle (many 2) s) stem)
    (cond (eqb b 19) (after (settle (exactly 0) s) (mask bs))
    (cond (eqb b 21) (after (settle (exactly 2) s) (λ t. draw moves t.ops t))
    (cond (eqb b 22) (after (settle (exactly 1) s) across)
    (cond (eqb b 4) (after (settle (exactly 1) s) upward)
    (cond (eqb b 5) (after (settle (many 2) s) (λ t. draws lines 2 (length t.ops / 2) t.ops t))
    (cond (eqb b 8) (after (settle (many 6) s) (λ t. draws curves 6 (length t.ops / 6) t.ops t))
    (cond (eqb b 12) (escape bs s)
    (cond (eqb b 14) (after (settle (exactly 0) s) stop) fault))))))))

-- a number or an operator, with the bytes after its first
unfoldable pub step : ℕ → List ℕ → State → Step
step b bs s = cond (eqb b 28 || leb 32 b) (joins (read_from b bs) s) (operator b bs s)

-- ---- a run of bytes, of which the first m are taken already. "Bytes that end before a 14 [are] a fault; bytes after the 14 are not read."
abbrev pub next : Step → List ℕ → (ℕ → State → Result) → Result
next fault bs f = failed
next (stop s) bs f = ended s bs
next (on m s) bs f = f m s

unfoldable pub run : List ℕ → ℕ → State → Result
run [] m s = failed
run (b ∷ bs) zero s = next (step b bs s) bs (run bs)
run (b ∷ bs) (suc m) s = run bs m s

-- the machine on a program
abbrev pub machine : List ℕ → Result
machine bs = run bs 0 start
