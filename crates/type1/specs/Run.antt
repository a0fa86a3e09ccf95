-- Definitions: the Type 1 run. Document 01, "Type 1 run", "Reading", "OtherSubrs", "Hints", "Bytes run"; Adobe Type 1 Font Format, chapters 6 and 8.
-- Refusals stand in the order of the Rust's steps.
use Rattle.std.specs.Prelude.{ℕ, zero, suc, ◌+◌, ◌-◌, ◌*◌, Bool, true, false, not, ◌&&◌, List, [], ◌∷◌, ◌++◌, leb, ltb, eqb, ℤ, pos, negsuc, length, take, drop, get_or, Float}
use Rattle.std.proofs.Math.Option.{Option, none, some}
use Rattle.std.specs.Float.{nan, fin, binary64}
use Rattle.std.specs.Float.Ieee.{add, div, eq, le, to_unsigned, to_signed}
use Rattle.std.specs.Float.Ieee.Scale.{finite}
use Rattle.charstring.specs.Cipher.{plain, max_charstring_bytes}
use Rattle.bank.specs.Bank.{body}
use Rattle.geometry.specs.declared.Point.{Point}
use Rattle.type1.specs.declared.Reading.{Reading}
use Rattle.type1.specs.Operator as op
use Rattle.type1.specs.Operator.{Operator}
use Rattle.type1.specs.Number.{Token, cut, number, operator, token, double}
use Rattle.outline.specs.Store.{entry_words}
use Rattle.hints.specs.Hints.{at_most, group_refusal}
use Rattle.operand_stack.specs.Stack.{operand_refusal}
use Rattle.outline.specs.Outline.{Command, move, line, curve, flex, plus_zero, origin, is_in, last_is, stem_count, pick, stem_of}
use Rattle.type1.specs.State.{State, with_operands, with_postscript, with_point, with_bearing, with_open, with_flex, with_hints, settled, with_drawn, with_divided, with_ran}

-- ---- limits: 0 where so many have room, else the number that is refused with

pub record Limits : Type 0 where
  pub operands : ℕ → ℕ
  pub postscript : ℕ → ℕ
  pub hints : ℕ → ℕ
  pub groups : ℕ → ℕ
  pub stems : ℕ → ℕ
  pub commands : ℕ → ℕ

-- document 01's numbers 15 to 17: 256 operands, 256 on the PostScript stack, 256 stems in force, 256 groups, and the lent stores, of so many records and words, 14 words to an entry
abbrev pub within : ℕ → ℕ → Limits
within records words = record { operands = operand_refusal false; postscript = at_most 256 15; hints = at_most 256 16; groups = at_most 256 16; stems = at_most records 16; commands = λ n. at_most words 17 (entry_words * n) }

-- T1's own operand stack (chapter 6; document 02, (c)): 24 operands fit, and a 25th is refused with 22
abbrev pub strictly : Limits → Limits
strictly lim = record { operands = operand_refusal true; postscript = lim.postscript; hints = lim.hints; groups = lim.groups; stems = lim.stems; commands = lim.commands }

-- the limits of a reading
abbrev pub limits_of : Reading → Limits → Limits
limits_of reading lim = pick reading.strict (strictly lim) lim

-- the run that is fed nothing of the converter's stores
abbrev pub unlimited : Limits
unlimited = record { operands = λ n. 0; postscript = λ n. 0; hints = λ n. 0; groups = λ n. 0; stems = λ n. 0; commands = λ n. 0 }

-- ---- what a step does: the run goes on, a body returns, the glyph ends, or the step is refused with a number
pub data Outcome : Type 0 where
  going returning ending : State → Outcome
  refused : ℕ → Outcome

abbrev pub and_then : Outcome → (State → Outcome) → Outcome
and_then (going s) k = k s
and_then (returning s) k = returning s
and_then (ending s) k = ending s
and_then (refused n) k = refused n

-- refused with a number unless a test passes
abbrev pub check : Bool → ℕ → Outcome → Outcome
check true n o = o
check false n o = refused n

-- what a limit answers: 0, or the number that is refused with
abbrev pub allowed : ℕ → Outcome → Outcome
allowed n o = check (eqb n 0) n o

-- ---- operands

-- the k-th operand from the top, which is the first
abbrev pub top : ℕ → State → Float
top k s = get_or s.operands (length s.operands - k) nan

abbrev pub cleared : State → State
cleared s = with_operands [] s

-- without the top k
abbrev pub without : ℕ → State → State
without k s = with_operands (take (length s.operands - k) s.operands) s

-- an operator needs so many operands, else it is refused with 7
abbrev pub needs : ℕ → State → Outcome → Outcome
needs n s o = check (leb n (length s.operands)) 7 o

-- one operand more, or the number that the limit answers
unfoldable pub push : Limits → Float → State → Outcome
push lim v s = allowed (lim.operands (length s.operands + 1)) (going (with_operands (s.operands ++ (v ∷ [])) s))

-- ---- hints

-- "A stem equal to one in force is not added"; its edge is finite (14), and a 257th in force is refused with 16
unfoldable pub stem : Limits → Bool → Float → Float → State → Outcome
stem lim h p w s =
    check (finite p) 14
    (pick (is_in s.hints (stem_of h p w)) (going s)
    (allowed (lim.hints (length s.hints + 1)) (going (with_hints (s.hints ++ (stem_of h p w ∷ [])) s))))

-- how many entries the command store has: one a command, a group's start included
abbrev pub entries : State → ℕ
entries s = length s.drawn + length s.groups

-- what a new group is refused with, or 0: 16 before 17
abbrev pub group_number : Limits → State → ℕ
group_number lim s = group_refusal (lim.groups (length s.groups + 1)) (lim.stems (stem_count s.groups + length s.hints)) (lim.commands (entries s + 1))

-- the stems in force become a new group
unfoldable pub new_group : Limits → State → Outcome
new_group lim s = allowed (group_number lim s) (going (settled (s.groups ++ (record { stems = s.hints; before = length s.drawn } ∷ [])) s))

-- at a path command, changed stems become a new group unless they are the last group's in the same order
unfoldable pub commit : Limits → State → Outcome
commit lim s = pick s.changed (pick (last_is s.groups s.hints) (going (settled s.groups s)) (new_group lim s)) (going s)

-- ---- paths

-- an entry is listed
unfoldable pub enter : Limits → Command → State → Outcome
enter lim c s = allowed (lim.commands (entries s + 1)) (going (with_drawn (s.drawn ++ (c ∷ [])) s))

-- a path command: first the stems in force, then its entry
unfoldable pub list : Limits → Command → State → Outcome
list lim c s = and_then (commit lim s) (enter lim c)

abbrev pub shifted : Point → Float → Float → Point
shifted p dx dy = record { x = add binary64 p.x dx; y = add binary64 p.y dy }

abbrev pub is_finite : Point → Bool
is_finite p = finite p.x && finite p.y

-- outside a flex
abbrev pub no_flex : Option (List Point) → Bool
no_flex none = true
no_flex (some l) = false

-- 21, 22, 4: the point moves, and outside a flex a move to it is listed, which opens a subpath
unfoldable pub move_by : Limits → Float → Float → State → Outcome
move_by lim dx dy s =
    let p = shifted s.point dx dy in
    check (is_finite p) 14
    (pick (no_flex s.flexing) (and_then (list lim (move p) (with_point p s)) (λ t. going (with_open true t))) (going (with_point p s)))

-- a line or curve with no subpath open first moves to the current point
unfoldable pub open_subpath : Limits → State → Outcome
open_subpath lim s = pick s.opened (going s) (and_then (list lim (move s.point) s) (λ t. going (with_open true t)))

-- 5, 6, 7
unfoldable pub line_to : Limits → Float → Float → State → Outcome
line_to lim dx dy s = let p = shifted s.point dx dy in check (is_finite p) 14 (list lim (line p) (with_point p s))

unfoldable pub line_by : Limits → Float → Float → State → Outcome
line_by lim dx dy s = and_then (open_subpath lim s) (line_to lim dx dy)

-- 8, 30, 31
unfoldable pub curve_to : Limits → Float → Float → Float → Float → Float → Float → State → Outcome
curve_to lim dx1 dy1 dx2 dy2 dx3 dy3 s =
    let p1 = shifted s.point dx1 dy1 in
    let p2 = shifted p1 dx2 dy2 in
    let p3 = shifted p2 dx3 dy3 in
    check (is_finite p1 && (is_finite p2 && is_finite p3)) 14 (list lim (curve p1 p2 p3) (with_point p3 s))

unfoldable pub curve_by : Limits → Float → Float → Float → Float → Float → Float → State → Outcome
curve_by lim dx1 dy1 dx2 dy2 dx3 dy3 s = and_then (open_subpath lim s) (curve_to lim dx1 dy1 dx2 dy2 dx3 dy3)

-- 12 33: to another point it is a move only if a subpath is open and no flex runs
abbrev pub same_point : Point → Point → Bool
same_point p q = eq p.x q.x && eq p.y q.y

unfoldable pub set_point : Limits → Point → State → Outcome
set_point lim p s =
    pick (same_point p s.point) (going s)
    (pick (s.opened && no_flex s.flexing) (list lim (move p) (with_point p s)) (going (with_point p s)))

-- ---- OtherSubrs

-- handed back for `pop`, the first argument last, so that it is popped first
unfoldable pub backwards : List Float → List Float
backwards [] = []
backwards (a ∷ l) = backwards l ++ (a ∷ [])

-- left for `pop`; a PostScript stack over 256 is refused with 15
unfoldable pub hand_back : Limits → List Float → State → Outcome
hand_back lim l s = allowed (lim.postscript (length s.postscript + length l)) (going (with_postscript (s.postscript ++ l) s))

-- 0: just seven points, the first unused; the end point is left for `pop`, x popped first
unfoldable pub end_flex : Limits → Float → List Point → State → Outcome
end_flex lim h l s =
    let p : ℕ → Point = λ i. get_or l i origin in
    check (eqb (length l) 7) 9
    (and_then (list lim (flex (p 1) (p 2) (p 3) (p 4) (p 5) (p 6) h) (with_flex none s)) (λ t. hand_back lim ((p 6).y ∷ (p 6).x ∷ []) (with_point (p 6) t)))

-- flex height: the first argument, 50 if none
abbrev pub height_of : List Float → Float
height_of [] = fin false 25 (pos 1)
height_of (h ∷ l) = h

-- a flex that was not started is refused with 9, by 0 and by 2
unfoldable pub other_subr0 : Limits → List Float → State → Outcome
other_subr0 lim args s = go s.flexing
  where
    go : Option (List Point) → Outcome
    go none = refused 9
    go (some l) = end_flex lim (height_of args) l s

-- 2 collects the current point
abbrev pub collected : List Point → Point → List Point
collected l p = l ++ (p ∷ [])

unfoldable pub other_subr2 : State → Outcome
other_subr2 s = go s.flexing
  where
    go : Option (List Point) → Outcome
    go none = refused 9
    go (some l) = going (with_flex (some (collected l s.point)) s)

-- whether a whole number is n
abbrev pub is : ℕ → ℤ → Bool
is n (pos m) = eqb m n
is n (negsuc m) = false

-- by number: 0, 1, 2, 3, and what is unknown
unfoldable pub other_subr : Limits → ℤ → List Float → State → Outcome
other_subr lim z args s =
    pick (is 0 z) (other_subr0 lim args s)
    (pick (is 1 z) (going (with_flex (some []) s))
    (pick (is 2 z) (other_subr2 s)
    (pick (is 3 z) (hand_back lim (backwards args) (with_hints [] s)) (hand_back lim (backwards args) s))))

-- the number truncates, and the argument count too; below 0, or above the operands left, it is refused
unfoldable pub call_other_subr : Limits → State → Outcome
call_other_subr lim s =
    needs 2 s
    (let t = without 2 s in
    let n = to_unsigned 64 (top 2 s) in
    check (le plus_zero (top 2 s) && leb n (length t.operands)) 7
    (other_subr lim (to_signed 63 (top 1 s)) (drop (length t.operands - n) t.operands) (without n t)))

-- ---- operators

-- 12 17: what was left last; with nothing left it is refused with 11, before the limit of operands is asked
unfoldable pub pop_d : Limits → State → Outcome
pop_d lim s = check (ltb 0 (length s.postscript)) 11 (push lim (get_or s.postscript (length s.postscript - 1) nan) (with_postscript (take (length s.postscript - 1) s.postscript) s))

-- "12 12 divides, and a div ran": by 0 it is refused with 10, and 14 where the quotient is not finite
unfoldable pub div_d : State → Outcome
div_d s =
    needs 2 s
    (let q = div binary64 (top 2 s) (top 1 s) in
    check (not (eq (top 1 s) plus_zero)) 10
    (check (finite q) 14 (going (with_divided (with_operands ((without 2 s).operands ++ (q ∷ [])) s)))))

-- three stems in turn
unfoldable pub stems3 : Limits → Bool → Float → State → Outcome
stems3 lim h from s =
    needs 6 s
    (and_then (stem lim h (add binary64 from (top 6 s)) (top 5 s) (cleared s)) (λ t.
    and_then (stem lim h (add binary64 from (top 4 s)) (top 3 s) t) (λ u.
    stem lim h (add binary64 from (top 2 s)) (top 1 s) u)))

abbrev pub point_at : Float → Float → Point
point_at x y = record { x = x; y = y }

-- every operator: it "takes its operands from the top and clears the stack", but as in the Rust callsubr, return, div, callothersubr and pop leave the other operands. What callsubr does is given
unfoldable pub operate : Limits → Outcome → Operator → State → Outcome
operate lim call op.hstem s = needs 2 s (stem lim true (add binary64 s.bearing.y (top 2 s)) (top 1 s) (cleared s))
operate lim call op.vstem s = needs 2 s (stem lim false (add binary64 s.bearing.x (top 2 s)) (top 1 s) (cleared s))
operate lim call op.vmoveto s = needs 1 s (move_by lim plus_zero (top 1 s) (cleared s))
operate lim call op.rlineto s = needs 2 s (line_by lim (top 2 s) (top 1 s) (cleared s))
operate lim call op.hlineto s = needs 1 s (line_by lim (top 1 s) plus_zero (cleared s))
operate lim call op.vlineto s = needs 1 s (line_by lim plus_zero (top 1 s) (cleared s))
operate lim call op.rrcurveto s = needs 6 s (curve_by lim (top 6 s) (top 5 s) (top 4 s) (top 3 s) (top 2 s) (top 1 s) (cleared s))
operate lim call op.closepath s = going (with_open false (cleared s))
operate lim call op.callsubr s = call
operate lim call op.return s = returning s
operate lim call op.hsbw s = needs 2 s (going (with_bearing (point_at (top 2 s) plus_zero) (top 1 s) (cleared s)))
operate lim call op.endchar s = ending (cleared s)
operate lim call op.rmoveto s = needs 2 s (move_by lim (top 2 s) (top 1 s) (cleared s))
operate lim call op.hmoveto s = needs 1 s (move_by lim (top 1 s) plus_zero (cleared s))
operate lim call op.vhcurveto s = needs 4 s (curve_by lim plus_zero (top 4 s) (top 3 s) (top 2 s) (top 1 s) plus_zero (cleared s))
operate lim call op.hvcurveto s = needs 4 s (curve_by lim (top 4 s) plus_zero (top 3 s) (top 2 s) plus_zero (top 1 s) (cleared s))
operate lim call op.dotsection s = going (cleared s)
operate lim call op.vstem3 s = stems3 lim false s.bearing.x s
operate lim call op.hstem3 s = stems3 lim true s.bearing.y s
operate lim call op.seac s = refused 12
operate lim call op.sbw s = needs 4 s (going (with_bearing (point_at (top 4 s) (top 3 s)) (top 2 s) (cleared s)))
operate lim call op.div s = div_d s
operate lim call op.callothersubr s = call_other_subr lim s
operate lim call op.pop s = pop_d lim s
operate lim call op.setcurrentpoint s = needs 2 s (set_point lim (point_at (top 2 s) (top 1 s)) (cleared s))
operate lim call op.unknown s = refused 6

-- ---- bodies and bytes

-- the present reading, with this lenIV (document 01, "Cipher")
abbrev pub reading_of : ℕ → Reading
reading_of len_iv = record { len_iv = len_iv; strict = false }

-- the strict reading (document 02, (c))
abbrev pub strict_of : ℕ → Reading
strict_of len_iv = record { len_iv = len_iv; strict = true }

-- what the run is fed beside the charstring: the bank and lenIV
pub record Font : Type 0 where
  pub bank : List ℕ
  pub len_iv : ℕ

-- of a reading; whether it is strict belongs to the limits
abbrev pub font_of : List ℕ → Reading → Font
font_of bank reading = record { bank = bank; len_iv = reading.len_iv }

-- a body's encrypted bytes are counted before it runs: 1,048,576 pass
unfoldable pub charge : List ℕ → State → Outcome
charge l s = check (leb (s.ran + length l) max_charstring_bytes) 3 (going (with_ran (s.ran + length l) s))

-- the body that a subroutine number names; it truncates, below 0 there is none
unfoldable pub named : Font → Float → Option (List ℕ)
named f v = pick (le plus_zero v) (body (to_unsigned 64 v) f.bank) none

-- a body that returns, or comes to its end, goes on after the call
abbrev pub returned : Outcome → Outcome
returned (going s) = going s
returned (returning s) = going s
returned (ending s) = ending s
returned (refused n) = refused n

-- 8 where there is no such body; its bytes are counted (3) before the depth is tested (4)
unfoldable pub call_body : (List ℕ → State → Outcome) → Option (List ℕ) → State → Outcome
call_body deep none s = refused 8
call_body deep (some l) s = and_then (charge l s) (λ t. returned (deep l t))

-- 10; `deep` runs a body one level deeper
unfoldable pub call_subr : Font → (List ℕ → State → Outcome) → State → Outcome
call_subr f deep s = needs 1 s (call_body deep (named f (top 1 s)) (without 1 s))

unfoldable pub execute : Limits → Font → (List ℕ → State → Outcome) → Operator → State → Outcome
execute lim f deep o s = operate lim (call_subr f deep s) o s

-- one token: a number is pushed, an operator done by f; then on, with the bytes taken
abbrev pub consume : Limits → (Operator → State → Outcome) → Token → State → (ℕ → State → Outcome) → Outcome
consume lim f cut s on = refused 5
consume lim f (number m z) s on = and_then (push lim (double z) s) (on m)
consume lim f (operator m o) s on = and_then (f o s) (on m)

-- the bytes, of which the first m are taken already
unfoldable pub run_bytes : Limits → (Operator → State → Outcome) → List ℕ → ℕ → State → Outcome
run_bytes lim f [] m s = going s
run_bytes lim f (b ∷ l) (suc m) s = run_bytes lim f l m s
run_bytes lim f (b ∷ l) zero s = consume lim f (token b l) s (run_bytes lim f l)

-- a body, with so many levels left; at none it is refused
unfoldable pub run_body : Limits → Font → ℕ → List ℕ → State → Outcome
run_body lim f zero l s = refused 4
run_body lim f (suc n) l s = run_bytes lim (execute lim f (run_body lim f n)) (plain f.len_iv l) 0 s

-- the whole: the charstring at depth 0, its subroutines at depth 1 to 10
unfoldable pub run : Limits → Font → List ℕ → State → Outcome
run lim f l s = and_then (charge l s) (λ t. returned (run_body lim f 11 l t))
