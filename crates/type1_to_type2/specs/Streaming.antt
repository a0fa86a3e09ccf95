-- Definitions: a program written as its parts come, an operator once no more operands share it; and what the code has yet to write. Document 01, "Path", "Stems and masks", "Numbers the board logs": "writing in byte order".
use Rattle.std.specs.Prelude.{◌≡◌, ℕ, zero, suc, ◌+◌, ◌-◌, ◌%◌, ◌≤◌, ◌<◌, Bool, true, ◌&&◌, List, [], ◌∷◌, ◌++◌, length, take, replicate, eqb, leb, ℤ, Float, Result, Ok, Err}
use Rattle.refusal.specs.declared.Refusal.{Refusal}
use Rattle.refusal.specs.Refusal.{number_of, number_in}
use Rattle.geometry.specs.declared.Point.{Point}
use Rattle.folding.specs.declared.Fold.{Fold}
use Rattle.outline.specs.declared.Stem.{Stem}
use Rattle.outline.specs.Outline.{Command, plus_zero, pick}
use Rattle.outline.specs.Store.{word, point_in, command_in}
use Rattle.type2.specs.Path.{Kind, moves, lines, curves, flexes, most, takes}
use Rattle.type2.specs.Instruction.{Instr, instr, mask_bytes}
use Rattle.type1_to_type2.specs.declared.Writer.{Writer}
use Rattle.type1_to_type2.specs.declared.StemWriter.{StemWriter}
use Rattle.folding.specs.Folding.{folded_point, folded_command}
use Rattle.type1_to_type2.specs.Stems.{mask_of}
use Rattle.type1_to_type2.specs.Emission.{Cmd, hints, shape, Item, mask, go, items, code_of, move_of, pair, second_edge, deltas, arrives, written}
use Rattle.type1_to_type2.specs.Places.{places_from}
use Rattle.type1_to_type2.specs.Writing.{Written, refused, wrote, then_write, put, put_numbers}

-- ---- the bytes p are written, of an output of so many bytes; f says what follows, by the room left
abbrev pub rest : List ℕ → (ℕ → Written) → ℕ → Written
rest p f room = then_write (f (room - length p)) (λ c. wrote (p ++ c))

-- refused, or the place of the next byte
unfoldable pub resumed : Result ℕ Refusal → List ℕ → (ℕ → Written) → Written
resumed (Ok next) out f = rest (take next out) f (length out)
resumed (Err r) out f = refused (number_of r)

abbrev pub put_instr : Instr → ℕ → (ℕ → Written) → Written
put_instr i room f = put_numbers i.operands room (λ left. put left i.code f)

-- ---- an operator k waits, with n operands written for it; 0 where none waits. Its byte is k % 256, which is k for lines and curves (`Packing.code_closed`).

unfoldable pub closed : ℕ → ℕ → (ℕ → Written) → Written
closed k room f = pick (eqb k 0) (f room) (put room (k % 256 ∷ []) f)

unfoldable pub joined : Kind → List ℤ → ℕ → ℕ → ℕ → (ℕ → ℕ → ℕ → Written) → Written
joined j l k n room f =
    pick (eqb k (code_of j) && leb (n + length l) (most j)) (put_numbers l room (f (code_of j) (n + length l)))
    (closed k room (λ left. put_numbers l left (f (code_of j) (length l))))

unfoldable pub streamed : List Item → ℕ → ℕ → ℕ → Written
streamed [] k n room = closed k room (λ left. put left (14 ∷ []) (λ r. wrote []))
streamed (mask b ∷ is) k n room = closed k room (λ left. put left (19 ∷ mask_bytes b) (streamed is 0 0))
streamed (go moves l ∷ is) k n room = closed k room (λ left. put_instr (move_of l) left (streamed is 0 0))
streamed (go lines l ∷ is) k n room = joined lines l k n room (streamed is)
streamed (go curves l ∷ is) k n room = joined curves l k n room (streamed is)
streamed (go flexes l ∷ is) k n room = closed k room (λ left. put_instr (instr l (12 ∷ 35 ∷ [])) left (streamed is 0 0))

-- ---- stems: op takes k stems more, of 23
unfoldable pub stems_written : ℕ → List Stem → ℕ → Float → ℕ → (ℕ → Written) → Written
stems_written op [] k from room f = pick (eqb k 23) (f room) (put room (op ∷ []) f)
stems_written op (s ∷ ss) zero from room f = put room (op ∷ []) (λ left. put_numbers (pair plus_zero s) left (λ r. stems_written op ss 22 (second_edge s) r f))
stems_written op (s ∷ ss) (suc k) from room f = put_numbers (pair from s) room (λ left. stems_written op ss k (second_edge s) left f)

-- ---- what a writer has yet to write

abbrev pub point_of : Writer → Point
point_of w = record { x = w.x; y = w.y }

abbrev pub resumed_items : Writer → List ℕ → List Item → Written
resumed_items w out is = resumed w.next out (streamed is w.waits w.held)

-- the commands cs, with the stems ss declared
abbrev pub resumed_all : Bool → List Stem → Writer → List ℕ → List Cmd → Written
resumed_all masked ss w out cs = resumed_items w out (items masked ss (point_of w) cs)

-- ---- the commands of entry e of the command store: the group g where it is a group's start

abbrev pub shapes : Fold → List Command → List Cmd
shapes fold [] = []
shapes fold (c ∷ l) = shape (folded_command fold c) ∷ shapes fold l

unfoldable pub cmds_in : Fold → List ℕ → ℕ → List Stem → List Cmd
cmds_in fold c e g = pick (eqb (word c e 0) 5) (hints g ∷ []) (shapes fold (command_in c e))

-- ---- its points: n of them, from word i on, and how many it has by its kind
unfoldable pub points_in : List ℕ → ℕ → ℕ → ℕ → List Point
points_in c e i zero = []
points_in c e i (suc n) = point_in c e i ∷ points_in c e (i + 2) n

unfoldable pub folded_points : Fold → List Point → List Point
folded_points fold [] = []
folded_points fold (p ∷ ps) = folded_point fold p ∷ folded_points fold ps

abbrev pub point_count : ℕ → ℕ
point_count kind = pick (eqb kind 3) 3 (pick (eqb kind 2) 1 (pick (eqb kind 4) 6 0))

-- ---- what a function has written: g of what follows

pub record Puts (g : (ℕ → Written) → ℕ → Written) (w : Writer) (before : List ℕ) (r : Writer) (after : List ℕ) : Type 0 where
  pub then : (f : ℕ → Written) → resumed r.next after f ≡ resumed w.next before (g f)
  pub same : length after ≡ length before

-- the point and the waiting operator are as they were
pub record Still (w r : Writer) : Type 0 where
  pub x : r.x ≡ w.x
  pub y : r.y ≡ w.y
  pub waits : r.waits ≡ w.waits
  pub held : r.held ≡ w.held

-- the waiting operator is written
pub record Flushed (w : Writer) (before : List ℕ) (r : Writer) (after : List ℕ) : Type 0 where
  pub puts : Puts (λ f left. closed w.waits left f) w before r after
  pub at : point_of r ≡ point_of w
  pub waits : r.waits ≡ 0
  pub held : r.held ≡ 0

-- operands more share the operator op: it waits, and takes them
abbrev pub shares : ℕ → Bool → Writer → Bool
shares op more w = eqb w.waits op && more

pub record Batched (op count : ℕ) (more : Bool) (w : Writer) (before : List ℕ) (r : Writer) (after : List ℕ) : Type 0 where
  pub puts : Puts (λ f left. pick (shares op more w) (f left) (closed w.waits left f)) w before r after
  pub at : point_of r ≡ point_of w
  pub waits : r.waits ≡ op
  pub held : r.held ≡ pick (shares op more w) (w.held + count) count

-- the deltas to the points ps are written; the point counts no more once a number is refused
pub record Goes (ps : List Point) (w : Writer) (before : List ℕ) (r : Writer) (after : List ℕ) : Type 0 where
  pub puts : Puts (λ f left. put_numbers (deltas (point_of w) ps) left f) w before r after
  pub at : (n : ℕ) → r.next ≡ Ok n → point_of r ≡ arrives (point_of w) ps
  pub waits : r.waits ≡ w.waits
  pub held : r.held ≡ w.held

-- before the points of an entry of a kind: a curve or a line shares an operator that takes it, before a flex the waiting one is written
pub record EntryBegins (kind : ℕ) (w : Writer) (before : List ℕ) (r : Writer) (after : List ℕ) : Type 0 where
  pub curve : kind ≡ 3 → Batched 8 6 (takes curves w.held 6) w before r after
  pub line : kind ≡ 2 → Batched 5 2 (takes lines w.held 2) w before r after
  pub flex : kind ≡ 4 → Flushed w before r after
  pub other : (kind ≡ 3 → ⊥) → (kind ≡ 2 → ⊥) → (kind ≡ 4 → ⊥) → (r ≡ w) × (after ≡ before)

-- after them: a flex has its height and its operator
pub record EntryEnds (kind : ℕ) (height : Float) (w : Writer) (before : List ℕ) (r : Writer) (after : List ℕ) : Type 0 where
  pub flex : kind ≡ 4 → Puts (λ f left. put_numbers (written height ∷ []) left (λ l. put l (12 ∷ 35 ∷ []) f)) w before r after × Still w r
  pub other : (kind ≡ 4 → ⊥) → (r ≡ w) × (after ≡ before)

-- the commands cs are written
pub record Draws (masked : Bool) (ss : List Stem) (cs : List Cmd) (w : Writer) (before : List ℕ) (r : Writer) (after : List ℕ) : Type 0 where
  pub then : (ds : List Cmd) → resumed_all masked ss r after ds ≡ resumed_all masked ss w before (cs ++ ds)
  pub same : length after ≡ length before

-- a mask is written
pub record Masks (bits : List Bool) (w : Writer) (before : List ℕ) (r : Writer) (after : List ℕ) : Type 0 where
  pub then : (is : List Item) → resumed_items r after is ≡ resumed_items w before (mask bits ∷ is)
  pub at : point_of r ≡ point_of w
  pub same : length after ≡ length before

-- before a stem of op
pub record Begins (op : ℕ) (s : StemWriter) (before : List ℕ) (r : StemWriter) (after : List ℕ) : Type 0 where
  pub then : (x : Stem) (ss : List Stem) (f : ℕ → Written) →
      resumed r.w.next after (λ room. stems_written op (x ∷ ss) r.left r.from room f) ≡ resumed s.w.next before (λ room. stems_written op (x ∷ ss) s.left s.from room f)
  pub still : Still s.w r.w
  pub some : 1 ≤ r.left
  pub few : s.left ≤ 23 → r.left ≤ 23
  pub same : length after ≡ length before

-- a stem x of op
pub record Stemmed (op : ℕ) (x : Stem) (s : StemWriter) (before : List ℕ) (r : StemWriter) (after : List ℕ) : Type 0 where
  pub then : (ss : List Stem) (f : ℕ → Written) →
      resumed r.w.next after (λ room. stems_written op ss r.left r.from room f) ≡ resumed s.w.next before (λ room. stems_written op (x ∷ ss) s.left s.from room f)
  pub still : Still s.w r.w
  pub few : r.left ≤ 23
  pub same : length after ≡ length before

-- what a written program leaves: its length, or a refusal, and the output's every byte, of so many
abbrev pub Ends : ℕ → Written → Result ℕ Refusal → List ℕ → Type 0
Ends room (refused k) r out = (0 < k) × ((number_in r ≡ k) × (out ≡ replicate room 0))
Ends room (wrote b) r out = (r ≡ Ok (length b)) × ((out ≡ b ++ replicate (room - length b) 0) × (length out ≡ room))

-- entry e is written, where n stems are declared; g are the stems of the group that it starts, if it starts one, and p their places where masks are needed
abbrev pub Writes : Bool → Fold → List ℕ → ℕ → ℕ → List ℕ → Writer → List ℕ → Writer → List ℕ → Type 0
Writes masked fold c e n p w out r out' = ((ss g : List Stem) (cs : List Cmd) → length ss ≡ n → (masked ≡ true → p ≡ places_from 0 (mask_of g ss)) → resumed_all masked ss r out' cs ≡ resumed_all masked ss w out (cmds_in fold c e g ++ cs)) × (length out' ≡ length out)
