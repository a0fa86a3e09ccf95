-- Definitions: what the functions that read bytes and call bodies say of the run (document 01, "Reading", "Bytes run"; T1, 6.2 and 6.4).
use Rattle.std.specs.Prelude.{ℕ, ◌+◌, ◌-◌, ◌*◌, ◌≤◌, ◌<◌, ◌≡◌, Bool, true, false, List, T, eqb, length, drop, ℤ, Float, Option, IfSome, IfNone, OnSome, Result, Ok, Err}
use Rattle.refusal.specs.declared.Refusal.{Refusal}
use Rattle.refusal.specs.Refusal.{number_of}
use Rattle.charstring.specs.declared.Cursor.{Cursor}
use Rattle.charstring.specs.Cipher.{Bytes}
use Rattle.charstring.specs.Cursor.{rest}
use Rattle.bank.specs.Bank.{bytes_at, found}
use Rattle.outline.specs.Store.{entry_words}
use Rattle.type1.specs.declared.St.{St}
use Rattle.type1.specs.declared.Reading.{Reading}
use Rattle.type1.specs.declared.Tok.{Tok}
use Rattle.type1.specs.declared.Num.{Num}
use Rattle.geometry.specs.declared.Point.{Point}
use Rattle.type1.specs.declared.Called.{Called}
use Rattle.type1.specs.Operator as op
use Rattle.type1.specs.Operator.{Operator}
use Rattle.type1.specs.Number.{cut, number, operator, token, double}
use Rattle.outline.specs.Outline.{Command, pick}
use Rattle.type1.specs.State.{State}
use Rattle.type1.specs.Run.{Limits, within, limits_of, Outcome, going, refused, and_then, returned, enter, operate, font_of, call_subr, run_bytes}
use Rattle.type1.specs.Memory.{Mem, abs, Fit, Holds, Meets, with_ops, with_cmds, after, operator_of}
use Rattle.type1.specs.Small.{ran_of}
use Rattle.type1.specs.Sound.{Sound}

abbrev pub cursor_of : ℕ → ℕ → Bool → Cursor
cursor_of at key encrypted = record { at = at; key = key; encrypted = encrypted }

-- the state with another number of operands
abbrev pub with_count : ℕ → St → St
with_count n t = record { operands = n; postscript = t.postscript; x = t.x; y = t.y; opened = t.opened; flexing = t.flexing; points = t.points; hints = t.hints; changed = t.changed; last = t.last; groups = t.groups; stems = t.stems; entries = t.entries; divided = t.divided; ran = t.ran }

-- the state with another number of operands, another point and another number of entries
abbrev pub placed : ℕ → Float → Float → ℕ → St → St
placed n x y k t = record { operands = n; postscript = t.postscript; x = x; y = y; opened = t.opened; flexing = t.flexing; points = t.points; hints = t.hints; changed = t.changed; last = t.last; groups = t.groups; stems = t.stems; entries = k; divided = t.divided; ran = t.ran }

abbrev pub tok_of : St → ℕ → ℕ → ℕ → ℕ → Tok
tok_of t next key flow op = record { st = t; next = next; key = key; flow = flow; op = op }

-- the bytes from a place on
abbrev pub left : List ℕ → ℕ → ℕ → Bool → List ℕ
left code at key encrypted = rest (cursor_of at key encrypted) code

-- the number that starts with the byte v, with the bytes from i on after it
pub record Numbered (code : List ℕ) (i key : ℕ) (encrypted : Bool) (v : ℕ) (r : Num) : Type 0 where
  pub number : r.cut ≡ false → (m : ℕ) × (z : ℤ) × (token v (left code i key encrypted) ≡ number m z) × (r.x ≡ double z) × (drop m (left code i key encrypted) ≡ left code r.next r.key encrypted)
  pub cut : r.cut ≡ true → token v (left code i key encrypted) ≡ cut
  pub on : (i ≤ r.next) × (r.next ≤ length code)

-- the operator that starts with the byte v, likewise
pub record Operated (code : List ℕ) (i key : ℕ) (encrypted : Bool) (v : ℕ) (st : St) (t : Tok) : Type 0 where
  pub operator : t.flow ≡ 0 → (m : ℕ) × (token v (left code i key encrypted) ≡ operator m (operator_of t.op)) × (drop m (left code i key encrypted) ≡ left code t.next t.key encrypted)
  pub cut : (t.flow ≡ 0 → ⊥) → (t.flow ≡ 5) × (token v (left code i key encrypted) ≡ cut)
  pub state : t.st ≡ st
  pub on : (i ≤ t.next) × (t.next ≤ length code)

-- ---- operators that are done as they are read: lines and curves, which are listed, 5, 6, 7, 8, 30, 31, and closepath, 9 (document 01, "Reading" and "Hints"; T1, 6.4)
abbrev pub is_read : Operator → Bool
is_read op.hstem = false
is_read op.vstem = false
is_read op.vmoveto = false
is_read op.rlineto = true
is_read op.hlineto = true
is_read op.vlineto = true
is_read op.rrcurveto = true
is_read op.closepath = true
is_read op.callsubr = false
is_read op.return = false
is_read op.hsbw = false
is_read op.endchar = false
is_read op.rmoveto = false
is_read op.hmoveto = false
is_read op.vhcurveto = true
is_read op.hvcurveto = true
is_read op.dotsection = false
is_read op.vstem3 = false
is_read op.hstem3 = false
is_read op.seac = false
is_read op.sbw = false
is_read op.div = false
is_read op.callothersubr = false
is_read op.pop = false
is_read op.setcurrentpoint = false
is_read op.unknown = false

-- a subpath is open, and the stems in force did not change: a line or a curve is then one entry, with no move and no group before it
abbrev pub is_quick : Bool → Bool → Bool
is_quick changed opened = pick changed false opened

-- entry k was listed, or has no room
pub record Stores (x : Command) (k : ℕ) (c : List ℕ) (r : Bool) (d : List ℕ) : Type 0 where
  pub done : r ≡ true → (t : St) (m : Mem) (s : State) (room : ℕ) → t.entries ≡ k → Holds t (with_cmds c m) s → Meets (ran_of (placed t.operands t.x t.y (k + 1) t) 0) (with_cmds d m) (enter (within room (length c)) x s)
  pub space : r ≡ true → entry_words * (k + 1) ≤ length c
  pub full : r ≡ false → (d ≡ c) × (length c - entry_words * k < 14)
  pub same : length d ≡ length c

-- the state after a line or a curve from t to p
abbrev pub drawn_to : Point → ℕ → St → St
drawn_to p k t = placed 0 p.x p.y (k + 1) t

-- D was done at (x, y) with k entries listed, or nothing was
pub record Adds (D : Limits → State → Outcome) (x y : Float) (k : ℕ) (c : List ℕ) (r : Option Point) (d : List ℕ) : Type 0 where
  pub done : IfSome r (λ p. (t : St) (room : ℕ) → t.opened ≡ true → t.changed ≡ false
      → (m : Mem) (s : State) → length m.stems ≡ room → Holds (placed 0 x y k t) (with_cmds c m) s → Meets (ran_of (drawn_to p k t) 0) (after (placed 0 x y k t) (ran_of (drawn_to p k t) 0) d m) (D (within room (length c)) s))
  pub space : OnSome r (entry_words * (k + 1) ≤ length c)
  pub none : IfNone r (d ≡ c)
  pub same : length d ≡ length c

-- the operator of the byte v was done, with n operands, or nothing was
pub record Draws (v n : ℕ) (x y : Float) (k : ℕ) (ops : List Float) (c : List ℕ) (r : Option Point) (d : List ℕ) : Type 0 where
  pub done : IfSome r (λ p. (t : St) (m : Mem) (s : State) → t.opened ≡ true → t.changed ≡ false
      → Holds (placed n x y k t) (with_ops ops (with_cmds c m)) s → Meets (ran_of (drawn_to p k t) 0) (with_ops ops (with_cmds d m)) (operate (within (length m.stems) (length c)) (refused 6) (operator_of v) s))
  pub drawn : OnSome r (T (is_read (operator_of v)) × (v ≡ 12 → ⊥))
  pub space : OnSome r (entry_words * (k + 1) ≤ length c)
  pub none : IfNone r (d ≡ c)
  pub same : length d ≡ length c

-- f does these operators as the run does
abbrev pub ReadsAs : Limits → (Operator → State → Outcome) → Type 0
ReadsAs lim f = (o : Operator) (s : State) → T (is_read o) → f o s ≡ operate lim (refused 6) o s

-- what the bytes do from a token on: an operator, then the bytes after it; the end; a refusal
abbrev pub goes_on : Tok → List ℕ → Bool → Limits → (Operator → State → Outcome) → State → Outcome
goes_on t code encrypted lim f s =
    pick (eqb t.flow 0)
    (and_then (f (operator_of t.op) s) (run_bytes lim f (rest (cursor_of t.next t.key encrypted) code) 0))
    (pick (eqb t.flow 1) (going s) (refused t.flow))

-- the arrays that reading changes
abbrev pub read_mem : List Float → List ℕ → Mem → Mem
read_mem o c m = with_ops o (with_cmds c m)

-- the bytes from a place on were read up to the token t
pub record Reads (reading : Reading) (code : List ℕ) (from key : ℕ) (encrypted : Bool) (st : St) (ops : List Float) (cmds : List ℕ) (t : Tok) (exit : List Float) (cexit : List ℕ) : Type 0 where
  pub fit : (m : Mem) → Fit st (read_mem ops cmds m) → Fit t.st (read_mem exit cexit m)
  pub same : (m : Mem) (s : State) → Holds st (read_mem ops cmds m) s → (u : State) × Holds t.st (read_mem exit cexit m) u × ((f : Operator → State → Outcome) → ReadsAs (limits_of reading (within (length m.stems) (length cmds))) f
      → run_bytes (limits_of reading (within (length m.stems) (length cmds))) f (rest (cursor_of from key encrypted) code) 0 s ≡ goes_on t code encrypted (limits_of reading (within (length m.stems) (length cmds))) f u)
  pub sound : (m : Mem) → Fit st (read_mem ops cmds m) → Bytes code → Sound (abs st (read_mem ops cmds m)) → Sound (abs t.st (read_mem exit cexit m))
  pub on : from < t.next
  pub whole : length cexit ≡ length cmds
  pub number : (t.flow ≡ 0 → ⊥) → (t.flow ≡ 1 → ⊥) → 3 ≤ t.flow

-- a call is about to be made, or is refused
abbrev pub Calls : List ℕ → Reading → Mem → State → Result Called Refusal → Type 0
Calls bank reading m s (Ok c) = (u : State) × Holds c.st m u × ((deep : List ℕ → State → Outcome) → call_subr (font_of bank reading) deep s ≡ returned (deep (bytes_at (found c.index bank) bank) u))
Calls bank reading m s (Err r) = (3 ≤ number_of r) × ((deep : List ℕ → State → Outcome) → call_subr (font_of bank reading) deep s ≡ refused (number_of r))
