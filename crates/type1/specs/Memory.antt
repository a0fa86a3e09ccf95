-- Definitions: how the code's small state and arrays hold a state of the run, and what a step of the code says of a step of the run.
-- The command store is document 01's, "Forms of the Rust that need another": 14 words to an entry, the kind, then coordinates as f64 bits, or numbers.
use Rattle.std.specs.Prelude.{ℕ, zero, suc, ◌+◌, ◌-◌, ◌*◌, ◌≤◌, ◌<◌, ◌≡◌, Bool, true, false, List, [], ◌∷◌, ◌++◌, T, eqb, ltb, length, take, drop, get_or, replicate, Float}
use Rattle.std.proofs.Math.Option.{Option, none, some}
use Rattle.std.proofs.Math.Seq.{paste}
use Rattle.std.specs.Float.{nan, binary64}
use Rattle.std.specs.Float.Ieee.{fits}
use Rattle.std.specs.Float.Ieee.Scale.{finite}
use Rattle.charstring.specs.Cipher.{max_charstring_bytes}
use Rattle.geometry.specs.declared.Point.{Point}
use Rattle.outline.specs.declared.Stem.{Stem}
use Rattle.hints.specs.Hints.{stem_at}
use Rattle.type1.specs.declared.St.{St}
use Rattle.type1.specs.declared.Ran.{Ran}
use Rattle.type1.specs.Operator.{Operator, of_byte, of_escape}
use Rattle.outline.specs.Store.{entry_words, word, drawn_in, groups_in}
use Rattle.outline.specs.Outline.{same_stems, last_is, stem_count, pick, origin}
use Rattle.type1.specs.State.{State, with_flex}
use Rattle.type1.specs.Run.{Limits, within, Outcome, going, returning, ending, refused}

-- ---- the arrays
pub record Mem : Type 0 where
  pub ops : List Float
  pub ps : List Float
  pub cells : List Float
  pub edges : List Float
  pub across : List Bool
  pub cmds : List ℕ
  pub stems : List Stem

-- ---- points and stems in arrays

-- the first n points, at two places each
unfoldable pub points_at : ℕ → List Float → List Point
points_at zero l = []
points_at (suc n) l = points_at n l ++ (record { x = get_or l (2 * n) nan; y = get_or l (2 * n + 1) nan } ∷ [])

-- n stems, from a place on
unfoldable pub stems_at : ℕ → ℕ → List Float → List Bool → List Stem
stems_at from zero e a = []
stems_at from (suc n) e a = stems_at from n e a ++ (stem_at e a (from + n) ∷ [])

-- ---- the state that is held: of a flex seven points, or that there were more ("Flex list: a count and seven points")
abbrev pub at_most_seven : ℕ → List Point → List Point
at_most_seven n l = pick (ltb n 8) l (replicate 8 origin)

abbrev pub flex_in : Bool → ℕ → List Float → Option (List Point)
flex_in true n l = some (at_most_seven n (points_at n l))
flex_in false n l = none

abbrev pub flex_held : Option (List Point) → Option (List Point)
flex_held none = none
flex_held (some l) = some (at_most_seven (length l) l)

-- what is held of a state
abbrev pub held_of : State → State
held_of s = with_flex (flex_held s.flexing) s

unfoldable pub abs : St → Mem → State
abs t m = record {
  operands = take t.operands m.ops;
  postscript = take t.postscript m.ps;
  point = record { x = t.x; y = t.y };
  bearing = record { x = get_or m.cells 14 nan; y = get_or m.cells 15 nan };
  width = get_or m.cells 16 nan;
  opened = t.opened;
  flexing = flex_in t.flexing t.points m.cells;
  hints = stems_at 0 t.hints m.edges m.across;
  changed = t.changed;
  groups = groups_in t.entries m.cmds m.stems;
  drawn = drawn_in t.entries m.cmds;
  divided = t.divided;
  ran = t.ran;
}

-- ---- what an index needs: counts within the arrays
pub record Bounds (t : St) (words : ℕ) : Type 0 where
  pub operands : t.operands ≤ 256
  pub postscript : t.postscript ≤ 256
  pub points : t.points ≤ 8
  pub hints : t.hints ≤ 256
  pub last : t.last ≤ t.stems
  pub groups : t.groups ≤ 256
  pub entries : entry_words * t.entries ≤ words
  pub ran : t.ran ≤ max_charstring_bytes

-- the arrays have their lengths, and what the counts say of the stores is so
pub record Fit (t : St) (m : Mem) : Type 0 where
  pub bounds : Bounds t (length m.cmds)
  pub ops : length m.ops ≡ 256
  pub ps : length m.ps ≡ 256
  pub cells : length m.cells ≡ 17
  pub edges : length m.edges ≡ 512
  pub across : length m.across ≡ 256
  pub stems : t.stems ≤ length m.stems
  pub groups : length (groups_in t.entries m.cmds m.stems) ≡ t.groups
  pub entries : length (drawn_in t.entries m.cmds) + t.groups ≡ t.entries
  pub used : stem_count (groups_in t.entries m.cmds m.stems) ≡ t.stems
  -- each group's records lie below those used
  pub below : (k : ℕ) → k < t.entries → word m.cmds k 0 ≡ 5 → word m.cmds k 1 + word m.cmds k 2 ≤ t.stems
  -- the last group's stems are the last records used
  pub last : 0 < t.groups → (l : List Stem) → last_is (groups_in t.entries m.cmds m.stems) l ≡ same_stems (take t.last (drop (t.stems - t.last) m.stems)) l

pub record Holds (t : St) (m : Mem) (s : State) : Type 0 where
  pub is : abs t m ≡ held_of s
  pub fit : Fit t m

-- ---- every number of the state is a finite double
pub record Good (x : Float) : Type 0 where
  pub fit : T (fits binary64 x)
  pub fine : T (finite x)

-- ---- what a step of the code says of the run's: the flow is 0 where the run goes on, 1 where a body returns, 2 where the glyph ends, else the number of the refusal
abbrev pub Meets : Ran → Mem → Outcome → Type 0
Meets r m (going s) = (r.flow ≡ 0) × Holds r.st m s
Meets r m (returning s) = (r.flow ≡ 1) × Holds r.st m s
Meets r m (ending s) = (r.flow ≡ 2) × Holds r.st m s
Meets r m (refused n) = (r.flow ≡ n) × (3 ≤ n)

-- the operator of a token: its byte, or 256 and the byte after a 12
unfoldable pub operator_of : ℕ → Operator
operator_of n = pick (ltb n 256) (of_byte n) (of_escape (n - 256))

-- ---- arrays and fields that a function changes

abbrev pub with_ops : List Float → Mem → Mem
with_ops o m = record { ops = o; ps = m.ps; cells = m.cells; edges = m.edges; across = m.across; cmds = m.cmds; stems = m.stems }

abbrev pub with_ps : List Float → Mem → Mem
with_ps p m = record { ops = m.ops; ps = p; cells = m.cells; edges = m.edges; across = m.across; cmds = m.cmds; stems = m.stems }

abbrev pub with_cells : List Float → Mem → Mem
with_cells x m = record { ops = m.ops; ps = m.ps; cells = x; edges = m.edges; across = m.across; cmds = m.cmds; stems = m.stems }

abbrev pub with_cmds : List ℕ → Mem → Mem
with_cmds c m = record { ops = m.ops; ps = m.ps; cells = m.cells; edges = m.edges; across = m.across; cmds = c; stems = m.stems }

abbrev pub with_stems : List Stem → Mem → Mem
with_stems z m = record { ops = m.ops; ps = m.ps; cells = m.cells; edges = m.edges; across = m.across; cmds = m.cmds; stems = z }

abbrev pub with_hints : List Float → List Bool → Mem → Mem
with_hints e a m = record { ops = m.ops; ps = m.ps; cells = m.cells; edges = e; across = a; cmds = m.cmds; stems = m.stems }

abbrev pub with_path : List Float → List Bool → List ℕ → Mem → Mem
with_path e a c m = record { ops = m.ops; ps = m.ps; cells = m.cells; edges = e; across = a; cmds = c; stems = m.stems }

-- the stem store once the group that a step made, if it made one, is stored
unfoldable pub kept : St → St → List Float → List Bool → List Stem → List Stem
kept t u e a z = pick (eqb t.groups u.groups) z (paste z t.stems (stems_at 0 t.hints e a) t.hints)

-- after a step at a path command
abbrev pub after : St → Ran → List ℕ → Mem → Mem
after t r c m = with_cmds c (with_stems (kept t r.st m.edges m.across m.stems) m)

-- whether changed stems in force are the last group's, in the same order, as was found before the step (document 01, "Hints")
abbrev pub Told : Bool → State → Type 0
Told same s = s.changed ≡ true → same ≡ last_is s.groups s.hints

-- a step that makes no group and leaves the stems in force
pub record Plain (t u : St) : Type 0 where
  pub hints : u.hints ≡ t.hints
  pub changed : u.changed ≡ t.changed
  pub last : u.last ≡ t.last
  pub groups : u.groups ≡ t.groups
  pub stems : u.stems ≡ t.stems

-- a step at a path command, with so many records in the stem store: it makes one group at the most, and none where the stems did not change
pub record Path (t : St) (r : Ran) (room : ℕ) : Type 0 where
  pub quiet : t.changed ≡ false → r.st.groups ≡ t.groups
  pub settled : r.flow ≡ 0 → r.st.changed ≡ false
  pub space : (r.st.groups ≡ t.groups → ⊥) → t.stems + t.hints ≤ room

-- a step of the run at a path command, as the code does it: the command store was c and is c', the stem store has so many records, and `same` was said of the stems in force
abbrev pub Step : Bool → St → Ran → List ℕ → List ℕ → ℕ → (Limits → State → Outcome) → Type 0
Step same t r c c' room D = (m : Mem) (s : State) → length m.stems ≡ room → Told same s → Holds t (with_cmds c m) s → Meets r (after t r c' m) (D (within room (length c)) s)

-- likewise of an operator, with the operands in o
abbrev pub Takes : Bool → St → Ran → List Float → List ℕ → List ℕ → ℕ → (Limits → State → Outcome) → Type 0
Takes same t r o c c' room D = (m : Mem) (s : State) → length m.stems ≡ room → Told same s → Holds t (with_ops o (with_cmds c m)) s → Meets r (with_ops o (after t r c' m)) (D (within room (length c)) s)

-- a hint operator, with the operands in o: the stems in force were in e and a, and are in e' and a'
abbrev pub Hinted : St → Ran → List Float → List Float → List Bool → List Float → List Bool → (Limits → State → Outcome) → Type 0
Hinted t r o e a e' a' D = (m : Mem) (s : State) (room words : ℕ) → Holds t (with_ops o (with_hints e a m)) s → Meets r (with_ops o (with_hints e' a' m)) (D (within room words) s)
