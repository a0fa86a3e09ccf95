-- Definitions: the command store and the stem store. Document 01, "Forms of the Rust that need another": 14 words to an entry, the kind, then coordinates as f64 bits, or numbers; one stem record for each stem of each group.
use Rattle.std.specs.Prelude.{ℕ, zero, suc, ◌+◌, ◌*◌, List, [], ◌∷◌, ◌++◌, eqb, length, take, drop, get_or, Float}
use Rattle.std.specs.Float.{binary64}
use Rattle.std.specs.Float.Ieee.{of_bits}
use Rattle.geometry.specs.declared.Point.{Point}
use Rattle.outline.specs.declared.Stem.{Stem}
use Rattle.outline.specs.Outline.{pick, Command, move, line, curve, flex, Group}

-- words of an entry
abbrev pub entry_words : ℕ
entry_words = 14

-- the kind of an entry: 1 a move, 2 a line, 3 a curve, 4 a flex, 5 a group's start
abbrev pub word : List ℕ → ℕ → ℕ → ℕ
word c k i = get_or c (entry_words * k + i) 0

abbrev pub coordinate : List ℕ → ℕ → ℕ → Float
coordinate c k i = of_bits binary64 (word c k i)

abbrev pub point_in : List ℕ → ℕ → ℕ → Point
point_in c k i = record { x = coordinate c k i; y = coordinate c k (i + 1) }

-- the command of entry k, none where it is a group's start
unfoldable pub command_in : List ℕ → ℕ → List Command
command_in c k =
    pick (eqb (word c k 0) 1) (move (point_in c k 1) ∷ [])
    (pick (eqb (word c k 0) 2) (line (point_in c k 1) ∷ [])
    (pick (eqb (word c k 0) 3) (curve (point_in c k 1) (point_in c k 3) (point_in c k 5) ∷ [])
    (pick (eqb (word c k 0) 4) (flex (point_in c k 1) (point_in c k 3) (point_in c k 5) (point_in c k 7) (point_in c k 9) (point_in c k 11) (coordinate c k 13) ∷ []) [])))

unfoldable pub drawn_in : ℕ → List ℕ → List Command
drawn_in zero c = []
drawn_in (suc k) c = drawn_in k c ++ command_in c k

-- the group that starts at entry k, with n entries drawn before it: where its records begin, and how many there are
unfoldable pub group_in : List ℕ → List Stem → ℕ → ℕ → List Group
group_in c z k n = pick (eqb (word c k 0) 5) (record { stems = take (word c k 2) (drop (word c k 1) z); before = n } ∷ []) []

unfoldable pub groups_in : ℕ → List ℕ → List Stem → List Group
groups_in zero c z = []
groups_in (suc k) c z = groups_in k c z ++ group_in c z k (length (drawn_in k c))

-- a move or a line, by its kind
abbrev pub point_command : ℕ → Point → Command
point_command k p = pick (eqb k 1) (move p) (line p)
