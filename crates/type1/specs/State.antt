-- Definitions: the state of a Type 1 run. Document 01, "Type 1 run", "Hints", "OtherSubrs".
use Rattle.std.specs.Prelude.{ℕ, Bool, true, false, List, [], Float}
use Rattle.std.proofs.Math.Option.{Option, none}
use Rattle.geometry.specs.declared.Point.{Point}
use Rattle.outline.specs.declared.Stem.{Stem}
use Rattle.outline.specs.Outline.{Command, Group, plus_zero, origin}

-- "State: operands, PostScript stack, point and side bearing (0, 0), whether a subpath is open (no), a flex and its points (none), stems in force, groups, drawn list (all empty), whether the stems changed (no), whether a div ran (no)"; and the width and the bytes run, for the answer
pub record State : Type 0 where
  pub operands : List Float
  pub postscript : List Float
  pub point : Point
  pub bearing : Point
  pub width : Float
  pub opened : Bool
  pub flexing : Option (List Point)
  pub hints : List Stem
  pub changed : Bool
  pub groups : List Group
  pub drawn : List Command
  pub divided : Bool
  pub ran : ℕ

-- before the first byte
abbrev pub start : State
start = record { operands = []; postscript = []; point = origin; bearing = origin; width = plus_zero; opened = false; flexing = none; hints = []; changed = false; groups = []; drawn = []; divided = false; ran = 0 }

-- ---- the state with one part another
abbrev pub with_operands : List Float → State → State
with_operands l s = record { operands = l; postscript = s.postscript; point = s.point; bearing = s.bearing; width = s.width; opened = s.opened; flexing = s.flexing; hints = s.hints; changed = s.changed; groups = s.groups; drawn = s.drawn; divided = s.divided; ran = s.ran }

abbrev pub with_postscript : List Float → State → State
with_postscript l s = record { operands = s.operands; postscript = l; point = s.point; bearing = s.bearing; width = s.width; opened = s.opened; flexing = s.flexing; hints = s.hints; changed = s.changed; groups = s.groups; drawn = s.drawn; divided = s.divided; ran = s.ran }

abbrev pub with_point : Point → State → State
with_point p s = record { operands = s.operands; postscript = s.postscript; point = p; bearing = s.bearing; width = s.width; opened = s.opened; flexing = s.flexing; hints = s.hints; changed = s.changed; groups = s.groups; drawn = s.drawn; divided = s.divided; ran = s.ran }

-- the side bearing and the width, with the point at the side bearing
abbrev pub with_bearing : Point → Float → State → State
with_bearing b w s = record { operands = s.operands; postscript = s.postscript; point = b; bearing = b; width = w; opened = s.opened; flexing = s.flexing; hints = s.hints; changed = s.changed; groups = s.groups; drawn = s.drawn; divided = s.divided; ran = s.ran }

abbrev pub with_open : Bool → State → State
with_open b s = record { operands = s.operands; postscript = s.postscript; point = s.point; bearing = s.bearing; width = s.width; opened = b; flexing = s.flexing; hints = s.hints; changed = s.changed; groups = s.groups; drawn = s.drawn; divided = s.divided; ran = s.ran }

abbrev pub with_flex : Option (List Point) → State → State
with_flex f s = record { operands = s.operands; postscript = s.postscript; point = s.point; bearing = s.bearing; width = s.width; opened = s.opened; flexing = f; hints = s.hints; changed = s.changed; groups = s.groups; drawn = s.drawn; divided = s.divided; ran = s.ran }

-- the stems in force have changed
abbrev pub with_hints : List Stem → State → State
with_hints l s = record { operands = s.operands; postscript = s.postscript; point = s.point; bearing = s.bearing; width = s.width; opened = s.opened; flexing = s.flexing; hints = l; changed = true; groups = s.groups; drawn = s.drawn; divided = s.divided; ran = s.ran }

-- the stems in force are the last group's
abbrev pub settled : List Group → State → State
settled g s = record { operands = s.operands; postscript = s.postscript; point = s.point; bearing = s.bearing; width = s.width; opened = s.opened; flexing = s.flexing; hints = s.hints; changed = false; groups = g; drawn = s.drawn; divided = s.divided; ran = s.ran }

abbrev pub with_drawn : List Command → State → State
with_drawn l s = record { operands = s.operands; postscript = s.postscript; point = s.point; bearing = s.bearing; width = s.width; opened = s.opened; flexing = s.flexing; hints = s.hints; changed = s.changed; groups = s.groups; drawn = l; divided = s.divided; ran = s.ran }

abbrev pub with_divided : State → State
with_divided s = record { operands = s.operands; postscript = s.postscript; point = s.point; bearing = s.bearing; width = s.width; opened = s.opened; flexing = s.flexing; hints = s.hints; changed = s.changed; groups = s.groups; drawn = s.drawn; divided = true; ran = s.ran }

abbrev pub with_ran : ℕ → State → State
with_ran n s = record { operands = s.operands; postscript = s.postscript; point = s.point; bearing = s.bearing; width = s.width; opened = s.opened; flexing = s.flexing; hints = s.hints; changed = s.changed; groups = s.groups; drawn = s.drawn; divided = s.divided; ran = n }
