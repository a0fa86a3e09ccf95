-- `type1_to_type2::declaring::write_stems` meets its contract.
use Prim.Native.Nat.{ℕ, ◌-◌, ◌≤◌}
use mathlib.Core.Path.{◌≡◌}
use lib.ListN.{length, drop}
use Rattle.type1_to_type2.specs.Streaming.{resumed, stems_written, Still}
use Rattle.type1_to_type2.specs.Writing.{Written}
use Rattle.type1_to_type2.specs.Table.{table_stems}
use Rattle.type1_to_type2.proofs.declaring.write_stems.Given as goal

abbrev pub invariant-loop-i : goal.invariant-loop-i
invariant-loop-i l =
    ((f : ℕ → Written) → resumed l.s.w.next l.out (λ room. stems_written l.op (drop l.i (table_stems l.horizontal l.n l.table)) l.s.left l.s.from room f)
    ≡ resumed l.initial.s.w.next l.initial.out (λ room. stems_written l.op (table_stems l.horizontal l.n l.table) l.initial.s.left l.initial.s.from room f))
    × (Still l.initial.s.w l.s.w × ((length l.out ≡ length l.initial.out) × (l.s.left ≤ 23)))
