-- `sample_rows::reader::next_row` meets its contract. Assumes nothing.
use Prim.Native.Nat.{ℕ, ◌-◌, ◌≤◌, min}
use mathlib.Core.Path.{◌≡◌}
use mathlib.Core.List.{List, ◌++◌}
use lib.ListN.{length, take, drop}
use Rattle.sheet_stages.specs.ToCome.{to_come}
use Rattle.sample_rows.specs.Streamed.{lines_after}
use Rattle.sample_rows.proofs.reader.next_row.Given as goal

abbrev pub invariant-loop-next : goal.invariant-loop-next
invariant-loop-next l =
    (l.next ≤ length l.chunk) × (min l.at (length l.chunk) ≤ l.next)
    × ((rest : List ℕ) → to_come l.initial.latest (lines_after (take l.len l.line) (drop l.at l.chunk ++ rest)) ≡ to_come l.latest (lines_after (take l.begun l.line) (drop l.next l.chunk ++ rest)))

abbrev pub decreases-loop-next : goal.decreases-loop-next
decreases-loop-next l = length l.chunk - l.next
