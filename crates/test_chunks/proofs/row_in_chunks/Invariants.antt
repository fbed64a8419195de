-- `test_chunks::row_in_chunks` meets its contract. Assumes nothing.
use Prim.Native.Nat.{◌+◌, ◌-◌, ◌<◌}
use mathlib.Core.Path.{◌≡◌}
use lib.ListN.{length, drop}
use Rattle.sheet_stages.specs.ToCome.{file_rows}
use Rattle.sample_rows.specs.Streamed.{yet_to_come}
use Rattle.test_chunks.specs.declared.Sought.{Sought}
use Rattle.test_chunks.specs.Seeking.{chunk_end, sought_in}
use Rattle.test_chunks.proofs.row_in_chunks.Given as goal

abbrev pub invariant-loop-start : goal.invariant-loop-start
invariant-loop-start l =
    (l.start < length l.file → l.start + l.next < chunk_end (length l.file) l.start l.size)
    × (sought_in l.sought (yet_to_come l.reading (drop (l.start + l.next) l.file)) ≡ sought_in (Sought.After l.row) (file_rows l.file))

abbrev pub decreases-loop-start : goal.decreases-loop-start
decreases-loop-start l = length l.file - (l.start + l.next)
