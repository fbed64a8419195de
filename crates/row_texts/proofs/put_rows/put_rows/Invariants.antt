-- `put_rows` meets its contract. The invariant: the lines of the rows so far stand at the buffer's front, and where the text of the last
-- row's last five numbers begins is known. Assumes nothing.
use Prim.Native.Nat.{◌*◌, ◌≤◌}
use mathlib.Core.Path.{◌≡◌}
use lib.ListN.{length}
use Rattle.texts.specs.Placed.{Front}
use Rattle.row_texts.specs.RowLines.{lines_of}
use Rattle.row_texts.proofs.Kept.{up_to_ends}
use Rattle.row_texts.proofs.put_rows.put_rows.Given as goal

abbrev pub invariant-loop-count : goal.invariant-loop-count
invariant-loop-count l =
    (13 * l.count ≤ length l.numbers) × (l.bytes ≤ length l.out) × (length l.out ≡ length l.initial.out) × Front l.initial.out (lines_of l.count l.numbers) l.bytes l.out × (l.kept ≡ length (up_to_ends l.count l.numbers))
