-- `rows::row_numbers::put_columns` meets its contract. Assumes nothing.
use Prim.Native.Nat.{◌≤◌}
use mathlib.Core.Path.{◌≡◌}
use lib.ListN.{length}
use lib.Seq.{paste}
use Rattle.rows.proofs.row_numbers.put_columns.Given as goal

abbrev pub invariant-loop-i : goal.invariant-loop-i
invariant-loop-i l = (length l.columns ≡ 13) × (13 ≤ length l.initial.rows) × (length l.rows ≡ length l.initial.rows) × (l.rows ≡ paste l.initial.rows 0 l.columns l.i)
