-- Rows of thirteen numbers, in the heading's order.
use Rattle.std.specs.Prelude.{ℕ, List, ◌++◌, leb, length, drop, if◌then◌else◌}
use Rattle.rules.specs.declared.run.Row.{Row}
use Rattle.rules.specs.Row.{columns}

-- a row's numbers before those of lent rows that have a place for it
unfoldable pub row_first : Row → List ℕ → List ℕ
row_first r lent = if leb 13 (length lent) then columns r ++ drop 13 lent else lent
