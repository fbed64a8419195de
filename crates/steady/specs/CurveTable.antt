-- The table for a stretch of steady seconds, in which the sets On stay the same: of each of them the running total of the ratings up to
-- and with it (step 6 of document 01), and the lines of its fuel curve in whole numbers (step 8).
use Rattle.std.specs.Prelude.{ℕ, suc, ◌<◌, ◌≡◌, true, List, get_or, ltb, if◌then◌else◌}
use Rattle.rules.specs.declared.station.GenSet.{GenSet}
use Rattle.rules.specs.Numbers.{has, tab}
use Rattle.rules.specs.StationRecord.{set_at, set_right, pairs_right}
use Rattle.rules.specs.Share.{running_total}
use Rattle.gensets.specs.declared.line.Line.{Line}
use Rattle.gensets.specs.Lines.{line_from}
use Rattle.steady.specs.declared.curve_table.SetTable.{SetTable}

-- a set whose numbers and pairs some file gives
pub record InRule (g : GenSet) : Type 0 where
  pub numbers : set_right g ≡ true
  pub pairs : pairs_right g ≡ true

-- the line through the points j and j + 1; no power reaches the beginning of a line that the curve has not
unfoldable pub line_or_none : GenSet → ℕ → Line
line_or_none g j =
    if ltb (suc j) g.points
    then line_from g j
    else record { start = 18_446_744_073_709_551_615; width = 0; first = 0; second = 0 }

-- a set's four
unfoldable pub lines_of : GenSet → List Line
lines_of g = tab 4 (line_or_none g)

-- what is read of the set at a place
abbrev pub table_at : List GenSet → ℕ → ℕ → SetTable
table_at sets mask i = record { sum = running_total sets mask (suc i); lines = lines_of (set_at sets i) }

-- the table, of the mask's sets
pub record Tabled (sets : List GenSet) (mask : ℕ) (tables : List SetTable) : Type 0 where
  pub each : (i : ℕ) → i < 8 → has mask i ≡ true → (d : SetTable) → get_or tables i d ≡ table_at sets mask i
