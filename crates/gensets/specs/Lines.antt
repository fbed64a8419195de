-- The line between two points of a set's curve in whole numbers (step 8 of document 01), and the rate on it, of any numbers.
use Rattle.std.specs.Prelude.{ℕ, suc, ◌*◌, ◌/◌, Bool, ◌&&◌, List, [], ◌∷◌, pos, ◌+ℤ◌, ◌-ℤ◌, ◌*ℤ◌, leb, ltb, if◌then◌else◌, Ok, Err, Result}
use Rattle.rules.specs.declared.station.GenSet.{GenSet}
use Rattle.rules.specs.Numbers.{within, all_hold}
use Rattle.rules.specs.Fuel.{load_at, rate_at, step_at, not_below_zero}
use Rattle.gensets.specs.declared.line.Line.{Line}
use Rattle.gensets.specs.declared.fuel.NoRate.{NoRate}

-- through the points j and j + 1: "The exact load, power x 1000 / rating as a fraction, is used", so loads are times the rating
abbrev pub line_from : GenSet → ℕ → Line
line_from g j = record { start = load_at g j * g.rating; width = g.rating * step_at g j; first = rate_at g j; second = rate_at g (suc j) }

-- no line where a set of five points has none
unfoldable pub line_of : GenSet → ℕ → Line
line_of g j = if ltb j 4 then line_from g j else record { start = 0; width = 0; first = 0; second = 0 }

-- what the numbers of a line in a file keep to: loads up to 1,500 thousandths of up to 10,000,000 W, and up to 10,000,000 mL/h
abbrev pub line_limits : Line → List Bool
line_limits line =
    within 1 15_000_000_000 line.width ∷ leb line.start 15_000_000_000 ∷ leb line.first 10_000_000 ∷ leb line.second 10_000_000 ∷ []

unfoldable pub line_small : Line → Bool
line_small line = all_hold (line_limits line)

-- the height at a power x 1000, times the width: "The slope may be negative", "never below zero"
unfoldable pub height_of : Line → ℕ → ℕ
height_of line at = not_below_zero (pos (line.first * line.width) +ℤ (pos line.second -ℤ pos line.first) *ℤ (pos at -ℤ pos line.start))

-- "rounded down to mL/h"; up to twice the greatest rating
unfoldable pub rate_on : Line → ℕ → Result ℕ NoRate
rate_on line at = if line_small line && leb at 20_000_000_000 then Ok (height_of line at / line.width) else Err NoRate.OutOfRange
