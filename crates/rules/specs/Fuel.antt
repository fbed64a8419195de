-- Document 01, step 8: a set's fuel rate at a power, and the exact curve in whole numbers.
use Rattle.std.specs.Prelude.{ℕ, zero, suc, ◌+◌, ◌-◌, ◌*◌, ◌/◌, List, [], ◌∷◌, ℤ, pos, negsuc, ◌+ℤ◌, ◌-ℤ◌, ◌*ℤ◌, get_or, leb, eqb, if◌then◌else◌}
use Rattle.rules.specs.declared.station.GenSet.{GenSet}

-- the point at place j of a curve: its load in thousandths of the rating, its rate in mL/h
abbrev pub load_at : GenSet → ℕ → ℕ
load_at g j = get_or g.loads j 0

abbrev pub rate_at : GenSet → ℕ → ℕ
rate_at g j = get_or g.rates j 0

-- ---- the line: "The exact load, power x 1000 / rating as a fraction, is used. The slope may be negative."

-- the line through (x₀, y₀) and (x₁, y₁) at that load, times the rating and the step x₁ - x₀
unfoldable pub exact_line : ℕ → ℕ → ℕ → ℕ → ℕ → ℕ → ℤ
exact_line x₀ y₀ x₁ y₁ rating power =
    pos (y₀ * (rating * (x₁ - x₀))) +ℤ (pos y₁ -ℤ pos y₀) *ℤ (pos (power * 1000) -ℤ pos (x₀ * rating))

-- "never below zero"
abbrev pub not_below_zero : ℤ → ℕ
not_below_zero (pos n) = n
not_below_zero (negsuc n) = 0

-- ---- "the two curve points around its load (lower point included; outside the points the nearest two)"

-- the lower point's place: the last of 1 to j that is at or below the load, and 0 where none is
unfoldable pub lower_of : GenSet → ℕ → ℕ → ℕ
lower_of g power zero = 0
lower_of g power (suc j) = if leb (load_at g (suc j) * g.rating) (power * 1000) then suc j else lower_of g power j

-- the last point is never the lower one
unfoldable pub lower_point : GenSet → ℕ → ℕ
lower_point g power = lower_of g power (g.points - 2)

-- the exact curve where j is the lower point, times the rating and that point's step
unfoldable pub exact_from : GenSet → ℕ → ℕ → ℕ
exact_from g power j = not_below_zero (exact_line (load_at g j) (rate_at g j) (load_at g (suc j)) (rate_at g (suc j)) g.rating power)

-- the step between the loads of the points j and j + 1
abbrev pub step_at : GenSet → ℕ → ℕ
step_at g j = load_at g (suc j) - load_at g j

-- "rounded down to mL/h"
unfoldable pub fuel_rate : GenSet → ℕ → ℕ
fuel_rate g power = let j = lower_point g power in exact_from g power j / (g.rating * step_at g j)

-- ---- "Statements read the exact curve, and sums of it, in whole numbers: times the rating and the product of the steps
-- between its points' loads."

-- the product of the first n steps
unfoldable pub steps_to : GenSet → ℕ → ℕ
steps_to g zero = 1
steps_to g (suc n) = steps_to g n * step_at g n

-- the same, the step at j left out
unfoldable pub other_steps : GenSet → ℕ → ℕ → ℕ
other_steps g j zero = 1
other_steps g j (suc n) = other_steps g j n * (if eqb n j then 1 else step_at g n)

-- what the exact curve is multiplied by
unfoldable pub curve_scale : GenSet → ℕ
curve_scale g = g.rating * steps_to g (g.points - 1)

-- the exact curve at a power, "read as zero where it dips below zero", so multiplied
unfoldable pub exact_curve : GenSet → ℕ → ℕ
exact_curve g power = let j = lower_point g power in exact_from g power j * other_steps g j (g.points - 1)

-- "sums of it": over the powers of a list of seconds
unfoldable pub exact_sum : GenSet → List ℕ → ℕ
exact_sum g [] = 0
exact_sum g (power ∷ powers) = exact_curve g power + exact_sum g powers

-- the fuel that a set burns over those seconds: each "its rate"
unfoldable pub fuel_sum : GenSet → List ℕ → ℕ
fuel_sum g [] = 0
fuel_sum g (power ∷ powers) = fuel_rate g power + fuel_sum g powers
