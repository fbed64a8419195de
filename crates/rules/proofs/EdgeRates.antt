-- Document 01, step 8: a set's rate at, between and outside the points of its curve, and the exact curve in whole numbers; of a rating of
-- 1,000 W, so that a load in thousandths is a power in W. By computation. Assumes nothing.
use Prim.Native.Nat.{ℕ}
use mathlib.Core.Path.{◌≡◌, refl}
use mathlib.Core.List.{List, [], ◌∷◌, map}
use Rattle.rules.specs.declared.station.GenSet.{GenSet}
use Rattle.rules.specs.StationFile.{set_of}
use Rattle.rules.specs.Fuel.{exact_line, lower_of, lower_point, exact_from, fuel_rate, fuel_sum}
use Rattle.rules.specs.Fuel.{steps_to, other_steps, curve_scale, exact_curve, exact_sum}
use Rattle.rules.specs.Cases.{Case, ◌shows◌}
use Rattle.rules.proofs.EdgeRecords.{◌is◌, given, said}

abbrev curve : ℕ → List ℕ → GenSet
curve points pairs = set_of (1000 ∷ 1 ∷ 1 ∷ 0 ∷ 0 ∷ points ∷ pairs)

abbrev five_points : GenSet
five_points = curve 5 (100 ∷ 1000 ∷ 300 ∷ 500 ∷ 500 ∷ 900 ∷ 800 ∷ 2400 ∷ 1000 ∷ 2600 ∷ [])

abbrev four_points : GenSet
four_points = curve 4 (0 ∷ 0 ∷ 500 ∷ 100 ∷ 1000 ∷ 400 ∷ 1500 ∷ 400 ∷ [])

abbrev three_points : GenSet
three_points = curve 3 (0 ∷ 0 ∷ 500 ∷ 100 ∷ 1000 ∷ 400 ∷ [])

abbrev falling : GenSet
falling = curve 2 (0 ∷ 100 ∷ 100 ∷ 0 ∷ [])

-- "rounded down to mL/h", of thirds
abbrev of_thirds : GenSet
of_thirds = set_of (3 ∷ 1 ∷ 1 ∷ 0 ∷ 0 ∷ 2 ∷ 0 ∷ 0 ∷ 1000 ∷ 10 ∷ [])

abbrev rate_edges : List Case
rate_edges =
    -- at the points and between them, on both sides of each
    (map (fuel_rate five_points) (100 ∷ 200 ∷ 299 ∷ 300 ∷ 301 ∷ 400 ∷ 500 ∷ 501 ∷ 799 ∷ 800 ∷ 801 ∷ 1000 ∷ [])
    shows 1000 ∷ 750 ∷ 502 ∷ 500 ∷ 502 ∷ 700 ∷ 900 ∷ 905 ∷ 2395 ∷ 2400 ∷ 2401 ∷ 2600 ∷ [])
    -- "outside the points the nearest two"
    ∷ (map (fuel_rate five_points) (0 ∷ 1100 ∷ []) shows 1250 ∷ 2700 ∷ [])
    ∷ (map (fuel_rate four_points) (400 ∷ 900 ∷ 1200 ∷ 1500 ∷ []) shows 80 ∷ 340 ∷ 400 ∷ 400 ∷ [])
    ∷ (map (fuel_rate three_points) (400 ∷ 500 ∷ 600 ∷ 1000 ∷ []) shows 80 ∷ 100 ∷ 160 ∷ 400 ∷ [])
    -- "never below zero", "The slope may be negative."
    ∷ (map (fuel_rate falling) (0 ∷ 99 ∷ 100 ∷ 101 ∷ 1000 ∷ []) shows 100 ∷ 1 ∷ 0 ∷ 0 ∷ 0 ∷ [])
    ∷ (map (fuel_rate of_thirds) (0 ∷ 1 ∷ 2 ∷ 3 ∷ []) shows 0 ∷ 3 ∷ 6 ∷ 10 ∷ [])
    -- "times the rating and the product of the steps between its points' loads"
    ∷ (curve_scale five_points is 2_400_000_000_000)
    ∷ (curve_scale three_points is 250_000_000)
    ∷ (exact_curve three_points 401 is 20_050_000_000)
    ∷ (exact_curve five_points 299 is 1_206_000_000_000_000)
    ∷ (exact_curve falling 101 is 0)
    -- "sums of it"
    ∷ (exact_sum three_points (600 ∷ 401 ∷ []) is 60_050_000_000)
    ∷ (fuel_sum three_points (600 ∷ 401 ∷ []) is 240)
    ∷ []

pub rate-edges : given rate_edges ≡ said rate_edges
unfolding exact_line lower_of lower_point exact_from fuel_rate steps_to other_steps curve_scale exact_curve exact_sum fuel_sum
rate-edges = refl
