-- The request's demand 3: "the exact sum of its curve, read as zero where it dips below zero". The exact curve of a set in the words of
-- its points alone, in whole numbers: "times the rating and the product of the steps between its points' loads" (01, step 8).
-- Nothing here says how the points around a load are found. A load is a power x 1000 / rating: so `power * 1000` stands beside a point's
-- load times the rating.
use Rattle.std.specs.Prelude.{ℕ, suc, ◌+◌, ◌-◌, ◌*◌, ◌≤◌, ◌<◌, ◌≡◌}
use Rattle.rules.specs.declared.station.GenSet.{GenSet}
use Rattle.rules.specs.Fuel.{load_at, rate_at, step_at, curve_scale}

-- "the two curve points around its load (lower point included; outside the points the nearest two)": the neighbours j and j + 1, of which
-- the lower is at or below the load unless it is the first point, and the upper at or above it unless it is the last
pub record Around (g : GenSet) (power j : ℕ) : Type 0 where
  pub neighbours : suc j < g.points
  pub lower : 0 < j → load_at g j * g.rating ≤ power * 1000
  pub upper : suc (suc j) < g.points → power * 1000 ≤ load_at g (suc j) * g.rating

-- the line through (x₀, y₀) and (x₁, y₁) at x, times x₁ - x₀: y₀ (x₁ - x) + y₁ (x - x₀), and zero where that is below zero, since `-`
-- stops there
abbrev pub line_at : ℕ → ℕ → ℕ → ℕ → ℕ → ℕ
line_at x₀ y₀ x₁ y₁ x = y₀ * x₁ + y₁ * x - (y₀ * x + y₁ * x₀)

-- the value is the exact curve at the power, times `curve_scale g`
pub record OnCurve (g : GenSet) (power value : ℕ) : Type 0 where
  -- at a point's load it is the point's rate
  pub at-point : (j : ℕ) → j < g.points → power * 1000 ≡ load_at g j * g.rating → value ≡ rate_at g j * curve_scale g
  -- and it is on the line of the two points around its load
  pub on_line : (j : ℕ) → Around g power j
      → value * (g.rating * step_at g j) ≡ line_at (load_at g j * g.rating) (rate_at g j) (load_at g (suc j) * g.rating) (rate_at g (suc j)) (power * 1000) * curve_scale g
  -- there are always two such points
  pub place : ℕ
  pub placed : Around g power place
