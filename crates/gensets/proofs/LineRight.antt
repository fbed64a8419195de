-- The line between two points that are in rule: how large the numbers on the way to its rate are, and how its lower point is
-- found from the last place down. Assumes nothing.
use mathlib.Core.Path.{◌≡◌, refl, ap}
use mathlib.Core.Bool.{true}
use Prim.Native.Nat.{ℕ, zero, suc, ◌-◌, ◌*◌, ◌≤◌, ◌<◌}
use native.Mathlib.Nat.{mul-le-mul, mul-pos}
use native.Mathlib.Omega.{arith}
use lib.ListN.{get_or}
use borrow.Author.Tests.{le-leb, lt-leb, leb-true, ltb-true}
use Rattle.rules.specs.declared.station.GenSet.{GenSet}
use Rattle.rules.specs.Fuel.{load_at, rate_at, step_at, lower_of}
use Rattle.rules.proofs.Tests.{all-at, within-fact}
use Rattle.gensets.specs.Leaves.{line_rules, line_right}

-- ---- the points j and j + 1 of a set, in rule

module _ (g : GenSet) (j : ℕ) (right : line_right g j ≡ true) where
  rule : (i : ℕ) → get_or (line_rules g j) i true ≡ true
  unfolding line_right
  rule i = all-at (line_rules g j) i right

  pub rated : (1 ≤ g.rating) × (g.rating ≤ 10_000_000)
  rated = within-fact 1 10_000_000 g.rating (rule 0)

  pub rising : load_at g j < load_at g (suc j)
  rising = ltb-true _ _ (rule 1)

  load-most : load_at g (suc j) ≤ 1_500
  load-most = leb-true _ _ (rule 2)

  pub first-most : rate_at g j ≤ 10_000_000
  first-most = leb-true _ _ (rule 3)

  pub second-most : rate_at g (suc j) ≤ 10_000_000
  second-most = leb-true _ _ (rule 4)

  -- the line's scale
  pub width_some : 0 < g.rating * step_at g j
  width_some = mul-pos rated.0 (omega (arith, rising))

  pub width-most : g.rating * step_at g j ≤ 15_000_000_000
  width-most = mul-le-mul {n₂ = 10_000_000} {m₂ = 1_500} rated.1 (omega (arith, load-most))

  -- the first point's rate, in that scale
  pub base-most : rate_at g j * (g.rating * step_at g j) ≤ 150_000_000_000_000_000
  base-most = mul-le-mul first-most width-most

  -- the first point's load, in thousandths of a W
  pub start-most : load_at g j * g.rating ≤ 15_000_000_000
  start-most = mul-le-mul {n₂ = 1_500} {m₂ = 10_000_000} (omega (arith, rising, load-most)) rated.1

-- ---- the lower point

module _ (g : GenSet) (power : ℕ) where
  pub point-taken : (j : ℕ) → 0 < j → load_at g j * g.rating ≤ power * 1000 → lower_of g power j ≡ j
  unfolding lower_of
  point-taken zero p h = refl
  point-taken (suc j) p h = rw (le-leb (load_at g (suc j) * g.rating) (power * 1000) h)

  pub point-passed : (j : ℕ) → 0 < j → power * 1000 < load_at g j * g.rating → lower_of g power j ≡ lower_of g power (j - 1)
  unfolding lower_of
  point-passed zero p h = refl
  point-passed (suc j) p h =
      let less : j ≡ suc j - 1 = omega arith in
      rw (lt-leb (load_at g (suc j) * g.rating) (power * 1000) h) (ap (lower_of g power) less)
