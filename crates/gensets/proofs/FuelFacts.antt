-- The rate of a set, case by case: out of range for numbers that no file gives, and the rules' own rate for every set of a station
-- that some file gives, up to twice its rating. Assumes nothing.
use Rattle.std.specs.Prelude.{Ok, Err}
use mathlib.Core.Path.{◌≡◌, refl, sym}
use mathlib.Core.Bool.{true, false}
use Prim.Native.Nat.{ℕ, suc, ◌*◌, ◌/◌, ◌≤◌, ◌<◌}
use native.Mathlib.Omega.{arith}
use borrow.Author.Tests.{le-leb, lt-leb, lt-ltb, le-ltb}
use Rattle.rules.specs.declared.station.GenSet.{GenSet}
use Rattle.rules.specs.declared.station.Station.{Station}
use Rattle.rules.specs.StationRecord.{set_at, set_right, pairs_right, some_file_gives}
use Rattle.rules.specs.Fuel.{load_at, rate_at, step_at, lower_point, exact_from, fuel_rate}
use Rattle.rules.proofs.Tests.{and-true, fact-within}
use Rattle.rules.proofs.Shapes.{Shaped, tables-of}
use Rattle.rules.proofs.StationFacts.{rating-range, points-range, pair-at, right_of}
use Rattle.rules.proofs.Curve.{loads-rise, lower-inside}
use Rattle.laws.proofs.StationAt.{set-at}
use Rattle.gensets.specs.Leaves.{line_right, rateable, rate_told}
use Rattle.gensets.specs.declared.fuel.NoRate.{NoRate}

-- ---- any record

module _ (g : GenSet) (power : ℕ) where
  pub too_few : g.points < 2 → Err NoRate.OutOfRange ≡ rate_told g power
  unfolding rate_told rateable
  too_few h = rw (lt-leb 2 g.points h)

  pub too_many : 5 < g.points → Err NoRate.OutOfRange ≡ rate_told g power
  unfolding rate_told rateable
  too_many h = rw (le-leb 2 g.points (omega arith), lt-leb g.points 5 h)

  -- where the count of points is in rule, and j is the lower point
  module _ (least : 2 ≤ g.points) (most : g.points ≤ 5) (j : ℕ) (lower : j ≡ lower_point g power) where
    pub line-wrong : line_right g j ≡ false → Err NoRate.OutOfRange ≡ rate_told g power
    unfolding rate_told rateable
    line-wrong h = rw (← lower, fact-within 2 5 g.points least most, h)

    pub power-over : line_right g j ≡ true → 2 * g.rating < power → Err NoRate.OverTwiceRating ≡ rate_told g power
    unfolding rate_told rateable
    power-over h l = rw (← lower, fact-within 2 5 g.points least most, h, lt-ltb (2 * g.rating) power l)

    pub rate-given : line_right g j ≡ true → power ≤ 2 * g.rating → Ok (exact_from g power j / (g.rating * step_at g j)) ≡ rate_told g power
    unfolding rate_told rateable fuel_rate
    rate-given h l = rw (← lower, fact-within 2 5 g.points least most, h, le-ltb (2 * g.rating) power l)

-- ---- a set whose checks passed

module _ (g : GenSet) (numbers : set_right g ≡ true) (pairs : pairs_right g ≡ true) where
  -- every line that its curve has
  pub line-inside : (j : ℕ) → suc j < g.points → line_right g j ≡ true
  unfolding line_right
  line-inside j inside =
      let here = pair-at g pairs j (omega (arith, inside, (points-range g numbers).1)) in
      let next = pair-at g pairs (suc j) (omega (arith, inside, (points-range g numbers).1)) in
      let rated = fact-within 1 10_000_000 g.rating (rating-range g numbers).0 (rating-range g numbers).1 in
      let rising = lt-ltb (load_at g j) (load_at g (suc j)) (loads-rise g numbers pairs j inside) in
      and-true (and-true (and-true (and-true rated rising) (le-leb (load_at g (suc j)) 1_500 next.0)) (le-leb (rate_at g j) 10_000_000 here.1)) (le-leb (rate_at g (suc j)) 10_000_000 next.1)

  pub line-passes : (power : ℕ) → line_right g (lower_point g power) ≡ true
  line-passes power = line-inside (lower_point g power) (lower-inside g numbers power)

  pub rate-known : (power : ℕ) → power ≤ 2 * g.rating → rate_told g power ≡ Ok (fuel_rate g power)
  unfolding fuel_rate
  rate-known power h =
      sym (rate-given g power (points-range g numbers).0 (points-range g numbers).1 (lower_point g power) refl (line-passes power) h)

-- ---- a station that some file gives

pub station-rate : (st : Station) → Shaped st → some_file_gives st ≡ true → (i : ℕ) → i < st.setcount → (power : ℕ) → power ≤ 2 * (set_at st.sets i).rating
    → rate_told (set_at st.sets i) power ≡ Ok (fuel_rate (set_at st.sets i) power)
station-rate st shaped given i h power l =
    let right = set-at st (tables-of shaped) (right_of st given) i h in
    rate-known (set_at st.sets i) right.0 right.1 power l
