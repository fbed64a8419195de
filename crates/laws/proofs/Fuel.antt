-- Document 01, step 8, and the request's demand 3: a set's rate is the exact curve rounded down, in whole numbers, and so are
-- its sums over any list of powers: never above, and short of it by less than one unit for each second. Assumes nothing.
use Rattle.std.specs.Prelude.{if◌then◌else◌}
use Prim.Native.Nat.{ℕ, zero, suc, ◌+◌, ◌-◌, ◌*◌, ◌/◌, ◌≤◌, ◌<◌}
use mathlib.Core.Path.{◌≡◌, subst}
use mathlib.Core.Bool.{Bool, true, false}
use mathlib.Core.List.{List, [], ◌∷◌}
use native.Mathlib.Omega.{arith}
use native.Mathlib.Nat.{mul_assoc, mul-pos, mul-le-mul_right, mul-lt-mul_of_pos_right, div-mul-le_self, div-lt_iff_lt-mul, add-mul, add-le-add}
use lib.Dec.{eqb}
use lib.ListN.{length}
use Rattle.rules.specs.declared.station.GenSet.{GenSet}
use Rattle.rules.specs.StationRecord.{set_right, pairs_right}
use Rattle.rules.specs.Fuel.{step_at, lower_point, exact_from, fuel_rate, steps_to, other_steps, curve_scale, exact_curve, exact_sum, fuel_sum}
use Rattle.rules.proofs.StationFacts.{rating-range, points-range}
use Rattle.rules.proofs.Curve.{lower-inside, loads-rise, scale-is}

-- a quotient's bounds, times any number
quotient : (n w o : ℕ) → n / w * (w * o) ≤ n * o
quotient n w o = subst (λ (x : ℕ). x ≤ n * o) (mul_assoc (n / w) w o) (mul-le-mul_right o (div-mul-le_self n w))

quotient-above : (n w o : ℕ) → 0 < w → 0 < o → n * o < (n / w + 1) * (w * o)
quotient-above n w o p q =
    subst (λ (x : ℕ). n * o < x) (mul_assoc (n / w + 1) w o) (mul-lt-mul_of_pos_right ((div-lt_iff_lt-mul p).0 (omega arith)) q)

-- ---- of a set whose checks passed

module _ (g : GenSet) (numbers : set_right g ≡ true) (pairs : pairs_right g ≡ true) where
  others-some : (j n : ℕ) → n < g.points → 0 < other_steps g j n
  unfolding other_steps
  others-some j zero h = omega arith
  others-some j (suc n) h = mul-pos (others-some j n (omega arith)) (go (eqb n j))
    where
      go : (b : Bool) → 0 < (if b then 1 else step_at g n)
      go true = omega arith
      go false = omega (arith, loads-rise g numbers pairs n h)

  steps-some : (n : ℕ) → n < g.points → 0 < steps_to g n
  unfolding steps_to
  steps-some zero h = omega arith
  steps-some (suc n) h = mul-pos (steps-some n (omega arith)) (omega (arith, loads-rise g numbers pairs n h))

  pub scale-some : 0 < curve_scale g
  unfolding curve_scale
  scale-some = mul-pos (omega (arith, (rating-range g numbers).0)) (steps-some (g.points - 1) (omega (arith, (points-range g numbers).0)))

  module _ (power : ℕ) where
    at : ℕ
    at = lower_point g power

    inside : suc at < g.points
    unfolding at
    inside = lower-inside g numbers power

    wide : 0 < g.rating * step_at g at
    wide = mul-pos (omega (arith, (rating-range g numbers).0)) (omega (arith, loads-rise g numbers pairs at inside))

    -- "never above the exact sum of its curve", for one second
    pub rate-below : fuel_rate g power * curve_scale g ≤ exact_curve g power
    unfolding fuel_rate exact_curve at
    rate-below =
        subst (λ (x : ℕ). fuel_rate g power * x ≤ exact_curve g power) (scale-is g at inside)
        (quotient (exact_from g power at) (g.rating * step_at g at) (other_steps g at (g.points - 1)))

    -- "and below that sum by at most one unit": by less
    pub rate-above : exact_curve g power < (fuel_rate g power + 1) * curve_scale g
    unfolding fuel_rate exact_curve at
    rate-above =
        subst (λ (x : ℕ). exact_curve g power < (fuel_rate g power + 1) * x) (scale-is g at inside)
        (quotient-above (exact_from g power at) (g.rating * step_at g at) (other_steps g at (g.points - 1)) wide (others-some at (g.points - 1) (omega (arith, (points-range g numbers).0))))

  -- the same of sums: "never above the exact sum of its curve .. and below that sum by at most one unit for each second run"
  pub sum_below : (powers : List ℕ) → fuel_sum g powers * curve_scale g ≤ exact_sum g powers
  unfolding fuel_sum exact_sum
  sum_below [] = omega arith
  sum_below (p ∷ ps) = rw add-mul (add-le-add (rate-below p) (sum_below ps))

  pub sum-above : (powers : List ℕ) → exact_sum g powers ≤ (fuel_sum g powers + length powers) * curve_scale g
  unfolding fuel_sum exact_sum
  sum-above [] = omega arith
  sum-above (p ∷ ps) =
      let e : fuel_rate g p + fuel_sum g ps + suc (length ps) ≡ fuel_rate g p + 1 + (fuel_sum g ps + length ps) = omega arith in
      rw (e, add-mul (fuel_rate g p + 1) (fuel_sum g ps + length ps) (curve_scale g)) (omega (arith, rate-above p, sum-above ps))
