-- Document 01, step 8: of a set whose checks passed, the rules' exact curve is the client's, in the words of specs/Curve.antt.
-- Assumes nothing.
use Rattle.std.specs.Prelude.{if◌then◌else◌}
use Prim.Native.Nat.{ℕ, zero, suc, ◌+◌, ◌-◌, ◌*◌, ◌≤◌, ◌<◌}
use mathlib.Core.Path.{◌≡◌, refl, sym, ap, ◌∙◌}
use mathlib.Core.Bool.{Bool, true, false}
use native.Mathlib.Omega.{arith}
use native.Mathlib.Decide.{dec_lt}
use native.Mathlib.Nat.{mul-one, mul_comm, mul_assoc, mul_right_comm, mul-lt-mul_of_pos_right, lt_trans, le_of_lt}
use lib.Dec.{leb, eqb}
use lib.ListN.{get_or}
use borrow.Author.Tests.{ne_eqb, eqb-true, eqb-false, leb-true, leb-false, lt-ltb, ltb-true}
use Rattle.rules.specs.declared.station.GenSet.{GenSet}
use Rattle.rules.specs.Numbers.{all_to}
use Rattle.rules.specs.StationRecord.{set_right, pair_right, rises, pairs_right}
use Rattle.rules.specs.Fuel.{load_at, rate_at, step_at, exact_line, not_below_zero, lower_of, lower_point, exact_from, steps_to, other_steps, curve_scale, exact_curve}
use Rattle.rules.specs.Curve.{Around, line_at, OnCurve}
use Rattle.rules.proofs.Tests.{both, to_at, choice}
use Rattle.rules.proofs.StationFacts.{rating-range, points-range}
use Rattle.rules.proofs.Signed.{minus-none, minus-of, minus_plus, minus-times, minus-cut}

-- ---- a line

module _ (x₀ y₀ x₁ y₁ rating : ℕ) (h : x₀ ≤ x₁) where
  -- a rate times the line's width, and the rest of it up to the upper point
  up_to : (y d : ℕ) → d + x₀ ≡ x₁ → y * (rating * d) + y * (x₀ * rating) ≡ y * (x₁ * rating)
  up_to y d e = rw (← e) (omega arith)

  widened : (y : ℕ) → y * (rating * (x₁ - x₀)) + y * (x₀ * rating) ≡ y * (x₁ * rating)
  widened y = up_to y (x₁ - x₀) (omega arith)

  -- the rules' line, cut at zero, is the client's
  cut_line : (power : ℕ) → not_below_zero (exact_line x₀ y₀ x₁ y₁ rating power) ≡ line_at (x₀ * rating) y₀ (x₁ * rating) y₁ (power * 1000)
  unfolding exact_line
  cut_line power =
      let w : ℕ = y₀ * (rating * (x₁ - x₀)) in
      let line = minus_plus (minus-none w) (minus-times (minus-of y₁ y₀) (minus-of (power * 1000) (x₀ * rating))) in
      omega (arith, minus-cut line, widened y₀)

  -- and at its two points their rates, times its width
  line_first : line_at (x₀ * rating) y₀ (x₁ * rating) y₁ (x₀ * rating) ≡ y₀ * (rating * (x₁ - x₀))
  line_first = omega (arith, widened y₀)

  line_second : line_at (x₀ * rating) y₀ (x₁ * rating) y₁ (x₁ * rating) ≡ y₁ * (rating * (x₁ - x₀))
  line_second = omega (arith, widened y₁)

module _ (g : GenSet) where
  -- ---- the scale

  -- the steps before the one left out
  same-steps : (j n : ℕ) → n ≤ j → other_steps g j n ≡ steps_to g n
  unfolding other_steps steps_to
  same-steps j zero h = refl
  same-steps j (suc n) h = rw (ne_eqb n j (λ e. omega (arith, e)), same-steps j n (le_of_lt h))

  -- the step at j and the others are all the steps
  all-steps : (j n : ℕ) → j < n → step_at g j * other_steps g j n ≡ steps_to g n
  unfolding other_steps steps_to
  all-steps j zero h = absurd (omega arith)
  all-steps j (suc n) h = go (λ l. all-steps j n l) (eqb n j) refl
    where
      go : (j < n → step_at g j * other_steps g j n ≡ steps_to g n) → (b : Bool) → eqb n j ≡ b → step_at g j * (other_steps g j n * (if b then 1 else step_at g n)) ≡ steps_to g n * step_at g n
      go before true e =
          let k : n ≡ j = eqb-true n j e in
          rw (← k, mul-one, same-steps n n (omega arith), mul_comm (step_at g n))
      go before false e =
          let less : j < n = omega (arith, eqb-false n j e) in
          sym (mul_assoc (step_at g j) (other_steps g j n) (step_at g n)) ∙ ap (λ (x : ℕ). x * step_at g n) (before less)

  -- a line's own scale, times the other steps, is the curve's
  pub scale-is : (j : ℕ) → suc j < g.points → g.rating * step_at g j * other_steps g j (g.points - 1) ≡ curve_scale g
  unfolding curve_scale
  scale-is j inside =
      mul_assoc g.rating (step_at g j) (other_steps g j (g.points - 1))
      ∙ ap (λ (x : ℕ). g.rating * x) (all-steps j (g.points - 1) (omega arith))

  -- ---- the lower point

  module _ (power : ℕ) where
    -- the load is below every point after it
    lower_last : (n k : ℕ) → lower_of g power n < k → k ≤ n → power * 1000 < load_at g k * g.rating
    unfolding lower_of
    lower_last zero k h l = absurd (omega arith)
    lower_last (suc n) k h l =
        go (leb (load_at g (suc n) * g.rating) (power * 1000)) _ refl h (λ less m. lower_last n k (omega arith) m) (dec_lt n k)
      where
        go : (b : Bool) (j : ℕ) → leb (load_at g (suc n) * g.rating) (power * 1000) ≡ b → (if b then suc n else j) < k
            → (j < k → k ≤ n → power * 1000 < load_at g k * g.rating) → Dec (n < k) → power * 1000 < load_at g k * g.rating
        go true j e less before d = absurd (omega arith)
        go false j e less before (yes m) =
            let same : suc n ≡ k = omega arith in
            rw same at (leb-false (load_at g (suc n) * g.rating) (power * 1000) e)
        go false j e less before (no m) = before less (omega (arith, m))

    lower-most : (n : ℕ) → lower_of g power n ≤ n
    unfolding lower_of
    lower-most zero = omega arith
    lower-most (suc n) = go (leb (load_at g (suc n) * g.rating) (power * 1000)) (lower-most n)
      where
        go : (b : Bool) → lower_of g power n ≤ n → (if b then suc n else lower_of g power n) ≤ suc n
        go true h = omega arith
        go false h = omega arith

    -- and at or above the point itself, unless that is the first
    lower-reached : (n : ℕ) → 0 < lower_of g power n → load_at g (lower_of g power n) * g.rating ≤ power * 1000
    unfolding lower_of
    lower-reached zero h = absurd (omega arith)
    lower-reached (suc n) h =
        choice (λ (x : ℕ). 0 < x → load_at g x * g.rating ≤ power * 1000) (leb (load_at g (suc n) * g.rating) (power * 1000)) (suc n) (lower_of g power n)
        (λ e some. leb-true (load_at g (suc n) * g.rating) (power * 1000) e) (λ e. lower-reached n) h

-- ---- of a set whose checks passed

-- the lower point has a point above it
pub lower-inside : (g : GenSet) → set_right g ≡ true → (power : ℕ) → suc (lower_point g power) < g.points
unfolding lower_point
lower-inside g numbers power = omega (arith, lower-most g power (g.points - 2), (points-range g numbers).0)

lower-around : (g : GenSet) → set_right g ≡ true → (power : ℕ) → Around g power (lower_point g power)
unfolding lower_point
lower-around g numbers power =
    record {
      neighbours = lower-inside g numbers power;
      lower = lower-reached g power (g.points - 2);
      upper = λ h. le_of_lt (lower_last g power (g.points - 2) (suc (lower_of g power (g.points - 2))) (omega arith) (omega arith));
    }

module _ (g : GenSet) (numbers : set_right g ≡ true) (pairs : pairs_right g ≡ true) where
  -- "Loads rise strictly"
  pub loads-rise : (j : ℕ) → suc j < g.points → load_at g j < load_at g (suc j)
  unfolding pairs_right
  loads-rise j h =
      let p : ℕ → Bool = λ i. pair_right g.points i (get_or g.loads i 0) (get_or g.rates i 0) in
      let q : ℕ → Bool = λ i. rises g.points i (get_or g.loads i 0) (get_or g.loads (suc i) 0) in
      let k : rises g.points j (get_or g.loads j 0) (get_or g.loads (suc j) 0) ≡ true =
      to_at q 4 (both (all_to 5 p) (all_to 4 q) pairs).1 j (omega (arith, (points-range g numbers).1)) in
      ltb-true (load_at g j) (load_at g (suc j)) (rw (lt-ltb (suc j) g.points h) at k)

  in_order : (i j : ℕ) → i < j → j < g.points → load_at g i * g.rating < load_at g j * g.rating
  in_order i zero h l = absurd (omega arith)
  in_order i (suc j) h l = go (in_order i j) (dec_lt i j)
    where
      last : load_at g j * g.rating < load_at g (suc j) * g.rating
      last = mul-lt-mul_of_pos_right (loads-rise j l) (rating-range g numbers).0

      go : (i < j → j < g.points → load_at g i * g.rating < load_at g j * g.rating) → Dec (i < j) → load_at g i * g.rating < load_at g (suc j) * g.rating
      go before (yes k) = lt_trans (before k (omega arith)) last
      go before (no k) = let same : i ≡ j = omega (arith, k) in rw same last

  module _ (power : ℕ) where
    -- the line of the points j and j + 1
    line_of : ℕ → ℕ
    line_of j = line_at (load_at g j * g.rating) (rate_at g j) (load_at g (suc j) * g.rating) (rate_at g (suc j)) (power * 1000)

    -- ---- two pairs of points around one load share a point, and the load is there

    shared : (j k : ℕ) → j < k → Around g power j → Around g power k → power * 1000 ≡ load_at g k * g.rating
    shared j k h low high = go (dec_lt (suc j) k)
      where
        most : power * 1000 ≤ load_at g (suc j) * g.rating
        most = low.upper (omega (arith, high.neighbours))

        least : load_at g k * g.rating ≤ power * 1000
        least = high.lower (omega arith)

        go : Dec (suc j < k) → power * 1000 ≡ load_at g k * g.rating
        go (yes l) = absurd (omega (arith, most, least, in_order (suc j) k l (omega (arith, high.neighbours))))
        go (no l) =
            let same : suc j ≡ k = omega (arith, l) in
            let most' : power * 1000 ≤ load_at g k * g.rating = rw same at most in
            omega (arith, most', least)

    -- a line around the load of a point has the point's rate there
    line-point : (j i : ℕ) → Around g power j → i < g.points → power * 1000 ≡ load_at g i * g.rating → line_of j ≡ rate_at g i * (g.rating * step_at g j)
    unfolding line_of
    line-point j i around h e = go (dec_lt i j) (dec_lt j i) (dec_lt (suc j) i)
      where
        rising : load_at g j ≤ load_at g (suc j)
        rising = le_of_lt (loads-rise j around.neighbours)

        go : Dec (i < j) → Dec (j < i) → Dec (suc j < i) → line_of j ≡ rate_at g i * (g.rating * step_at g j)
        go (yes l) _ _ = absurd (omega (arith, around.lower (omega arith), in_order i j l (omega (arith, around.neighbours))))
        go (no l) (no m) _ =
            let same : i ≡ j = omega (arith, l, m) in
            rw (e, same) (line_first (load_at g j) (rate_at g j) (load_at g (suc j)) (rate_at g (suc j)) g.rating rising)
        go (no l) (yes m) (yes k) = absurd (omega (arith, around.upper (omega arith), in_order (suc j) i k h))
        go (no l) (yes m) (no k) =
            let same : i ≡ suc j = omega (arith, m, k) in
            rw (e, same) (line_second (load_at g j) (rate_at g j) (load_at g (suc j)) (rate_at g (suc j)) g.rating rising)

    -- ---- the exact curve

    at : ℕ
    at = lower_point g power

    others : ℕ
    others = other_steps g at (g.points - 1)

    around-at : Around g power at
    unfolding at
    around-at = lower-around g numbers power

    exact-is : exact_curve g power ≡ line_of at * others
    unfolding exact_curve exact_from line_of others at
    exact-is =
        let rising : load_at g at ≤ load_at g (suc at) = le_of_lt (loads-rise at around-at.neighbours) in
        ap (λ (x : ℕ). x * others) (cut_line (load_at g at) (rate_at g at) (load_at g (suc at)) (rate_at g (suc at)) g.rating rising power)

    scaled : g.rating * step_at g at * others ≡ curve_scale g
    unfolding others
    scaled = scale-is g at around-at.neighbours

    exact-point : (i : ℕ) → i < g.points → power * 1000 ≡ load_at g i * g.rating → exact_curve g power ≡ rate_at g i * curve_scale g
    exact-point i h e =
        exact-is
        ∙ ap (λ (x : ℕ). x * others) (line-point at i around-at h e)
        ∙ mul_assoc (rate_at g i) (g.rating * step_at g at) others
        ∙ ap (λ (x : ℕ). rate_at g i * x) scaled

    exact-at : exact_curve g power * (g.rating * step_at g at) ≡ line_of at * curve_scale g
    exact-at =
        ap (λ (x : ℕ). x * (g.rating * step_at g at)) exact-is
        ∙ mul_assoc (line_of at) others (g.rating * step_at g at)
        ∙ ap (λ (x : ℕ). line_of at * x) (mul_comm others (g.rating * step_at g at) ∙ scaled)

    -- where the load is a point's, every line around it gives the same
    exact-beside : (j i : ℕ) → Around g power j → i < g.points → power * 1000 ≡ load_at g i * g.rating
        → exact_curve g power * (g.rating * step_at g j) ≡ line_of j * curve_scale g
    exact-beside j i around h e =
        rw (exact-point i h e, line-point j i around h e) (mul_right_comm (rate_at g i) (curve_scale g) (g.rating * step_at g j))

    exact-on-line : (j : ℕ) → Around g power j → exact_curve g power * (g.rating * step_at g j) ≡ line_of j * curve_scale g
    exact-on-line j around = go (dec_lt j at) (dec_lt at j)
      where
        go : Dec (j < at) → Dec (at < j) → exact_curve g power * (g.rating * step_at g j) ≡ line_of j * curve_scale g
        go (yes l) _ = exact-beside j at around (omega (arith, around-at.neighbours)) (shared j at l around around-at)
        go (no l) (yes m) = exact-beside j j around (omega (arith, around.neighbours)) (shared at j m around-at around)
        go (no l) (no m) = let same : j ≡ at = omega (arith, l, m) in rw same exact-at

-- the rules' exact curve is the one through the set's points
pub exact-on-curve : (g : GenSet) → set_right g ≡ true → pairs_right g ≡ true → (power : ℕ) → OnCurve g power (exact_curve g power)
unfolding line_of
exact-on-curve g numbers pairs power =
    record {
      at-point = exact-point g numbers pairs power;
      on_line = exact-on-line g numbers pairs power;
      place = lower_point g power;
      placed = lower-around g numbers power;
    }
