-- A set's lines read from the table: how many of those after the first have begun is the lower point's place, and that line gives the
-- rate. Assumes nothing.
use Rattle.std.specs.Prelude.{if◌then◌else◌}
use mir.Val.{bool_byte}
use Prim.Native.Nat.{ℕ, zero, suc, ◌+◌, ◌-◌, ◌*◌, ◌≤◌, ◌<◌}
use mathlib.Core.Path.{◌≡◌, refl, ap, ◌∙◌}
use mathlib.Core.Bool.{Bool, true, false}
use mathlib.Core.List.{List}
use native.Mathlib.Omega.{arith}
use native.Mathlib.Nat.{mul-le-mul_right}
use lib.Dec.{leb}
use lib.ListN.{get_or}
use borrow.Author.Tests.{le-leb, lt-leb, leb-true, leb-false, lt-ltb, le-ltb}
use Rattle.rules.specs.declared.station.GenSet.{GenSet}
use Rattle.rules.specs.Numbers.{sum_to}
use Rattle.rules.specs.Fuel.{load_at, lower_of, lower_point, fuel_rate}
use Rattle.rules.proofs.StationFacts.{rating-range, points-range}
use Rattle.rules.proofs.Curve.{loads-rise, lower-inside}
use Rattle.rules.proofs.Tables.{tab-at}
use Rattle.laws.proofs.FuelMost.{rate-most}
use Rattle.gensets.specs.Leaves.{line_right}
use Rattle.gensets.specs.declared.line.Line.{Line}
use Rattle.gensets.specs.Burned.{per_hour}
use Rattle.gensets.specs.Lines.{line_from, rate_on}
use Rattle.gensets.proofs.LineSmall.{right-rate}
use Rattle.gensets.proofs.FuelFacts.{line-passes}
use Rattle.steady.specs.CurveTable.{InRule, line_or_none, lines_of}

-- 1 where a line begins at or below a power x 1000
abbrev pub begun : ℕ → ℕ → ℕ
begun start at = bool_byte (leb start at)

begun-one : (start at : ℕ) → start ≤ at → begun start at ≡ 1
begun-one start at h = rw (le-leb start at h)

begun-none : (start at : ℕ) → at < start → begun start at ≡ 0
begun-none start at h = rw (lt-leb start at h)

-- ---- a count of beginnings that rise

module _ (g : GenSet) (power : ℕ) (right : InRule g) (start : ℕ → ℕ) (starts : (j : ℕ) → suc j < g.points → start j ≡ load_at g j * g.rating) where
  -- of the n lines after the first
  begun_to : ℕ → ℕ
  begun_to n = sum_to n (λ k. begun (start (suc k)) (power * 1000))

  -- where one has begun, all before it have
  all-begun : (n : ℕ) → suc n < g.points → start n ≤ power * 1000 → begun_to n ≡ n
  unfolding begun_to sum_to
  all-begun zero l h = refl
  all-begun (suc n) l h =
      let less : load_at g n ≤ load_at g (suc n) = omega (arith, loads-rise g right.numbers right.pairs n (omega arith)) in
      let rises : load_at g n * g.rating ≤ load_at g (suc n) * g.rating = mul-le-mul_right g.rating less in
      let before : start n ≤ power * 1000 = omega (arith, starts n (omega arith), starts (suc n) l, rises) in
      omega (arith, all-begun n (omega arith) before, begun-one (start (suc n)) (power * 1000) h)

  begun-lower : (n : ℕ) → suc n < g.points → begun_to n ≡ lower_of g power n
  unfolding begun_to sum_to lower_of
  begun-lower zero l = refl
  begun-lower (suc n) l = go (leb (load_at g (suc n) * g.rating) (power * 1000)) refl (begun-lower n (omega arith))
    where
      go : (b : Bool) → leb (load_at g (suc n) * g.rating) (power * 1000) ≡ b → begun_to n ≡ lower_of g power n → begun_to (suc n) ≡ (if b then suc n else lower_of g power n)
      go true e h =
          let here : start (suc n) ≤ power * 1000 = omega (arith, starts (suc n) l, leb-true (load_at g (suc n) * g.rating) (power * 1000) e) in
          all-begun (suc n) l here
      go false e h =
          let here : power * 1000 < start (suc n) = omega (arith, starts (suc n) l, leb-false (load_at g (suc n) * g.rating) (power * 1000) e) in
          omega (arith, h, begun-none (start (suc n)) (power * 1000) here)

  -- a line that the curve has not never begins
  none-beyond : ((j : ℕ) → j < 4 → g.points ≤ suc j → power * 1000 < start j) → (n d : ℕ) → g.points ≤ suc (suc n) → n + d ≤ 3 → begun_to (n + d) ≡ begun_to n
  unfolding begun_to sum_to
  none-beyond beyond n zero p l = let e : n + 0 ≡ n = omega arith in rw e
  none-beyond beyond n (suc d) p l =
      let e : n + suc d ≡ suc (n + d) = omega arith in
      let last = begun-none (start (suc (n + d))) (power * 1000) (beyond (suc (n + d)) (omega arith) (omega arith)) in
      rw e (omega (arith, none-beyond beyond n d p (omega arith), last))

  pub counted-lower : ((j : ℕ) → j < 4 → g.points ≤ suc j → power * 1000 < start j)
      → begun (start 1) (power * 1000) + begun (start 2) (power * 1000) + begun (start 3) (power * 1000) ≡ lower_point g power
  unfolding begun_to sum_to lower_point
  counted-lower beyond =
      let range = points-range g right.numbers in
      let e : g.points - 2 + (5 - g.points) ≡ 3 = omega (arith, range) in
      let all : begun_to 3 ≡ begun_to (g.points - 2) = rw e at (none-beyond beyond (g.points - 2) (5 - g.points) (omega (arith, range)) (omega (arith, range))) in
      omega (arith, all, begun-lower (g.points - 2) (omega (arith, range)))

-- ---- a set's lines

module _ (g : GenSet) (right : InRule g) (power : ℕ) (most : power ≤ g.rating) where
  thousands : power * 1000 ≤ 10_000_000_000
  thousands = omega (arith, most, (rating-range g right.numbers).1)

  begins : (j : ℕ) → suc j < g.points → (line_or_none g j).start ≡ load_at g j * g.rating
  unfolding line_or_none
  begins j l = rw (lt-ltb (suc j) g.points l)

  beyond : (j : ℕ) → j < 4 → g.points ≤ suc j → power * 1000 < (line_or_none g j).start
  unfolding line_or_none
  beyond j l h = rw (le-ltb (suc j) g.points h) (omega (arith, thousands))

  module _ (lines : List Line) (are : lines ≡ lines_of g) (d : Line) where
    stands : (j : ℕ) → j < 4 → get_or lines j d ≡ line_or_none g j
    unfolding lines_of
    stands j l = ap (λ (k : List Line). get_or k j d) are ∙ tab-at (line_or_none g) 4 j d l

    -- how many of the lines after the first have begun
    abbrev pub begun_three : ℕ
    begun_three =
        begun (get_or lines 1 d).start (power * 1000) + begun (get_or lines 2 d).start (power * 1000) + begun (get_or lines 3 d).start (power * 1000)

    pub line-counted : begun_three ≡ lower_point g power
    line-counted =
        rw (stands 1 (omega arith), stands 2 (omega arith), stands 3 (omega arith)) (counted-lower g power right (λ j. (line_or_none g j).start) begins beyond)

    -- the rate on the line of the lower point is the set's
    module _ (j : ℕ) (is : j ≡ lower_point g power) where
      inside : suc j < g.points
      inside = rw is (lower-inside g right.numbers power)

      drawn : get_or lines j d ≡ line_from g j
      unfolding line_or_none
      drawn = stands j (omega (arith, inside, (points-range g right.numbers).1)) ∙ rw (lt-ltb (suc j) g.points inside)

      rate_at-it : (per_hour (rate_on (get_or lines j d) (power * 1000)) ≡ fuel_rate g power) × (per_hour (rate_on (get_or lines j d) (power * 1000)) ≤ 15_000_000_000)
      unfolding fuel_rate
      rate_at-it =
          let near : power * 1000 ≤ 20_000_000_000 = omega (arith, thousands) in
          let in-line : line_right g j ≡ true = rw is (line-passes g right.numbers right.pairs power) in
          let same : per_hour (rate_on (get_or lines j d) (power * 1000)) ≡ fuel_rate g power = rw (drawn, right-rate g j in-line power near, is) in
          (same, rw same (rate-most g right.numbers right.pairs power most))

    pub rate-read : (per_hour (rate_on (get_or lines begun_three d) (power * 1000)) ≡ fuel_rate g power) × (per_hour (rate_on (get_or lines begun_three d) (power * 1000)) ≤ 15_000_000_000)
    rate-read = rate_at-it begun_three line-counted
