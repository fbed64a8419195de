-- A line whose numbers a file may have: how large the numbers on the way to its height are, its rate case by case, and that a line in rule is
-- such a one. Assumes nothing.
use Rattle.std.specs.Prelude.{Ok, Err}
use mathlib.Core.Path.{◌≡◌, sym}
use mathlib.Core.Bool.{true, false}
use Prim.Native.Nat.{ℕ, suc, ◌*◌, ◌/◌, ◌≤◌, ◌<◌}
use native.Mathlib.Nat.{mul-le-mul}
use lib.ListN.{get_or}
use borrow.Author.Tests.{le-leb, lt-leb, lt-ltb, leb-true}
use Rattle.rules.specs.declared.station.GenSet.{GenSet}
use Rattle.rules.specs.Fuel.{load_at, rate_at, step_at, exact_line, exact_from}
use Rattle.rules.proofs.Tests.{all-at, and-true, within-fact, fact-within}
use Rattle.gensets.specs.declared.line.Line.{Line}
use Rattle.gensets.specs.Leaves.{line_right}
use Rattle.gensets.specs.Lines.{line_from, line_of, line_limits, line_small, height_of, rate_on}
use Rattle.gensets.proofs.LineRight.{first-most, second-most, width_some, width-most, start-most}
use Rattle.gensets.specs.declared.fuel.NoRate.{NoRate}

-- ---- any line

module _ (line : Line) (small : line_small line ≡ true) where
  limit : (i : ℕ) → get_or (line_limits line) i true ≡ true
  unfolding line_small
  limit i = all-at (line_limits line) i small

  pub width_small : (1 ≤ line.width) × (line.width ≤ 15_000_000_000)
  width_small = within-fact 1 15_000_000_000 line.width (limit 0)

  pub start_small : line.start ≤ 15_000_000_000
  start_small = leb-true _ _ (limit 1)

  pub first_small : line.first ≤ 10_000_000
  first_small = leb-true _ _ (limit 2)

  pub second-small : line.second ≤ 10_000_000
  second-small = leb-true _ _ (limit 3)

  pub base-small : line.first * line.width ≤ 150_000_000_000_000_000
  base-small = mul-le-mul first_small width_small.1

  pub rate-here : (at : ℕ) → at ≤ 20_000_000_000 → Ok (height_of line at / line.width) ≡ rate_on line at
  unfolding rate_on
  rate-here at h = rw (small, le-leb at 20_000_000_000 h)

  pub rate-too-far : (at : ℕ) → 20_000_000_000 < at → Err NoRate.OutOfRange ≡ rate_on line at
  unfolding rate_on
  rate-too-far at h = rw (small, lt-leb at 20_000_000_000 h)

pub rate-too-large : (line : Line) (at : ℕ) → line_small line ≡ false → Err NoRate.OutOfRange ≡ rate_on line at
unfolding rate_on
rate-too-large line at h = rw h

-- ---- the points j and j + 1 of a set, in rule

pub line_at : (g : GenSet) (j : ℕ) → j < 4 → line_of g j ≡ line_from g j
unfolding line_of
line_at g j l = rw (lt-ltb j 4 l)

module _ (g : GenSet) (j : ℕ) (right : line_right g j ≡ true) where
  pub right-small : line_small (line_from g j) ≡ true
  unfolding line_small
  right-small =
      let wide = fact-within 1 15_000_000_000 (g.rating * step_at g j) (width_some g j right) (width-most g j right) in
      let begins = le-leb (load_at g j * g.rating) 15_000_000_000 (start-most g j right) in
      and-true (and-true (and-true wide begins) (le-leb (rate_at g j) 10_000_000 (first-most g j right))) (le-leb (rate_at g (suc j)) 10_000_000 (second-most g j right))

  -- the rate on its line is the curve's
  pub right-rate : (power : ℕ) → power * 1000 ≤ 20_000_000_000 → rate_on (line_from g j) (power * 1000) ≡ Ok (exact_from g power j / (g.rating * step_at g j))
  unfolding exact_from exact_line height_of
  right-rate power h = sym (rate-here (line_from g j) right-small (power * 1000) h)
