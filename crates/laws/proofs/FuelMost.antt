-- "fuel <= 15,000,000,000 x done": no set burns more than 15,000,000,000 mL/h at a power up to its rating. The greatest is
-- 10,000,000 at a point, and 1,499 steps of 10,000,000 from there. Assumes nothing.
use Prim.Native.Nat.{ℕ, zero, suc, ◌+◌, ◌-◌, ◌*◌, ◌≤◌, ◌<◌, zero-le}
use mathlib.Core.Path.{◌≡◌, refl}
use mathlib.Core.Bool.{true}
use native.Mathlib.Omega.{arith}
use native.Mathlib.Nat.{le_refl, mul-le-mul, mul-le-mul_right, mul_comm, div-le_of_le-mul}
use lib.IntN.{ℤ, pos, negsuc, neg_ℤ, nat_abs, sub_ℕ, ◌+ℤ◌, ◌-ℤ◌, ◌*ℤ◌}
use Rattle.rules.specs.declared.station.GenSet.{GenSet}
use Rattle.rules.specs.StationRecord.{set_right, pairs_right}
use Rattle.rules.specs.Fuel.{load_at, rate_at, step_at, exact_line, not_below_zero, lower_point, exact_from, fuel_rate}
use Rattle.rules.proofs.StationFacts.{points-range, pair-at}
use Rattle.rules.proofs.Signed.{Minus, above, below, minus-sub, minus-of}
use Rattle.rules.proofs.Curve.{loads-rise, lower-inside}

-- ---- whole numbers with a sign, by their distance from zero

abs-most : {z : ℤ} (a b m : ℕ) → a ≤ m → b ≤ m → Minus a b z → nat_abs z ≤ m
abs-most a b m h k (above n e) = omega arith
abs-most a b m h k (below n e) = omega arith

abs-difference : (a b m : ℕ) → a ≤ m → b ≤ m → nat_abs (sub_ℕ a b) ≤ m
abs-difference a b m h k = abs-most a b m h k (minus-sub a b)

pub abs-minus : (a b m : ℕ) → a ≤ m → b ≤ m → nat_abs (pos a -ℤ pos b) ≤ m
abs-minus a b m h k = abs-most a b m h k (minus-of a b)

abs-negated : (n : ℕ) → nat_abs (neg_ℤ (pos n)) ≡ n
abs-negated zero = refl
abs-negated (suc n) = refl

pub abs-times : (y z : ℤ) → nat_abs (y *ℤ z) ≡ nat_abs y * nat_abs z
abs-times (pos a) (pos b) = refl
abs-times (pos a) (negsuc b) = abs-negated (a * suc b)
abs-times (negsuc a) (pos b) = abs-negated (suc a * b)
abs-times (negsuc a) (negsuc b) = refl

pub abs-plus : (y z : ℤ) → nat_abs (y +ℤ z) ≤ nat_abs y + nat_abs z
abs-plus (pos a) (pos b) = le_refl (a + b)
abs-plus (pos a) (negsuc b) = abs-difference a (suc b) (a + suc b) (omega arith) (omega arith)
abs-plus (negsuc a) (pos b) = abs-difference b (suc a) (suc a + b) (omega arith) (omega arith)
abs-plus (negsuc a) (negsuc b) = omega arith

cut_most : (z : ℤ) → not_below_zero z ≤ nat_abs z
cut_most (pos n) = le_refl n
cut_most (negsuc n) = zero-le

-- ---- the line through two points

line-most : (x₀ y₀ x₁ y₁ rating power : ℕ) → x₀ < x₁ → x₁ ≤ 1500 → y₀ ≤ 10_000_000 → y₁ ≤ 10_000_000 → power ≤ rating
    → not_below_zero (exact_line x₀ y₀ x₁ y₁ rating power) ≤ rating * (x₁ - x₀) * 15_000_000_000
unfolding exact_line
line-most x₀ y₀ x₁ y₁ rating power rise last first second h =
    let w : ℕ = rating * (x₁ - x₀) in
    let slope : ℤ = pos y₁ -ℤ pos y₀ in
    let run : ℤ = pos (power * 1000) -ℤ pos (x₀ * rating) in
    let at-point : y₀ * w ≤ 10_000_000 * w = mul-le-mul_right w first in
    let one : 1 * rating ≤ (x₁ - x₀) * rating = mul-le-mul_right rating (omega arith) in
    let wide : rating ≤ w = omega (arith, one, mul_comm rating (x₁ - x₀)) in
    let start : x₀ * rating ≤ 1499 * rating = mul-le-mul_right rating (omega arith) in
    let up : nat_abs slope ≤ 10_000_000 = abs-minus y₁ y₀ 10_000_000 second first in
    let along : nat_abs run ≤ 1499 * rating = abs-minus (power * 1000) (x₀ * rating) (1499 * rating) (omega arith) start in
    let rest : nat_abs slope * nat_abs run ≤ 10_000_000 * (1499 * rating) = mul-le-mul up along in
    omega (arith, cut_most (pos (y₀ * w) +ℤ slope *ℤ run), abs-plus (pos (y₀ * w)) (slope *ℤ run), abs-times slope run, rest, at-point, wide)

-- ---- a set whose checks passed

pub rate-most : (g : GenSet) → set_right g ≡ true → pairs_right g ≡ true → (power : ℕ) → power ≤ g.rating → fuel_rate g power ≤ 15_000_000_000
unfolding fuel_rate exact_from
rate-most g numbers pairs power h =
    let j : ℕ = lower_point g power in
    let inside : suc j < g.points = lower-inside g numbers power in
    let here = pair-at g pairs j (omega (arith, inside, (points-range g numbers).1)) in
    let next = pair-at g pairs (suc j) (omega (arith, inside, (points-range g numbers).1)) in
    div-le_of_le-mul (g.rating * step_at g j)
    (line-most (load_at g j) (rate_at g j) (load_at g (suc j)) (rate_at g (suc j)) g.rating power (loads-rise g numbers pairs j inside) next.0 here.1 next.1 h)
