-- How large coverage and reserve get, from 32-bit numbers alone: 64 bits hold them, and each step on the way. Assumes nothing.
use Rattle.std.specs.Prelude.{if◌then◌else◌}
use Rattle.std.proofs.Common.{ℕ, ◌+◌, ◌-◌, ◌*◌, ◌/◌, ◌<◌, ◌≤◌, max, Bool, true, false, eqb, mul-le-mul, arith}
use Rattle.rules.specs.declared.station.Control.{Control}
use Rattle.rules.specs.Setpoint.{coverage_of, reserve}

-- the product of two 32-bit numbers, and the 99 that round it up
pub product-most : (a b : ℕ) → a < 4_294_967_296 → b < 4_294_967_296 → a * b ≤ 18_446_744_065_119_617_025
product-most a b h l = mul-le-mul {n₂ = 4_294_967_295} {m₂ = 4_294_967_295} (omega arith) (omega arith)

pub reserve-most : (c : Control) (solar live : ℕ) → c.coverage < 4_294_967_296 → c.spinning < 4_294_967_296 → solar < 4_294_967_296
    → reserve c solar live ≤ 184_467_440_651_196_172
unfolding reserve coverage_of
reserve-most c solar live h s l = go (eqb c.maintain 1)
  where
    go : (b : Bool) → (if b then max c.spinning ((solar * c.coverage + 99) / 100 - live) else max c.spinning ((solar * c.coverage + 99) / 100) - live) ≤ 184_467_440_651_196_172
    go true = omega (arith, product-most solar c.coverage l h)
    go false = omega (arith, product-most solar c.coverage l h)
