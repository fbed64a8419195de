-- What `fuel_rate` answers, by its own contract, against the exact curve in whole numbers: for one second, and summed over any list of
-- seconds. Assumes nothing.
use Rattle.std.specs.Prelude.{Result}
use Prim.Native.Nat.{ℕ, suc, ◌+◌, ◌*◌, ◌≤◌, ◌<◌}
use mathlib.Core.Path.{◌≡◌, refl, ap, ap₂, ◌∙◌}
use mathlib.Core.Bool.{true}
use mathlib.Core.List.{List, [], ◌∷◌}
use lib.ListN.{length}
use borrow.Fn.Kinds as kinds
use denote.Triple.Clauses as clauses
use contract.Lifetimes.{Lfts}
use Rattle.rules.specs.declared.station.GenSet.{GenSet}
use Rattle.rules.specs.StationRecord.{set_right, pairs_right}
use Rattle.rules.specs.Fuel.{fuel_rate, curve_scale, exact_curve, exact_sum, fuel_sum}
use Rattle.laws.proofs.Fuel.{rate-below, rate-above, sum_below, sum-above}
use Rattle.gensets.specs.Leaves.{rate_told}
use Rattle.gensets.specs.Burned.{RateCall, per_hour, Answered, powers_of, burned}
use Rattle.gensets.proofs.FuelFacts.{rate-known}
use Rattle.gensets.proofs.fuel.fuel_rate.Reads as reads
use Rattle.gensets.proofs.fuel.fuel_rate.Kinds as fuel-kinds
use Rattle.gensets.specs.declared.fuel.NoRate.{NoRate}

-- the claim that Rattle projects from the contract in src/fuel.rt
pub contract-says : (κs : Lfts 0) (a : kinds.Dens κs fuel-kinds.ps) (r : Result ℕ NoRate) (s : clauses.AtExit (kinds.ended_of 0 fuel-kinds.ps fuel-kinds.r) κs)
    → reads.Post κs a r s → r ≡ rate_told a.0 a.1.0
contract-says κs a r s p = p

module _ (g : GenSet) (numbers : set_right g ≡ true) (pairs : pairs_right g ≡ true) where
  value-told : (power : ℕ) (answer : Result ℕ NoRate) → power ≤ 2 * g.rating → answer ≡ rate_told g power → per_hour answer ≡ fuel_rate g power
  value-told power answer l e = ap per_hour (e ∙ rate-known g numbers pairs power l)

  -- "never above the exact curve, and less than one unit below"
  pub rate-told : (power : ℕ) (answer : Result ℕ NoRate) → power ≤ 2 * g.rating → answer ≡ rate_told g power
      → (per_hour answer * curve_scale g ≤ exact_curve g power) × (exact_curve g power < (per_hour answer + 1) * curve_scale g)
  rate-told power answer l e =
      rw (value-told power answer l e) (rate-below g numbers pairs power, rate-above g numbers pairs power)

  burned-told : (calls : List RateCall) → Answered g calls → burned calls ≡ fuel_sum g (powers_of calls)
  unfolding Answered powers_of burned fuel_sum
  burned-told [] h = refl
  burned-told (c ∷ cs) h = ap₂ ◌+◌ (value-told c.power c.answer h.0 h.1) (burned-told cs h.2)

  powers-length : (calls : List RateCall) → length (powers_of calls) ≡ length calls
  unfolding powers_of
  powers-length [] = refl
  powers-length (c ∷ cs) = ap suc (powers-length cs)

  -- the same of a sum, one unit for each second
  pub sum_told : (calls : List RateCall) → Answered g calls
      → (burned calls * curve_scale g ≤ exact_sum g (powers_of calls)) × (exact_sum g (powers_of calls) ≤ (burned calls + length calls) * curve_scale g)
  sum_told calls h =
      rw (burned-told calls h, ← (powers-length calls)) (sum_below g numbers pairs (powers_of calls), sum-above g numbers pairs (powers_of calls))
