-- Calls of the fuel rate one after the other: what they were asked, and what they answered together.
use Rattle.std.specs.Prelude.{ℕ, ◌+◌, ◌*◌, ◌≤◌, ◌≡◌, List, [], ◌∷◌, Ok, Err, Result}
use Rattle.rules.specs.declared.station.GenSet.{GenSet}
use Rattle.gensets.specs.Leaves.{rate_told}
use Rattle.gensets.specs.declared.fuel.NoRate.{NoRate}

-- a second's power and the answer for it
pub record RateCall : Type 0 where
  pub power : ℕ
  pub answer : Result ℕ NoRate

-- the rate of an answer, and 0 where it has none
abbrev pub per_hour : Result ℕ NoRate → ℕ
per_hour (Ok rate) = rate
per_hour (Err why) = 0

-- each call at most at twice the rating, and of its answer no more is known than the contract says
unfoldable pub Answered : GenSet → List RateCall → Type 0
Answered g [] = Unit
Answered g (c ∷ cs) = (c.power ≤ 2 * g.rating) × (c.answer ≡ rate_told g c.power) × Answered g cs

unfoldable pub powers_of : List RateCall → List ℕ
powers_of [] = []
powers_of (c ∷ cs) = c.power ∷ powers_of cs

-- the fuel of all calls, each a second: mL/h for one second is that many units
unfoldable pub burned : List RateCall → ℕ
burned [] = 0
burned (c ∷ cs) = per_hour c.answer + burned cs
