-- What demand 3 says of a set's fuel, over a list of powers, one for each second run.
use Rattle.std.specs.Prelude.{ℕ, ◌+◌, ◌*◌, ◌≤◌, ◌<◌, List, [], ◌∷◌, length, if◌then◌else◌}
use Rattle.rules.specs.declared.station.GenSet.{GenSet}
use Rattle.rules.specs.declared.station.Station.{Station}
use Rattle.rules.specs.Numbers.{has}
use Rattle.rules.specs.Share.{share}
use Rattle.rules.specs.Fuel.{curve_scale}
use Rattle.rules.specs.Curve.{OnCurve}
use Rattle.claims_rules.specs.Replay.{Replayed}

-- "A set is on line and runs where the row's mask has it, with step 6's watts of that row's diesel": the powers of the set at place i in
-- the seconds that it ran
unfoldable pub powers_of : Station → ℕ → List Replayed → List ℕ
powers_of st i [] = []
powers_of st i (q ∷ qs) =
    let row = q.worked.row in
    let later = powers_of st i qs in
    if has row.on i then share st.sets row.on row.diesel i ∷ later else later

-- the exact curve at each of some powers
pub data Exact (g : GenSet) : List ℕ → List ℕ → Type 0 where
  none : Exact g [] []
  more : {power value : ℕ} {powers values : List ℕ} → OnCurve g power value → Exact g powers values → Exact g (power ∷ powers) (value ∷ values)

unfoldable pub sum_of : List ℕ → ℕ
sum_of [] = 0
sum_of (x ∷ xs) = x + sum_of xs

-- "Each fuel count is never above the exact sum of its curve, read as zero where it dips below zero, and below that sum by at most
-- one unit for each second run", in whole numbers: times the rating and the product of the steps
pub record Burned (g : GenSet) (fuel : ℕ) (powers : List ℕ) : Type 0 where
  pub values : List ℕ
  pub exact : Exact g powers values
  pub scaled : 0 < curve_scale g
  pub never-above : fuel * curve_scale g ≤ sum_of values
  pub below-at-most : sum_of values ≤ (fuel + length powers) * curve_scale g
