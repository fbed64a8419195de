-- The request's demand 3: "Each row's called configuration is usable and covers the held setpoint, unless none does." What a
-- configuration that serves is, in the words of document 01's step 10: for every set, and not by the rules' test, so that a mistake
-- there is not shared; proofs/Serving.antt has that the rules' test is this.
use Rattle.std.specs.Prelude.{ℕ, zero, suc, ◌+◌, ◌≤◌, ◌<◌, ◌≡◌, true, List, [], ◌∷◌, get_or, Float, if◌then◌else◌}
use Rattle.std.specs.Float.Ieee.{le}
use Rattle.rules.specs.declared.station.GenSet.{GenSet}
use Rattle.rules.specs.declared.station.Station.{Station}
use Rattle.rules.specs.declared.run.Mode.{Mode}
use Rattle.rules.specs.declared.run.Mode.TheVariants.{Service}
use Rattle.rules.specs.Numbers.{has}
use Rattle.rules.specs.StationRecord.{set_at}
use Rattle.rules.specs.Setpoint.{float}

-- "due (interval > 0, clock >= interval)"
pub record Due (g : GenSet) (clock : ℕ) : Type 0 where
  pub some-interval : 0 < g.interval
  pub reached : g.interval ≤ clock

-- "Usable: none of its sets is due .. or in Service": for every set that the mask has, by the sets' modes and clocks
pub record Usable (sets : List GenSet) (mode : ℕ → Mode) (clock : ℕ → ℕ) (mask : ℕ) : Type 0 where
  pub none-due : (i : ℕ) → has mask i ≡ true → Due (set_at sets i) (clock i) → ⊥
  pub none-in-service : (i n : ℕ) → has mask i ≡ true → mode i ≡ Service n → ⊥

-- "its sets' ratings summed", of the sets from place i on
unfoldable pub ratings_from : ℕ → ℕ → List GenSet → ℕ
ratings_from mask i [] = 0
ratings_from mask i (g ∷ gs) = (if has mask i then g.rating else 0) + ratings_from mask (suc i) gs

-- "It covers when held <= capacity"
abbrev pub Covers : List GenSet → Float → ℕ → Type 0
Covers sets held mask = le held (float (ratings_from mask 0 sets)) ≡ true

-- the configuration of a number: "0 calls no set and is never usable", and any other is the table's entry
abbrev pub Serves : Station → (ℕ → Mode) → (ℕ → ℕ) → Float → ℕ → Type 0
Serves st mode clock held zero = ⊥
Serves st mode clock held (suc j) =
    (j < st.configcount) × Usable st.sets mode clock (get_or st.configs j 0) × Covers st.sets held (get_or st.configs j 0)
