-- What demand 3 says of each row: the mask, the store, load that is unserved, and the called configuration.
use Rattle.std.specs.Prelude.{ℕ, ◌-◌, ◌/◌, ◌≤◌, ◌<◌, min, ◌≡◌, true, List, [], ◌∷◌}
use Rattle.std.specs.Int.Count.{ones}
use Rattle.rules.specs.declared.station.Station.{Station}
use Rattle.rules.specs.declared.run.Mode.TheVariants.{On}
use Rattle.rules.specs.Numbers.{has, sum_to}
use Rattle.rules.specs.StationRecord.{set_at}
use Rattle.rules.specs.Share.{share}
use Rattle.rules.specs.Serving.{ratings_from, Serves}
use Rattle.claims_rules.specs.Shown.{Shown, Worked}
use Rattle.claims_rules.specs.Replay.{Replay, mode_in, clock_in, held_in, Replayed}

-- "every set on line is at its rating, no solar is spilled or charged, and the battery gives all that its rating and content
-- allow": "The battery allows min(power, (store - least) / 100) of the store a row earlier"
pub record AllServing (st : Station) (before : ℕ) (row : Shown) : Type 0 where
  pub at-rating : (i : ℕ) → has row.on i ≡ true → share st.sets row.on row.diesel i ≡ (set_at st.sets i).rating
  pub diesel-full : row.diesel ≡ ratings_from row.on 0 st.sets
  pub none-spilled : row.spill ≡ 0
  pub none-charged : row.charge ≡ 0
  pub battery-full : row.give ≡ min st.battery.power ((before - st.battery.least) / 100)

pub record InRow (st : Station) (p : Replay) (s : Worked) : Type 0 where
  -- "A set is on line and runs where the row's mask has it": just the sets that are On in the replay, and how many they are
  pub on_line : (i : ℕ) → has s.row.on i ≡ true → mode_in st p i ≡ On
  pub all-on-line : (i : ℕ) → i < 8 → mode_in st p i ≡ On → has s.row.on i ≡ true
  pub sets-counted : s.row.sets ≡ ones s.row.on
  -- the rows are numbered from 0
  pub numbered : s.row.second ≡ p.second
  -- "with step 6's watts of that row's diesel": they come to it, and no set has to give more than it can
  pub diesel-shared : sum_to 8 (share st.sets s.row.on s.row.diesel) ≡ s.row.diesel
  pub diesel-most : s.row.diesel ≤ ratings_from s.row.on 0 st.sets
  -- no more is shed than may be: what is unserved does not stand there
  pub shed-most : s.row.shed ≤ s.inputs.sheddable
  -- "It is within its two limits in each row."
  pub store-least : st.battery.least ≤ s.row.store
  pub store-most : s.row.store ≤ st.battery.most
  -- "Where a row has load unserved, .."
  pub unserved : 0 < s.row.unserved → AllServing st p.store s.row
  -- "Each row's called configuration is usable and covers the held setpoint, unless none does."
  pub called : (j : ℕ) → Serves st (mode_in st p) (clock_in st p s) (held_in st p s) j → Serves st (mode_in st p) (clock_in st p s) (held_in st p s) s.row.call

-- in every row
abbrev pub InRows : Station → List Replayed → Type 0
InRows st [] = Unit {0}
InRows st (q ∷ qs) = InRow st q.before q.worked × InRows st qs
