-- Document 01, steps 3 to 7, of what the call is handed: the store before the second, the capacity and the floor load of the sets On,
-- the amount decided "delay" seconds ago, and the second's inputs.
use Rattle.std.specs.Prelude.{ℕ, ◌≡◌}
use Rattle.rules.specs.declared.station.Station.{Station}
use Rattle.rules.specs.declared.run.Inputs.{Inputs}
use Rattle.rules.specs.Flows.{watts_for, store_after, shed_decided}
use Rattle.flows.specs.declared.meet.Met.{Met}

-- the second's watts, the store after it, and the shed amount that it decides
pub record MetBy (st : Station) (store cap floor oldest : ℕ) (x : Inputs) (m : Met) : Type 0 where
  pub watts : m.watts ≡ watts_for st.battery store cap floor oldest x
  pub stores : m.store ≡ store_after st.battery store m.watts.charge m.watts.give
  pub decides : m.decided ≡ shed_decided st.control cap x.load m.watts.solar x.sheddable
