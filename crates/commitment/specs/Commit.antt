-- Document 01, steps 9 and 10, of what the call is handed: a second's watts, the setpoint and the configuration before it, each
-- configuration's capacity, and one mask of the sets that bar a configuration.
use Rattle.std.specs.Prelude.{◌≡◌, ℕ, List, Float, Option}
use Rattle.rules.specs.declared.station.Station.{Station}
use Rattle.rules.specs.Quantities.{Watts}
use Rattle.rules.specs.Flows.{rest_of}
use Rattle.rules.specs.Setpoint.{wanted_for, held_after}
use Rattle.commitment.specs.declared.commit.Committed.{Committed}
use Rattle.commitment.specs.Choice.{chosen_of}

-- the setpoint held after the second, and the configuration called for it
pub record CommittedBy (st : Station) (caps : List ℕ) (barred : ℕ) (setpoint : Option Float) (called since second : ℕ) (w : Watts) (sheddable : ℕ) (c : Committed) : Type 0 where
  pub held : c.held ≡ held_after st.control.k setpoint (wanted_for st.control (rest_of w) w.solar w.shed sheddable)
  pub call : c.call ≡ chosen_of st caps barred c.held called since second
