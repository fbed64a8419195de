-- "Modes, clocks and held setpoint follow by steps 1, 8, 9 and 11 from station, inputs and rows, not the record": the steps are the
-- rules' own, over the numbers that the rows show; the clock is counted from the rows' masks.
use Rattle.std.specs.Prelude.{ℕ, ◌+◌, ◌-◌, Bool, not, ◌&&◌, List, [], ◌∷◌, eqb, Float, get_or, replicate, if◌then◌else◌, Some, None, Option}
use Rattle.rules.specs.declared.station.Station.{Station}
use Rattle.rules.specs.declared.run.Mode.{Mode}
use Rattle.rules.specs.declared.run.Mode.TheVariants.{Off, On}
use Rattle.rules.specs.declared.run.Run.{Run}
use Rattle.rules.specs.declared.run.SetState.{SetState}
use Rattle.rules.specs.Numbers.{has, tab}
use Rattle.rules.specs.Modes.{fresh, state_at, in_service, ticked}
use Rattle.rules.specs.Commands.{counted_all, commanded_all}
use Rattle.rules.specs.Setpoint.{wanted_for, held_after}
use Rattle.rules.specs.Configuration.{mask_called}
use Rattle.claims_rules.specs.Shown.{Worked}

-- what is followed into a second
pub record Replay : Type 0 where
  -- how many there were before it
  pub second : ℕ
  pub sets : List SetState
  -- of each set the seconds run since its last service
  pub clocks : List ℕ
  pub setpoint : Option Float
  -- of the row before
  pub store : ℕ
  pub called : ℕ
  -- the second of the last change of the called configuration
  pub changed : ℕ

-- "store at its start value, named sets On, others Off, configuration 0, all counts 0, and until the first second there is no held
-- setpoint"
unfoldable pub at_first : Station → Replay
at_first st =
    record {
      second = 0;
      sets = tab 8 (λ i. fresh (if has st.control.online i then On else Off));
      clocks = replicate 8 0;
      setpoint = None;
      store = st.battery.start;
      called = 0;
      changed = 0;
    }

-- step 1: the modes in a second
unfoldable pub modes_in : Station → Replay → List SetState
modes_in st p = ticked st.sets p.sets

abbrev pub mode_in : Station → Replay → ℕ → Mode
mode_in st p i = (state_at (modes_in st p) i).mode

-- a service of the set at place i ended in it
abbrev pub served_in : Station → Replay → ℕ → Bool
served_in st p i = in_service (state_at p.sets i).mode && not (in_service (mode_in st p i))

-- the clocks after step 8: a set runs where the row's mask has it
unfoldable pub clocks_in : Station → Replay → Worked → List ℕ
clocks_in st p s = tab 8 (λ i. (if served_in st p i then 0 else get_or p.clocks i 0) + (if has s.row.on i then 1 else 0))

abbrev pub clock_in : Station → Replay → Worked → ℕ → ℕ
clock_in st p s i = get_or (clocks_in st p s) i 0

-- step 8: what the sets have counted, each at its share of the row's diesel
unfoldable pub counts_in : Station → Replay → Worked → List SetState
counts_in st p s = counted_all st.sets (modes_in st p) s.row.on s.row.diesel

-- step 9: the setpoint held in it, with R = load - shed - solar of the row
unfoldable pub held_in : Station → Replay → Worked → Float
held_in st p s =
    held_after st.control.k p.setpoint (wanted_for st.control (s.row.load - s.row.shed - s.row.solar) s.row.solar s.row.shed s.inputs.sheddable)

-- and step 11, by the row's called configuration: what is followed into the next second
unfoldable pub following : Station → Replay → Worked → Replay
following st p s =
    record {
      second = p.second + 1;
      sets = commanded_all st.sets (counts_in st p s) (mask_called st.configs s.row.call);
      clocks = clocks_in st p s;
      setpoint = Some (held_in st p s);
      store = s.row.store;
      called = s.row.call;
      changed = if eqb s.row.call p.called then p.changed else p.second;
    }

-- after the last second
unfoldable pub followed_to : Station → Replay → List Worked → Replay
followed_to st p [] = p
followed_to st p (s ∷ ss) = followed_to st (following st p s) ss

-- each second with what is followed into it
pub record Replayed : Type 0 where
  pub before : Replay
  pub worked : Worked

unfoldable pub replayed : Station → Replay → List Worked → List Replayed
replayed st p [] = []
replayed st p (s ∷ ss) = record { before = p; worked = s } ∷ replayed st (following st p s) ss

-- the same of a record
abbrev pub replay_of : Run → Replay
replay_of r =
    record {
      second = r.done;
      sets = r.sets;
      clocks = tab 8 (λ i. (state_at r.sets i).clock);
      setpoint = r.setpoint;
      store = r.store;
      called = r.called;
      changed = r.since;
    }
