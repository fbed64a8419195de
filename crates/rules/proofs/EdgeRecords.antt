-- Stations, states and run records made of their numbers in the paper's order, so that an edge case changes one number; and the form of
-- such a case. The worked cases P1 to P12 are specs/Cases.antt's. Assumes nothing.
use Rattle.std.specs.Prelude.{Option, Float}
use Prim.Native.Nat.{ℕ, ◌-◌}
use mathlib.Core.List.{List, [], ◌∷◌, ◌++◌, map}
use lib.ListN.{length, take, drop, get_or, replicate}
use Rattle.rules.specs.declared.station.Station.{Station}
use Rattle.rules.specs.declared.run.Mode.{Mode}
use Rattle.rules.specs.declared.run.Mode.TheVariants.{Off, Warming, On, Cooling, Service}
use Rattle.rules.specs.declared.run.SetState.{SetState}
use Rattle.rules.specs.Quantities.{Totals}
use Rattle.rules.specs.declared.run.Run.{Run}
use Rattle.rules.specs.StationFile.{control_of, battery_of, set_of}
use Rattle.rules.specs.Cases.{Case, ◌shows◌}

-- ---- a case: what the definitions give, and what the paper says

infix 4 ◌is◌
abbrev pub ◌is◌ : ℕ → ℕ → Case
given is said = given ∷ [] shows said ∷ []

-- what a refusal shows: its number and its place; what is accepted shows none
abbrev pub refuses : ℕ → ℕ → List ℕ
refuses number place = number ∷ place ∷ []

abbrev pub accepts : List ℕ
accepts = []

abbrev pub given : List Case → List (List ℕ)
given cases = map (λ (c : Case). c.gives) cases

abbrev pub said : List Case → List (List ℕ)
said cases = map (λ (c : Case). c.shows) cases

-- lists one after the other
abbrev pub joined : List (List ℕ) → List ℕ
joined [] = []
joined (xs ∷ xss) = xs ++ joined xss

-- ---- a station of its numbers: nine of the control, five of the battery, sixteen of each set, and the masks

abbrev pub station_with : List ℕ → List ℕ → List (List ℕ) → List ℕ → Station
station_with control battery sets masks =
    record {
      control = control_of control;
      battery = battery_of (take 2 battery) (drop 2 battery);
      setcount = length sets;
      configcount = length masks;
      sets = map set_of sets ++ replicate (8 - length sets) (set_of []);
      configs = masks ++ replicate (64 - length masks) 0;
    }

-- ---- a set's state of its mode and its run seconds, service clock, starts, stops, energy and fuel

abbrev pub state_with : Mode → List ℕ → SetState
state_with mode ns =
    record {
      mode = mode;
      run = get_or ns 0 0;
      clock = get_or ns 1 0;
      starts = get_or ns 2 0;
      stops = get_or ns 3 0;
      energy = get_or ns 4 0;
      fuel = get_or ns 5 0;
    }

abbrev pub mode_numbers : Mode → List ℕ
mode_numbers Off = 0 ∷ 0 ∷ []
mode_numbers (Warming n) = 1 ∷ n ∷ []
mode_numbers On = 2 ∷ 0 ∷ []
mode_numbers (Cooling n) = 3 ∷ n ∷ []
mode_numbers (Service n) = 4 ∷ n ∷ []

-- the mode as two numbers, then the six
abbrev pub state_numbers : SetState → List ℕ
state_numbers s = mode_numbers s.mode ++ (s.run ∷ s.clock ∷ s.starts ∷ s.stops ∷ s.energy ∷ s.fuel ∷ [])

-- ---- a run's record of seconds done, since-second, called configuration and store, the setpoint, the existing sets' states, the decided
-- amounts and the nine totals

abbrev pub totals_with : List ℕ → Totals
totals_with ns =
    record {
      offered = get_or ns 0 0;
      load = get_or ns 1 0;
      shed = get_or ns 2 0;
      solar = get_or ns 3 0;
      charge = get_or ns 4 0;
      spill = get_or ns 5 0;
      give = get_or ns 6 0;
      diesel = get_or ns 7 0;
      unserved = get_or ns 8 0;
    }

abbrev pub run_with : List ℕ → Option Float → List SetState → List ℕ → List ℕ → Run
run_with ns setpoint states decided totals =
    record {
      done = get_or ns 0 0;
      since = get_or ns 1 0;
      called = get_or ns 2 0;
      store = get_or ns 3 0;
      setpoint = setpoint;
      sets = states ++ replicate (8 - length states) (state_with Off []);
      decided = decided ++ replicate (60 - length decided) 0;
      totals = totals_with totals;
    }
