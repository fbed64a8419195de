-- Document 01, steps 1 and 2: the sets' modes tick, and the sets On.
use Rattle.std.specs.Prelude.{ℕ, ◌-◌, Bool, true, false, ◌&&◌, List, get_or, leb, ltb, if◌then◌else◌}
use Rattle.rules.specs.declared.station.GenSet.{GenSet}
use Rattle.rules.specs.declared.run.Mode.{Mode}
use Rattle.rules.specs.declared.run.Mode.TheVariants.{Off, Warming, On, Cooling, Service}
use Rattle.rules.specs.declared.run.SetState.{SetState}
use Rattle.rules.specs.Numbers.{tab, mask_of}
use Rattle.rules.specs.StationRecord.{set_at}

-- a set in a mode, "all counts 0"
abbrev pub fresh : Mode → SetState
fresh mode = record { mode = mode; run = 0; clock = 0; starts = 0; stops = 0; energy = 0; fuel = 0 }

-- the state of the set at place i
unfoldable pub state_at : List SetState → ℕ → SetState
state_at states i = get_or states i (fresh Off)

abbrev pub is_off : Mode → Bool
is_off Off = true
is_off (Warming n) = false
is_off On = false
is_off (Cooling n) = false
is_off (Service n) = false

abbrev pub is_on : Mode → Bool
is_on Off = false
is_on (Warming n) = false
is_on On = true
is_on (Cooling n) = false
is_on (Service n) = false

abbrev pub in_service : Mode → Bool
in_service Off = false
in_service (Warming n) = false
in_service On = false
in_service (Cooling n) = false
in_service (Service n) = true

-- "due (interval > 0, clock >= interval)"
unfoldable pub due : GenSet → SetState → Bool
due g s = ltb 0 g.interval && leb g.interval s.clock

-- ---- 1. Modes tick.

-- another mode and service clock, all else as it was
abbrev pub with_mode : SetState → Mode → ℕ → SetState
with_mode s mode clock =
    record {
      mode = mode;
      run = s.run;
      clock = clock;
      starts = s.starts;
      stops = s.stops;
      energy = s.energy;
      fuel = s.fuel;
    }

-- "Warming 1 becomes On, Cooling 1 becomes Off (Service with its time if due), Service 1 becomes Off with its service
-- clock 0; larger counts fall by 1"
unfoldable pub tick_from : GenSet → SetState → Mode → SetState
tick_from g s Off = s
tick_from g s (Warming n) = with_mode s (if leb n 1 then On else Warming (n - 1)) s.clock
tick_from g s On = s
tick_from g s (Cooling n) =
    with_mode s (if leb n 1 then (if due g s then Service g.service else Off) else Cooling (n - 1)) s.clock
tick_from g s (Service n) = if leb n 1 then with_mode s Off 0 else with_mode s (Service (n - 1)) s.clock

unfoldable pub tick : GenSet → SetState → SetState
tick g s = tick_from g s s.mode

unfoldable pub ticked : List GenSet → List SetState → List SetState
ticked sets states = tab 8 (λ i. tick (set_at sets i) (state_at states i))

-- ---- 2. Sums: "Row shows their mask and how many sets that is."

-- the mask of the sets On
unfoldable pub on_mask : List SetState → ℕ
on_mask states = mask_of 8 (λ i. is_on (state_at states i).mode)
