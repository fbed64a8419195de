-- Document 01, steps 8 and 11: what a second adds to a set's counts, and the commands to it.
use Rattle.std.specs.Prelude.{ℕ, ◌+◌, Bool, not, ◌||◌, List, if◌then◌else◌}
use Rattle.rules.specs.declared.station.GenSet.{GenSet}
use Rattle.rules.specs.declared.run.Mode.{Mode}
use Rattle.rules.specs.declared.run.Mode.TheVariants.{Off, Warming, On, Cooling, Service}
use Rattle.rules.specs.declared.run.SetState.{SetState}
use Rattle.rules.specs.Numbers.{has, all_to, tab}
use Rattle.rules.specs.StationRecord.{set_at}
use Rattle.rules.specs.Share.{share}
use Rattle.rules.specs.Fuel.{fuel_rate}
use Rattle.rules.specs.Modes.{state_at, is_on}

-- ---- 8. Counts.

-- "A set On adds 1 to run seconds and service clock, its power to energy, its rate to fuel."
unfoldable pub counted : GenSet → SetState → ℕ → SetState
counted g s power =
    if is_on s.mode
    then record {
      mode = s.mode;
      run = s.run + 1;
      clock = s.clock + 1;
      starts = s.starts;
      stops = s.stops;
      energy = s.energy + power;
      fuel = s.fuel + fuel_rate g power;
    }
    else s

unfoldable pub counted_all : List GenSet → List SetState → ℕ → ℕ → List SetState
counted_all sets states mask diesel = tab 8 (λ i. counted (set_at sets i) (state_at states i) (share sets mask diesel i))

-- ---- 11. Commands.

-- "A mode is entered with its full delay."
abbrev pub started : GenSet → SetState → SetState
started g s =
    record {
      mode = Warming g.warmup;
      run = s.run;
      clock = s.clock;
      starts = s.starts + 1;
      stops = s.stops;
      energy = s.energy;
      fuel = s.fuel;
    }

abbrev pub stopped : SetState → Mode → SetState
stopped s mode =
    record {
      mode = mode;
      run = s.run;
      clock = s.clock;
      starts = s.starts;
      stops = s.stops + 1;
      energy = s.energy;
      fuel = s.fuel;
    }

-- "Called sets that are Off go Warming, one start. Warming sets not called go Off, one stop. If every called set is On,
-- sets On that are not called go Cooling, one stop."
unfoldable pub command_from : GenSet → SetState → Bool → Bool → Mode → SetState
command_from g s called every_called_on Off = if called then started g s else s
command_from g s called every_called_on (Warming n) = if called then s else stopped s Off
command_from g s called every_called_on On =
    if called then s else (if every_called_on then stopped s (Cooling g.cooldown) else s)
command_from g s called every_called_on (Cooling n) = s
command_from g s called every_called_on (Service n) = s

unfoldable pub command : GenSet → SetState → Bool → Bool → SetState
command g s called every_called_on = command_from g s called every_called_on s.mode

-- "every called set is On"
unfoldable pub every_on : List SetState → ℕ → Bool
every_on states mask = all_to 8 (λ i. not (has mask i) || is_on (state_at states i).mode)

unfoldable pub commanded_all : List GenSet → List SetState → ℕ → List SetState
commanded_all sets states mask =
    tab 8 (λ i. command (set_at sets i) (state_at states i) (has mask i) (every_on states mask))
