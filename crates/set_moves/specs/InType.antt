-- The counts of each set after a second, as their types hold them. Of a possible record each is the rules' own (proofs/SetsRuled.antt): a
-- number that no possible record has goes round, so that the steps ask nothing of whoever hands them in.
use Rattle.std.specs.Prelude.{ℕ, ◌+◌, ◌%◌, List, slice_index, if◌then◌else◌}
use Rattle.rules.specs.declared.station.GenSet.{GenSet}
use Rattle.rules.specs.declared.run.SetState.{SetState}
use Rattle.rules.specs.Numbers.{has, tab}
use Rattle.rules.specs.StationRecord.{set_at}
use Rattle.rules.specs.Modes.{state_at}
use Rattle.rules.specs.Commands.{command, every_on}
use Rattle.gensets.specs.Burned.{per_hour}
use Rattle.gensets.specs.Leaves.{shares_told, watts_of, rate_told}

abbrev pub in32 : ℕ → ℕ
in32 n = n % 4_294_967_296

abbrev pub in64 : ℕ → ℕ
in64 n = n % 18_446_744_073_709_551_616

-- ---- 8. Counts.

-- a set On, at a power
abbrev pub counted_in : GenSet → SetState → ℕ → SetState
counted_in g s power =
    record {
      mode = s.mode;
      run = in32 (s.run + 1);
      clock = in32 (s.clock + 1);
      starts = s.starts;
      stops = s.stops;
      energy = in64 (s.energy + power);
      fuel = in64 (s.fuel + per_hour (rate_told g power));
    }

-- the set at a place: those that the mask has, each at its share
unfoldable pub counted_at : List GenSet → List SetState → ℕ → ℕ → ℕ → SetState
counted_at sets states mask diesel i =
    if has mask i
    then counted_in (set_at sets i) (state_at states i) (slice_index (watts_of (shares_told sets mask diesel)) i)
    else state_at states i

unfoldable pub counted_all_in : List GenSet → List SetState → ℕ → ℕ → List SetState
counted_all_in sets states mask diesel = tab 8 (counted_at sets states mask diesel)

-- ---- 11. Commands.

-- a set's starts and stops
abbrev pub switched_in : SetState → SetState
switched_in s =
    record {
      mode = s.mode;
      run = s.run;
      clock = s.clock;
      starts = in32 s.starts;
      stops = in32 s.stops;
      energy = s.energy;
      fuel = s.fuel;
    }

unfoldable pub commanded_all_in : List GenSet → List SetState → ℕ → List SetState
commanded_all_in sets states mask =
    tab 8 (λ i. switched_in (command (set_at sets i) (state_at states i) (has mask i) (every_on states mask)))
