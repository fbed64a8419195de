-- Steady seconds: no set changes its mode, so that step 1 of document 01 counts the timed modes down, step 8 adds to the counts of the
-- sets On alone, and step 11 changes nothing. What is added stands beside the states as they were.
use Rattle.std.specs.Prelude.{ℕ, ◌+◌, ◌≤◌, ◌<◌, ◌≡◌, true, List, get_or, if◌then◌else◌}
use Rattle.rules.specs.declared.station.GenSet.{GenSet}
use Rattle.rules.specs.declared.run.SetState.{SetState}
use Rattle.rules.specs.Numbers.{has, tab}
use Rattle.rules.specs.StationRecord.{set_at, set_right, pairs_right}
use Rattle.rules.specs.Share.{capacity, share}
use Rattle.rules.specs.Fuel.{fuel_rate}
use Rattle.rules.specs.Modes.{state_at}
use Rattle.steady.specs.declared.steady_counts.Added.{Added}
use Rattle.steady.specs.NextEvent.{waited}
use Rattle.set_moves.specs.Sized.{Small}

-- what was added to the set at a place
abbrev pub added_to : List Added → ℕ → Added
added_to added i = get_or added i (record { energy = 0; fuel = 0 })

-- a set On after some seconds, with the energy and the fuel that they added
abbrev pub ran_for : SetState → ℕ → Added → SetState
ran_for s seconds a =
    record {
      mode = s.mode;
      run = s.run + seconds;
      clock = s.clock + seconds;
      starts = s.starts;
      stops = s.stops;
      energy = s.energy + a.energy;
      fuel = s.fuel + a.fuel;
    }

-- the sets after some steady seconds, where the mask has the sets On
unfoldable pub steady_at : List SetState → ℕ → ℕ → List Added → ℕ → SetState
steady_at base on seconds added i =
    if has on i then ran_for (state_at base i) seconds (added_to added i) else waited (state_at base i) seconds

unfoldable pub since_steady : List SetState → ℕ → ℕ → List Added → List SetState
since_steady base on seconds added = tab 8 (steady_at base on seconds added)

-- what stands beside the states after one second more
unfoldable pub added_at : List GenSet → ℕ → ℕ → List Added → ℕ → Added
added_at sets on diesel added i =
    if has on i
    then record {
      energy = (added_to added i).energy + share sets on diesel i;
      fuel = (added_to added i).fuel + fuel_rate (set_at sets i) (share sets on diesel i);
    }
    else added_to added i

unfoldable pub added_after : List GenSet → ℕ → ℕ → List Added → List Added
added_after sets on diesel added = tab 8 (added_at sets on diesel added)

-- what the sums of a steady second may take for granted
pub record Addable (sets : List GenSet) (on diesel cap : ℕ) (added : List Added) : Type 0 where
  pub is-cap : cap ≡ capacity sets on
  pub capacity-most : capacity sets on ≤ 80_000_000
  pub diesel-most : diesel ≤ capacity sets on
  pub numbers : (i : ℕ) → i < 8 → has on i ≡ true → set_right (set_at sets i) ≡ true
  pub pairs : (i : ℕ) → i < 8 → has on i ≡ true → pairs_right (set_at sets i) ≡ true
  pub energies-most : (i : ℕ) → i < 8 → has on i ≡ true → (added_to added i).energy ≤ 3_162_240_000_000_000
  pub fuels-most : (i : ℕ) → i < 8 → has on i ≡ true → (added_to added i).fuel ≤ 4_743_360_000_000_000_000

pub record Makeable (base : List SetState) (on seconds : ℕ) (added : List Added) : Type 0 where
  pub small : (i : ℕ) → i < 8 → Small (steady_at base on seconds added i)
