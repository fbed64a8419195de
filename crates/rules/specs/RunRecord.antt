-- Document 01: the run's record at the start, and "A run record is possible when" (24).
use Rattle.std.specs.Prelude.{ℕ, ◌*◌, Bool, true, ◌&&◌, List, [], ◌∷◌, get_or, replicate, leb, ltb, if◌then◌else◌, None}
use Rattle.rules.specs.declared.station.GenSet.{GenSet}
use Rattle.rules.specs.declared.station.Station.{Station}
use Rattle.rules.specs.declared.run.Mode.{Mode}
use Rattle.rules.specs.declared.run.Mode.TheVariants.{Off, Warming, On, Cooling, Service}
use Rattle.rules.specs.declared.run.SetState.{SetState}
use Rattle.rules.specs.Quantities.{Totals}
use Rattle.rules.specs.declared.run.Run.{Run}
use Rattle.rules.specs.Numbers.{within, has, all_to, tab, all_hold, all_zero}
use Rattle.rules.specs.Answers.{Answer, accepted, need, ◌>>◌}
use Rattle.rules.specs.StationRecord.{set_at, some_file_gives}
use Rattle.rules.specs.Modes.{fresh, state_at, is_off}

-- ---- "At the start"

abbrev pub no_totals : Totals
no_totals =
    record { offered = 0; load = 0; shed = 0; solar = 0; charge = 0; spill = 0; give = 0; diesel = 0; unserved = 0 }

-- "store at its start value, named sets On, others Off, configuration 0, all counts 0, and until the first second there
-- is no held setpoint"
unfoldable pub start_record : Station → Run
start_record st =
    record {
      done = 0;
      since = 0;
      called = 0;
      store = st.battery.start;
      setpoint = None;
      sets = tab 8 (λ i. fresh (if has st.control.online i then On else Off));
      decided = replicate 60 0;
      totals = no_totals;
    }

-- the start refuses a station record that no file gives
unfoldable pub start : Station → Answer Run
start st = do
  need (some_file_gives st) 25 0
  accepted (start_record st)

-- ---- "A run record is possible when"

-- a run has at most this many seconds
abbrev pub most_seconds : ℕ
most_seconds = 316_224_000

-- "remaining seconds of a mode between 1 and that set's own delay; no service mode at interval 0"
abbrev pub mode_possible : GenSet → Mode → Bool
mode_possible g Off = true
mode_possible g (Warming n) = within 1 g.warmup n
mode_possible g On = true
mode_possible g (Cooling n) = within 1 g.cooldown n
mode_possible g (Service n) = within 1 g.service n && ltb 0 g.interval

-- "run seconds, service clock, starts, stops each <= done; energy <= rating x done; fuel <= 15,000,000,000 x done"
abbrev pub count_rules : GenSet → SetState → ℕ → List Bool
count_rules g s done =
    leb s.run done
    ∷ leb s.clock done
    ∷ leb s.starts done
    ∷ leb s.stops done
    ∷ leb s.energy (g.rating * done)
    ∷ leb s.fuel (15_000_000_000 * done)
    ∷ []

abbrev pub counts_possible : GenSet → SetState → ℕ → Bool
counts_possible g s done = all_hold (count_rules g s done)

-- "all zero or Off beyond the existing sets"
abbrev pub state_unused : SetState → Bool
state_unused s =
    is_off s.mode && all_zero (s.run ∷ s.clock ∷ s.starts ∷ s.stops ∷ s.energy ∷ s.fuel ∷ [])

unfoldable pub state_possible : Bool → GenSet → SetState → ℕ → Bool
state_possible exists g s done =
    if exists then mode_possible g s.mode && counts_possible g s done else state_unused s

unfoldable pub states_possible : ℕ → List GenSet → List SetState → ℕ → Bool
states_possible setcount sets states done =
    all_to 8 (λ i. state_possible (ltb i setcount) (set_at sets i) (state_at states i) done)

-- "station totals (solar offered and each watt column of the row) <= 50,000,000 x done"
abbrev pub total_rules : Totals → ℕ → List Bool
total_rules t most =
    leb t.offered most
    ∷ leb t.load most
    ∷ leb t.shed most
    ∷ leb t.solar most
    ∷ leb t.charge most
    ∷ leb t.spill most
    ∷ leb t.give most
    ∷ leb t.diesel most
    ∷ leb t.unserved most
    ∷ []

abbrev pub totals_possible : Totals → ℕ → Bool
totals_possible t most = all_hold (total_rules t most)

-- "decided shed amounts <= 50,000,000; all zero .. beyond .. the delay"
unfoldable pub decided_possible : ℕ → List ℕ → Bool
decided_possible delay amounts = all_to 60 (λ j. leb (get_or amounts j 0) (if ltb j delay then 50_000_000 else 0))

-- "The held setpoint may be absent or any number, NaN included": so nothing is asked of it
abbrev pub record_rules : Station → Run → List Bool
record_rules st r =
    leb r.done most_seconds
    ∷ within st.battery.least st.battery.most r.store
    ∷ leb r.called st.configcount
    ∷ leb r.since r.done
    ∷ states_possible st.setcount st.sets r.sets r.done
    ∷ totals_possible r.totals (50_000_000 * r.done)
    ∷ decided_possible st.control.delay r.decided
    ∷ []

unfoldable pub possible : Station → Run → Bool
possible st r = all_hold (record_rules st r)
