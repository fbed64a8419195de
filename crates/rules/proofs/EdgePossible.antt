-- Document 01, "At the start", "A run record is possible when" (24) and "station record that no file gives" (25): both sides of each clause.
-- A test that holds shows 1, and one that does not 0. By computation. Assumes nothing.
use Rattle.std.specs.Prelude.{if◌then◌else◌, Some, None, Option, Float}
use Prim.Native.Nat.{ℕ}
use mathlib.Core.Path.{◌≡◌, refl}
use mathlib.Core.Bool.{Bool}
use mathlib.Core.List.{List, [], ◌∷◌, ◌++◌, map}
use lib.ListN.{take, drop, get_or, set, replicate}
use Rattle.rules.specs.declared.station.Station.{Station}
use Rattle.rules.specs.declared.run.Mode.{Mode}
use Rattle.rules.specs.declared.run.Mode.TheVariants.{Off, Warming, On, Cooling, Service}
use Rattle.rules.specs.declared.run.SetState.{SetState}
use Rattle.rules.specs.Quantities.{Totals}
use Rattle.rules.specs.declared.run.Run.{Run}
use Rattle.rules.specs.Numbers
use Rattle.rules.specs.Answers.{refusal}
use Rattle.rules.specs.StationRecord
use Rattle.rules.specs.StationRecord.{some_file_gives}
use Rattle.rules.specs.StationFile.{control_of, battery_of, set_of}
use Rattle.rules.specs.Modes
use Rattle.rules.specs.RunRecord
use Rattle.rules.specs.RunRecord.{start_record, start, mode_possible, possible}
use Rattle.rules.specs.Cases.{Case, ◌shows◌}
use Rattle.rules.proofs.EdgeRecords.{◌is◌, refuses, accepts, given, said, joined, station_with, state_with, state_numbers, run_with}

abbrev told : Bool → ℕ
told b = if b then 1 else 0

-- ---- a station of two sets and three configurations, with a shed delay of 2 s

abbrev control : List ℕ
control = 10000 ∷ 50 ∷ 40 ∷ 90 ∷ 2 ∷ 500 ∷ 3 ∷ 0 ∷ 2 ∷ []

abbrev battery : List ℕ
battery = 20000 ∷ 90 ∷ 100 ∷ 9000000 ∷ 1000000 ∷ []

-- warm-up 2 s, cool-down 3 s, service time 7 s; the second has no service
abbrev sets : List (List ℕ)
sets =
    (100000 ∷ 2 ∷ 3 ∷ 50 ∷ 7 ∷ 2 ∷ 0 ∷ 2000 ∷ 1000 ∷ 27000 ∷ [])
    ∷ (60000 ∷ 1 ∷ 1 ∷ 0 ∷ 0 ∷ 2 ∷ 0 ∷ 1500 ∷ 1000 ∷ 16500 ∷ [])
    ∷ []

abbrev station : Station
station = station_with control battery sets (2 ∷ 1 ∷ 3 ∷ [])

-- ---- 24: a record with 10 seconds done

abbrev first : List ℕ
first = 10 ∷ 9 ∷ 1 ∷ 1000000 ∷ []

abbrev counts : List ℕ
counts = 5 ∷ 4 ∷ 3 ∷ 2 ∷ 1000 ∷ 2000 ∷ []

abbrev totals : List ℕ
totals = 11 ∷ 12 ∷ 13 ∷ 14 ∷ 15 ∷ 16 ∷ 17 ∷ 18 ∷ 19 ∷ []

abbrev fair : Run → ℕ
fair r = told (possible station r)

abbrev record_of : List ℕ → List SetState → List ℕ → List ℕ → Run
record_of ns states decided sums = run_with ns None states decided sums

-- one number of the record changed; the first set's mode; one of its counts; a set that does not exist; decided amounts; one of the totals
abbrev numbered : ℕ → ℕ → ℕ
numbered i n = fair (record_of (set first i n) (state_with Off counts ∷ state_with On counts ∷ []) (5 ∷ 6 ∷ []) totals)

abbrev mode1 : Mode → ℕ
mode1 mode = fair (record_of first (state_with mode counts ∷ state_with On counts ∷ []) (5 ∷ 6 ∷ []) totals)

abbrev mode2 : Mode → ℕ
mode2 mode = fair (record_of first (state_with Off counts ∷ state_with mode counts ∷ []) (5 ∷ 6 ∷ []) totals)

abbrev count1 : ℕ → ℕ → ℕ
count1 i n = fair (record_of first (state_with Off (set counts i n) ∷ state_with On counts ∷ []) (5 ∷ 6 ∷ []) totals)

abbrev count2 : ℕ → ℕ → ℕ
count2 i n = fair (record_of first (state_with Off counts ∷ state_with On (set counts i n) ∷ []) (5 ∷ 6 ∷ []) totals)

-- after the two sets, so many that are Off, then this state
abbrev beyond : ℕ → SetState → ℕ
beyond n s = fair (record_of first (state_with Off counts ∷ state_with On counts ∷ replicate n (state_with Off []) ++ (s ∷ [])) (5 ∷ 6 ∷ []) totals)

abbrev decided : List ℕ → ℕ
decided amounts = fair (record_of first (state_with Off counts ∷ state_with On counts ∷ []) amounts totals)

abbrev totalled : ℕ → ℕ → ℕ
totalled i n = fair (record_of first (state_with Off counts ∷ state_with On counts ∷ []) (5 ∷ 6 ∷ []) (set totals i n))

abbrev possible_edges : List Case
possible_edges =
    -- "seconds done <= 316,224,000"
    (numbered 0 316_224_000 is 1)
    ∷ (numbered 0 316_224_001 is 0)
    -- "store within its limits"
    ∷ (numbered 3 99 is 0)
    ∷ (numbered 3 100 is 1)
    ∷ (numbered 3 9000000 is 1)
    ∷ (numbered 3 9000001 is 0)
    -- "called configuration 0 to the table's length"
    ∷ (numbered 2 0 is 1)
    ∷ (numbered 2 3 is 1)
    ∷ (numbered 2 4 is 0)
    -- "its since-second <= done"
    ∷ (numbered 1 10 is 1)
    ∷ (numbered 1 11 is 0)
    -- "remaining seconds of a mode between 1 and that set's own delay"
    ∷ (mode1 (Warming 0) is 0)
    ∷ (mode1 (Warming 1) is 1)
    ∷ (mode1 (Warming 2) is 1)
    ∷ (mode1 (Warming 3) is 0)
    ∷ (mode1 (Cooling 0) is 0)
    ∷ (mode1 (Cooling 1) is 1)
    ∷ (mode1 (Cooling 3) is 1)
    ∷ (mode1 (Cooling 4) is 0)
    ∷ (mode1 (Service 0) is 0)
    ∷ (mode1 (Service 1) is 1)
    ∷ (mode1 (Service 7) is 1)
    ∷ (mode1 (Service 8) is 0)
    ∷ (mode2 (Warming 1) is 1)
    ∷ (mode2 (Warming 2) is 0)
    ∷ (mode2 (Cooling 2) is 0)
    ∷ (mode1 On is 1)
    -- "no service mode at interval 0"
    ∷ (mode2 (Service 1) is 0)
    ∷ (told (mode_possible (set_of (1 ∷ 1 ∷ 1 ∷ 0 ∷ 5 ∷ [])) (Service 1)) is 0)
    ∷ (told (mode_possible (set_of (1 ∷ 1 ∷ 1 ∷ 1 ∷ 5 ∷ [])) (Service 1)) is 1)
    -- "run seconds, service clock, starts, stops each <= done"
    ∷ (count1 0 10 is 1)
    ∷ (count1 0 11 is 0)
    ∷ (count1 1 10 is 1)
    ∷ (count1 1 11 is 0)
    ∷ (count1 2 10 is 1)
    ∷ (count1 2 11 is 0)
    ∷ (count1 3 10 is 1)
    ∷ (count1 3 11 is 0)
    -- "energy <= rating x done"
    ∷ (count1 4 1000000 is 1)
    ∷ (count1 4 1000001 is 0)
    ∷ (count2 4 600000 is 1)
    ∷ (count2 4 600001 is 0)
    -- "fuel <= 15,000,000,000 x done"
    ∷ (count1 5 150_000_000_000 is 1)
    ∷ (count1 5 150_000_000_001 is 0)
    -- "station totals (solar offered and each watt column of the row) <= 50,000,000 x done"
    ∷ (totalled 0 500_000_000 is 1)
    ∷ (totalled 0 500_000_001 is 0)
    ∷ (totalled 1 500_000_000 is 1)
    ∷ (totalled 1 500_000_001 is 0)
    ∷ (totalled 2 500_000_000 is 1)
    ∷ (totalled 2 500_000_001 is 0)
    ∷ (totalled 3 500_000_000 is 1)
    ∷ (totalled 3 500_000_001 is 0)
    ∷ (totalled 4 500_000_000 is 1)
    ∷ (totalled 4 500_000_001 is 0)
    ∷ (totalled 5 500_000_000 is 1)
    ∷ (totalled 5 500_000_001 is 0)
    ∷ (totalled 6 500_000_000 is 1)
    ∷ (totalled 6 500_000_001 is 0)
    ∷ (totalled 7 500_000_000 is 1)
    ∷ (totalled 7 500_000_001 is 0)
    ∷ (totalled 8 500_000_000 is 1)
    ∷ (totalled 8 500_000_001 is 0)
    -- "decided shed amounts <= 50,000,000"; "all zero .. beyond .. the delay", which is 2 s
    ∷ (decided (50_000_000 ∷ 50_000_000 ∷ []) is 1)
    ∷ (decided (50_000_001 ∷ 0 ∷ []) is 0)
    ∷ (decided (0 ∷ 50_000_001 ∷ []) is 0)
    ∷ (decided (0 ∷ 0 ∷ 1 ∷ []) is 0)
    ∷ (decided (replicate 59 0 ++ (1 ∷ [])) is 0)
    -- "all zero or Off beyond the existing sets"
    ∷ (beyond 0 (state_with Off []) is 1)
    ∷ (beyond 0 (state_with On []) is 0)
    ∷ (beyond 0 (state_with (Warming 1) []) is 0)
    ∷ (beyond 0 (state_with (Cooling 1) []) is 0)
    ∷ (beyond 0 (state_with (Service 1) []) is 0)
    ∷ (beyond 0 (state_with Off (1 ∷ [])) is 0)
    ∷ (beyond 0 (state_with Off (0 ∷ 1 ∷ [])) is 0)
    ∷ (beyond 0 (state_with Off (0 ∷ 0 ∷ 1 ∷ [])) is 0)
    ∷ (beyond 0 (state_with Off (0 ∷ 0 ∷ 0 ∷ 1 ∷ [])) is 0)
    ∷ (beyond 0 (state_with Off (0 ∷ 0 ∷ 0 ∷ 0 ∷ 1 ∷ [])) is 0)
    ∷ (beyond 0 (state_with Off (0 ∷ 0 ∷ 0 ∷ 0 ∷ 0 ∷ 1 ∷ [])) is 0)
    ∷ (beyond 5 (state_with Off (1 ∷ [])) is 0)
    ∷ (beyond 5 (state_with On []) is 0)
    ∷ []

-- ---- 25

-- these counts over these tables
abbrev counted : ℕ → ℕ → List (List ℕ) → List ℕ → Station
counted setcount configcount table masks =
    record {
      control = control_of control;
      battery = battery_of (take 2 battery) (drop 2 battery);
      setcount = setcount;
      configcount = configcount;
      sets = map set_of table;
      configs = masks;
    }

abbrev some : Station → ℕ
some st = told (some_file_gives st)

-- the third set's number at this place is 1, where the station has two
abbrev third : ℕ → ℕ
third i = some (counted 2 1 (sets ++ (set (replicate 16 0) i 1 ∷ [])) (3 ∷ []))

abbrev some_edges : List Case
some_edges =
    (some station is 1)
    -- "sets 1 to 8", "configurations 1 to 64"
    ∷ (some (counted 0 1 [] (1 ∷ [])) is 0)
    ∷ (some (station_with (set control 8 0) battery (take 1 sets) (1 ∷ [])) is 1)
    ∷ (some (station_with control battery (replicate 8 (get_or sets 0 [])) (replicate 64 255)) is 1)
    ∷ (some (station_with control battery (replicate 9 (get_or sets 0 [])) (255 ∷ [])) is 0)
    ∷ (some (station_with control battery sets []) is 0)
    ∷ (some (station_with control battery sets (replicate 65 3)) is 0)
    -- its values are in rule
    ∷ (some (station_with (set control 1 101) battery sets (3 ∷ [])) is 0)
    ∷ (some (station_with control (set battery 1 0) sets (3 ∷ [])) is 0)
    ∷ (some (station_with control battery sets (4 ∷ [])) is 0)
    -- what is past the counts is zero
    ∷ (some (counted 2 1 (sets ++ (replicate 16 0 ∷ [])) (3 ∷ 0 ∷ [])) is 1)
    ∷ (map third (0 ∷ 1 ∷ 2 ∷ 3 ∷ 4 ∷ 5 ∷ 6 ∷ 7 ∷ 14 ∷ 15 ∷ []) shows replicate 10 0)
    ∷ (some (counted 2 1 sets (3 ∷ 1 ∷ [])) is 0)
    ∷ (some (counted 2 1 sets (3 ∷ replicate 62 0 ++ (1 ∷ []))) is 0)
    ∷ []

-- ---- "At the start"

abbrev total_numbers : Totals → List ℕ
total_numbers t = t.offered ∷ t.load ∷ t.shed ∷ t.solar ∷ t.charge ∷ t.spill ∷ t.give ∷ t.diesel ∷ t.unserved ∷ []

abbrev held_numbers : Option Float → List ℕ
held_numbers None = 0 ∷ []
held_numbers (Some held) = 1 ∷ []

-- eight sets of which the first and the last are on line
abbrev eight : Station
eight = station_with (set control 8 129) battery (replicate 8 (get_or sets 0 [])) (255 ∷ [])

abbrev start_edges : List Case
start_edges =
    -- "store at its start value", "configuration 0, all counts 0", "there is no held setpoint"
    ((start_record station).done ∷ (start_record station).since ∷ (start_record station).called ∷ (start_record station).store ∷ []
    shows 0 ∷ 0 ∷ 0 ∷ 1000000 ∷ [])
    ∷ (held_numbers (start_record station).setpoint shows 0 ∷ [])
    ∷ (total_numbers (start_record station).totals shows replicate 9 0)
    ∷ ((start_record station).decided shows replicate 60 0)
    -- "named sets On, others Off": the mask is 2
    ∷ (joined (map state_numbers (take 3 (start_record station).sets))
    shows replicate 8 0 ++ (2 ∷ replicate 7 0) ++ replicate 8 0)
    ∷ (joined (map state_numbers (start_record eight).sets) shows (2 ∷ replicate 55 0) ++ (2 ∷ replicate 7 0))
    -- the start refuses a station record that no file gives
    ∷ (refusal (start station) shows accepts)
    ∷ (refusal (start (counted 0 1 [] (1 ∷ []))) shows refuses 25 0)
    ∷ []

abbrev record_cases : List Case
record_cases = possible_edges ++ some_edges ++ start_edges

pub record-edges : given record_cases ≡ said record_cases
unfolding Numbers.all_to Numbers.tab Numbers.every StationRecord.past_end StationRecord.set_at StationRecord.control_right StationRecord.battery_right StationRecord.set_right StationRecord.pairs_right StationRecord.sets_right StationRecord.configurations_right StationRecord.values_right StationRecord.some_file_gives Modes.state_at RunRecord.start_record RunRecord.start RunRecord.state_possible RunRecord.states_possible RunRecord.decided_possible RunRecord.possible
record-edges = refl
