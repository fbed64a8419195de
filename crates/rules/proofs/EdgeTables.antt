-- Document 01, "Refusal numbers": each call's table has its own numbers at their places and no others; and the records of zeros, and the
-- numbers of a body in their order. By computation. Assumes nothing.
use Rattle.std.specs.Prelude.{if◌then◌else◌}
use Prim.Native.Nat.{ℕ}
use mathlib.Core.Path.{◌≡◌, refl}
use mathlib.Core.List.{List, [], ◌∷◌, ◌++◌, map}
use lib.ListN.{replicate}
use Rattle.rules.specs.declared.station.GenSet.{GenSet}
use Rattle.rules.specs.declared.station.Station.{Station}
use Rattle.rules.specs.StationRecord.{past_end, no_set, no_station}
use Rattle.rules.specs.StationFile.{control_of, set_of, control_numbers, set_numbers}
use Rattle.rules.specs.RefusalTables.{Fault, listed, station_faults, sample_faults, seconds_faults}
use Rattle.rules.specs.RefusalTables.{run_faults, sizing_faults, start_faults, second_faults}
use Rattle.rules.specs.Cases.{Case, ◌shows◌}
use Rattle.rules.proofs.EdgeRecords.{given, said, joined, station_with}

-- ---- which refusals a table has, of these pairs of number and place

abbrev among : List Fault → ℕ → ℕ → ℕ
among table number place = if listed table number place then 1 else 0

-- of a number at the places before its least, its least, its most and the one after, 0, 1, 1, 0
abbrev ends : List Fault → ℕ → ℕ → ℕ → ℕ → ℕ → List ℕ
ends table number a b c d = among table number a ∷ among table number b ∷ among table number c ∷ among table number d ∷ []

-- the same of a number whose place is 0: there, and not at 1
abbrev alone : List Fault → List ℕ → List ℕ
alone table numbers = map (λ n. among table n 0) numbers ++ map (λ n. among table n 1) numbers

abbrev table_edges : List Case
table_edges =
    -- "the first wrong contents entry for 2, the set for 6 and 7, the configuration for 8"
    (ends station_faults 2 0 1 4 5 shows 0 ∷ 1 ∷ 1 ∷ 0 ∷ [])
    ∷ (ends station_faults 6 0 1 8 9 shows 0 ∷ 1 ∷ 1 ∷ 0 ∷ [])
    ∷ (ends station_faults 7 0 1 8 9 shows 0 ∷ 1 ∷ 1 ∷ 0 ∷ [])
    ∷ (ends station_faults 8 0 1 64 65 shows 0 ∷ 1 ∷ 1 ∷ 0 ∷ [])
    -- "0 for the rest"
    ∷ (alone station_faults (0 ∷ 1 ∷ 3 ∷ 4 ∷ 5 ∷ 9 ∷ []) shows 0 ∷ 1 ∷ 1 ∷ 1 ∷ 1 ∷ 0 ∷ replicate 6 0)
    -- "the line for 11 to 21", of a file of 5 lines: the heading line is line 1, the first row line 2
    ∷ (ends (sample_faults 5) 11 0 1 5 6 shows 0 ∷ 1 ∷ 1 ∷ 0 ∷ [])
    ∷ (joined (map (λ n. ends (sample_faults 5) n 0 1 1 2) (12 ∷ 13 ∷ 14 ∷ 15 ∷ 16 ∷ []))
    shows joined (replicate 5 (0 ∷ 1 ∷ 1 ∷ 0 ∷ [])))
    ∷ (joined (map (λ n. ends (sample_faults 5) n 1 2 5 6) (17 ∷ 18 ∷ 19 ∷ 20 ∷ []))
    shows joined (replicate 4 (0 ∷ 1 ∷ 1 ∷ 0 ∷ [])))
    ∷ (ends (sample_faults 5) 21 1 2 2 3 shows 0 ∷ 1 ∷ 1 ∷ 0 ∷ [])
    ∷ (alone (sample_faults 5) (10 ∷ 22 ∷ 23 ∷ []) shows 0 ∷ 1 ∷ 0 ∷ 0 ∷ 0 ∷ 0 ∷ [])
    -- the seconds asked, the start, a second, and what is added to a file's own
    ∷ (alone seconds_faults (17 ∷ 18 ∷ 19 ∷ 22 ∷ 23 ∷ 24 ∷ []) shows 0 ∷ 1 ∷ 0 ∷ 0 ∷ 1 ∷ 0 ∷ replicate 6 0)
    ∷ (alone start_faults (24 ∷ 25 ∷ 26 ∷ []) shows 0 ∷ 1 ∷ 0 ∷ 0 ∷ 0 ∷ 0 ∷ [])
    ∷ (alone second_faults (18 ∷ 19 ∷ 20 ∷ 21 ∷ 22 ∷ 23 ∷ 24 ∷ 25 ∷ 26 ∷ 27 ∷ []) shows 0 ∷ 1 ∷ 1 ∷ 0 ∷ 0 ∷ 1 ∷ 1 ∷ 1 ∷ 1 ∷ 0 ∷ replicate 10 0)
    ∷ (among sizing_faults 8 0 ∷ among sizing_faults 19 0 ∷ among sizing_faults 19 1 ∷ among sizing_faults 18 0 ∷ among sizing_faults 8 64 ∷ []
    shows 1 ∷ 1 ∷ 0 ∷ 0 ∷ 1 ∷ [])
    ∷ (among (run_faults 5) 8 0 ∷ among (run_faults 5) 8 64 ∷ among (run_faults 5) 11 5 ∷ among (run_faults 5) 18 0 ∷ among (run_faults 5) 24 0 ∷ []
    shows 0 ∷ 1 ∷ 1 ∷ 1 ∷ 0 ∷ [])
    ∷ []

-- ---- records of zeros

-- the six numbers of a set, and its pairs
abbrev set_list : GenSet → List ℕ
set_list g = g.rating ∷ g.warmup ∷ g.cooldown ∷ g.interval ∷ g.service ∷ g.points ∷ g.loads ++ g.rates

abbrev station_list : Station → List ℕ
station_list st =
    control_numbers st.control
    ++ (st.battery.power ∷ st.battery.efficiency ∷ st.battery.least ∷ st.battery.most ∷ st.battery.start ∷ [])
    ++ (st.setcount ∷ st.configcount ∷ [])

abbrev zero_edges : List Case
zero_edges =
    -- what a refused reading hands back
    (station_list no_station shows replicate 16 0)
    ∷ (joined (map set_list no_station.sets) shows replicate 128 0)
    ∷ (no_station.configs shows replicate 64 0)
    ∷ (set_list no_set shows replicate 16 0)
    ∷ (set_list past_end shows replicate 6 0)
    -- a number that a body has not counts 0
    ∷ (control_numbers (control_of []) shows replicate 9 0)
    ∷ (station_list (station_with [] [] [] []) shows replicate 16 0)
    ∷ (set_list (set_of []) shows replicate 16 0)
    ∷ (set_numbers past_end shows replicate 16 0)
    -- and each that it has, in the paper's order
    ∷ (control_numbers (control_of (1 ∷ 2 ∷ 3 ∷ 4 ∷ 5 ∷ 6 ∷ 7 ∷ 8 ∷ 9 ∷ [])) shows 1 ∷ 2 ∷ 3 ∷ 4 ∷ 5 ∷ 6 ∷ 7 ∷ 8 ∷ 9 ∷ [])
    ∷ (set_list (set_of (1 ∷ 2 ∷ 3 ∷ 4 ∷ 5 ∷ 6 ∷ 11 ∷ 21 ∷ 12 ∷ 22 ∷ 13 ∷ 23 ∷ 14 ∷ 24 ∷ 15 ∷ 25 ∷ []))
    shows 1 ∷ 2 ∷ 3 ∷ 4 ∷ 5 ∷ 6 ∷ 11 ∷ 12 ∷ 13 ∷ 14 ∷ 15 ∷ 21 ∷ 22 ∷ 23 ∷ 24 ∷ 25 ∷ [])
    ∷ []

abbrev table_cases : List Case
table_cases = table_edges ++ zero_edges

pub table-edges : given table_cases ≡ said table_cases
unfolding past_end no_set no_station listed
table-edges = refl
