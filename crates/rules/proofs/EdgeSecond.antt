-- Document 01, "One second", three whole seconds worked by hand, with the row, the record and the buffer that each leaves; and the refusals of a
-- second at both sides of each limit, in their order. By computation. Assumes nothing.
use Rattle.std.specs.Prelude.{Some, None, Option}
use Prim.Native.Nat.{ℕ}
use mathlib.Core.Path.{◌≡◌, refl}
use mathlib.Core.List.{List, [], ◌∷◌, ◌++◌, map}
use lib.ListN.{take, set, replicate}
use lib.Ieee.{Float}
use lib.Ieee
use lib.Count
use Rattle.rules.specs.declared.station.Station.{Station}
use Rattle.rules.specs.declared.run.Mode.TheVariants.{Off, Warming, On}
use Rattle.rules.specs.Quantities.{Totals}
use Rattle.rules.specs.declared.run.Inputs.{Inputs}
use Rattle.rules.specs.declared.run.Run.{Run}
use Rattle.rules.specs.declared.run.Step.{Step}
use Rattle.rules.specs.Numbers
use Rattle.rules.specs.Bytes
use Rattle.rules.specs.Bytes.{bytes}
use Rattle.rules.specs.Answers.{Answer, refusal, accepted, refused}
use Rattle.rules.specs.StationRecord
use Rattle.rules.specs.Share
use Rattle.rules.specs.Fuel
use Rattle.rules.specs.Modes
use Rattle.rules.specs.Flows
use Rattle.rules.specs.Setpoint
use Rattle.rules.specs.Setpoint.{float}
use Rattle.rules.specs.Configuration
use Rattle.rules.specs.Commands
use Rattle.rules.specs.RunRecord
use Rattle.rules.specs.Row
use Rattle.rules.specs.Row.{columns, row_text}
use Rattle.rules.specs.Second
use Rattle.rules.specs.Second.{step, second, length_answered, record_handed, buffer_left}
use Rattle.rules.specs.Cases.{Case, ◌shows◌}
use Rattle.rules.proofs.EdgeRecords.{refuses, accepts, given, said, joined, station_with, state_with, state_numbers, run_with}

-- ---- the station: shed delay 2 s, k 500, minimum seconds 3; set 1 has service interval 50 s, warm-up 2 s and cool-down 3 s

abbrev pub control : List ℕ
control = 10000 ∷ 50 ∷ 40 ∷ 90 ∷ 2 ∷ 500 ∷ 3 ∷ 0 ∷ 2 ∷ []

abbrev pub battery : List ℕ
battery = 20000 ∷ 90 ∷ 100 ∷ 9000000 ∷ 1000000 ∷ []

abbrev pub sets : List (List ℕ)
sets =
    (100000 ∷ 2 ∷ 3 ∷ 50 ∷ 7 ∷ 2 ∷ 0 ∷ 2000 ∷ 1000 ∷ 27000 ∷ [])
    ∷ (60000 ∷ 1 ∷ 1 ∷ 0 ∷ 0 ∷ 2 ∷ 0 ∷ 1500 ∷ 1000 ∷ 16500 ∷ [])
    ∷ []

abbrev pub station : Station
station = station_with control battery sets (2 ∷ 1 ∷ 3 ∷ [])

abbrev inputs : ℕ → ℕ → ℕ → Inputs
inputs load solar sheddable = record { load = load; solar = solar; sheddable = sheddable }

abbrev totals : List ℕ
totals = 11 ∷ 12 ∷ 13 ∷ 14 ∷ 15 ∷ 16 ∷ 17 ∷ 18 ∷ 19 ∷ []

-- ---- what a second leaves: seconds done, since-second, call and store; the two sets' states; the decided amounts; the totals

abbrev pub first_numbers : Run → List ℕ
first_numbers r = r.done ∷ r.since ∷ r.called ∷ r.store ∷ []

abbrev total_numbers : Totals → List ℕ
total_numbers t = t.offered ∷ t.load ∷ t.shed ∷ t.solar ∷ t.charge ∷ t.spill ∷ t.give ∷ t.diesel ∷ t.unserved ∷ []

-- ---- a second short of power: set 2 On, 10,000 W in the store, 5,000 W decided two seconds ago and 6,000 W one second ago

abbrev pub short : Run
short =
    run_with (10 ∷ 9 ∷ 1 ∷ 1000100 ∷ []) (Some (float 90000))
    (state_with Off (5 ∷ 4 ∷ 3 ∷ 2 ∷ 1000 ∷ 2000 ∷ []) ∷ state_with On (7 ∷ 6 ∷ 2 ∷ 1 ∷ 3000 ∷ 4000 ∷ []) ∷ []) (5000 ∷ 6000 ∷ []) totals

abbrev short_in : Inputs
short_in = inputs 95000 10002 8000

-- cap 60,000, floor 24,000, off 5,000, D 90,000, solar 10,002, R 79,998, given 10,000, diesel 60,000; decided min(8,000, 30,998); coverage 5,001,
-- live 3,000, reserve 7,000, wanted 86,998, held 88,499, so that 2 is called and set 1 is started
abbrev short_cases : List Case
short_cases =
    (columns (step station short short_in).row shows 10 ∷ 95000 ∷ 5000 ∷ 10002 ∷ 0 ∷ 0 ∷ 10000 ∷ 60000 ∷ 9998 ∷ 2 ∷ 1 ∷ 2 ∷ 100 ∷ [])
    ∷ (first_numbers (step station short short_in).run shows 11 ∷ 10 ∷ 2 ∷ 100 ∷ [])
    ∷ (joined (map state_numbers (take 3 (step station short short_in).run.sets))
    shows (1 ∷ 2 ∷ 5 ∷ 4 ∷ 4 ∷ 2 ∷ 1000 ∷ 2000 ∷ []) ++ (2 ∷ 0 ∷ 8 ∷ 7 ∷ 2 ∷ 1 ∷ 63000 ∷ 20500 ∷ []) ++ replicate 8 0)
    ∷ ((step station short short_in).run.decided shows 6000 ∷ 8000 ∷ replicate 58 0)
    ∷ (total_numbers (step station short short_in).run.totals shows 10013 ∷ 95012 ∷ 5013 ∷ 10016 ∷ 15 ∷ 16 ∷ 10017 ∷ 60018 ∷ 10017 ∷ [])
    ∷ []

-- ---- a second with solar over: set 1 comes on line, becomes due, and is let go

abbrev sunny : Run
sunny =
    run_with (10 ∷ 9 ∷ 3 ∷ 8990000 ∷ []) None
    (state_with (Warming 1) (5 ∷ 49 ∷ 3 ∷ 2 ∷ 1000 ∷ 2000 ∷ []) ∷ state_with On (7 ∷ 6 ∷ 2 ∷ 1 ∷ 3000 ∷ 4000 ∷ []) ∷ []) [] totals

abbrev later : Station
later = station_with control battery (set sets 0 (100000 ∷ 2 ∷ 3 ∷ 51 ∷ 7 ∷ 2 ∷ 0 ∷ 2000 ∷ 1000 ∷ 27000 ∷ [])) (2 ∷ 1 ∷ 3 ∷ [])

abbrev sunny_in : Inputs
sunny_in = inputs 70000 40000 5000

-- cap 160,000, floor 64,000, solar 6,000, R 64,000, surplus 34,000, room for 111; shares 40,000 and 24,000, rates 12,000 and 7,500; coverage 3,000,
-- live 5,000, reserve 5,000, held 69,000, which no usable configuration covers
abbrev sunny_cases : List Case
sunny_cases =
    (columns (step station sunny sunny_in).row shows 10 ∷ 70000 ∷ 0 ∷ 6000 ∷ 111 ∷ 33889 ∷ 0 ∷ 64000 ∷ 0 ∷ 3 ∷ 2 ∷ 1 ∷ 8999990 ∷ [])
    ∷ (first_numbers (step station sunny sunny_in).run shows 11 ∷ 10 ∷ 1 ∷ 8999990 ∷ [])
    ∷ (joined (map state_numbers (take 3 (step station sunny sunny_in).run.sets))
    shows (3 ∷ 3 ∷ 6 ∷ 50 ∷ 3 ∷ 3 ∷ 41000 ∷ 14000 ∷ []) ++ (2 ∷ 0 ∷ 8 ∷ 7 ∷ 2 ∷ 1 ∷ 27000 ∷ 11500 ∷ []) ++ replicate 8 0)
    ∷ ((step station sunny sunny_in).run.decided shows replicate 60 0)
    ∷ (total_numbers (step station sunny sunny_in).run.totals shows 40011 ∷ 70012 ∷ 13 ∷ 6014 ∷ 126 ∷ 33905 ∷ 17 ∷ 64018 ∷ 19 ∷ [])
    -- with a service interval of 51 s set 1 is not due: 3 is kept, called one second ago, and its since-second stays
    ∷ (first_numbers (step later sunny sunny_in).run shows 11 ∷ 9 ∷ 3 ∷ 8999990 ∷ [])
    ∷ []

-- ---- a second with solar over and load to shed: set 1 On, and set 2, of the called configuration 1, Off; shed 30 %, maintain 1

abbrev bright : Station
bright = station_with (10000 ∷ 50 ∷ 40 ∷ 30 ∷ 2 ∷ 500 ∷ 3 ∷ 1 ∷ 2 ∷ []) battery sets (2 ∷ 1 ∷ 3 ∷ [])

abbrev shedding : Run
shedding =
    run_with (20 ∷ 18 ∷ 1 ∷ 1000000 ∷ []) (Some (float 60000))
    (state_with On (5 ∷ 4 ∷ 3 ∷ 2 ∷ 1000 ∷ 2000 ∷ []) ∷ state_with Off (7 ∷ 6 ∷ 2 ∷ 1 ∷ 3000 ∷ 4000 ∷ []) ∷ []) (15000 ∷ 7000 ∷ []) totals

abbrev shedding_in : Inputs
shedding_in = inputs 120000 100000 50000

-- cap 100,000, floor 40,000, off 15,000, D 105,000, solar 65,000, R 40,000, surplus 35,000; decided min(50,000, 25,000); coverage 32,500,
-- live 35,000, reserve 10,000, wanted 50,000, held 55,000, which the called one covers
abbrev shedding_cases : List Case
shedding_cases =
    (columns (step bright shedding shedding_in).row shows 20 ∷ 120000 ∷ 15000 ∷ 65000 ∷ 20000 ∷ 15000 ∷ 0 ∷ 40000 ∷ 0 ∷ 1 ∷ 1 ∷ 1 ∷ 2800000 ∷ [])
    ∷ (first_numbers (step bright shedding shedding_in).run shows 21 ∷ 18 ∷ 1 ∷ 2800000 ∷ [])
    ∷ (joined (map state_numbers (take 3 (step bright shedding shedding_in).run.sets))
    shows (2 ∷ 0 ∷ 6 ∷ 5 ∷ 3 ∷ 2 ∷ 41000 ∷ 14000 ∷ []) ++ (1 ∷ 1 ∷ 7 ∷ 6 ∷ 3 ∷ 1 ∷ 3000 ∷ 4000 ∷ []) ++ replicate 8 0)
    ∷ ((step bright shedding shedding_in).run.decided shows 7000 ∷ 25000 ∷ replicate 58 0)
    ∷ (total_numbers (step bright shedding shedding_in).run.totals
    shows 100011 ∷ 120012 ∷ 15013 ∷ 65014 ∷ 20015 ∷ 15016 ∷ 17 ∷ 40018 ∷ 19 ∷ [])
    ∷ []

-- ---- the call

abbrev asked : Run → Inputs → ℕ → List ℕ
asked r x room = refusal (second station r x room)

-- the length answered, or the refusal
abbrev shown : Answer ℕ → List ℕ
shown (accepted n) = n ∷ []
shown (refused number place) = refuses number place

abbrev answered : Answer Step → List ℕ
answered a = shown (length_answered a)

-- one number of the record changed
abbrev pub numbered : ℕ → ℕ → Run
numbered i n = run_with (set (10 ∷ 9 ∷ 1 ∷ 1000100 ∷ []) i n) None (state_with Off [] ∷ state_with On [] ∷ []) [] []

abbrev call_cases : List Case
call_cases =
    -- 23: "316,224,000 seconds already done"; above it 24
    (asked (numbered 0 316_223_999) short_in 256 shows accepts)
    ∷ (asked (numbered 0 316_224_000) short_in 256 shows refuses 23 0)
    ∷ (asked (numbered 0 316_224_001) short_in 256 shows refuses 24 0)
    -- 19: a power over 50,000 kW
    ∷ (asked short (inputs 50_000_000 50_000_000 50_000_000) 256 shows accepts)
    ∷ (asked short (inputs 50_000_001 0 0) 256 shows refuses 19 0)
    ∷ (asked short (inputs 0 50_000_001 0) 256 shows refuses 19 0)
    ∷ (asked short (inputs 50_000_000 0 50_000_001) 256 shows refuses 19 0)
    -- 20: "sheddable load above load"
    ∷ (asked short (inputs 7 0 7) 256 shows accepts)
    ∷ (asked short (inputs 7 0 8) 256 shows refuses 20 0)
    -- 26: "row buffer under 256 bytes"
    ∷ (asked short short_in 255 shows refuses 26 0)
    ∷ (asked short short_in 256 shows accepts)
    -- "A second: 25, 24, 23, 19, 20, 26."
    ∷ (refusal (second (station_with control battery sets []) (numbered 2 9) (inputs 50_000_001 0 0) 0) shows refuses 25 0)
    ∷ (asked (numbered 2 9) (inputs 50_000_001 0 0) 0 shows refuses 24 0)
    ∷ (asked (numbered 0 316_224_000) (inputs 50_000_001 0 0) 0 shows refuses 23 0)
    ∷ (asked short (inputs 0 0 50_000_001) 0 shows refuses 19 0)
    ∷ (asked short (inputs 7 0 8) 0 shows refuses 20 0)
    -- "a second answers the row's length, LF counted, and bytes past the row stay"
    ∷ (answered (second station short short_in 300) shows 51 ∷ [])
    ∷ (buffer_left (replicate 300 7) (second station short short_in 300)
    shows bytes "10,95000,5000,10002,0,0,10000,60000,9998,2,1,2,100\n" ++ replicate 249 7)
    ∷ (first_numbers (record_handed short (second station short short_in 300)) shows 11 ∷ 10 ∷ 2 ∷ 100 ∷ [])
    -- "A refused call hands the run's record back unchanged and writes nothing to a lent buffer."
    ∷ (answered (second station short short_in 255) shows refuses 26 0)
    ∷ (buffer_left (replicate 255 7) (second station short short_in 255) shows replicate 255 7)
    ∷ (first_numbers (record_handed short (second station short short_in 255)) shows 10 ∷ 9 ∷ 1 ∷ 1000100 ∷ [])
    ∷ []

abbrev second_cases : List Case
second_cases = short_cases ++ sunny_cases ++ shedding_cases ++ call_cases

pub second-edges : given second_cases ≡ said second_cases
unfolding Numbers.every Bytes.bytes Bytes.digits_in Bytes.decimal Bytes.comma_line StationRecord.control_right StationRecord.battery_right StationRecord.set_right StationRecord.pairs_right StationRecord.sets_right StationRecord.configurations_right StationRecord.values_right StationRecord.some_file_gives RunRecord.state_possible RunRecord.states_possible RunRecord.decided_possible RunRecord.possible Row.row_text Second.admitted Second.second Numbers.sum_to Numbers.all_to Numbers.tab Numbers.mask_of StationRecord.past_end StationRecord.set_at Share.running_total Share.capacity Share.share Fuel.exact_line Fuel.lower_of Fuel.lower_point Fuel.exact_from Fuel.fuel_rate Modes.state_at Modes.due Modes.tick_from Modes.tick Modes.ticked Modes.on_mask Flows.floor_load Flows.shed_now Flows.solar_on_load Flows.battery_gives Flows.battery_takes Flows.store_after Flows.diesel_for Flows.watts_with Flows.watts_for Flows.shed_decided Flows.decided_after Setpoint.coverage_of Setpoint.reserve Setpoint.wanted_for Setpoint.float Setpoint.thousandths Setpoint.filter_of Setpoint.filtered Setpoint.held_after Setpoint.covers Configuration.mask_called Configuration.usable Configuration.usable_covering Configuration.first_covering Configuration.greatest_usable Configuration.chosen Commands.counted Commands.counted_all Commands.command_from Commands.command Commands.every_on Commands.commanded_all Second.states_now Second.on_now Second.cap_now Second.floor_now Second.watts_now Second.store_now Second.decided_now Second.ran_now Second.held_now Second.call_now Second.commanded_now Second.record_after Second.row_after Second.step Ieee.span Ieee.climb Ieee.size Ieee.odd Ieee.units Ieee.round Ieee.sum Ieee.add Ieee.mul Ieee.div Ieee.lt Ieee.eq Ieee.le Ieee.of_int Count.ones Count.ones_in Count.count_trailing_zeros
second-edges = refl

-- "held x (k/1000) + wanted x ((1000-k)/1000)"; "With none held, held becomes wanted"
abbrev held_left : List (Option Float)
held_left = (step station short short_in).run.setpoint ∷ (step station sunny sunny_in).run.setpoint ∷ (step bright shedding shedding_in).run.setpoint ∷ []

pub held-left : held_left ≡ Some (float 88499) ∷ Some (float 69000) ∷ Some (float 55000) ∷ []
unfolding Numbers.sum_to Numbers.all_to Numbers.tab Numbers.mask_of StationRecord.past_end StationRecord.set_at Share.running_total Share.capacity Share.share Fuel.exact_line Fuel.lower_of Fuel.lower_point Fuel.exact_from Fuel.fuel_rate Modes.state_at Modes.due Modes.tick_from Modes.tick Modes.ticked Modes.on_mask Flows.floor_load Flows.shed_now Flows.solar_on_load Flows.battery_gives Flows.battery_takes Flows.store_after Flows.diesel_for Flows.watts_with Flows.watts_for Flows.shed_decided Flows.decided_after Setpoint.coverage_of Setpoint.reserve Setpoint.wanted_for Setpoint.float Setpoint.thousandths Setpoint.filter_of Setpoint.filtered Setpoint.held_after Setpoint.covers Configuration.mask_called Configuration.usable Configuration.usable_covering Configuration.first_covering Configuration.greatest_usable Configuration.chosen Commands.counted Commands.counted_all Commands.command_from Commands.command Commands.every_on Commands.commanded_all Second.states_now Second.on_now Second.cap_now Second.floor_now Second.watts_now Second.store_now Second.decided_now Second.ran_now Second.held_now Second.call_now Second.commanded_now Second.record_after Second.row_after Second.step Ieee.span Ieee.climb Ieee.size Ieee.odd Ieee.units Ieee.round Ieee.sum Ieee.add Ieee.mul Ieee.div Ieee.lt Ieee.eq Ieee.le Ieee.of_int Count.ones Count.ones_in Count.count_trailing_zeros
held-left = refl
