-- Many seconds in one call, at both sides of each of its ends: none asked, room for all and for one less, a second that is refused between
-- others, and numbers that are no second's. By computation, from EdgeSecond's second that is short of power. Assumes nothing.
use Prim.Native.Nat.{ℕ}
use mathlib.Core.Path.{◌≡◌, refl}
use mathlib.Core.List.{List, [], ◌∷◌, ◌++◌}
use lib.ListN.{set, replicate}
use lib.Ieee
use lib.Count
use Rattle.rules.specs.declared.answers.Ended.{Ended}
use Rattle.rules.specs.declared.answers.Ended.TheVariants.{AllWorked, NoRoom, BeforeRefused}
use Rattle.rules.specs.declared.station.Station.{Station}
use Rattle.rules.specs.declared.run.Run.{Run}
use Rattle.rules.specs.Numbers
use Rattle.rules.specs.StationRecord
use Rattle.rules.specs.Share
use Rattle.rules.specs.Fuel
use Rattle.rules.specs.Modes
use Rattle.rules.specs.Flows
use Rattle.rules.specs.Setpoint
use Rattle.rules.specs.Configuration
use Rattle.rules.specs.Commands
use Rattle.rules.specs.RunRecord
use Rattle.rules.specs.Second
use Rattle.rules.specs.Seconds
use Rattle.rules.specs.Seconds.{numbers_of, WorkedSeconds, came_of}
use Rattle.rules.specs.Cases.{Case, ◌shows◌}
use Rattle.rules.proofs.EdgeRecords.{given, said, station_with}
use Rattle.rules.proofs.EdgeSecond.{control, battery, sets, station, numbered, short, first_numbers}

-- the end by a number, the first numbers of the record after it, and the rows' numbers
abbrev end_number : Ended → ℕ
end_number AllWorked = 1
end_number NoRoom = 2
end_number BeforeRefused = 3

abbrev left : WorkedSeconds → List ℕ
left c = end_number c.ended ∷ first_numbers c.run ++ numbers_of c.rows

abbrev comes : Ended → List ℕ → List ℕ → List ℕ
comes e record-after rows = end_number e ∷ record-after ++ rows

-- what the inputs come to, with so many numbers lent
abbrev worked : List ℕ → ℕ → List ℕ
worked inputs places = left (came_of station short inputs (replicate places 7))

-- ---- two seconds worked by hand: EdgeSecond's, and after it the same inputs again

abbrev again : List ℕ
again = 95000 ∷ 10002 ∷ 8000 ∷ []

abbrev before : List ℕ
before = 10 ∷ 9 ∷ 1 ∷ 1000100 ∷ []

abbrev after_one : List ℕ
after_one = 11 ∷ 10 ∷ 2 ∷ 100 ∷ []

abbrev first_row : List ℕ
first_row = 10 ∷ 95000 ∷ 5000 ∷ 10002 ∷ 0 ∷ 0 ∷ 10000 ∷ 60000 ∷ 9998 ∷ 2 ∷ 1 ∷ 2 ∷ 100 ∷ []

-- set 1 is still warming: cap 60,000, off 6,000, D 89,000, solar 10,002, R 78,998, nothing above the store's least, diesel 60,000; held
-- 87,748.5, which the called one covers
abbrev after_two : List ℕ
after_two = 12 ∷ 10 ∷ 2 ∷ 100 ∷ []

abbrev second_row : List ℕ
second_row = 11 ∷ 95000 ∷ 6000 ∷ 10002 ∷ 0 ∷ 0 ∷ 0 ∷ 60000 ∷ 18998 ∷ 2 ∷ 1 ∷ 2 ∷ 100 ∷ []

-- the last second of the longest run, with no amount decided before it: D 95,000, R 84,998, given 10,000, reserve 2,000, held 86,998
abbrev after_last : List ℕ
after_last = 316_224_000 ∷ 316_223_999 ∷ 2 ∷ 100 ∷ []

abbrev last_row : List ℕ
last_row = 316_223_999 ∷ 95000 ∷ 0 ∷ 10002 ∷ 0 ∷ 0 ∷ 10000 ∷ 60000 ∷ 14998 ∷ 2 ∷ 1 ∷ 2 ∷ 100 ∷ []

-- one that the rules refuse by 19
abbrev over : List ℕ
over = 50_000_001 ∷ 0 ∷ 0 ∷ []

-- ---- a station that no file gives, and a record that is not possible

abbrev no_file : Station
no_file = station_with control battery sets []

abbrev not_possible : Run
not_possible = numbered 2 9

abbrev many_cases : List Case
many_cases =
    -- none asked: all are worked, whatever station and record are, and with no row lent
    (worked [] 26 shows comes AllWorked before [])
    ∷ (worked [] 0 shows comes AllWorked before [])
    ∷ (left (came_of no_file short [] []) shows comes AllWorked before [])
    ∷ (left (came_of station not_possible [] []) shows comes AllWorked (set before 2 9) [])
    -- numbers left over at the end are no second's
    ∷ (worked (95000 ∷ []) 26 shows comes AllWorked before [])
    ∷ (worked (95000 ∷ 10002 ∷ []) 26 shows comes AllWorked before [])
    ∷ (worked (again ++ (50_000_001 ∷ [])) 13 shows comes AllWorked after_one first_row)
    ∷ (worked (again ++ (50_000_001 ∷ 0 ∷ [])) 13 shows comes AllWorked after_one first_row)
    -- room for no row, and for one
    ∷ (worked again 0 shows comes NoRoom before [])
    ∷ (worked again 12 shows comes NoRoom before [])
    ∷ (worked again 13 shows comes AllWorked after_one first_row)
    -- room for one of two, and for both
    ∷ (worked (again ++ again) 25 shows comes NoRoom after_one first_row)
    ∷ (worked (again ++ again) 26 shows comes AllWorked after_two (first_row ++ second_row))
    ∷ (worked (again ++ again) 300 shows comes AllWorked after_two (first_row ++ second_row))
    -- the second of three refused: the record is that after the first, and none after it is worked
    ∷ (worked (again ++ over ++ again) 39 shows comes BeforeRefused after_one first_row)
    ∷ (worked (over ++ again) 39 shows comes BeforeRefused before [])
    -- one that has no room is not judged
    ∷ (worked (again ++ over ++ again) 25 shows comes NoRoom after_one first_row)
    ∷ (left (came_of no_file short again (replicate 12 7)) shows comes NoRoom before [])
    -- 25 and 24, where one is asked
    ∷ (left (came_of no_file short again (replicate 13 7)) shows comes BeforeRefused before [])
    ∷ (left (came_of station not_possible again (replicate 13 7)) shows comes BeforeRefused (set before 2 9) [])
    -- 23: none after the last second of the longest run
    ∷ (left (came_of station (numbered 0 316_223_999) (again ++ again) (replicate 26 7)) shows comes BeforeRefused after_last last_row)
    ∷ []

pub many-edges : given many_cases ≡ said many_cases
unfolding Seconds.inputs_each Seconds.numbers_of Seconds.came_to Numbers.every StationRecord.control_right StationRecord.battery_right StationRecord.set_right StationRecord.pairs_right StationRecord.sets_right StationRecord.configurations_right StationRecord.values_right StationRecord.some_file_gives RunRecord.state_possible RunRecord.states_possible RunRecord.decided_possible RunRecord.possible Second.admitted Second.second Numbers.sum_to Numbers.all_to Numbers.tab Numbers.mask_of StationRecord.past_end StationRecord.set_at Share.running_total Share.capacity Share.share Fuel.exact_line Fuel.lower_of Fuel.lower_point Fuel.exact_from Fuel.fuel_rate Modes.state_at Modes.due Modes.tick_from Modes.tick Modes.ticked Modes.on_mask Flows.floor_load Flows.shed_now Flows.solar_on_load Flows.battery_gives Flows.battery_takes Flows.store_after Flows.diesel_for Flows.watts_with Flows.watts_for Flows.shed_decided Flows.decided_after Setpoint.coverage_of Setpoint.reserve Setpoint.wanted_for Setpoint.float Setpoint.thousandths Setpoint.filter_of Setpoint.filtered Setpoint.held_after Setpoint.covers Configuration.mask_called Configuration.usable Configuration.usable_covering Configuration.first_covering Configuration.greatest_usable Configuration.chosen Commands.counted Commands.counted_all Commands.command_from Commands.command Commands.every_on Commands.commanded_all Second.states_now Second.on_now Second.cap_now Second.floor_now Second.watts_now Second.store_now Second.decided_now Second.ran_now Second.held_now Second.call_now Second.commanded_now Second.record_after Second.row_after Second.step Ieee.span Ieee.climb Ieee.size Ieee.odd Ieee.units Ieee.round Ieee.sum Ieee.add Ieee.mul Ieee.div Ieee.lt Ieee.eq Ieee.le Ieee.of_int Count.ones Count.ones_in Count.count_trailing_zeros
many-edges = refl
