-- The claim's own words on Station A's five seconds, by computation: what the rows show, what follows from them, and what the rules
-- give from the start where calls are refused between the rows, or are of many seconds. Assumes nothing.
use Rattle.std.specs.Prelude.{Ok}
use Prim.Native.Nat.{ℕ}
use mathlib.Core.Path.{◌≡◌, refl}
use mathlib.Core.List.{List, [], ◌∷◌, ◌++◌}
use lib.ListN.{length, replicate}
use lib.Count
use lib.Ieee
use Rattle.rules.specs.Bytes
use Rattle.rules.specs.Cases
use Rattle.rules.specs.Commands
use Rattle.rules.specs.Configuration
use Rattle.rules.specs.Flows
use Rattle.rules.specs.Fuel
use Rattle.rules.specs.Modes
use Rattle.rules.specs.Numbers
use Rattle.rules.specs.Row
use Rattle.rules.specs.RunRecord
use Rattle.rules.specs.Second
use Rattle.rules.specs.Seconds
use Rattle.rules.specs.Setpoint
use Rattle.rules.specs.Share
use Rattle.rules.specs.StationFile
use Rattle.rules.specs.StationRecord
use Rattle.rules.specs.declared.answers.Ended.{Ended}
use Rattle.rules.specs.declared.answers.Ended.TheVariants.{AllWorked, NoRoom, BeforeRefused}
use Rattle.rules.specs.declared.run.Inputs.{Inputs}
use Rattle.rules.specs.Answers.{accepted, refused}
use Rattle.rules.specs.Bytes.{bytes}
use Rattle.rules.specs.Cases.{record_a}
use Rattle.rules.specs.RunRecord.{start_record}
use Rattle.claims_rules.specs.Shown.{numbers_in, shown_in, shown, Worked, total}
use Rattle.claims_rules.specs.Replay.{Replay, at_first, modes_in, clocks_in, counts_in, held_in, following, followed_to, replayed}
use Rattle.claims_rules.specs.Burned.{powers_of}
use Rattle.claims_rules.specs.Claim.{worked_in, Asked, ruled_from, ruled, met_by}
use Rattle.claims_rules.specs.Batches.{one, many, Batch, BatchAnswer, AskedBatch, came_by, ruled_batches_from, ruled_batches, rows_each, rows_in_batches}

handed : ℕ → ℕ → ℕ → Inputs
handed load solar sheddable = record { load = load; solar = solar; sheddable = sheddable }

row0 : List ℕ
row0 = bytes "0,40000,0,10000,0,0,0,30000,0,2,1,1,1000000\n"

row1 : List ℕ
row1 = bytes "1,75000,0,10000,0,0,5000,60000,0,2,1,2,500000\n"

row2 : List ℕ
row2 = bytes "2,75000,5000,10000,0,0,0,60000,0,2,1,2,500000\n"

row3 : List ℕ
row3 = bytes "3,30000,5000,0,20000,20000,0,25000,0,3,2,2,2300000\n"

row4 : List ℕ
row4 = bytes "4,30000,0,0,20000,20000,0,30000,0,1,1,1,4100000\n"

second : Inputs → List ℕ → Worked
second x text = record { inputs = x; row = shown text }

rows : List Worked
rows =
    second (handed 40000 10000 0) row0 ∷ second (handed 75000 10000 5000) row1 ∷ second (handed 75000 10000 5000) row2 ∷ second (handed 30000 40000 5000) row3 ∷ second (handed 30000 40000 5000) row4 ∷ []

after : Replay
after = followed_to record_a (at_first record_a) rows

asks : Inputs → ℕ → Asked
asks x room = record { inputs = x; room = room }

-- The powers of each set in the seconds that it ran, whose sums are the paper's energies 45625 and 159375; after the rows the sets' clocks,
-- the configuration called and the second in which it was; and the load, with what met it.
rows_tell : ◌≡◌ {A = List (List ℕ)}
    (powers_of record_a 0 (replayed record_a (at_first record_a) rows) ∷ powers_of record_a 1 (replayed record_a (at_first record_a) rows) ∷ after.clocks ∷ (after.called ∷ after.changed ∷ []) ∷ (total (λ s. s.row.load) rows ∷ met_by rows ∷ []) ∷ [])
    ((15625 ∷ 30000 ∷ []) ∷ (30000 ∷ 60000 ∷ 60000 ∷ 9375 ∷ []) ∷ (2 ∷ 4 ∷ 0 ∷ 0 ∷ 0 ∷ 0 ∷ 0 ∷ 0 ∷ []) ∷ (1 ∷ 4 ∷ []) ∷ (250000 ∷ 250000 ∷ []) ∷ [])
unfolding numbers_in shown_in shown total at_first modes_in clocks_in counts_in held_in following followed_to replayed powers_of row0 row1 row2 row3 row4 second rows after handed Numbers.sum_to Numbers.all_to Numbers.tab Numbers.mask_of Numbers.every Bytes.bytes Bytes.little Bytes.littles Bytes.bytes_of Bytes.bytes_of_all Bytes.digits_in Bytes.decimal Bytes.comma_line Bytes.value_from Bytes.parts StationRecord.past_end StationRecord.set_at StationRecord.no_set StationRecord.control_right StationRecord.battery_right StationRecord.set_right StationRecord.pairs_right StationRecord.sets_right StationRecord.configurations_right StationRecord.values_right StationFile.entry_right StationFile.sets_of StationFile.record_of StationFile.contents_right StationFile.station_file Share.running_total Share.capacity Share.share Fuel.exact_line Fuel.lower_of Fuel.lower_point Fuel.exact_from Fuel.fuel_rate Modes.state_at Modes.due Modes.tick_from Modes.tick Modes.ticked Modes.on_mask Flows.floor_load Flows.shed_now Flows.solar_on_load Flows.battery_gives Flows.battery_takes Flows.store_after Flows.diesel_for Flows.watts_with Flows.watts_for Flows.shed_decided Flows.decided_after Setpoint.coverage_of Setpoint.reserve Setpoint.wanted_for Setpoint.float Setpoint.thousandths Setpoint.filter_of Setpoint.filtered Setpoint.held_after Setpoint.covers Configuration.mask_called Configuration.usable Configuration.usable_covering Configuration.first_covering Configuration.greatest_usable Configuration.chosen Commands.counted Commands.counted_all Commands.command_from Commands.command Commands.every_on Commands.commanded_all RunRecord.start_record Row.row_text Second.states_now Second.on_now Second.cap_now Second.floor_now Second.watts_now Second.store_now Second.decided_now Second.ran_now Second.held_now Second.call_now Second.commanded_now Second.record_after Second.row_after Second.step Cases.station_a Cases.record_a Ieee.span Ieee.climb Ieee.size Ieee.odd Ieee.units Ieee.round Ieee.sum Ieee.add Ieee.mul Ieee.div Ieee.lt Ieee.eq Ieee.le Ieee.of_int Count.ones Count.ones_in Count.count_trailing_zeros
rows_tell = refl

rules-give : ruled record_a
    (asks (handed 40000 10000 0) 255 ∷ asks (handed 40000 10000 0) 256 ∷ asks (handed 50000001 0 0) 300 ∷ asks (handed 75000 10000 5000) 300 ∷ asks (handed 4999 0 5000) 300 ∷ asks (handed 75000 10000 5000) 256 ∷ [])
    ≡ refused 26 0 ∷ accepted row0 ∷ refused 19 0 ∷ accepted row1 ∷ refused 20 0 ∷ accepted row2 ∷ []
unfolding ruled_from ruled row0 row1 row2 handed asks Second.admitted Numbers.sum_to Numbers.all_to Numbers.tab Numbers.mask_of Numbers.every Bytes.bytes Bytes.little Bytes.littles Bytes.bytes_of Bytes.bytes_of_all Bytes.digits_in Bytes.decimal Bytes.comma_line Bytes.value_from Bytes.parts StationRecord.past_end StationRecord.set_at StationRecord.no_set StationRecord.control_right StationRecord.battery_right StationRecord.set_right StationRecord.pairs_right StationRecord.sets_right StationRecord.configurations_right StationRecord.values_right StationFile.entry_right StationFile.sets_of StationFile.record_of StationFile.contents_right StationFile.station_file Share.running_total Share.capacity Share.share Fuel.exact_line Fuel.lower_of Fuel.lower_point Fuel.exact_from Fuel.fuel_rate Modes.state_at Modes.due Modes.tick_from Modes.tick Modes.ticked Modes.on_mask Flows.floor_load Flows.shed_now Flows.solar_on_load Flows.battery_gives Flows.battery_takes Flows.store_after Flows.diesel_for Flows.watts_with Flows.watts_for Flows.shed_decided Flows.decided_after Setpoint.coverage_of Setpoint.reserve Setpoint.wanted_for Setpoint.float Setpoint.thousandths Setpoint.filter_of Setpoint.filtered Setpoint.held_after Setpoint.covers Configuration.mask_called Configuration.usable Configuration.usable_covering Configuration.first_covering Configuration.greatest_usable Configuration.chosen Commands.counted Commands.counted_all Commands.command_from Commands.command Commands.every_on Commands.commanded_all RunRecord.start_record Row.row_text Second.states_now Second.on_now Second.cap_now Second.floor_now Second.watts_now Second.store_now Second.decided_now Second.ran_now Second.held_now Second.call_now Second.commanded_now Second.record_after Second.row_after Second.step Cases.station_a Cases.record_a Ieee.span Ieee.climb Ieee.size Ieee.odd Ieee.units Ieee.round Ieee.sum Ieee.add Ieee.mul Ieee.div Ieee.lt Ieee.eq Ieee.le Ieee.of_int Count.ones Count.ones_in Count.count_trailing_zeros
rules-give = refl

-- ---- the same five seconds where calls of many are mixed with calls of one

numbers0 : List ℕ
numbers0 = 0 ∷ 40000 ∷ 0 ∷ 10000 ∷ 0 ∷ 0 ∷ 0 ∷ 30000 ∷ 0 ∷ 2 ∷ 1 ∷ 1 ∷ 1000000 ∷ []

numbers2 : List ℕ
numbers2 = 2 ∷ 75000 ∷ 5000 ∷ 10000 ∷ 0 ∷ 0 ∷ 0 ∷ 60000 ∷ 0 ∷ 2 ∷ 1 ∷ 2 ∷ 500000 ∷ []

numbers3 : List ℕ
numbers3 = 3 ∷ 30000 ∷ 5000 ∷ 0 ∷ 20000 ∷ 20000 ∷ 0 ∷ 25000 ∷ 0 ∷ 3 ∷ 2 ∷ 2 ∷ 2300000 ∷ []

numbers4 : List ℕ
numbers4 = 4 ∷ 30000 ∷ 0 ∷ 0 ∷ 20000 ∷ 20000 ∷ 0 ∷ 30000 ∷ 0 ∷ 1 ∷ 1 ∷ 1 ∷ 4100000 ∷ []

asks_many : List ℕ → ℕ → AskedBatch
asks_many inputs room = many (record { inputs = inputs; room = room })

tells : ℕ → List ℕ → Ended → BatchAnswer
tells seconds numbers ended = many (record { seconds = seconds; numbers = numbers; ended = ended })

-- a call of one second and calls of many go on from each other's record, whichever is refused or ends early
rules-give-mixed : ruled_batches record_a
    (one (asks (handed 40000 10000 0) 255)
    ∷ asks_many (40000 ∷ 10000 ∷ 0 ∷ 75000 ∷ 10000 ∷ 5000 ∷ []) 25
    ∷ one (asks (handed 75000 10000 5000) 256)
    ∷ asks_many (75000 ∷ 10000 ∷ 5000 ∷ 4999 ∷ 0 ∷ 5000 ∷ 30000 ∷ 40000 ∷ 5000 ∷ []) 39
    ∷ asks_many (30000 ∷ 40000 ∷ 5000 ∷ 30000 ∷ 40000 ∷ 5000 ∷ []) 26
    ∷ [])
    ≡ one (refused 26 0) ∷ tells 1 numbers0 NoRoom ∷ one (accepted row1) ∷ tells 1 numbers2 BeforeRefused ∷ tells 2 (numbers3 ++ numbers4) AllWorked ∷ []
unfolding ruled_batches_from ruled_batches came_by Seconds.inputs_each Seconds.numbers_of row1 numbers0 numbers2 numbers3 numbers4 asks_many tells handed asks Second.admitted Numbers.sum_to Numbers.all_to Numbers.tab Numbers.mask_of Numbers.every Bytes.bytes Bytes.little Bytes.littles Bytes.bytes_of Bytes.bytes_of_all Bytes.digits_in Bytes.decimal Bytes.comma_line Bytes.value_from Bytes.parts StationRecord.past_end StationRecord.set_at StationRecord.no_set StationRecord.control_right StationRecord.battery_right StationRecord.set_right StationRecord.pairs_right StationRecord.sets_right StationRecord.configurations_right StationRecord.values_right StationFile.entry_right StationFile.sets_of StationFile.record_of StationFile.contents_right StationFile.station_file Share.running_total Share.capacity Share.share Fuel.exact_line Fuel.lower_of Fuel.lower_point Fuel.exact_from Fuel.fuel_rate Modes.state_at Modes.due Modes.tick_from Modes.tick Modes.ticked Modes.on_mask Flows.floor_load Flows.shed_now Flows.solar_on_load Flows.battery_gives Flows.battery_takes Flows.store_after Flows.diesel_for Flows.watts_with Flows.watts_for Flows.shed_decided Flows.decided_after Setpoint.coverage_of Setpoint.reserve Setpoint.wanted_for Setpoint.float Setpoint.thousandths Setpoint.filter_of Setpoint.filtered Setpoint.held_after Setpoint.covers Configuration.mask_called Configuration.usable Configuration.usable_covering Configuration.first_covering Configuration.greatest_usable Configuration.chosen Commands.counted Commands.counted_all Commands.command_from Commands.command Commands.every_on Commands.commanded_all RunRecord.start_record Row.row_text Second.states_now Second.on_now Second.cap_now Second.floor_now Second.watts_now Second.store_now Second.decided_now Second.ran_now Second.held_now Second.call_now Second.commanded_now Second.record_after Second.row_after Second.step Cases.station_a Cases.record_a Ieee.span Ieee.climb Ieee.size Ieee.odd Ieee.units Ieee.round Ieee.sum Ieee.add Ieee.mul Ieee.div Ieee.lt Ieee.eq Ieee.le Ieee.of_int Count.ones Count.ones_in Count.count_trailing_zeros
rules-give-mixed = refl

-- what is read back from numbers is what is read back from bytes
made_many : List ℕ → ℕ → List ℕ → Ended → Batch
made_many inputs seconds left ended = many (record { inputs = inputs; lent = []; worked = record { run = start_record record_a; seconds = seconds; ended = ended }; left = left })

made_one : Inputs → List ℕ → Batch
made_one x text = one (record { inputs = x; lent = []; handed = record { answer = Ok (length text); run = start_record record_a }; left = text })

numbers-show : rows_in_batches
    (made_many (40000 ∷ 10000 ∷ 0 ∷ 75000 ∷ 10000 ∷ 5000 ∷ []) 1 (numbers0 ++ replicate 12 7) NoRoom
    ∷ made_one (handed 75000 10000 5000) row1
    ∷ made_many (75000 ∷ 10000 ∷ 5000 ∷ 4999 ∷ 0 ∷ 5000 ∷ []) 1 (numbers2 ++ replicate 26 7) BeforeRefused
    ∷ made_many (30000 ∷ 40000 ∷ 5000 ∷ 30000 ∷ 40000 ∷ 5000 ∷ []) 2 (numbers3 ++ numbers4) AllWorked
    ∷ [])
    ≡ rows
unfolding rows_in_batches rows_each worked_in Seconds.inputs_each numbers_in shown_in shown row0 row1 row2 row3 row4 numbers0 numbers2 numbers3 numbers4 made_many made_one second rows handed Bytes.bytes Bytes.value_from Bytes.parts
numbers-show = refl
