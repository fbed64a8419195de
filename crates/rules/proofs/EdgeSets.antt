-- Document 01, steps 1, 2, 6, 8 and 11, at their edges, over eight sets: modes, sums, shares, counts and commands. By computation.
-- Assumes nothing.
use Prim.Native.Nat.{ℕ, ◌+◌}
use mathlib.Core.Path.{◌≡◌, refl}
use mathlib.Core.List.{List, [], ◌∷◌, ◌++◌, map}
use lib.ListN.{take, drop, get_or, replicate}
use Rattle.rules.specs.declared.station.GenSet.{GenSet}
use Rattle.rules.specs.declared.run.Mode.{Mode}
use Rattle.rules.specs.declared.run.Mode.TheVariants.{Off, Warming, On, Cooling, Service}
use Rattle.rules.specs.declared.run.SetState.{SetState}
use Rattle.rules.specs.Numbers
use Rattle.rules.specs.StationRecord
use Rattle.rules.specs.StationFile.{set_of}
use Rattle.rules.specs.Share
use Rattle.rules.specs.Share.{capacity, share}
use Rattle.rules.specs.Fuel
use Rattle.rules.specs.Modes
use Rattle.rules.specs.Modes.{tick, ticked, on_mask}
use Rattle.rules.specs.Flows
use Rattle.rules.specs.Flows.{floor_load}
use Rattle.rules.specs.Commands
use Rattle.rules.specs.Commands.{counted_all, commanded_all}
use Rattle.rules.specs.Cases.{Case, ◌shows◌}
use Rattle.rules.proofs.EdgeRecords.{◌is◌, given, said, station_with, state_with, state_numbers}

-- ---- eight sets: set n has rating n W, warm-up 10 + n s, cool-down 20 + n s, service interval 30 + n s and time 40 + n s

abbrev set_of_rating : ℕ → List ℕ
set_of_rating n = n ∷ (10 + n) ∷ (20 + n) ∷ (30 + n) ∷ (40 + n) ∷ 2 ∷ 0 ∷ 100 ∷ 1000 ∷ 900 ∷ []

abbrev eight : List (List ℕ)
eight = map set_of_rating (1 ∷ 2 ∷ 3 ∷ 4 ∷ 5 ∷ 6 ∷ 7 ∷ 8 ∷ [])

abbrev sets : List GenSet
sets = map set_of eight

-- a state of this mode and service clock, with 100 run seconds, 3 starts, 4 stops, 500 Ws and 600 units of fuel
abbrev state : Mode → ℕ → SetState
state mode clock = state_with mode (100 ∷ clock ∷ 3 ∷ 4 ∷ 500 ∷ 600 ∷ [])

-- ---- 1. Modes tick.

-- a set of rating 3, whose interval is 33 s and whose service time is 43 s, and one that is never serviced
abbrev ticks : Mode → ℕ → List ℕ
ticks mode clock = state_numbers (tick (set_of (set_of_rating 3)) (state mode clock))

abbrev unserviced : GenSet
unserviced = set_of (3 ∷ 13 ∷ 23 ∷ [])

-- a set whose interval is one second
abbrev every_second : GenSet
every_second = set_of (3 ∷ 13 ∷ 23 ∷ 1 ∷ 43 ∷ [])

-- after the mode's two numbers: run seconds, service clock, starts, stops, energy, fuel
abbrev tick_edges : List Case
tick_edges =
    (ticks Off 33 shows 0 ∷ 0 ∷ 100 ∷ 33 ∷ 3 ∷ 4 ∷ 500 ∷ 600 ∷ [])
    ∷ (ticks On 33 shows 2 ∷ 0 ∷ 100 ∷ 33 ∷ 3 ∷ 4 ∷ 500 ∷ 600 ∷ [])
    -- "Warming 1 becomes On"; "larger counts fall by 1"
    ∷ (ticks (Warming 1) 33 shows 2 ∷ 0 ∷ 100 ∷ 33 ∷ 3 ∷ 4 ∷ 500 ∷ 600 ∷ [])
    ∷ (ticks (Warming 2) 33 shows 1 ∷ 1 ∷ 100 ∷ 33 ∷ 3 ∷ 4 ∷ 500 ∷ 600 ∷ [])
    ∷ (ticks (Warming 13) 33 shows 1 ∷ 12 ∷ 100 ∷ 33 ∷ 3 ∷ 4 ∷ 500 ∷ 600 ∷ [])
    -- "Cooling 1 becomes Off (Service with its time if due)"; due is "interval > 0, clock >= interval"
    ∷ (ticks (Cooling 1) 32 shows 0 ∷ 0 ∷ 100 ∷ 32 ∷ 3 ∷ 4 ∷ 500 ∷ 600 ∷ [])
    ∷ (ticks (Cooling 1) 33 shows 4 ∷ 43 ∷ 100 ∷ 33 ∷ 3 ∷ 4 ∷ 500 ∷ 600 ∷ [])
    ∷ (ticks (Cooling 1) 34 shows 4 ∷ 43 ∷ 100 ∷ 34 ∷ 3 ∷ 4 ∷ 500 ∷ 600 ∷ [])
    ∷ (ticks (Cooling 2) 33 shows 3 ∷ 1 ∷ 100 ∷ 33 ∷ 3 ∷ 4 ∷ 500 ∷ 600 ∷ [])
    ∷ (ticks (Cooling 23) 33 shows 3 ∷ 22 ∷ 100 ∷ 33 ∷ 3 ∷ 4 ∷ 500 ∷ 600 ∷ [])
    ∷ (state_numbers (tick unserviced (state (Cooling 1) 33)) shows 0 ∷ 0 ∷ 100 ∷ 33 ∷ 3 ∷ 4 ∷ 500 ∷ 600 ∷ [])
    ∷ (state_numbers (tick every_second (state (Cooling 1) 1)) shows 4 ∷ 43 ∷ 100 ∷ 1 ∷ 3 ∷ 4 ∷ 500 ∷ 600 ∷ [])
    -- "Service 1 becomes Off with its service clock 0"
    ∷ (ticks (Service 1) 33 shows 0 ∷ 0 ∷ 100 ∷ 0 ∷ 3 ∷ 4 ∷ 500 ∷ 600 ∷ [])
    ∷ (ticks (Service 2) 33 shows 4 ∷ 1 ∷ 100 ∷ 33 ∷ 3 ∷ 4 ∷ 500 ∷ 600 ∷ [])
    ∷ (ticks (Service 43) 33 shows 4 ∷ 42 ∷ 100 ∷ 33 ∷ 3 ∷ 4 ∷ 500 ∷ 600 ∷ [])
    -- the eighth set ticks by its own numbers
    ∷ (map (λ s. s.clock) (ticked sets (replicate 7 (state On 1) ++ (state (Service 1) 38 ∷ []))) shows 1 ∷ 1 ∷ 1 ∷ 1 ∷ 1 ∷ 1 ∷ 1 ∷ 0 ∷ [])
    ∷ (on_mask (ticked sets (replicate 7 (state Off 1) ++ (state (Warming 1) 1 ∷ []))) is 128)
    ∷ (on_mask (ticked sets (state (Warming 1) 1 ∷ replicate 7 (state (Warming 2) 1))) is 1)
    -- "Row shows their mask": of the sets On, and of no other mode
    ∷ (on_mask (state On 0 ∷ state Off 0 ∷ state (Warming 1) 0 ∷ state (Cooling 1) 0 ∷ state (Service 1) 0 ∷ state On 0 ∷ []) is 33)
    ∷ []

-- ---- 2. and 6. Sums and shares: ratings 1 to 8, in all 36

abbrev floor_at : ℕ → ℕ → ℕ
floor_at percentage mask = floor_load (station_with (0 ∷ 0 ∷ percentage ∷ []) [] eight []) mask

abbrev shares : ℕ → ℕ → List ℕ
shares mask diesel = map (share sets mask diesel) (0 ∷ 1 ∷ 2 ∷ 3 ∷ 4 ∷ 5 ∷ 6 ∷ 7 ∷ [])

abbrev sum_edges : List Case
sum_edges =
    -- "cap = ratings of the sets On"
    (capacity sets 0 is 0)
    ∷ (capacity sets 1 is 1)
    ∷ (capacity sets 127 is 28)
    ∷ (capacity sets 128 is 8)
    ∷ (capacity sets 255 is 36)
    -- "Floor load = cap x minimum load % / 100", rounded down: 14.4, 3.2
    ∷ (floor_at 40 255 is 14)
    ∷ (floor_at 40 128 is 3)
    ∷ (floor_at 0 255 is 0)
    ∷ (floor_at 100 255 is 36)
    ∷ (floor_at 99 255 is 35)
    -- "each takes diesel x C / cap less the same at the set before": with C 1, 3, 6, 10, 15, 21, 28, 36
    ∷ (shares 255 36 shows 1 ∷ 2 ∷ 3 ∷ 4 ∷ 5 ∷ 6 ∷ 7 ∷ 8 ∷ [])
    ∷ (shares 255 7 shows 0 ∷ 0 ∷ 1 ∷ 0 ∷ 1 ∷ 2 ∷ 1 ∷ 2 ∷ [])
    ∷ (shares 255 0 shows 0 ∷ 0 ∷ 0 ∷ 0 ∷ 0 ∷ 0 ∷ 0 ∷ 0 ∷ [])
    ∷ (shares 129 5 shows 0 ∷ 0 ∷ 0 ∷ 0 ∷ 0 ∷ 0 ∷ 0 ∷ 5 ∷ [])
    ∷ (shares 129 9 shows 1 ∷ 0 ∷ 0 ∷ 0 ∷ 0 ∷ 0 ∷ 0 ∷ 8 ∷ [])
    ∷ (shares 6 4 shows 0 ∷ 1 ∷ 3 ∷ 0 ∷ 0 ∷ 0 ∷ 0 ∷ 0 ∷ [])
    ∷ []

-- ---- 8. Counts: "A set On adds 1 to run seconds and service clock, its power to energy, its rate to fuel."

abbrev running : List SetState
running =
    state On 5 ∷ state On 6 ∷ state Off 7 ∷ state (Warming 1) 8 ∷ state (Cooling 1) 9 ∷ state (Service 1) 10 ∷ state Off 11 ∷ state On 12 ∷ []

-- sets 1, 2 and 8 On with 7 W: shares 0, 1 and 6 W, at 0, 500 and 750 thousandths, so 100, 500 and 700 mL/h
abbrev ran : ℕ → List ℕ
ran i = state_numbers (get_or (counted_all sets running 131 7) i (state Off 0))

abbrev count_edges : List Case
count_edges =
    (ran 0 shows 2 ∷ 0 ∷ 101 ∷ 6 ∷ 3 ∷ 4 ∷ 500 ∷ 700 ∷ [])
    ∷ (ran 1 shows 2 ∷ 0 ∷ 101 ∷ 7 ∷ 3 ∷ 4 ∷ 501 ∷ 1100 ∷ [])
    ∷ (ran 2 shows 0 ∷ 0 ∷ 100 ∷ 7 ∷ 3 ∷ 4 ∷ 500 ∷ 600 ∷ [])
    ∷ (ran 3 shows 1 ∷ 1 ∷ 100 ∷ 8 ∷ 3 ∷ 4 ∷ 500 ∷ 600 ∷ [])
    ∷ (ran 4 shows 3 ∷ 1 ∷ 100 ∷ 9 ∷ 3 ∷ 4 ∷ 500 ∷ 600 ∷ [])
    ∷ (ran 5 shows 4 ∷ 1 ∷ 100 ∷ 10 ∷ 3 ∷ 4 ∷ 500 ∷ 600 ∷ [])
    ∷ (ran 7 shows 2 ∷ 0 ∷ 101 ∷ 13 ∷ 3 ∷ 4 ∷ 506 ∷ 1300 ∷ [])
    ∷ []

-- ---- 11. Commands

-- mode, remaining seconds, starts and stops
abbrev moved : SetState → List ℕ
moved s = take 2 (state_numbers s) ++ (s.starts ∷ s.stops ∷ [])

abbrev moved_all : List SetState → List ℕ
moved_all [] = []
moved_all (s ∷ ss) = moved s ++ moved_all ss

-- sets 1 to 4 and 8 after the commands, from these modes, with sets 5, 6 and 7 Off
abbrev commanded : ℕ → Mode → Mode → Mode → Mode → Mode → List ℕ
commanded called a b c d h =
    let after = commanded_all sets (state a 0 ∷ state b 0 ∷ state c 0 ∷ state d 0 ∷ state Off 0 ∷ state Off 0 ∷ state Off 0 ∷ state h 0 ∷ []) called in
    moved_all (take 4 after) ++ moved_all (drop 7 after)

-- from 3 starts and 4 stops
abbrev command_edges : List Case
command_edges =
    -- "Called sets that are Off go Warming, one start.", each with its full warm-up
    (commanded 129 Off Off Off Off Off shows 1 ∷ 11 ∷ 4 ∷ 4 ∷ 0 ∷ 0 ∷ 3 ∷ 4 ∷ 0 ∷ 0 ∷ 3 ∷ 4 ∷ 0 ∷ 0 ∷ 3 ∷ 4 ∷ 1 ∷ 18 ∷ 4 ∷ 4 ∷ [])
    -- "Warming sets not called go Off, one stop.", also where a called set is not On
    ∷ (commanded 1 Off (Warming 2) (Warming 1) Off (Warming 18)
    shows 1 ∷ 11 ∷ 4 ∷ 4 ∷ 0 ∷ 0 ∷ 3 ∷ 5 ∷ 0 ∷ 0 ∷ 3 ∷ 5 ∷ 0 ∷ 0 ∷ 3 ∷ 4 ∷ 0 ∷ 0 ∷ 3 ∷ 5 ∷ [])
    -- "If every called set is On, sets On that are not called go Cooling, one stop.", with the full cool-down
    ∷ (commanded 129 On On (Warming 5) (Cooling 3) On shows 2 ∷ 0 ∷ 3 ∷ 4 ∷ 3 ∷ 22 ∷ 3 ∷ 5 ∷ 0 ∷ 0 ∷ 3 ∷ 5 ∷ 3 ∷ 3 ∷ 3 ∷ 4 ∷ 2 ∷ 0 ∷ 3 ∷ 4 ∷ [])
    ∷ (commanded 3 On On (Service 6) Off On shows 2 ∷ 0 ∷ 3 ∷ 4 ∷ 2 ∷ 0 ∷ 3 ∷ 4 ∷ 4 ∷ 6 ∷ 3 ∷ 4 ∷ 0 ∷ 0 ∷ 3 ∷ 4 ∷ 3 ∷ 28 ∷ 3 ∷ 5 ∷ [])
    -- the eighth called set is Warming, so that set 2 stays On
    ∷ (commanded 129 On On Off Off (Warming 2) shows 2 ∷ 0 ∷ 3 ∷ 4 ∷ 2 ∷ 0 ∷ 3 ∷ 4 ∷ 0 ∷ 0 ∷ 3 ∷ 4 ∷ 0 ∷ 0 ∷ 3 ∷ 4 ∷ 1 ∷ 2 ∷ 3 ∷ 4 ∷ [])
    -- a called set that is Cooling or in Service goes on so, and holds the others On
    ∷ (commanded 5 (Cooling 7) On (Service 9) Off Off shows 3 ∷ 7 ∷ 3 ∷ 4 ∷ 2 ∷ 0 ∷ 3 ∷ 4 ∷ 4 ∷ 9 ∷ 3 ∷ 4 ∷ 0 ∷ 0 ∷ 3 ∷ 4 ∷ 0 ∷ 0 ∷ 3 ∷ 4 ∷ [])
    -- "0 calls no set": then every called set is On
    ∷ (commanded 0 On (Warming 2) Off (Cooling 1) On shows 3 ∷ 21 ∷ 3 ∷ 5 ∷ 0 ∷ 0 ∷ 3 ∷ 5 ∷ 0 ∷ 0 ∷ 3 ∷ 4 ∷ 3 ∷ 1 ∷ 3 ∷ 4 ∷ 3 ∷ 28 ∷ 3 ∷ 5 ∷ [])
    -- a bit past the eight places is no called set, and holds none On
    ∷ (commanded 257 On On Off Off Off shows 2 ∷ 0 ∷ 3 ∷ 4 ∷ 3 ∷ 22 ∷ 3 ∷ 5 ∷ 0 ∷ 0 ∷ 3 ∷ 4 ∷ 0 ∷ 0 ∷ 3 ∷ 4 ∷ 0 ∷ 0 ∷ 3 ∷ 4 ∷ [])
    -- of a start and a stop, no other number moves
    ∷ (state_numbers (get_or (commanded_all sets (state Off 9 ∷ []) 1) 0 (state On 0)) shows 1 ∷ 11 ∷ 100 ∷ 9 ∷ 4 ∷ 4 ∷ 500 ∷ 600 ∷ [])
    ∷ (state_numbers (get_or (commanded_all sets (state On 9 ∷ []) 0) 0 (state On 0)) shows 3 ∷ 21 ∷ 100 ∷ 9 ∷ 3 ∷ 5 ∷ 500 ∷ 600 ∷ [])
    ∷ []

abbrev set_cases : List Case
set_cases = tick_edges ++ sum_edges ++ count_edges ++ command_edges

pub set-edges : given set_cases ≡ said set_cases
unfolding Numbers.sum_to Numbers.tab Numbers.all_to Numbers.mask_of StationRecord.past_end StationRecord.set_at Share.running_total Share.capacity Share.share Flows.floor_load Fuel.exact_line Fuel.lower_of Fuel.lower_point Fuel.exact_from Fuel.fuel_rate Modes.state_at Modes.due Modes.tick_from Modes.tick Modes.ticked Modes.on_mask Commands.counted Commands.counted_all Commands.command_from Commands.command Commands.every_on Commands.commanded_all
set-edges = refl
