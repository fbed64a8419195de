-- THE CLAIM: what the request's demand 3 says of a list of calls from the start of an accepted station, refused ones included.
-- Definitions only; proofs/Claim.antt has the theorem, of calls that each owe what the rules say.
use Rattle.std.specs.Prelude.{ℕ, ◌+◌, ◌*◌, ◌≤◌, ◌<◌, ◌≡◌, true, List, [], ◌∷◌, ◌++◌, map, length, take, drop}
use Rattle.rules.specs.declared.station.Station.{Station}
use Rattle.rules.specs.declared.run.Inputs.{Inputs}
use Rattle.rules.specs.declared.run.Run.{Run}
use Rattle.rules.specs.declared.run.Step.{Step}
use Rattle.rules.specs.Quantities.{Totals}
use Rattle.rules.specs.Answers.{Answer, accepted, refused, ◌>>◌, result_of}
use Rattle.rules.specs.StationRecord.{set_at}
use Rattle.rules.specs.Modes.{state_at}
use Rattle.rules.specs.RunRecord.{start_record, possible}
use Rattle.rules.specs.Row.{row_text}
use Rattle.rules.specs.Second.{step, admitted, record_handed}
use Rattle.rules.specs.Calls.{Call, Chained}
use Rattle.claims_rules.specs.Shown.{Worked, shown, total}
use Rattle.claims_rules.specs.Replay.{replay_of, followed_to, at_first, replayed}
use Rattle.claims_rules.specs.InRow.{InRows}
use Rattle.claims_rules.specs.Burned.{powers_of, sum_of, Burned}

-- ---- what the calls came to, as the caller sees it

-- the bytes of the row that a call wrote, or its refusal
abbrev pub told_by : Answer ℕ → List ℕ → Answer (List ℕ)
told_by (accepted size) left = accepted (take size left)
told_by (refused number place) left = refused number place

abbrev pub told : Call → Answer (List ℕ)
told c = told_by (result_of c.handed.answer) c.left

-- "A row is what an accepted second wrote": the accepted ones of a list
abbrev pub worked_by : Answer (List ℕ) → Inputs → List Worked → List Worked
worked_by (accepted text) x later = record { inputs = x; row = shown text } ∷ later
worked_by (refused number place) x later = later

unfoldable pub worked_in : List Call → List Worked
worked_in [] = []
worked_in (c ∷ cs) = worked_by (told c) c.inputs (worked_in cs)

-- ---- what the rules give "from the start, by station, inputs and buffer lengths alone"

pub record Asked : Type 0 where
  pub inputs : Inputs
  pub room : ℕ

abbrev pub asked : Call → Asked
asked c = record { inputs = c.inputs; room = length c.lent }

-- a second of the rules: 24 and 25 are no answers of it
abbrev pub second_by : Station → Run → Asked → Answer Step
second_by st r a = admitted r.done a.inputs a.room >> accepted (step st r a.inputs)

abbrev pub row_by : Answer Step → Answer (List ℕ)
row_by (accepted s) = accepted (row_text s.row)
row_by (refused number place) = refused number place

unfoldable pub ruled_from : Station → Run → List Asked → List (Answer (List ℕ))
ruled_from st r [] = []
ruled_from st r (a ∷ more) = row_by (second_by st r a) ∷ ruled_from st (record_handed r (second_by st r a)) more

unfoldable pub ruled : Station → List Asked → List (Answer (List ℕ))
ruled st handed = ruled_from st (start_record st) handed

-- ---- what holds of the accepted seconds, by station, inputs and rows

-- "diesel + solar on the load + given + shed + unserved"
abbrev pub met_by : List Worked → ℕ
met_by rows =
    total (λ s. s.row.diesel) rows + total (λ s. s.row.solar) rows + total (λ s. s.row.give) rows + total (λ s. s.row.shed) rows + total (λ s. s.row.unserved) rows

-- what is counted of a set
pub record Counted : Type 0 where
  pub run : ℕ
  pub energy : ℕ
  pub fuel : ℕ

abbrev pub counted_by : Run → ℕ → Counted
counted_by r i = record { run = (state_at r.sets i).run; energy = (state_at r.sets i).energy; fuel = (state_at r.sets i).fuel }

-- of the rows from the start, and of the store and each set's counts after them
pub record OverRows (st : Station) (rows : List Worked) (store : ℕ) (counts : ℕ → Counted) : Type 0 where
  -- "summed over the accepted ones, load handed in and load shown each equal diesel + solar on the load + given + shed + unserved"
  pub load-handed : total (λ s. s.inputs.load) rows ≡ met_by rows
  pub load-shown : total (λ s. s.row.load) rows ≡ met_by rows
  -- "solar offered equals solar on the load + charged + spilled"
  pub solar-placed : total (λ s. s.inputs.solar) rows
      ≡ total (λ s. s.row.solar) rows + total (λ s. s.row.charge) rows + total (λ s. s.row.spill) rows
  -- "the store equals its start + efficiency x charged - 100 x given": no subtraction here stops at zero
  pub store-moved : store + 100 * total (λ s. s.row.give) rows
      ≡ st.battery.start + st.battery.efficiency * total (λ s. s.row.charge) rows
  -- the store's limits, load unserved and the called configuration
  pub each_row : InRows st (replayed st (at_first st) rows)
  -- "Each fuel count": of every set
  pub fuel-burned : (i : ℕ) → i < st.setcount → Burned (set_at st.sets i) (counts i).fuel (powers_of st i (replayed st (at_first st) rows))
  -- and its seconds run and its energy are those of the rows
  pub run-counted : (i : ℕ) → i < st.setcount → (counts i).run ≡ length (powers_of st i (replayed st (at_first st) rows))
  pub energy-counted : (i : ℕ) → i < st.setcount → (counts i).energy ≡ sum_of (powers_of st i (replayed st (at_first st) rows))

-- ---- what the record last handed back holds

abbrev pub totals_of : List Worked → Totals
totals_of rows =
    record {
      offered = total (λ s. s.inputs.solar) rows;
      load = total (λ s. s.row.load) rows;
      shed = total (λ s. s.row.shed) rows;
      solar = total (λ s. s.row.solar) rows;
      charge = total (λ s. s.row.charge) rows;
      spill = total (λ s. s.row.spill) rows;
      give = total (λ s. s.row.give) rows;
      diesel = total (λ s. s.row.diesel) rows;
      unserved = total (λ s. s.row.unserved) rows;
    }

-- the last row's called configuration, and `call` where there is no row
unfoldable pub call_after : ℕ → List Worked → ℕ
call_after call [] = call
call_after call (s ∷ ss) = call_after s.row.call ss

pub record LastRecord (st : Station) (rows : List Worked) (last : Run) : Type 0 where
  pub seconds-done : last.done ≡ length rows
  pub totals-summed : last.totals ≡ totals_of rows
  pub called-last : last.called ≡ call_after 0 rows
  -- modes, counts, clocks, setpoint, store and the second of the last change are those that follow from station, inputs and rows
  pub followed : replay_of last ≡ followed_to st (at_first st) rows
  pub possible-last : possible st last ≡ true

-- ---- the claim

-- an accepted call moves the seconds done by one, its row fits, and "bytes past the row stay"
pub record Moved (r : Run) (c : Call) (size : ℕ) : Type 0 where
  pub second-done : c.handed.run.done ≡ r.done + 1
  pub rest-stays : c.left ≡ take size c.left ++ drop size c.lent
  pub row_fits : (size ≤ 153) × (size ≤ length c.lent)

-- "A refused call hands the run's record back unchanged and writes nothing to a lent buffer"
pub record Unmoved (r : Run) (c : Call) : Type 0 where
  pub record-kept : c.handed.run ≡ r
  pub buffer-kept : c.left ≡ c.lent

abbrev pub KeptBy : Answer ℕ → Run → Call → Type 0
KeptBy (accepted size) r c = Moved r c size
KeptBy (refused number place) r c = Unmoved r c

-- one call
pub record Kept (r : Run) (c : Call) : Type 0 where
  pub by_answer : KeptBy (result_of c.handed.answer) r c
  pub length-stays : length c.left ≡ length c.lent

-- of a list of calls from the record `first` to the record `last`
pub record Claim (st : Station) (first : Run) (calls : List Call) (last : Run) : Type 0 where
  -- which calls are accepted, each refusal's number and place, and each row's bytes
  pub as-ruled : map told calls ≡ ruled st (map asked calls)
  pub kept : Chained Kept first calls last
  -- "The store after the list and the fuel counts are those of the record last handed back."
  pub over-rows : OverRows st (worked_in calls) last.store (counted_by last)
  pub last-record : LastRecord st (worked_in calls) last
