-- Document 01, "One second": the eleven steps in their order, and what a call of a second owes.
use Rattle.std.specs.Prelude.{ℕ, ◌+◌, Bool, ◌&&◌, List, ◌++◌, ◌≡◌, length, get_or, drop, leb, ltb, Float, Some}
use Rattle.std.specs.Int.Count.{ones}
use Rattle.rules.specs.declared.station.Station.{Station}
use Rattle.rules.specs.declared.run.SetState.{SetState}
use Rattle.rules.specs.Quantities.{Watts}
use Rattle.rules.specs.Quantities.{Totals}
use Rattle.rules.specs.declared.run.Inputs.{Inputs}
use Rattle.rules.specs.declared.run.Run.{Run}
use Rattle.rules.specs.declared.run.Row.{Row}
use Rattle.rules.specs.declared.run.Step.{Step}
use Rattle.rules.specs.declared.run.Handed.{Handed}
use Rattle.rules.specs.Answers.{Answer, accepted, refused, need, ◌>>◌, result_of}
use Rattle.rules.specs.StationRecord.{some_file_gives}
use Rattle.rules.specs.Share.{capacity}
use Rattle.rules.specs.Modes.{ticked, on_mask}
use Rattle.rules.specs.Flows.{floor_load, watts_for, store_after, rest_of, shed_decided, decided_after}
use Rattle.rules.specs.Commands.{counted_all, commanded_all}
use Rattle.rules.specs.Setpoint.{wanted_for, held_after}
use Rattle.rules.specs.Configuration.{mask_called, chosen, since_after}
use Rattle.rules.specs.RunRecord.{possible, most_seconds}
use Rattle.rules.specs.Row.{row_text}

-- ---- the steps, each of station, record and inputs

-- 1. Modes tick.
unfoldable pub states_now : Station → Run → List SetState
states_now st r = ticked st.sets r.sets

-- 2. Sums.
unfoldable pub on_now : Station → Run → ℕ
on_now st r = on_mask (states_now st r)

unfoldable pub cap_now : Station → Run → ℕ
cap_now st r = capacity st.sets (on_now st r)

unfoldable pub floor_now : Station → Run → ℕ
floor_now st r = floor_load st (on_now st r)

-- 3. to 6. Shed, Solar, Battery, Diesel; "the amount decided "delay" seconds ago" is the oldest held.
unfoldable pub watts_now : Station → Run → Inputs → Watts
watts_now st r x = watts_for st.battery r.store (cap_now st r) (floor_now st r) (get_or r.decided 0 0) x

unfoldable pub store_now : Station → Run → Watts → ℕ
store_now st r w = store_after st.battery r.store w.charge w.give

-- 7. Shed decided.
unfoldable pub decided_now : Station → Run → Inputs → Watts → List ℕ
decided_now st r x w =
    decided_after st.control.delay r.decided (shed_decided st.control (cap_now st r) x.load w.solar x.sheddable)

-- 8. Counts.
unfoldable pub ran_now : Station → Run → Watts → List SetState
ran_now st r w = counted_all st.sets (states_now st r) (on_now st r) w.diesel

-- 9. Setpoint.
unfoldable pub held_now : Station → Run → Inputs → Watts → Float
held_now st r x w =
    held_after st.control.k r.setpoint (wanted_for st.control (rest_of w) w.solar w.shed x.sheddable)

-- 10. Configuration.
unfoldable pub call_now : Station → Run → Inputs → Watts → ℕ
call_now st r x w = chosen st (ran_now st r w) (held_now st r x w) r.called r.since r.done

-- 11. Commands.
unfoldable pub commanded_now : Station → Run → Inputs → Watts → List SetState
commanded_now st r x w = commanded_all st.sets (ran_now st r w) (mask_called st.configs (call_now st r x w))

-- ---- the record and the row after them

abbrev pub plus : Totals → Watts → Totals
plus t w =
    record {
      offered = t.offered + w.offered;
      load = t.load + w.load;
      shed = t.shed + w.shed;
      solar = t.solar + w.solar;
      charge = t.charge + w.charge;
      spill = t.spill + w.spill;
      give = t.give + w.give;
      diesel = t.diesel + w.diesel;
      unserved = t.unserved + w.unserved;
    }

unfoldable pub record_after : Station → Run → Inputs → Watts → Run
record_after st r x w =
    record {
      done = r.done + 1;
      since = since_after (call_now st r x w) r.called r.since r.done;
      called = call_now st r x w;
      store = store_now st r w;
      setpoint = Some (held_now st r x w);
      sets = commanded_now st r x w;
      decided = decided_now st r x w;
      totals = plus r.totals w;
    }

-- "Call and store are after the second."
unfoldable pub row_after : Station → Run → Inputs → Watts → Row
row_after st r x w =
    record {
      second = r.done;
      watts = w;
      on = on_now st r;
      sets = ones (on_now st r);
      call = call_now st r x w;
      store = store_now st r w;
    }

unfoldable pub step : Station → Run → Inputs → Step
step st r x =
    let w = watts_now st r x in
    record { run = record_after st r x w; row = row_after st r x w }

-- ---- a call, with a lent buffer: "A second: 25, 24, 23, 19, 20, 26."

-- 19: a power over its limit
abbrev pub inputs_right : Inputs → Bool
inputs_right x = leb x.load 50_000_000 && leb x.solar 50_000_000 && leb x.sheddable 50_000_000

-- what is asked of each second of a station and a record that were judged
unfoldable pub admitted : ℕ → Inputs → ℕ → Answer (Unit {0})
admitted done x room = do
  need (ltb done most_seconds) 23 0
  need (inputs_right x) 19 0
  need (leb x.sheddable x.load) 20 0
  need (leb 256 room) 26 0

unfoldable pub second : Station → Run → Inputs → ℕ → Answer Step
second st r x room = do
  need (some_file_gives st) 25 0
  need (possible st r) 24 0
  admitted r.done x room
  accepted (step st r x)

-- "a second answers the row's length, LF counted"
abbrev pub length_answered : Answer Step → Answer ℕ
length_answered (accepted s) = accepted (length (row_text s.row))
length_answered (refused number place) = refused number place

-- "A refused call hands the run's record back unchanged"
abbrev pub record_handed : Run → Answer Step → Run
record_handed r (accepted s) = s.run
record_handed r (refused number place) = r

-- "and writes nothing to a lent buffer"; "bytes past the row stay"
abbrev pub buffer_left : List ℕ → Answer Step → List ℕ
buffer_left lent (accepted s) = row_text s.row ++ drop (length (row_text s.row)) lent
buffer_left lent (refused number place) = lent

-- What a call of a second owes, for every input: its answer, the record that it hands back, the buffer as it is left.
pub record Second (st : Station) (r : Run) (x : Inputs) (lent : List ℕ) (handed : Handed) (left : List ℕ) : Type 0 where
  pub answers : result_of handed.answer ≡ length_answered (second st r x (length lent))
  pub hands : handed.run ≡ record_handed r (second st r x (length lent))
  pub leaves : left ≡ buffer_left lent (second st r x (length lent))
