-- Document 01, the eleven steps, of whatever station, table of capacities, record and inputs are handed in: capacities, counts and sums
-- as their types hold them. Where the rules admit the second and the table is the station's, they are the rules' own (proofs/Ruled.antt).
use Rattle.std.specs.Prelude.{ℕ, ◌+◌, min, ◌≡◌, List, get_or, Some}
use Rattle.std.specs.Int.Count.{ones}
use Rattle.rules.specs.declared.station.Station.{Station}
use Rattle.rules.specs.declared.run.Inputs.{Inputs}
use Rattle.rules.specs.declared.run.Row.{Row}
use Rattle.rules.specs.declared.run.Run.{Run}
use Rattle.rules.specs.declared.run.SetState.{SetState}
use Rattle.rules.specs.Quantities.{Watts}
use Rattle.rules.specs.Flows.{watts_for, shed_decided}
use Rattle.rules.specs.Configuration.{mask_called, since_after}
use Rattle.rules.specs.Second.{states_now, on_now, cap_now, floor_now, store_now, held_now}
use Rattle.modes.specs.Barred.{barred_mask}
use Rattle.flows.specs.Amounts.{decided_in}
use Rattle.commitment.specs.Choice.{chosen_of}
use Rattle.set_moves.specs.InType.{in32, counted_all_in, commanded_all_in}
use Rattle.moments.specs.Totals.{plus_in}
use Rattle.moments.specs.Parts.{run_of}
use Rattle.steps.specs.declared.step.Stepped.{Stepped}

-- 1 and 2 are the rules' own, but that a capacity has 32 bits
unfoldable pub cap_in : Station → Run → ℕ
cap_in st r = min (cap_now st r) 4_294_967_295

-- 3 to 7
unfoldable pub watts_in : Station → Run → Inputs → Watts
watts_in st r x = watts_for st.battery r.store (cap_in st r) (floor_now st r) (get_or r.decided 0 0) x

unfoldable pub amounts_in : Station → Run → Inputs → Watts → List ℕ
amounts_in st r x w =
    decided_in st.control.delay (shed_decided st.control (cap_in st r) x.load w.solar x.sheddable) r.decided

-- 8
unfoldable pub ran_in : Station → Run → Watts → List SetState
ran_in st r w = counted_all_in st.sets (states_now st r) (on_now st r) w.diesel

-- 9 is the rules' own; 10
unfoldable pub call_in : Station → List ℕ → Run → Inputs → Watts → ℕ
call_in st caps r x w = chosen_of st caps (barred_mask st.sets (ran_in st r w)) (held_now st r x w) r.called r.since r.done

-- 11
unfoldable pub commanded_in : Station → List ℕ → Run → Inputs → Watts → List SetState
commanded_in st caps r x w = commanded_all_in st.sets (ran_in st r w) (mask_called st.configs (call_in st caps r x w))

-- ---- the record and the row after them

unfoldable pub record_in : Station → List ℕ → Run → Inputs → Watts → Run
record_in st caps r x w =
    record {
      done = in32 (r.done + 1);
      since = since_after (call_in st caps r x w) r.called r.since r.done;
      called = call_in st caps r x w;
      store = store_now st r w;
      setpoint = Some (held_now st r x w);
      sets = commanded_in st caps r x w;
      decided = amounts_in st r x w;
      totals = plus_in r.totals w;
    }

unfoldable pub row_in : Station → List ℕ → Run → Inputs → Watts → Row
row_in st caps r x w =
    record { second = r.done; watts = w; on = on_now st r; sets = ones (on_now st r); call = call_in st caps r x w; store = store_now st r w }

-- what the steps owe, with the decided amounts as they are left
pub record SteppedBy (st : Station) (caps : List ℕ) (r : Run) (x : Inputs) (s : Stepped) (decided : List ℕ) : Type 0 where
  pub after : run_of s.moment s.states decided ≡ record_in st caps r x (watts_in st r x)
  pub row : s.row ≡ row_in st caps r x (watts_in st r x)
