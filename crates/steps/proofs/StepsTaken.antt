-- The steps one after the other, as the code takes them: what each call answered is what `Steps` names. Assumes nothing.
use Prim.Native.Nat.{ℕ, min}
use mathlib.Core.Path.{◌≡◌, ap, ◌∙◌}
use mathlib.Core.List.{List}
use lib.ListN.{get_or}
use Rattle.rules.specs.declared.station.Station.{Station}
use Rattle.rules.specs.declared.run.SetState.{SetState}
use Rattle.rules.specs.declared.run.Inputs.{Inputs}
use Rattle.rules.specs.declared.run.Run.{Run}
use Rattle.rules.specs.Quantities.{Watts}
use Rattle.rules.specs.Share.{capacity}
use Rattle.rules.specs.Modes.{ticked, on_mask}
use Rattle.rules.specs.Flows.{floor_load}
use Rattle.rules.specs.Configuration.{mask_called}
use Rattle.rules.specs.Second.{states_now, on_now, cap_now, floor_now, store_now, held_now}
use Rattle.modes.specs.Barred.{barred_mask}
use Rattle.flows.specs.declared.meet.Met.{Met}
use Rattle.flows.specs.Amounts.{decided_in}
use Rattle.flows.specs.Met.{MetBy}
use Rattle.commitment.specs.declared.commit.Committed.{Committed}
use Rattle.commitment.specs.Commit.{CommittedBy}
use Rattle.set_moves.specs.InType.{counted_all_in, commanded_all_in}
use Rattle.moments.specs.declared.parts.Moment.{Moment}
use Rattle.moments.specs.Parts.{run_of, moment_after, row_of}
use Rattle.steps.specs.declared.step.Stepped.{Stepped}
use Rattle.steps.specs.Steps.{cap_in, watts_in, amounts_in, ran_in, call_in, commanded_in, record_in, row_in, SteppedBy}

module _ (st : Station) (caps : List ℕ) (before : List SetState) (m₀ : Moment) (amounts₀ : List ℕ) (x : Inputs) where
  abbrev r : Run
  r = run_of m₀ before amounts₀

  -- 1 to 6
  module _ (states : List SetState) (tick : states ≡ ticked st.sets before) (on : ℕ) (mask : on ≡ on_mask states)
      (cap : ℕ) (rated : cap ≡ min (capacity st.sets on) 4_294_967_295) (floor : ℕ) (least : floor ≡ floor_load st on)
      (old : ℕ) (first : old ≡ get_or amounts₀ 0 0) (m : Met) (met : MetBy st m₀.store cap floor old x m) where
    states-now : states ≡ states_now st r
    unfolding states_now
    states-now = tick

    on-now : on ≡ on_now st r
    unfolding on_now
    on-now = mask ∙ ap on_mask states-now

    cap-in : cap ≡ cap_in st r
    unfolding cap_in cap_now
    cap-in = rated ∙ ap (λ (n : ℕ). min (capacity st.sets n) 4_294_967_295) on-now

    floor-now : floor ≡ floor_now st r
    unfolding floor_now
    floor-now = least ∙ ap (floor_load st) on-now

    pub watts-in : m.watts ≡ watts_in st r x
    unfolding watts_in
    watts-in = met.watts ∙ rw (cap-in, floor-now, first)

    store_in : m.store ≡ store_now st r (watts_in st r x)
    unfolding store_now
    store_in = met.stores ∙ rw watts-in

    -- 7 to 10
    module _ (amounts : List ℕ) (moved : amounts ≡ decided_in st.control.delay m.decided amounts₀)
        (ran : List SetState) (counts : ran ≡ counted_all_in st.sets states on m.watts.diesel)
        (barred : ℕ) (bars : barred ≡ barred_mask st.sets ran)
        (c : Committed) (commits : CommittedBy st caps barred m₀.setpoint m₀.called m₀.since m₀.done m.watts x.sheddable c) where
      abbrev w : Watts
      w = watts_in st r x

      amounts-in : amounts ≡ amounts_in st r x w
      unfolding amounts_in
      amounts-in = moved ∙ rw (met.decides, cap-in, watts-in)

      ran-in : ran ≡ ran_in st r w
      unfolding ran_in
      ran-in = counts ∙ rw (states-now, on-now, watts-in)

      held-now : c.held ≡ held_now st r x w
      unfolding held_now
      held-now = commits.held ∙ rw watts-in

      call-in : c.call ≡ call_in st caps r x w
      unfolding call_in
      call-in = commits.call ∙ rw (bars, ran-in, held-now)

      -- 11, and the record and the row after them
      module _ (called : ℕ) (asks : called ≡ mask_called st.configs c.call) (s : Stepped)
          (moment : s.moment ≡ moment_after m₀ c.call c.held m.store m.watts) (commands : s.states ≡ commanded_all_in st.sets ran called)
          (row : s.row ≡ row_of m₀.done m.watts on c.call m.store) where
        commanded-in : s.states ≡ commanded_in st caps r x w
        unfolding commanded_in
        commanded-in = commands ∙ rw (asks, ran-in, call-in)

        pub stepped_by : SteppedBy st caps r x s amounts
        unfolding record_in row_in
        stepped_by = record {
          after = rw (moment, commanded-in, amounts-in, call-in, held-now, store_in, watts-in);
          row = row ∙ rw (on-now, call-in, store_in, watts-in);
        }
