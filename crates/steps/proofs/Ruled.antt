-- Of a second that the rules admit, with the station's own table of capacities, the steps are the rules' own: every count and sum fits its
-- type. Assumes nothing.
use Prim.Native.Nat.{ℕ, ◌+◌, ◌≤◌, ◌<◌, max}
use mathlib.Core.Path.{◌≡◌, refl, sym, ap, ◌∙◌}
use mathlib.Core.Bool.{true, false}
use mathlib.Core.List.{List}
use native.Mathlib.Omega.{arith}
use lib.ListN.{length, get_or}
use borrow.Author.Tests.{eq-eqb}
use Rattle.rules.specs.declared.station.Station.{Station}
use Rattle.rules.specs.declared.run.Mode.TheVariants.{Off}
use Rattle.rules.specs.declared.run.SetState.{SetState}
use Rattle.rules.specs.declared.run.Inputs.{Inputs}
use Rattle.rules.specs.declared.run.Row.{Row}
use Rattle.rules.specs.declared.run.Run.{Run}
use Rattle.rules.specs.declared.run.Step.{Step}
use Rattle.rules.specs.Quantities.{Watts}
use Rattle.rules.specs.Numbers.{has}
use Rattle.rules.specs.StationRecord.{set_at}
use Rattle.rules.specs.Share.{share}
use Rattle.rules.specs.Modes.{fresh, state_at, is_on, on_mask}
use Rattle.rules.specs.Commands.{counted, counted_all}
use Rattle.rules.specs.RunRecord.{most_seconds}
use Rattle.rules.specs.Second.{states_now, on_now, cap_now, watts_now, decided_now, ran_now, held_now, call_now, commanded_now, plus, record_after, row_after, step}
use Rattle.rules.proofs.Tests.{choice}
use Rattle.rules.proofs.Tables.{tab-at}
use Rattle.rules.proofs.Shapes.{Tables}
use Rattle.rules.proofs.Masks.{mask-has}
use Rattle.rules.proofs.StationFacts.{right_of, delay-range}
use Rattle.laws.specs.Admitted.{Admitted}
use Rattle.laws.proofs.Share.{share-most}
use Rattle.laws.proofs.KeptRest.{watts-small}
use Rattle.gensets.specs.Leaves.{shares_told, watts_of}
use Rattle.flows.specs.Amounts.{decided_in}
use Rattle.commitment.specs.Choice.{Rated}
use Rattle.commitment.proofs.Ruled.{chosen_is}
use Rattle.set_moves.specs.InType.{counted_in, counted_at, counted_all_in}
use Rattle.set_moves.proofs.Fits.{small32}
use Rattle.set_moves.proofs.SetsRuled.{same-tab, shared_at, counted-small, all-commanded, counted-switches}
use Rattle.moments.specs.Totals.{plus_in}
use Rattle.moments.specs.Parts.{run_of}
use Rattle.moments.proofs.TotalsRuled.{plus-small}
use Rattle.steps.specs.declared.step.Stepped.{Stepped}
use Rattle.steps.specs.Steps.{cap_in, watts_in, amounts_in, ran_in, call_in, commanded_in, record_in, row_in, SteppedBy}
use Rattle.steps.proofs.Ready.{ticked-small, on-right, cap-most, diesel-cap, totals-small}

abbrev pub step_of : Run → Row → Step
step_of run row = record { run = run; row = row }

module _ (st : Station) (tables : Tables st) (caps : List ℕ) (rated : Rated st.sets st.configs caps) (r : Run) (sixty : length r.decided ≡ 60) (x : Inputs) (h : Admitted st r x) where
  abbrev w : Watts
  w = watts_now st r x

  pub cap-ruled : cap_in st r ≡ cap_now st r
  unfolding cap_in
  cap-ruled = omega (arith, cap-most st tables r x h)

  pub watts-ruled : watts_in st r x ≡ w
  unfolding watts_in watts_now
  watts-ruled = rw cap-ruled

  delay-some : 1 ≤ st.control.delay
  delay-some = (delay-range st.setcount st.control (right_of st h.station-given).control).0

  amounts-ruled : amounts_in st r x w ≡ decided_now st r x w
  unfolding amounts_in decided_now decided_in
  amounts-ruled =
      let d : max 1 st.control.delay ≡ st.control.delay = omega (arith, delay-some) in
      rw (eq-eqb (length r.decided) 60 sixty, d, cap-ruled)

  on-has : (i : ℕ) → i < 8 → has (on_now st r) i ≡ is_on (state_at (states_now st r) i).mode
  unfolding on_now on_mask
  on-has i l = mask-has (λ j. is_on (state_at (states_now st r) j).mode) 8 i l

  abbrev counted_now : ℕ → SetState
  counted_now i = counted (set_at st.sets i) (state_at (states_now st r) i) (share st.sets (on_now st r) w.diesel i)

  on-counted : (i : ℕ) → i < 8 → is_on (state_at (states_now st r) i).mode ≡ true
      → counted_in (set_at st.sets i) (state_at (states_now st r) i) (get_or (watts_of (shares_told st.sets (on_now st r) w.diesel)) i 0) ≡ counted_now i
  unfolding cap_now
  on-counted i l on =
      let right = on-right st tables r x h i l on in
      rw (shared_at st.sets (on_now st r) w.diesel i (cap-most st tables r x h) (diesel-cap st tables r x h) l)
      (counted-small (set_at st.sets i) (state_at (states_now st r) i) _ on right.0 right.1 (share-most st.sets (on_now st r) w.diesel (diesel-cap st tables r x h) i) (ticked-small st tables r x h i l))

  off-counted : (i : ℕ) → is_on (state_at (states_now st r) i).mode ≡ false → state_at (states_now st r) i ≡ counted_now i
  unfolding counted
  off-counted i off = rw off

  counted-ruled : (i : ℕ) → i < 8 → counted_at st.sets (states_now st r) (on_now st r) w.diesel i ≡ counted_now i
  unfolding counted_at
  counted-ruled i l = choice (λ (s : SetState). s ≡ counted_now i) (has (on_now st r) i) _ _ (λ on. on-counted i l (sym (on-has i l) ∙ on)) (λ off. off-counted i (sym (on-has i l) ∙ off))

  pub ran-ruled : ran_in st r w ≡ ran_now st r w
  unfolding ran_in ran_now counted_all_in counted_all
  ran-ruled = same-tab _ _ 8 counted-ruled

  call-ruled : call_in st caps r x w ≡ call_now st r x w
  unfolding call_in call_now
  call-ruled = rw ran-ruled (chosen_is st (ran_now st r w) caps _ refl rated (held_now st r x w) r.called r.since r.done)

  at_place : (i : ℕ) → i < 8 → state_at (ran_now st r w) i ≡ counted_now i
  unfolding ran_now counted_all state_at
  at_place i l = tab-at counted_now 8 i (fresh Off) l

  pub ran-switches : (i : ℕ) → i < 8 → ((state_at (ran_now st r w) i).starts ≤ most_seconds) × ((state_at (ran_now st r w) i).stops ≤ most_seconds)
  unfolding ran_now counted_all
  ran-switches i l =
      let is : state_at (ran_now st r w) i ≡ counted_now i = at_place i l in
      let same = counted-switches (set_at st.sets i) (state_at (states_now st r) i) (share st.sets (on_now st r) w.diesel i) in
      let small = ticked-small st tables r x h i l in
      rw is (rw same.0 small.starts-most, rw same.1 small.stops-most)

  commanded-ruled : commanded_in st caps r x w ≡ commanded_now st r x w
  unfolding commanded_in commanded_now
  commanded-ruled = rw (ran-ruled, call-ruled) (all-commanded st.sets (ran_now st r w) _ ran-switches)

  totals-ruled : plus_in r.totals w ≡ plus r.totals w
  unfolding watts_now
  totals-ruled =
      let small = watts-small st.battery r.store _ _ (get_or r.decided 0 0) x h.load-most h.solar-most h.sheddable-most in
      plus-small r.totals w (totals-small st tables r x h) (small.offered, small.load, small.shed, small.solar, small.charge, small.spill, small.give, small.diesel, small.unserved)

  pub record-ruled : record_in st caps r x (watts_in st r x) ≡ (step st r x).run
  unfolding record_in step record_after
  record-ruled =
      rw (watts-ruled, call-ruled, commanded-ruled, amounts-ruled, totals-ruled, small32 (r.done + 1) (omega (arith, h.not-ended)))

  pub row-ruled : row_in st caps r x (watts_in st r x) ≡ (step st r x).row
  unfolding row_in step row_after
  row-ruled = rw (watts-ruled, call-ruled)

  -- the parts after the steps are those of the definition
  pub stepped-is : (s : Stepped) (amounts : List ℕ) → SteppedBy st caps r x s amounts → step_of (run_of s.moment s.states amounts) s.row ≡ step st r x
  stepped-is s amounts k =
      ap (λ (z : Run). step_of z s.row) (k.after ∙ record-ruled) ∙ ap (step_of (step st r x).run) (k.row ∙ row-ruled)
