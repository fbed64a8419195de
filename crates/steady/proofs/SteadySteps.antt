-- The steps of a steady second one after the other, as the code takes them: those that were taken before are the rules' own, so that the
-- second is. Assumes nothing.
use Prim.Native.Nat.{ℕ, ◌+◌, ◌≤◌, ◌<◌, min}
use mathlib.Core.Path.{◌≡◌, refl, sym, ap, ◌∙◌}
use mathlib.Core.Bool.{true}
use mathlib.Core.List.{List}
use native.Mathlib.Omega.{arith}
use lib.ListN.{length, get_or}
use Rattle.rules.specs.declared.station.Station.{Station}
use Rattle.rules.specs.declared.run.Inputs.{Inputs}
use Rattle.rules.specs.declared.run.Run.{Run}
use Rattle.rules.specs.declared.run.SetState.{SetState}
use Rattle.rules.specs.declared.run.Step.{Step}
use Rattle.rules.specs.Quantities.{Watts}
use Rattle.rules.specs.Numbers.{has}
use Rattle.rules.specs.Share.{capacity}
use Rattle.rules.specs.Modes.{state_at, is_on, ticked, on_mask}
use Rattle.rules.specs.Commands.{counted_all, commanded_all}
use Rattle.rules.specs.Configuration.{mask_called}
use Rattle.rules.specs.Second.{states_now, on_now, cap_now, watts_now, ran_now}
use Rattle.rules.proofs.Shapes.{Tables}
use Rattle.laws.specs.Admitted.{Admitted}
use Rattle.gensets.proofs.FileCapacity.{capacity-most}
use Rattle.modes.specs.Barred.{barred_mask}
use Rattle.flows.specs.declared.meet.Met.{Met}
use Rattle.flows.specs.Amounts.{decided_in}
use Rattle.flows.specs.Met.{MetBy}
use Rattle.commitment.specs.declared.commit.Committed.{Committed}
use Rattle.commitment.specs.Choice.{Rated}
use Rattle.commitment.specs.Commit.{CommittedBy}
use Rattle.moments.specs.declared.parts.Moment.{Moment}
use Rattle.set_moves.specs.InType.{counted_all_in, commanded_all_in}
use Rattle.moments.specs.Parts.{run_of, moment_after, row_of}
use Rattle.set_moves.specs.Sized.{Small}
use Rattle.steps.specs.Steps.{ran_in}
use Rattle.steps.proofs.Ready.{ticked-small, on-right, diesel-cap}
use Rattle.set_moves.proofs.SetsRuled.{all-commanded}
use Rattle.steps.proofs.Ruled.{stepped-is, watts-ruled, ran-ruled, ran-switches}
use Rattle.steps.proofs.StepsTaken.{watts-in, stepped_by}
use Rattle.steady.specs.declared.steady_counts.Added.{Added}
use Rattle.steady.specs.declared.steady_step.AfterSecond.{AfterSecond}
use Rattle.steady.specs.declared.steady_step.Steady.{Steady}
use Rattle.steady.specs.declared.steady_step.Standing.{Standing}
use Rattle.steady.specs.NextEvent.{NoEvent}
use Rattle.steady.specs.Steady.{added_to, ran_for, since_steady, added_after, Addable}
use Rattle.steady.specs.SteadySecond.{Kept, run_at, commanded_since, SteadyStepped}
use Rattle.steady.proofs.SteadyLaws.{steady-barred, later-on, has-later, steady-on, steady-counted}

-- what a set On has beside it is no more than its counts
beside-small : (s : SetState) (seconds : ℕ) (own : Added) → Small (ran_for s seconds own) → (own.energy ≤ 3_162_240_000_000_000) × (own.fuel ≤ 4_743_360_000_000_000_000)
beside-small s seconds own h = (omega (arith, h.energy-most), omega (arith, h.fuel-most))

-- the same sets, mask and power count the same
counted_same : (f : List SetState → ℕ → ℕ → List SetState) {a b : List SetState} {m n d e : ℕ} → a ≡ b → m ≡ n → d ≡ e → f a m d ≡ f b n e
counted_same f {a} {b} {m} {n} {d} {e} p q r = ap (λ (z : List SetState). f z m d) p ∙ ap (λ (z : ℕ). f b z d) q ∙ ap (f b n) r

module _ (st : Station) (tables : Tables st) (q : Steady) (s : Standing) (kept : Kept st q) (calm : NoEvent st.sets q.states (s.ran + 1))
    (added : List Added) (decided : List ℕ) (x : Inputs) (h : Admitted st (run_at q s added decided) x)
    (caps : List ℕ) (rates : Rated st.sets st.configs caps) (sixty : length decided ≡ 60) where
  abbrev now : List SetState
  now = since_steady q.states q.on s.ran added

  abbrev r : Run
  r = run_at q s added decided

  -- the sets after the tick
  abbrev later : List SetState
  later = ticked st.sets now

  states-are : later ≡ states_now st r
  unfolding states_now
  states-are = refl

  mask_is : q.on ≡ on_mask later
  mask_is = steady-on st.sets q.states q.on kept.is-on s.ran added calm

  on-is : q.on ≡ on_now st r
  unfolding on_now
  on-is = mask_is ∙ ap on_mask states-are

  cap-fits : q.cap ≡ min (capacity st.sets q.on) 4_294_967_295
  cap-fits = omega (arith, kept.is-cap, capacity-most st h.station-given q.on)

  module _ (old : ℕ) (first : old ≡ get_or decided 0 0) (m : Met) (met : MetBy st s.moment.store q.cap q.floor old x m) where
    abbrev w : Watts
    w = watts_now st r x

    watts-are : m.watts ≡ w
    watts-are =
        watts-in st caps now s.moment decided x later refl q.on mask_is q.cap cap-fits q.floor kept.is-floor old first m met
        ∙ watts-ruled st tables caps rates r sixty x h

    diesel-most : m.watts.diesel ≤ capacity st.sets q.on
    unfolding cap_now
    diesel-most = rw (on-is, ap (λ (z : Watts). z.diesel) watts-are) (diesel-cap st tables r x h)

    shown : (i : ℕ) → i < 8 → has q.on i ≡ true → is_on (state_at (states_now st r) i).mode ≡ true
    shown i l on = rw (← states-are) (sym (has-later st.sets q.states q.on kept.is-on s.ran added calm i l) ∙ on)

    -- what stands beside a set On
    beside : (i : ℕ) → i < 8 → has q.on i ≡ true → ((added_to added i).energy ≤ 3_162_240_000_000_000) × ((added_to added i).fuel ≤ 4_743_360_000_000_000_000)
    beside i l on =
        let small : Small (state_at later i) = rw states-are (ticked-small st tables r x h i l) in
        beside-small (state_at q.states i) s.ran (added_to added i)
        (rw (later-on st.sets q.states q.on kept.is-on s.ran added calm i l on) at small)

    pub addable : Addable st.sets q.on m.watts.diesel q.cap added
    addable = record {
      is-cap = kept.is-cap;
      capacity-most = capacity-most st h.station-given q.on;
      diesel-most = diesel-most;
      numbers = λ i l on. (on-right st tables r x h i l (shown i l on)).0;
      pairs = λ i l on. (on-right st tables r x h i l (shown i l on)).1;
      energies-most = λ i l on. (beside i l on).0;
      fuels-most = λ i l on. (beside i l on).1;
    }

    -- the calls from the flows on, by what each ensures
    module _ (amounts : List ℕ) (moves : amounts ≡ decided_in st.control.delay m.decided decided)
        (adds : List Added) (counts : adds ≡ added_after st.sets q.on m.watts.diesel added)
        (c : Committed) (commits : CommittedBy st caps q.barred s.moment.setpoint s.moment.called s.moment.since s.moment.done m.watts x.sheddable c) where
      abbrev ran' : List SetState
      ran' = since_steady q.states q.on (s.ran + 1) adds

      abbrev counted : List SetState
      counted = counted_all_in st.sets later q.on m.watts.diesel

      ran-is : ran' ≡ ran_now st r w
      unfolding ran_now
      ran-is =
          ap (since_steady q.states q.on (s.ran + 1)) counts
          ∙ steady-counted st.sets q.states q.on kept.is-on s.ran added calm m.watts.diesel
          ∙ counted_same (counted_all st.sets) states-are on-is (ap (λ (z : Watts). z.diesel) watts-are)

      counted_is : counted ≡ ran_now st r w
      unfolding ran_in
      counted_is = counted_same (counted_all_in st.sets) states-are on-is (ap (λ (z : Watts). z.diesel) watts-are) ∙ ran-ruled st tables caps rates r sixty x h

      barred-is : q.barred ≡ barred_mask st.sets counted
      barred-is =
          kept.is-barred ∙ steady-barred st.sets q.states q.on kept.is-on (s.ran + 1) adds calm
          ∙ ap (barred_mask st.sets) (ran-is ∙ sym counted_is)

      commanded-is : (mask : ℕ) → commanded_all_in st.sets counted mask ≡ commanded_all st.sets ran' mask
      commanded-is mask =
          ap (λ (l : List SetState). commanded_all_in st.sets l mask) counted_is
          ∙ all-commanded st.sets (ran_now st r w) mask (ran-switches st tables caps rates r sixty x h)
          ∙ ap (λ (l : List SetState). commanded_all st.sets l mask) (sym ran-is)

      pub steady-stepped : (g : AfterSecond) → g.moment ≡ moment_after s.moment c.call c.held m.store m.watts → g.row ≡ row_of s.moment.done m.watts q.on c.call m.store
          → SteadyStepped st q s r x g adds amounts
      steady-stepped g moment row =
          let mask : ℕ = mask_called st.configs c.call in
          let taken = stepped_by st caps now s.moment decided x later refl q.on mask_is q.cap cap-fits q.floor kept.is-floor old first m met amounts moves counted refl q.barred barred-is c commits mask refl
          (record { moment = g.moment; states = commanded_all_in st.sets counted mask; row = g.row }) moment refl row
          in
          let same = stepped-is st tables caps rates r sixty x h (record { moment = g.moment; states = commanded_all_in st.sets counted mask; row = g.row }) amounts taken in
          let called : commanded_since st q (s.ran + 1) adds g.moment.called ≡ commanded_all_in st.sets counted mask =
          ap (λ (z : Moment). commanded_since st q (s.ran + 1) adds z.called) moment ∙ sym (commanded-is mask)
          in
          record { after = ap (λ (l : List SetState). run_of g.moment l amounts) called ∙ ap (λ (z : Step). z.run) same; row = ap (λ (z : Step). z.row) same }
