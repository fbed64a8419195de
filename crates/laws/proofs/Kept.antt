-- An accepted second leaves a possible record: so from the start 24 never occurs, and the bounds of "A run record is possible
-- when" hold over every run. Assumes nothing.
use Prim.Native.Nat.{ℕ, ◌+◌, ◌-◌, ◌*◌, ◌≤◌, ◌<◌}
use mathlib.Core.Path.{◌≡◌, refl, sym, ap, ◌∙◌}
use mathlib.Core.Bool.{Bool, true, false}
use mathlib.Core.List.{List, [], ◌∷◌}
use native.Mathlib.Omega.{arith}
use lib.Dec.{leb, ltb}
use lib.ListN.{get_or}
use borrow.Author.Tests.{leb-true, le-leb, ltb-true, ltb-false}
use Rattle.rules.specs.declared.station.Battery.{Battery}
use Rattle.rules.specs.declared.station.GenSet.{GenSet}
use Rattle.rules.specs.declared.station.Station.{Station}
use Rattle.rules.specs.declared.run.SetState.{SetState}
use Rattle.rules.specs.declared.run.Mode.TheVariants.{Off}
use Rattle.rules.specs.declared.run.Inputs.{Inputs}
use Rattle.rules.specs.Quantities.{Watts}
use Rattle.rules.specs.declared.run.Run.{Run}
use Rattle.rules.specs.declared.run.Step.{Step}
use Rattle.rules.specs.Numbers.{within, has}
use Rattle.rules.specs.Answers.{accepted, ◌>>◌}
use Rattle.rules.specs.StationRecord.{set_at, some_file_gives}
use Rattle.rules.specs.Share.{share}
use Rattle.rules.specs.Modes.{fresh, state_at, tick, ticked}
use Rattle.rules.specs.Flows.{watts_for, watts_with, shed_now, solar_on_load, diesel_for, shed_decided}
use Rattle.rules.specs.Commands.{counted, counted_all, command, commanded_all, every_on}
use Rattle.rules.specs.Configuration.{mask_called}
use Rattle.rules.specs.RunRecord.{most_seconds, state_possible, states_possible, totals_possible, decided_possible, record_rules, possible}
use Rattle.rules.specs.Second.{states_now, on_now, cap_now, floor_now, watts_now, store_now, decided_now, ran_now, held_now, call_now, commanded_now, plus, record_after, step, inputs_right, admitted, second}
use Rattle.rules.proofs.Tests.{and-true, all-at, to_at, to-all, within-fact, fact-within}
use Rattle.rules.proofs.Checks.{passes, passed, both-passed, same-value}
use Rattle.rules.proofs.Tables.{tab-at, has-beyond}
use Rattle.rules.proofs.Shapes.{Tables}
use Rattle.rules.proofs.StationFacts.{Right, right_of, delay-range}
use Rattle.laws.specs.Admitted.{Admitted}
use Rattle.laws.proofs.StationAt.{set-at, called-existing}
use Rattle.laws.proofs.Share.{share-most}
use Rattle.laws.proofs.FuelMost.{rate-most}
use Rattle.laws.proofs.Balance.{store-least, store-most}
use Rattle.laws.proofs.KeptSets.{existing-kept, other-kept}
use Rattle.laws.proofs.KeptRest.{chosen-most, since-most, watts-small, totals-kept, shed-decided-most, decided-kept}

pub diesel-cap : (cap rest : ℕ) → diesel_for cap rest ≤ cap
unfolding diesel_for
diesel-cap cap rest = omega arith

-- a second of a station and a record that were judged
pub judged-is : (st : Station) (r : Run) (x : Inputs) (room : ℕ) → some_file_gives st ≡ true → possible st r ≡ true → second st r x room ≡ (admitted r.done x room >> accepted (step st r x))
unfolding second
judged-is st r x room h k = passes (some_file_gives st) 25 0 _ h ∙ passes (possible st r) 24 0 _ k

pub admitted_of : (st : Station) (r : Run) (x : Inputs) (room : ℕ) (s : Step) → second st r x room ≡ accepted s → Admitted st r x × (step st r x ≡ s)
unfolding second admitted
admitted_of st r x room s h =
    let a = passed (some_file_gives st) 25 0 _ s h in
    let b = passed (possible st r) 24 0 _ s a.1 in
    let c = both-passed (admitted r.done x room) (accepted (step st r x)) s b.1 in
    let d = passed (ltb r.done most_seconds) 23 0 _ tt c.0 in
    let e = passed (inputs_right x) 19 0 _ tt d.1 in
    let f = passed (leb x.sheddable x.load) 20 0 _ tt e.1 in
    let tests : List Bool = leb x.load 50_000_000 ∷ leb x.solar 50_000_000 ∷ leb x.sheddable 50_000_000 ∷ [] in (
      record {
        station-given = a.0;
        record-possible = b.0;
        not-ended = ltb-true _ _ d.0;
        load-most = leb-true _ _ (all-at tests 0 e.0);
        solar-most = leb-true _ _ (all-at tests 1 e.0);
        sheddable-most = leb-true _ _ (all-at tests 2 e.0);
        sheddable-load = leb-true _ _ f.0;
      },
      same-value (step st r x) s c.1,
    )

module _ (st : Station) (tables : Tables st) (r : Run) (x : Inputs) (in_order : Admitted st r x) where
  right : Right st
  right = right_of st in_order.station-given

  rule : (i : ℕ) → get_or (record_rules st r) i true ≡ true
  unfolding possible
  rule i = all-at (record_rules st r) i in_order.record-possible

  abbrev w : Watts
  w = watts_now st r x

  abbrev call : ℕ
  call = call_now st r x w

  call-most : call ≤ st.configcount
  unfolding call_now
  call-most = chosen-most st (ran_now st r w) (held_now st r x w) r.called r.since r.done (leb-true _ _ (rule 2))

  diesel-most : w.diesel ≤ cap_now st r
  unfolding watts_now watts_for watts_with
  diesel-most = diesel-cap (cap_now st r) _

  -- ---- the sets

  -- the set at a place, after the second
  abbrev after : ℕ → SetState
  after i =
      command (set_at st.sets i) (counted (set_at st.sets i) (tick (set_at st.sets i) (state_at r.sets i)) (share st.sets (on_now st r) w.diesel i)) (has (mask_called st.configs call) i) (every_on (ran_now st r w) (mask_called st.configs call))

  ticked-is : (i : ℕ) → i < 8 → state_at (states_now st r) i ≡ tick (set_at st.sets i) (state_at r.sets i)
  unfolding states_now ticked state_at
  ticked-is i h = tab-at (λ j. tick (set_at st.sets j) (state_at r.sets j)) 8 i (fresh Off) h

  ran-is : (i : ℕ) → i < 8 → state_at (ran_now st r w) i ≡ counted (set_at st.sets i) (tick (set_at st.sets i) (state_at r.sets i)) (share st.sets (on_now st r) w.diesel i)
  unfolding ran_now counted_all state_at
  ran-is i h =
      tab-at (λ j. counted (set_at st.sets j) (state_at (states_now st r) j) (share st.sets (on_now st r) w.diesel j)) 8 i (fresh Off) h
      ∙ ap (λ (s : SetState). counted (set_at st.sets i) s (share st.sets (on_now st r) w.diesel i)) (ticked-is i h)

  state-is : (i : ℕ) → i < 8 → state_at (commanded_now st r x w) i ≡ after i
  unfolding commanded_now commanded_all state_at
  state-is i h =
      let mask : ℕ = mask_called st.configs call in
      tab-at (λ j. command (set_at st.sets j) (state_at (ran_now st r w) j) (has mask j) (every_on (ran_now st r w) mask)) 8 i (fresh Off) h
      ∙ ap (λ (s : SetState). command (set_at st.sets i) s (has mask i) (every_on (ran_now st r w) mask)) (ran-is i h)

  was-possible : (i : ℕ) → i < 8 → state_possible (ltb i st.setcount) (set_at st.sets i) (state_at r.sets i) r.done ≡ true
  unfolding states_possible
  was-possible i h = to_at (λ j. state_possible (ltb j st.setcount) (set_at st.sets j) (state_at r.sets j) r.done) 8 (rule 4) i h

  share-rated : (i : ℕ) → share st.sets (on_now st r) w.diesel i ≤ (set_at st.sets i).rating
  unfolding cap_now
  share-rated i = share-most st.sets (on_now st r) w.diesel diesel-most i

  state-kept : (i : ℕ) → i < 8 → state_possible (ltb i st.setcount) (set_at st.sets i) (after i) (r.done + 1) ≡ true
  state-kept i h = go (ltb i st.setcount) refl (was-possible i h)
    where
      g : GenSet
      g = set_at st.sets i

      go : (exists : Bool) → ltb i st.setcount ≡ exists → state_possible exists g (state_at r.sets i) r.done ≡ true → state_possible exists g (after i) (r.done + 1) ≡ true
      go true e p =
          let checks = set-at st tables right i (ltb-true i st.setcount e) in
          existing-kept g (state_at r.sets i) (share st.sets (on_now st r) w.diesel i) r.done _ _ checks.0 (share-rated i) (rate-most g checks.0 checks.1 (share st.sets (on_now st r) w.diesel i) (share-rated i)) p
      go false e p =
          let not-called : has (mask_called st.configs call) i ≡ false = has-beyond st.setcount (mask_called st.configs call) i (called-existing st tables right call call-most) (ltb-false i st.setcount e) in
          rw not-called (other-kept g (state_at r.sets i) (share st.sets (on_now st r) w.diesel i) r.done (every_on (ran_now st r w) (mask_called st.configs call)) p)

  states-kept : states_possible st.setcount st.sets (commanded_now st r x w) (r.done + 1) ≡ true
  unfolding states_possible
  states-kept = to-all _ 8 λ i h. rw (state-is i h) (state-kept i h)

  -- ---- the store

  store_kept : within st.battery.least st.battery.most (store_now st r w) ≡ true
  unfolding store_now watts_now watts_for watts_with
  store_kept =
      let b : Battery = st.battery in
      let range = within-fact b.least b.most r.store (rule 1) in
      let off : ℕ = shed_now x.sheddable (get_or r.decided 0 0) in
      let solar : ℕ = solar_on_load x.solar (x.load - off) (floor_now st r) in
      let rest : ℕ = x.load - off - solar in
      fact-within b.least b.most _ (store-least b r.store (cap_now st r) rest (x.solar - solar) range.0) (store-most b r.store (cap_now st r) rest (x.solar - solar) range.0 range.1)

  -- ---- totals and decided amounts

  decided-now : decided_possible st.control.delay (decided_now st r x w) ≡ true
  unfolding decided_now
  decided-now =
      let delay = delay-range st.setcount st.control right.control in
      let new : ℕ = shed_decided st.control (cap_now st r) x.load w.solar x.sheddable in
      decided-kept st.control.delay r.decided new delay.0 delay.1 (omega (arith, shed-decided-most st.control (cap_now st r) x.load w.solar x.sheddable, in_order.sheddable-most)) (rule 6)

  totals-now : totals_possible (plus r.totals w) (50_000_000 * (r.done + 1)) ≡ true
  unfolding watts_now
  totals-now =
      totals-kept r.totals w r.done (watts-small st.battery r.store (cap_now st r) (floor_now st r) (get_or r.decided 0 0) x in_order.load-most in_order.solar-most in_order.sheddable-most) (rule 5)

  -- ---- the whole record

  pub record-kept : possible st (record_after st r x w) ≡ true
  unfolding possible record_after
  record-kept =
      let ended : r.done + 1 ≤ most_seconds = omega (arith, in_order.not-ended) in
      and-true
      (and-true
      (and-true
      (and-true
      (and-true (and-true (le-leb (r.done + 1) most_seconds ended) store_kept) (le-leb call st.configcount call-most))
      (le-leb _ (r.done + 1) (since-most call r.called r.since r.done (leb-true _ _ (rule 3)))))
      states-kept)
      totals-now)
      decided-now

-- from a possible record an accepted second gives a possible record
pub second-kept : (st : Station) → Tables st → (r : Run) (x : Inputs) (room : ℕ) (s : Step) → second st r x room ≡ accepted s → possible st s.run ≡ true
unfolding step
second-kept st tables r x room s h =
    let a = admitted_of st r x room s h in
    ap (λ (t : Step). possible st t.run) (sym a.1) ∙ record-kept st tables r x a.0
