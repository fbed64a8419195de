-- Every list of accepted seconds, one after the other: the sums, the rows, the record after them. Assumes nothing.
use Rattle.std.specs.Prelude.{if◌then◌else◌}
use Prim.Native.Nat.{ℕ, ◌+◌, ◌*◌, ◌<◌}
use mathlib.Core.Path.{◌≡◌, refl, sym, ap, ◌∙◌}
use mathlib.Core.Bool.{Bool, true, false}
use mathlib.Core.List.{List, [], ◌∷◌, map}
use native.Mathlib.Omega.{arith}
use native.Mathlib.Nat.{mul_comm, mul-add, mul-zero}
use lib.ListN.{length}
use Rattle.rules.specs.declared.station.Station.{Station}
use Rattle.rules.specs.declared.run.Inputs.{Inputs}
use Rattle.rules.specs.declared.run.Run.{Run}
use Rattle.rules.specs.declared.run.SetState.{SetState}
use Rattle.rules.specs.Quantities.{Totals}
use Rattle.rules.specs.Numbers.{has}
use Rattle.rules.specs.StationRecord.{set_at}
use Rattle.rules.specs.Share.{share}
use Rattle.rules.specs.Fuel.{fuel_rate}
use Rattle.rules.specs.Modes.{state_at}
use Rattle.rules.specs.Flows.{watts_with, watts_for}
use Rattle.rules.specs.Configuration.{mask_called}
use Rattle.rules.specs.RunRecord.{possible}
use Rattle.rules.specs.Second.{states_now, on_now, watts_now, ran_now, call_now, commanded_now, record_after, row_after, step}
use Rattle.rules.proofs.Counts.{run-after, energy-after, fuel-after}
use Rattle.rules.proofs.Shapes.{Tables}
use Rattle.laws.specs.Admitted.{Admitted}
use Rattle.laws.proofs.Kept.{record-kept}
use Rattle.claims_rules.specs.Shown.{Worked, total}
use Rattle.claims_rules.specs.Replay.{Replay, replay_of, followed_to, Replayed, replayed}
use Rattle.claims_rules.specs.InRow.{InRows}
use Rattle.claims_rules.specs.Burned.{powers_of, sum_of}
use Rattle.claims_rules.specs.Claim.{met_by, call_after}
use Rattle.claims_rules.proofs.Seconds.{worked_at, follows, load-met, solar-placed, store-moves, in_row}

-- accepted seconds from one record to another
pub data Steps (st : Station) : Run → List Inputs → Run → Type 0 where
  none : {r : Run} → Steps st r [] r
  more : {r last : Run} {x : Inputs} {xs : List Inputs} → Admitted st r x → Steps st (step st r x).run xs last → Steps st r (x ∷ xs) last

-- what they show
unfoldable pub worked_of : Station → Run → List Inputs → List Worked
worked_of st r [] = []
worked_of st r (x ∷ xs) = worked_at st r x ∷ worked_of st (step st r x).run xs

-- with the replay
unfoldable pub replayed_of : Station → Run → List Inputs → List Replayed
replayed_of st r [] = []
replayed_of st r (x ∷ xs) = record { before = replay_of r; worked = worked_at st r x } ∷ replayed_of st (step st r x).run xs

pub replay-is : (st : Station) (r : Run) (xs : List Inputs) → replayed st (replay_of r) (worked_of st r xs) ≡ replayed_of st r xs
unfolding worked_of replayed replayed_of
replay-is st r [] = refl
replay-is st r (x ∷ xs) =
    ap (λ (l : List Replayed). record { before = replay_of r; worked = worked_at st r x } ∷ l)
    (ap (λ (p : Replay). replayed st p (worked_of st (step st r x).run xs)) (follows st r x) ∙ replay-is st (step st r x).run xs)

module _ (st : Station) (tables : Tables st) where
  -- ---- in each row

  pub rows-hold : {r last : Run} {xs : List Inputs} → Steps st r xs last → InRows st (replayed_of st r xs)
  unfolding replayed_of
  rows-hold none = tt
  rows-hold {r} (more {x = x} h rest) = (in_row st tables r x h, rows-hold rest)

  -- ---- the sums

  five : (a tl di so gi sh un tdi tso tgi tsh tun : ℕ) → a ≡ di + so + gi + sh + un → tl ≡ tdi + tso + tgi + tsh + tun
      → a + tl ≡ (di + tdi) + (so + tso) + (gi + tgi) + (sh + tsh) + (un + tun)
  five a tl di so gi sh un tdi tso tgi tsh tun e h = omega arith

  pub load-sum : {r last : Run} {xs : List Inputs} → Steps st r xs last → total (λ s. s.inputs.load) (worked_of st r xs) ≡ met_by (worked_of st r xs)
  unfolding worked_of total worked_at step row_after
  load-sum none = refl
  load-sum {r} (more {x = x} h rest) = five _ _ _ _ _ _ _ _ _ _ _ _ (load-met st tables r x h) (load-sum rest)

  -- the row shows the load that was handed in
  pub load_same : {r last : Run} {xs : List Inputs} → Steps st r xs last → total (λ s. s.row.load) (worked_of st r xs) ≡ total (λ s. s.inputs.load) (worked_of st r xs)
  unfolding worked_of total worked_at step row_after watts_now watts_for watts_with
  load_same none = refl
  load_same {r} (more {x = x} h rest) = ap (λ (n : ℕ). x.load + n) (load_same rest)

  three : (a tl so ch sp tso tch tsp : ℕ) → a ≡ so + ch + sp → tl ≡ tso + tch + tsp → a + tl ≡ (so + tso) + (ch + tch) + (sp + tsp)
  three a tl so ch sp tso tch tsp e h = omega arith

  pub solar-sum : {r last : Run} {xs : List Inputs} → Steps st r xs last → total (λ s. s.inputs.solar) (worked_of st r xs)
      ≡ total (λ s. s.row.solar) (worked_of st r xs) + total (λ s. s.row.charge) (worked_of st r xs) + total (λ s. s.row.spill) (worked_of st r xs)
  unfolding worked_of total worked_at step row_after
  solar-sum none = refl
  solar-sum {r} (more {x = x} h rest) = three _ _ _ _ _ _ _ _ (solar-placed st tables r x h) (solar-sum rest)

  stores : (z g tg a b ce ec et es : ℕ) → a + 100 * g ≡ b + ce → z + 100 * tg ≡ a + et → ce ≡ ec → es ≡ ec + et → z + 100 * (g + tg) ≡ b + es
  stores z g tg a b ce ec et es h1 h2 h3 h4 = omega arith

  pub store-sum : {r last : Run} {xs : List Inputs} → Steps st r xs last → last.store + 100 * total (λ s. s.row.give) (worked_of st r xs)
      ≡ r.store + st.battery.efficiency * total (λ s. s.row.charge) (worked_of st r xs)
  unfolding worked_of total worked_at step row_after record_after
  store-sum none = omega (arith, mul-zero st.battery.efficiency)
  store-sum {r} (more {x = x} {xs = xs} h rest) =
      let c : ℕ = (watts_now st r x).charge in
      let e : ℕ = st.battery.efficiency in
      stores _ _ _ _ _ _ _ _ _ (store-moves st tables r x h) (store-sum rest) (mul_comm c e) (mul-add e c _)

  -- ---- the record after the last

  pub followed-last : {r last : Run} {xs : List Inputs} → Steps st r xs last → replay_of last ≡ followed_to st (replay_of r) (worked_of st r xs)
  unfolding worked_of followed_to
  followed-last none = refl
  followed-last {r} (more {x = x} {xs = xs} h rest) = followed-last rest ∙ ap (λ (p : Replay). followed_to st p (worked_of st (step st r x).run xs)) (sym (follows st r x))

  pub possible-last : {r last : Run} {xs : List Inputs} → possible st r ≡ true → Steps st r xs last → possible st last ≡ true
  unfolding step
  possible-last p none = p
  possible-last {r} p (more {x = x} h rest) = possible-last (record-kept st tables r x h) rest

  pub done-last : {r last : Run} {xs : List Inputs} → Steps st r xs last → last.done ≡ r.done + length (worked_of st r xs)
  unfolding worked_of step record_after
  done-last none = omega arith
  done-last {r} (more {x = x} {xs = xs} h rest) = omega (arith, done-last rest)

  pub called-last : {r last : Run} {xs : List Inputs} → Steps st r xs last → last.called ≡ call_after r.called (worked_of st r xs)
  unfolding worked_of call_after worked_at step record_after row_after
  called-last none = refl
  called-last {r} (more {x = x} {xs = xs} h rest) = called-last rest

  -- a total that grows by a number of each second is the sum of those
  pub total-last : (get : Totals → ℕ) (number : Worked → ℕ) → ((r : Run) (x : Inputs) → get (step st r x).run.totals ≡ get r.totals + number (worked_at st r x))
      → {r last : Run} {xs : List Inputs} → Steps st r xs last → get last.totals ≡ get r.totals + total number (worked_of st r xs)
  unfolding worked_of total
  total-last get number grows none = omega arith
  total-last get number grows {r} (more {x = x} {xs = xs} h rest) = omega (arith, grows r x, total-last get number grows rest)

  -- ---- a count of the set at a place, which grows by an amount in each second that it runs

  module _ (i : ℕ) (f : SetState → ℕ) (amount : ℕ → ℕ)
      (grows : (r : Run) (x : Inputs) → f (state_at (step st r x).run.sets i) ≡ f (state_at r.sets i) + (if has (on_now st r) i then amount (share st.sets (on_now st r) (watts_now st r x).diesel i) else 0)) where
    one_more : (b : Bool) (a now power : ℕ) (later : List ℕ) (final : ℕ) → now ≡ a + (if b then amount power else 0) → final ≡ now + sum_of (map amount later) → final ≡ a + sum_of (map amount (if b then power ∷ later else later))
    unfolding sum_of
    one_more true a now power later final e h = omega arith
    one_more false a now power later final e h = omega arith

    pub count-sum : {r last : Run} {xs : List Inputs} → Steps st r xs last → f (state_at last.sets i) ≡ f (state_at r.sets i) + sum_of (map amount (powers_of st i (replayed_of st r xs)))
    unfolding replayed_of powers_of sum_of worked_at step row_after
    count-sum none = omega arith
    count-sum {r} (more {x = x} {xs = xs} h rest) =
        one_more (has (on_now st r) i) _ _ (share st.sets (on_now st r) (watts_now st r x).diesel i) _ _ (grows r x) (count-sum rest)

  -- step 8's three
  module _ (i : ℕ) (l : i < 8) where
    pub run-grows : (r : Run) (x : Inputs) → (state_at (step st r x).run.sets i).run ≡ (state_at r.sets i).run + (if has (on_now st r) i then 1 else 0)
    unfolding step record_after commanded_now ran_now states_now on_now
    run-grows r x = run-after st.sets r.sets (watts_now st r x).diesel (mask_called st.configs (call_now st r x (watts_now st r x))) i l

    pub energy-grows : (r : Run) (x : Inputs) → (state_at (step st r x).run.sets i).energy ≡ (state_at r.sets i).energy + (if has (on_now st r) i then share st.sets (on_now st r) (watts_now st r x).diesel i else 0)
    unfolding step record_after commanded_now ran_now states_now on_now
    energy-grows r x = energy-after st.sets r.sets (watts_now st r x).diesel (mask_called st.configs (call_now st r x (watts_now st r x))) i l

    pub fuel-grows : (r : Run) (x : Inputs) → (state_at (step st r x).run.sets i).fuel ≡ (state_at r.sets i).fuel + (if has (on_now st r) i then fuel_rate (set_at st.sets i) (share st.sets (on_now st r) (watts_now st r x).diesel i) else 0)
    unfolding step record_after commanded_now ran_now states_now on_now
    fuel-grows r x = fuel-after st.sets r.sets (watts_now st r x).diesel (mask_called st.configs (call_now st r x (watts_now st r x))) i l
