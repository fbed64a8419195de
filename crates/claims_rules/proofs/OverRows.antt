-- WHAT DEMAND 3 SAYS of the rows of accepted seconds from the start, and of the record after them. Assumes nothing.
use Rattle.std.specs.Prelude.{if◌then◌else◌}
use Prim.Native.Nat.{ℕ, ◌+◌, ◌*◌, ◌<◌}
use mathlib.Core.Path.{◌≡◌, refl, sym, ap, ◌∙◌}
use mathlib.Core.Bool.{true}
use mathlib.Core.List.{List, [], ◌∷◌, map}
use native.Mathlib.Omega.{arith}
use lib.ListN.{length}
use Rattle.rules.specs.declared.station.GenSet.{GenSet}
use Rattle.rules.specs.declared.station.Station.{Station}
use Rattle.rules.specs.declared.run.Inputs.{Inputs}
use Rattle.rules.specs.declared.run.Mode.{Mode}
use Rattle.rules.specs.declared.run.Mode.TheVariants.{Off, On}
use Rattle.rules.specs.declared.run.Run.{Run}
use Rattle.rules.specs.declared.run.SetState.{SetState}
use Rattle.rules.specs.Quantities.{Totals}
use Rattle.rules.specs.Numbers.{has, tab}
use Rattle.rules.specs.StationRecord.{set_at, set_right, pairs_right, some_file_gives}
use Rattle.rules.specs.Fuel.{fuel_rate, exact_curve, exact_sum, fuel_sum}
use Rattle.rules.specs.Flows.{watts_with, watts_for}
use Rattle.rules.specs.Modes.{fresh, state_at}
use Rattle.rules.specs.RunRecord.{start_record}
use Rattle.rules.specs.Second.{watts_now, record_after, row_after, step}
use Rattle.rules.proofs.Curve.{exact-on-curve}
use Rattle.rules.proofs.Shapes.{Tables}
use Rattle.rules.proofs.Start.{start-possible}
use Rattle.rules.proofs.StationFacts.{right_of}
use Rattle.rules.proofs.Tables.{tab-at}
use Rattle.laws.proofs.Fuel.{scale-some, sum_below, sum-above}
use Rattle.laws.proofs.StationAt.{set-at}
use Rattle.claims_rules.specs.Shown.{Worked, total}
use Rattle.claims_rules.specs.Replay.{Replay, replay_of, followed_to, at_first, replayed}
use Rattle.claims_rules.specs.Burned.{powers_of, Exact, sum_of, Burned}
use Rattle.claims_rules.specs.Claim.{counted_by, OverRows, totals_of, LastRecord}
use Rattle.claims_rules.proofs.Seconds.{worked_at}
use Rattle.claims_rules.proofs.Lists.{Steps, worked_of, replayed_of, replay-is, rows-hold, load-sum, load_same, solar-sum, store-sum, followed-last, possible-last, done-last, called-last, total-last, count-sum, run-grows, energy-grows, fuel-grows}

-- ---- the exact curve at each power of a list

exact-each : (g : GenSet) → set_right g ≡ true → pairs_right g ≡ true → (powers : List ℕ) → Exact g powers (map (exact_curve g) powers)
exact-each g numbers pairs [] = Exact.none
exact-each g numbers pairs (p ∷ ps) = Exact.more (exact-on-curve g numbers pairs p) (exact-each g numbers pairs ps)

exact-sum : (g : GenSet) (powers : List ℕ) → sum_of (map (exact_curve g) powers) ≡ exact_sum g powers
unfolding sum_of exact_sum
exact-sum g [] = refl
exact-sum g (p ∷ ps) = ap (λ (n : ℕ). exact_curve g p + n) (exact-sum g ps)

-- the rates summed, the seconds counted, and the powers summed
rates-sum : (g : GenSet) (powers : List ℕ) → sum_of (map (fuel_rate g) powers) ≡ fuel_sum g powers
unfolding sum_of fuel_sum
rates-sum g [] = refl
rates-sum g (p ∷ ps) = ap (λ (n : ℕ). fuel_rate g p + n) (rates-sum g ps)

ones-sum : (powers : List ℕ) → sum_of (map (λ (p : ℕ). 1) powers) ≡ length powers
unfolding sum_of
ones-sum [] = refl
ones-sum (p ∷ ps) = omega (arith, ones-sum ps)

same_sum : (powers : List ℕ) → sum_of (map (λ (p : ℕ). p) powers) ≡ sum_of powers
unfolding sum_of
same_sum [] = refl
same_sum (p ∷ ps) = ap (λ (n : ℕ). p + n) (same_sum ps)

-- ---- the start

first-state : (st : Station) (i : ℕ) → i < 8 → state_at (start_record st).sets i ≡ fresh (if has st.control.online i then On else Off)
unfolding start_record state_at
first-state st i l = tab-at (λ j. fresh (if has st.control.online j then On else Off)) 8 i (fresh Off) l

pub first-replay : (st : Station) → replay_of (start_record st) ≡ at_first st
unfolding start_record at_first tab state_at
first-replay st = refl

-- ---- accepted seconds from it

-- totals of equal numbers
abbrev nine : ℕ → ℕ → ℕ → ℕ → ℕ → ℕ → ℕ → ℕ → ℕ → Totals
nine a b c d e f g h i = record { offered = a; load = b; shed = c; solar = d; charge = e; spill = f; give = g; diesel = h; unserved = i }

nine-same : (a b c d e f g h i a' b' c' d' e' f' g' h' i' : ℕ) → a ≡ a' → b ≡ b' → c ≡ c' → d ≡ d' → e ≡ e' → f ≡ f' → g ≡ g' → h ≡ h' → i ≡ i'
    → nine a b c d e f g h i ≡ nine a' b' c' d' e' f' g' h' i'
nine-same a b c d e f g h i a' b' c' d' e' f' g' h' i' p q r s t u v w x = rw (p, q, r, s, t, u, v, w, x)

module _ (st : Station) (given : some_file_gives st ≡ true) (tables : Tables st) (xs : List Inputs) (last : Run) (steps : Steps st (start_record st) xs last) where
  abbrev rows : List Worked
  rows = worked_of st (start_record st) xs

  rows_are : replayed st (at_first st) rows ≡ replayed_of st (start_record st) xs
  rows_are = ap (λ (p : Replay). replayed st p rows) (sym (first-replay st)) ∙ replay-is st (start_record st) xs

  abbrev powers : ℕ → List ℕ
  powers i = powers_of st i (replayed_of st (start_record st) xs)

  few : (i : ℕ) → i < st.setcount → i < 8
  few i l = omega (arith, (right_of st given).setcount.1)

  -- a count from the start, where it is 0
  from_start : (i : ℕ) → i < 8 → (f : SetState → ℕ) → ((m : Mode) → f (fresh m) ≡ 0) → (n : ℕ) → f (state_at last.sets i) ≡ f (state_at (start_record st).sets i) + n → f (state_at last.sets i) ≡ n
  from_start i l f zero n e = e ∙ (let z : f (state_at (start_record st).sets i) ≡ 0 = ap f (first-state st i l) ∙ zero _ in rw z (omega arith))

  ran-for : (i : ℕ) → i < st.setcount → (state_at last.sets i).run ≡ length (powers i)
  ran-for i l = from_start i (few i l) (λ s. s.run) (λ m. refl) _ (count-sum st tables i (λ s. s.run) (λ p. 1) (run-grows st tables i (few i l)) steps) ∙ ones-sum (powers i)

  gave : (i : ℕ) → i < st.setcount → (state_at last.sets i).energy ≡ sum_of (powers i)
  gave i l = from_start i (few i l) (λ s. s.energy) (λ m. refl) _ (count-sum st tables i (λ s. s.energy) (λ p. p) (energy-grows st tables i (few i l)) steps) ∙ same_sum (powers i)

  burned : (i : ℕ) → i < st.setcount → Burned (set_at st.sets i) (state_at last.sets i).fuel (powers i)
  burned i l =
      let g : GenSet = set_at st.sets i in
      let checks = set-at st tables (right_of st given) i l in
      let is : (state_at last.sets i).fuel ≡ fuel_sum g (powers i) = from_start i (few i l) (λ s. s.fuel) (λ m. refl) _ (count-sum st tables i (λ s. s.fuel) (fuel_rate g) (fuel-grows st tables i (few i l)) steps) ∙ rates-sum g (powers i) in
      record {
        values = map (exact_curve g) (powers i);
        exact = exact-each g checks.0 checks.1 (powers i);
        scaled = scale-some g checks.0 checks.1;
        never-above = rw (is, exact-sum g (powers i)) (sum_below g checks.0 checks.1 (powers i));
        below-at-most = rw (is, exact-sum g (powers i)) (sum-above g checks.0 checks.1 (powers i));
      }

  moved : last.store + 100 * total (λ s. s.row.give) rows ≡ st.battery.start + st.battery.efficiency * total (λ s. s.row.charge) rows
  unfolding start_record
  moved = store-sum st tables steps

  pub over-rows : OverRows st rows last.store (counted_by last)
  over-rows = record {
    load-handed = load-sum st tables steps;
    load-shown = load_same st tables steps ∙ load-sum st tables steps;
    solar-placed = solar-sum st tables steps;
    store-moved = moved;
    each_row = rw rows_are (rows-hold st tables steps);
    fuel-burned = rw rows_are burned;
    run-counted = rw rows_are ran-for;
    energy-counted = rw rows_are gave;
  }

  -- ---- the record after them

  column : (get : Totals → ℕ) (number : Worked → ℕ) → get (start_record st).totals ≡ 0 → ((r : Run) (x : Inputs) → get (step st r x).run.totals ≡ get r.totals + number (worked_at st r x))
      → get last.totals ≡ total number rows
  column get number none grows = omega (arith, none, total-last st tables get number grows steps)

  summed : last.totals ≡ totals_of rows
  unfolding start_record worked_at step record_after row_after watts_now watts_for watts_with
  summed =
      nine-same _ _ _ _ _ _ _ _ _ _ _ _ _ _ _ _ _ _
      (column (λ t. t.offered) (λ s. s.inputs.solar) refl (λ r x. refl))
      (column (λ t. t.load) (λ s. s.row.load) refl (λ r x. refl))
      (column (λ t. t.shed) (λ s. s.row.shed) refl (λ r x. refl))
      (column (λ t. t.solar) (λ s. s.row.solar) refl (λ r x. refl))
      (column (λ t. t.charge) (λ s. s.row.charge) refl (λ r x. refl))
      (column (λ t. t.spill) (λ s. s.row.spill) refl (λ r x. refl))
      (column (λ t. t.give) (λ s. s.row.give) refl (λ r x. refl))
      (column (λ t. t.diesel) (λ s. s.row.diesel) refl (λ r x. refl))
      (column (λ t. t.unserved) (λ s. s.row.unserved) refl (λ r x. refl))

  done-is : last.done ≡ length rows
  unfolding start_record
  done-is = omega (arith, done-last st tables steps)

  pub last-record : LastRecord st rows last
  unfolding start_record
  last-record = record {
    seconds-done = done-is;
    totals-summed = summed;
    called-last = called-last st tables steps;
    followed = followed-last st tables steps ∙ ap (λ (p : Replay). followed_to st p rows) (first-replay st);
    possible-last = possible-last st tables (start-possible st given) steps;
  }
