-- What is known of an admitted second: every count is small, and every set that is On has passed its checks. Assumes nothing.
use Prim.Native.Nat.{ℕ, zero, suc, ◌*◌, ◌≤◌, ◌<◌, min}
use mathlib.Core.Path.{◌≡◌, refl, sym, ap, ◌∙◌}
use mathlib.Core.Bool.{Bool, true, false}
use mathlib.Core.List.{List, [], ◌∷◌}
use native.Mathlib.Omega.{arith}
use native.Mathlib.Nat.{mul-le-mul}
use lib.Dec.{leb, ltb, eqb}
use lib.ListN.{get_or}
use borrow.Author.Tests.{leb-true, ltb-true, eqb-true}
use Rattle.rules.specs.declared.station.GenSet.{GenSet}
use Rattle.rules.specs.declared.station.Station.{Station}
use Rattle.rules.specs.declared.run.Mode.TheVariants.{Off}
use Rattle.rules.specs.declared.run.SetState.{SetState}
use Rattle.rules.specs.declared.run.Inputs.{Inputs}
use Rattle.rules.specs.declared.run.Run.{Run}
use Rattle.rules.specs.Numbers.{every, all_zero}
use Rattle.rules.specs.StationRecord.{set_at, set_right, pairs_right, some_file_gives}
use Rattle.rules.specs.Share.{capacity}
use Rattle.rules.specs.Modes.{fresh, state_at, is_off, is_on, tick_from, tick, ticked}
use Rattle.rules.specs.Flows.{diesel_for, watts_with, watts_for}
use Rattle.rules.specs.RunRecord.{most_seconds, mode_possible, counts_possible, state_possible, states_possible, total_rules, record_rules, possible}
use Rattle.rules.specs.Second.{states_now, on_now, cap_now, watts_now}
use Rattle.rules.proofs.Tests.{never, both, all-at, to_at}
use Rattle.rules.proofs.Tables.{tab-at}
use Rattle.rules.proofs.Shapes.{Tables}
use Rattle.rules.proofs.StationFacts.{right_of}
use Rattle.laws.specs.Admitted.{Admitted}
use Rattle.laws.proofs.StationAt.{set-at}
use Rattle.laws.proofs.KeptSets.{Within, from-rules, tick-counts, off-only}
use Rattle.gensets.proofs.FileCapacity.{rating-most, capacity-most}
use Rattle.commitment.specs.Choice.{capacities, Rated}
use Rattle.set_moves.specs.Sized.{Small}
use Rattle.moments.specs.Totals.{SmallTotals}

-- ---- the counts of a set, by the seconds done

small_of : (g : GenSet) (s : SetState) (done : ℕ) → g.rating ≤ 10_000_000 → done ≤ most_seconds → Within g s done done → Small s
small_of g s done rated ended w =
    let e : g.rating * done ≤ 10_000_000 * 316_224_000 = mul-le-mul rated ended in
    record {
      run-most = omega (arith, w.run-most);
      clock-most = omega (arith, w.clock-most);
      starts-most = omega (arith, w.starts-most);
      stops-most = omega (arith, w.stops-most);
      energy-most = omega (arith, w.energy-most);
      fuel-most = omega (arith, w.fuel-most);
    }

-- a set that the station has not: all its counts are 0
zeros-at : (xs : List ℕ) → all_zero xs ≡ true → (i : ℕ) → get_or xs i 0 ≡ 0
unfolding every
zeros-at [] h i = refl
zeros-at (y ∷ ys) h zero = eqb-true y 0 (both (eqb y 0) (all_zero ys) h).0
zeros-at (y ∷ ys) h (suc i) = zeros-at ys (both (eqb y 0) (all_zero ys) h).1 i

zero-within : (g : GenSet) (s : SetState) (done : ℕ) → all_zero (s.run ∷ s.clock ∷ s.starts ∷ s.stops ∷ s.energy ∷ s.fuel ∷ []) ≡ true → Within g s done done
zero-within g s done h =
    let none = zeros-at (s.run ∷ s.clock ∷ s.starts ∷ s.stops ∷ s.energy ∷ s.fuel ∷ []) h in
    record {
      run-most = omega (arith, none 0);
      clock-most = omega (arith, none 1);
      starts-most = omega (arith, none 2);
      stops-most = omega (arith, none 3);
      energy-most = omega (arith, none 4);
      fuel-most = omega (arith, none 5);
    }

within_of : (exists : Bool) (g : GenSet) (s : SetState) (done : ℕ) → state_possible exists g s done ≡ true → Within g s done done
unfolding state_possible
within_of true g s done h = from-rules g s done (both (mode_possible g s.mode) (counts_possible g s done) h).1
within_of false g s done h = zero-within g s done (both (is_off s.mode) (all_zero (s.run ∷ s.clock ∷ s.starts ∷ s.stops ∷ s.energy ∷ s.fuel ∷ [])) h).1

-- a set that the station has not is Off
pub unused-off : (g : GenSet) (s : SetState) (done : ℕ) → state_possible false g s done ≡ true → s.mode ≡ Off
unfolding state_possible
unused-off g s done h = off-only s.mode (both (is_off s.mode) (all_zero (s.run ∷ s.clock ∷ s.starts ∷ s.stops ∷ s.energy ∷ s.fuel ∷ [])) h).0

-- every set of a possible record
module _ (st : Station) (given : some_file_gives st ≡ true) (r : Run) (p : possible st r ≡ true) where
  asked_of : (i : ℕ) → get_or (record_rules st r) i true ≡ true
  unfolding possible
  asked_of i = all-at (record_rules st r) i p

  pub at_place : (i : ℕ) → i < 8 → state_possible (ltb i st.setcount) (set_at st.sets i) (state_at r.sets i) r.done ≡ true
  unfolding states_possible
  at_place i l = to_at (λ j. state_possible (ltb j st.setcount) (set_at st.sets j) (state_at r.sets j) r.done) 8 (asked_of 4) i l

  pub small_at : (i : ℕ) → i < 8 → Small (state_at r.sets i)
  small_at i l =
      small_of (set_at st.sets i) (state_at r.sets i) r.done (rating-most st given i) (leb-true _ _ (asked_of 0))
      (within_of (ltb i st.setcount) (set_at st.sets i) (state_at r.sets i) r.done (at_place i l))

-- and stays so
never_on : (g : GenSet) (s : SetState) (done : ℕ) → state_possible false g s done ≡ true → is_on (tick g s).mode ≡ true → ⊥
unfolding tick tick_from
never_on g s done h on =
    let off : s.mode ≡ Off = unused-off g s done h in
    let still : tick_from g s s.mode ≡ s = ap (tick_from g s) off in
    let e : is_on (tick_from g s s.mode).mode ≡ false = ap (λ (t : SetState). is_on t.mode) still ∙ ap is_on off in
    never (sym e ∙ on)

-- ---- the capacities of a station's configurations

pub rated : (st : Station) → Tables st → some_file_gives st ≡ true → (caps : List ℕ) → caps ≡ capacities st.sets st.configs → Rated st.sets st.configs caps
unfolding capacities
rated st tables given caps e =
    record {
      size = tables.configs-length;
      each = λ j l.
          ap (λ (x : List ℕ). get_or x j 0) e
          ∙ tab-at (λ k. min (capacity st.sets (get_or st.configs k 0)) 4_294_967_295) 64 j 0 l
          ∙ (let m = capacity-most st given (get_or st.configs j 0) in let z : min (capacity st.sets (get_or st.configs j 0)) 4_294_967_295 ≡ capacity st.sets (get_or st.configs j 0) = omega (arith, m) in z);
    }

-- ---- the station and the record of an admitted second

module _ (st : Station) (tables : Tables st) (r : Run) (x : Inputs) (h : Admitted st r x) where
  rule : (i : ℕ) → get_or (record_rules st r) i true ≡ true
  unfolding possible
  rule i = all-at (record_rules st r) i h.record-possible

  ended : r.done ≤ most_seconds
  ended = leb-true _ _ (rule 0)

  state-possible : (i : ℕ) → i < 8 → state_possible (ltb i st.setcount) (set_at st.sets i) (state_at r.sets i) r.done ≡ true
  unfolding states_possible
  state-possible i l = to_at (λ j. state_possible (ltb j st.setcount) (set_at st.sets j) (state_at r.sets j) r.done) 8 (rule 4) i l

  ticked-is : (i : ℕ) → i < 8 → state_at (states_now st r) i ≡ tick (set_at st.sets i) (state_at r.sets i)
  unfolding states_now ticked state_at
  ticked-is i l = tab-at (λ j. tick (set_at st.sets j) (state_at r.sets j)) 8 i (fresh Off) l

  pub ticked-small : (i : ℕ) → i < 8 → Small (state_at (states_now st r) i)
  unfolding tick
  ticked-small i l =
      let g : GenSet = set_at st.sets i in
      let s : SetState = state_at r.sets i in
      rw (ticked-is i l) (small_of g (tick_from g s s.mode) r.done (rating-most st h.station-given i) ended (tick-counts g s s.mode r.done r.done (within_of (ltb i st.setcount) g s r.done (state-possible i l))))

  -- a set that is On is one of the station's
  existing : (i : ℕ) → i < 8 → is_on (state_at (states_now st r) i).mode ≡ true → i < st.setcount
  existing i l on = go (ltb i st.setcount) refl (state-possible i l)
    where
      go : (b : Bool) → ltb i st.setcount ≡ b → state_possible b (set_at st.sets i) (state_at r.sets i) r.done ≡ true → i < st.setcount
      go true e p = ltb-true i st.setcount e
      go false e p = absurd (never_on (set_at st.sets i) (state_at r.sets i) r.done p (ap (λ (t : SetState). is_on t.mode) (sym (ticked-is i l)) ∙ on))

  pub on-right : (i : ℕ) → i < 8 → is_on (state_at (states_now st r) i).mode ≡ true → (set_right (set_at st.sets i) ≡ true) × (pairs_right (set_at st.sets i) ≡ true)
  on-right i l on = set-at st tables (right_of st h.station-given) i (existing i l on)

  pub cap-most : cap_now st r ≤ 80_000_000
  unfolding cap_now
  cap-most = capacity-most st h.station-given (on_now st r)

  pub diesel-cap : (watts_now st r x).diesel ≤ cap_now st r
  unfolding watts_now watts_for watts_with diesel_for
  diesel-cap = omega arith

  -- ---- the station totals

  total-most : (t : ℕ) → leb t (50_000_000 * r.done) ≡ true → t ≤ 15_811_200_000_000_000
  total-most t e = omega (arith, leb-true t (50_000_000 * r.done) e, ended)

  pub totals-small : SmallTotals r.totals
  totals-small =
      let total : (i : ℕ) → get_or (total_rules r.totals (50_000_000 * r.done)) i true ≡ true = λ i. all-at (total_rules r.totals (50_000_000 * r.done)) i (rule 5) in
      record {
        offered = total-most _ (total 0);
        load = total-most _ (total 1);
        shed = total-most _ (total 2);
        solar = total-most _ (total 3);
        charge = total-most _ (total 4);
        spill = total-most _ (total 5);
        give = total-most _ (total 6);
        diesel = total-most _ (total 7);
        unserved = total-most _ (total 8);
      }
