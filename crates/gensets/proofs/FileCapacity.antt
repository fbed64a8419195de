-- A station record that some file gives: no place has more than 10,000,000 W, so its capacity is never out of range. Assumes nothing.
use Rattle.std.specs.Prelude.{if◌then◌else◌, Ok, Err}
use Prim.Native.Nat.{ℕ, zero, suc, ◌≤◌}
use mathlib.Core.Path.{◌≡◌}
use mathlib.Core.Bool.{true}
use mathlib.Core.List.{List, [], ◌∷◌}
use native.Mathlib.Omega.{arith}
use lib.Dec.{ltb}
use lib.ListN.{get_or, take, drop}
use borrow.Author.Tests.{eqb-true, le-ltb}
use Rattle.rules.specs.declared.station.GenSet.{GenSet}
use Rattle.rules.specs.declared.station.Station.{Station}
use Rattle.rules.specs.Numbers.{tab, every}
use Rattle.rules.specs.Answers.{accepted, need, ◌>>◌}
use Rattle.rules.specs.Share.{running_total, capacity, share}
use Rattle.rules.specs.StationRecord.{past_end, set_at, set_right, pairs_right, sets_right, set_unused, unused_rules, some_file_gives}
use Rattle.rules.proofs.Tests.{both, all-at}
use Rattle.rules.proofs.Checks.{passed}
use Rattle.rules.proofs.StationFacts.{right_of, rating-range}
use Rattle.words.proofs.Weighed.{weighed-most}
use Rattle.gensets.specs.declared.share.Unshared.{Unshared}
use Rattle.gensets.specs.Leaves.{shares_told}
use Rattle.gensets.proofs.SharesWalk.{rating_of}

unused-none : (g : GenSet) → set_unused g ≡ true → g.rating ≡ 0
unused-none g h = eqb-true g.rating 0 (all-at (unused_rules g) 0 h)

-- the used sets passed their checks, and the others are zero
rating-small : (n k : ℕ) (gs : List GenSet) → sets_right n (take k gs) ≡ accepted tt → every set_unused (drop k gs) ≡ true → (i : ℕ) → (get_or gs i past_end).rating ≤ 10_000_000
unfolding sets_right every past_end
rating-small n k [] right unused i = omega arith
rating-small n zero (g ∷ gs) right unused zero = omega (arith, unused-none g (both (set_unused g) (every set_unused gs) unused).0)
rating-small n zero (g ∷ gs) right unused (suc i) = rating-small n zero gs right (both (set_unused g) (every set_unused gs) unused).1 i
rating-small n (suc k) (g ∷ gs) right unused zero =
    (rating-range g (passed (set_right g) 6 (suc n) (need (pairs_right g) 7 (suc n) >> sets_right (suc n) (take k gs)) tt right).0).1
rating-small n (suc k) (g ∷ gs) right unused (suc i) =
    let a = passed (set_right g) 6 (suc n) (need (pairs_right g) 7 (suc n) >> sets_right (suc n) (take k gs)) tt right in
    let b = passed (pairs_right g) 7 (suc n) (sets_right (suc n) (take k gs)) tt a.1 in
    rating-small (suc n) k gs b.1 unused i

module _ (st : Station) (given : some_file_gives st ≡ true) where
  pub rating-most : (i : ℕ) → (set_at st.sets i).rating ≤ 10_000_000
  unfolding set_at
  rating-most i = let right = right_of st given in rating-small 0 st.setcount st.sets right.sets right.unused i

  pub capacity-most : (mask : ℕ) → capacity st.sets mask ≤ 80_000_000
  unfolding capacity running_total
  capacity-most mask = weighed-most (rating_of st.sets) mask 10_000_000 rating-most 8

  -- all the power, or it is above the capacity
  pub station-shares : (mask diesel : ℕ)
      → shares_told st.sets mask diesel
      ≡ (if ltb (capacity st.sets mask) diesel then Err Unshared.OverCapacity else Ok (tab 8 (share st.sets mask diesel)))
  unfolding shares_told
  station-shares mask diesel = rw (le-ltb 80_000_000 (capacity st.sets mask) (capacity-most mask))
