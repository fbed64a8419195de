-- "then 8 for such a mask wrong, then 19 for power above its capacity": the checks of a call one after the other, and what a mask
-- and a power that passed them are. Assumes nothing.
use Rattle.std.specs.Prelude.{Ok, Result}
use Prim.Native.Nat.{ℕ, suc, ◌-◌, ◌^◌, ◌≤◌, ◌<◌}
use mathlib.Core.Path.{◌≡◌, sym, ap, ◌∙◌}
use mathlib.Core.Bool.{Bool, true, false}
use mathlib.Core.List.{List}
use native.Mathlib.Omega.{arith}
use native.Mathlib.Decide.{dec_lt}
use native.Mathlib.Nat.{lt_of_lt_of_le}
use lib.Count.{ones}
use lib.Dec.{leb}
use lib.ListN.{get_or}
use lib.Pow.{pow_mono}
use borrow.Author.Tests.{ltb-true, lt-ltb, le-ltb, le-leb, lt-leb}
use Rattle.rules.specs.declared.station.Station.{Station}
use Rattle.rules.specs.Numbers.{existing_only}
use Rattle.rules.specs.Answers.{accepted, refused, need, ◌>>◌}
use Rattle.rules.specs.StationRecord.{set_at, some_file_gives}
use Rattle.rules.specs.Share.{running_total, capacity, share}
use Rattle.rules.specs.Fuel.{fuel_rate}
use Rattle.rules.specs.Sizing.{share_of_set, rate_of_mask}
use Rattle.rules.proofs.Tests.{never}
use Rattle.rules.proofs.Tables.{tab-at, has-beyond}
use Rattle.rules.proofs.Shapes.{Shaped}
use Rattle.rules.proofs.StationFacts.{right_of}
use Rattle.words.specs.Masks.{next_set}
use Rattle.words.proofs.Walk.{place}
use Rattle.words.proofs.Weighed.{one-set-inside, one-set-weighed}
use Rattle.gensets.specs.declared.share.Unshared.{Unshared}
use Rattle.gensets.specs.Leaves.{shares_told, watts_of, rate_told}
use Rattle.gensets.proofs.SharesCases.{shared}
use Rattle.gensets.proofs.FuelFacts.{station-rate}
use Rattle.gensets.proofs.FileCapacity.{capacity-most}

-- ---- the order, for any test of the mask

module _ (right : Bool) (power cap value : ℕ) where
  pub mask-wrong : right ≡ false → refused 8 0 ≡ (need right 8 0 >> (need (leb power cap) 19 0 >> accepted value))
  mask-wrong e = rw e

  pub power-above : right ≡ true → cap < power → refused 19 0 ≡ (need right 8 0 >> (need (leb power cap) 19 0 >> accepted value))
  power-above e l = rw (e, lt-leb power cap l)

  pub value-given : right ≡ true → power ≤ cap → accepted value ≡ (need right 8 0 >> (need (leb power cap) 19 0 >> accepted value))
  value-given e l = rw (e, le-leb power cap l)

-- ---- a mask of existing sets is small

module _ (st : Station) (given : some_file_gives st ≡ true) (mask : ℕ) where
  pub mask-small : existing_only st.setcount mask ≡ true → mask < 256
  mask-small e = lt_of_lt_of_le (ltb-true mask (2 ^ st.setcount) e) (pow_mono (right_of st given).setcount.1)

-- ---- share: the places of the watts are the sets' numbers less 1

module _ (st : Station) (mask power set : ℕ) where
  pub no-set-zero : set ≡ 0 → 0 ≡ share_of_set st mask power set
  unfolding share_of_set
  no-set-zero e = rw e

  pub no-set-beyond : st.setcount < set → 0 ≡ share_of_set st mask power set
  unfolding share_of_set
  no-set-beyond l =
      let e : set ≡ suc (set - 1) = omega arith in
      rw (e, le-ltb (set - 1) st.setcount (omega arith))

  pub set-share : 0 < set → set ≤ st.setcount → share st.sets mask power (set - 1) ≡ share_of_set st mask power set
  unfolding share_of_set
  set-share p l =
      let e : suc (set - 1) ≡ set = omega arith in
      go (rw (lt-ltb (set - 1) st.setcount (omega arith))) (ap (share_of_set st mask power) e)
    where
      go : share st.sets mask power (set - 1) ≡ share_of_set st mask power (suc (set - 1)) → share_of_set st mask power (suc (set - 1)) ≡ share_of_set st mask power set
          → share st.sets mask power (set - 1) ≡ share_of_set st mask power set
      go p q = p ∙ q

-- the watts that `shares` hands over
pub watts-shared : (st : Station) → some_file_gives st ≡ true → (mask power : ℕ) → power ≤ capacity st.sets mask
    → (r : Result (List ℕ) Unshared) → r ≡ shares_told st.sets mask power → (watts : List ℕ) → watts ≡ watts_of r → (i : ℕ) → i < 8 → get_or watts i 0 ≡ share st.sets mask power i
watts-shared st given mask power l r e watts w i h =
    ap (λ (a : List ℕ). get_or a i 0) (w ∙ ap watts_of (e ∙ sym (shared st.sets mask power (capacity-most st given mask) l)))
    ∙ tab-at (share st.sets mask power) 8 i 0 h

-- ---- fuel rate: the mask's one set

module _ (st : Station) (given : some_file_gives st ≡ true) (shaped : Shaped st) (mask : ℕ) (exists : existing_only st.setcount mask ≡ true) (one : ones mask ≡ 1) where
  small : mask < 256
  small = mask-small st given mask exists

  pub inside : next_set mask 0 < 8
  inside = one-set-inside mask small one

  existing : next_set mask 0 < st.setcount
  existing = go (dec_lt (next_set mask 0) st.setcount)
    where
      go : Dec (next_set mask 0 < st.setcount) → next_set mask 0 < st.setcount
      go (yes h) = h
      go (no h) =
          never (sym (has-beyond st.setcount mask (next_set mask 0) (ltb-true mask (2 ^ st.setcount) exists) (omega (arith, h))) ∙ (place mask 0 (omega arith)).here inside)

  pub one-capacity : capacity st.sets mask ≡ (set_at st.sets (next_set mask 0)).rating
  unfolding capacity running_total
  one-capacity = one-set-weighed mask small one (λ i. (set_at st.sets i).rating)

  pub one-rate : (power : ℕ) → power ≤ capacity st.sets mask → rate_told (set_at st.sets (next_set mask 0)) power ≡ Ok (rate_of_mask st mask power)
  unfolding rate_of_mask
  one-rate power l =
      station-rate st shaped given (next_set mask 0) existing power (omega (arith, l, one-capacity))
      ∙ ap Ok (sym (one-set-weighed mask small one (λ i. fuel_rate (set_at st.sets i) power)))
