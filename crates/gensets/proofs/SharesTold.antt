-- What `shares` answers, by its own contract: the watts are the diesel together, each within one watt of its set's proportion, and none
-- outside the mask. Assumes nothing.
use Rattle.std.specs.Prelude.{if◌then◌else◌, Ok, Err, Result}
use Prim.Native.Nat.{ℕ, zero, suc, ◌+◌, ◌*◌, ◌≤◌, ◌<◌}
use mathlib.Core.Path.{◌≡◌, refl, ap, ap₂, ◌∙◌}
use mathlib.Core.Bool.{Bool, true, false}
use mathlib.Core.List.{List}
use native.Mathlib.Omega.{arith}
use lib.Dec.{ltb}
use lib.ListN.{get_or}
use borrow.Fn.Kinds as kinds
use denote.Triple.Clauses as clauses
use contract.Lifetimes.{Lfts}
use Rattle.rules.specs.declared.station.GenSet.{GenSet}
use Rattle.rules.specs.Numbers.{has, sum_to, tab}
use Rattle.rules.specs.StationRecord.{set_at}
use Rattle.rules.specs.Share.{capacity, share}
use Rattle.rules.proofs.Tables.{tab-at}
use Rattle.laws.proofs.Share.{shares_sum, share-outside, share-near}
use Rattle.gensets.specs.declared.share.Unshared.{Unshared}
use Rattle.gensets.specs.Leaves.{shares_told}
use Rattle.gensets.proofs.share.shares.Reads as reads
use Rattle.gensets.proofs.share.shares.Kinds as share-kinds

-- the claim that Rattle projects from the contract in src/share.rt
pub contract-says : (κs : Lfts 0) (a : kinds.Dens κs share-kinds.ps) (r : Result (List ℕ) Unshared) (s : clauses.AtExit (kinds.ended_of 0 share-kinds.ps share-kinds.r) κs)
    → reads.Post κs a r s → r ≡ shares_told a.0 a.1.0 a.1.1.0
contract-says κs a r s p = p

-- of the three answers only the last is Ok
last-shared : (over above : Bool) (watts shared : List ℕ)
    → Ok watts ≡ (if over then Err Unshared.OutOfRange else if above then Err Unshared.OverCapacity else Ok shared) → watts ≡ shared
last-shared true above watts shared e = absurd (cc)
last-shared false true watts shared e = absurd (cc)
last-shared false false watts shared e = cc

-- an answer as the contract gives it, where the power could be shared
module _ (sets : List GenSet) (mask diesel : ℕ) (watts : List ℕ) (told : Ok watts ≡ shares_told sets mask diesel) where
  watts-are : watts ≡ tab 8 (share sets mask diesel)
  unfolding shares_told
  watts-are = last-shared (ltb 80_000_000 (capacity sets mask)) (ltb (capacity sets mask) diesel) watts (tab 8 (share sets mask diesel)) told

  watt-at : (i : ℕ) → i < 8 → get_or watts i 0 ≡ share sets mask diesel i
  watt-at i l = ap (λ (w : List ℕ). get_or w i 0) watts-are ∙ tab-at (share sets mask diesel) 8 i 0 l

  summed : (n : ℕ) → n ≤ 8 → sum_to n (λ i. get_or watts i 0) ≡ sum_to n (share sets mask diesel)
  unfolding sum_to
  summed zero l = refl
  summed (suc n) l = ap₂ ◌+◌ (summed n (omega arith)) (watt-at n l)

  pub watts-sum : 0 < capacity sets mask → sum_to 8 (λ i. get_or watts i 0) ≡ diesel
  watts-sum some = summed 8 (omega arith) ∙ shares_sum sets mask diesel some

  pub watts-outside : (i : ℕ) → i < 8 → has mask i ≡ false → get_or watts i 0 ≡ 0
  watts-outside i l h = watt-at i l ∙ share-outside sets mask diesel i h

  pub watts-near : 0 < capacity sets mask → (i : ℕ) → i < 8 → has mask i ≡ true
      → (get_or watts i 0 * capacity sets mask < diesel * (set_at sets i).rating + capacity sets mask)
      × (diesel * (set_at sets i).rating < get_or watts i 0 * capacity sets mask + capacity sets mask)
  watts-near some i l h = rw (watt-at i l) (share-near sets mask diesel some i h)
