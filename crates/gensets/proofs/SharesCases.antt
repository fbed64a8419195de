-- The answer of the shares, by how the capacity and the power compare. Assumes nothing.
use Rattle.std.specs.Prelude.{Ok, Err}
use Prim.Native.Nat.{ℕ, ◌≤◌, ◌<◌}
use mathlib.Core.Path.{◌≡◌, sym, ◌∙◌}
use mathlib.Core.List.{List}
use native.Mathlib.Omega.{arith}
use native.Mathlib.Nat.{zero-mul, zero-div}
use lib.ListN.{replicate, get_or-replicate}
use lib.Seq.{ext_get_or}
use borrow.Author.Tests.{lt-ltb, le-ltb}
use Rattle.rules.specs.declared.station.GenSet.{GenSet}
use Rattle.rules.specs.Numbers.{tab}
use Rattle.rules.specs.Share.{capacity, share}
use Rattle.rules.proofs.Tables.{length-tab, tab-at}
use Rattle.gensets.specs.declared.share.Unshared.{Unshared}
use Rattle.gensets.specs.Leaves.{shares_told}

-- no power asks nothing of any set, whatever the capacity
takes-nothing : (sets : List GenSet) (mask k : ℕ) → share sets mask 0 k ≡ 0
unfolding share
takes-nothing sets mask k = simp (zero-mul, zero-div)

pub no_power : (sets : List GenSet) (mask : ℕ) → tab 8 (share sets mask 0) ≡ replicate 8 0
no_power sets mask =
    ext_get_or 0 (tab 8 (share sets mask 0)) (replicate 8 0) (length-tab (share sets mask 0) 8)
    (λ k l. let h : k < 8 = omega (arith, length-tab (share sets mask 0) 8) in
    tab-at (share sets mask 0) 8 k 0 h ∙ takes-nothing sets mask k ∙ sym (get_or-replicate 8 k 0 0 h))

module _ (sets : List GenSet) (mask diesel : ℕ) where
  pub out_of_range : 80_000_000 < capacity sets mask → Err Unshared.OutOfRange ≡ shares_told sets mask diesel
  unfolding shares_told
  out_of_range h = rw (lt-ltb 80_000_000 (capacity sets mask) h)

  module _ (small : capacity sets mask ≤ 80_000_000) where
    pub over-capacity : capacity sets mask < diesel → Err Unshared.OverCapacity ≡ shares_told sets mask diesel
    unfolding shares_told
    over-capacity h = rw (le-ltb 80_000_000 (capacity sets mask) small, lt-ltb (capacity sets mask) diesel h)

    pub shared : diesel ≤ capacity sets mask → Ok (tab 8 (share sets mask diesel)) ≡ shares_told sets mask diesel
    unfolding shares_told
    shared h = rw (le-ltb 80_000_000 (capacity sets mask) small, le-ltb (capacity sets mask) diesel h)
