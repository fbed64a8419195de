-- A station record that some file gives, place by place: its sets' checks passed, and its configurations call existing sets
-- only. Assumes nothing.
use Prim.Native.Nat.{ℕ, zero, suc, ◌^◌, ◌≤◌, ◌<◌}
use mathlib.Core.Path.{◌≡◌}
use mathlib.Core.Bool.{true}
use mathlib.Core.List.{List, [], ◌∷◌}
use native.Mathlib.Omega.{arith}
use native.Mathlib.Nat.{not-suc-le-zero}
use lib.Dec.{ltb}
use lib.ListN.{length, get_or, take, length-take}
use lib.Pow.{pow_pos}
use lib.Seq.{get_or-take}
use borrow.Author.Tests.{ltb-true}
use Rattle.rules.specs.declared.station.GenSet.{GenSet}
use Rattle.rules.specs.declared.station.Station.{Station}
use Rattle.rules.specs.Numbers.{existing_only}
use Rattle.rules.specs.Answers.{accepted, need, ◌>>◌}
use Rattle.rules.specs.StationRecord.{past_end, set_at, set_right, pairs_right, configuration_right, sets_right, configurations_right}
use Rattle.rules.specs.Configuration.{mask_called}
use Rattle.rules.proofs.Tests.{both}
use Rattle.rules.proofs.Checks.{passed}
use Rattle.rules.proofs.Shapes.{Tables}
use Rattle.rules.proofs.StationFacts.{Right}

-- the checks of the set at a place
sets-at : (n : ℕ) (gs : List GenSet) → sets_right n gs ≡ accepted tt → (i : ℕ) → i < length gs → (set_right (get_or gs i past_end) ≡ true) × (pairs_right (get_or gs i past_end) ≡ true)
unfolding sets_right
sets-at n [] h i l = absurd (not-suc-le-zero l)
sets-at n (g ∷ gs) h zero l =
    let a = passed (set_right g) 6 (suc n) (need (pairs_right g) 7 (suc n) >> sets_right (suc n) gs) tt h in
    let b = passed (pairs_right g) 7 (suc n) (sets_right (suc n) gs) tt a.1 in
    (a.0, b.0)
sets-at n (g ∷ gs) h (suc i) l =
    let a = passed (set_right g) 6 (suc n) (need (pairs_right g) 7 (suc n) >> sets_right (suc n) gs) tt h in
    let b = passed (pairs_right g) 7 (suc n) (sets_right (suc n) gs) tt a.1 in
    sets-at (suc n) gs b.1 i (omega arith)

masks-at : (setcount n : ℕ) (masks : List ℕ) → configurations_right setcount n masks ≡ accepted tt → (i : ℕ) → i < length masks → get_or masks i 0 < 2 ^ setcount
unfolding configurations_right
masks-at setcount n [] h i l = absurd (not-suc-le-zero l)
masks-at setcount n (m ∷ masks) h zero l =
    let a = passed (configuration_right setcount m) 8 (suc n) (configurations_right setcount (suc n) masks) tt h in
    ltb-true m (2 ^ setcount) (both (ltb 0 m) (existing_only setcount m) a.0).1
masks-at setcount n (m ∷ masks) h (suc i) l =
    let a = passed (configuration_right setcount m) 8 (suc n) (configurations_right setcount (suc n) masks) tt h in
    masks-at setcount (suc n) masks a.1 i (omega arith)

module _ (st : Station) (tables : Tables st) (right : Right st) where
  pub set-at : (i : ℕ) → i < st.setcount → (set_right (set_at st.sets i) ≡ true) × (pairs_right (set_at st.sets i) ≡ true)
  unfolding set_at
  set-at i h =
      let n : ℕ = st.setcount in
      let l : i < length (take n st.sets) = simp length-take (omega (arith, tables.sets-length, right.setcount)) in
      rw (get_or-take n st.sets i past_end h) at (sets-at 0 (take n st.sets) right.sets i l)

  -- "Configuration: a mask .. existing sets only", and 0 calls no set
  pub called-existing : (call : ℕ) → call ≤ st.configcount → mask_called st.configs call < 2 ^ st.setcount
  unfolding mask_called
  called-existing zero h = pow_pos st.setcount
  called-existing (suc j) h =
      let m : ℕ = st.configcount in
      let l : j < length (take m st.configs) = simp length-take (omega (arith, tables.configs-length, right.configcount)) in
      rw (get_or-take m st.configs j 0 h) at (masks-at st.setcount 0 (take m st.configs) right.configs j l)
