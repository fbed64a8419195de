-- Document 01, step 10: where a configuration of the table is usable and covers, the one called is and does. Assumes nothing.
use Rattle.std.specs.Prelude.{if◌then◌else◌}
use Prim.Native.Nat.{ℕ, zero, suc, ◌+◌, ◌-◌, ◌≤◌, ◌<◌}
use mathlib.Core.Path.{◌≡◌, refl, sym, ap, ◌∙◌}
use mathlib.Core.Bool.{Bool, true, false, ◌&&◌}
use mathlib.Core.List.{List, [], ◌∷◌}
use native.Mathlib.Omega.{arith}
use native.Mathlib.Nat.{not-suc-le-zero}
use lib.Dec.{ltb}
use lib.Ieee.{Float}
use lib.ListN.{length, take, get_or, length-take}
use lib.Seq.{get_or-take}
use borrow.Author.Tests.{lt-ltb}
use Rattle.rules.specs.declared.station.GenSet.{GenSet}
use Rattle.rules.specs.declared.station.Station.{Station}
use Rattle.rules.specs.declared.run.SetState.{SetState}
use Rattle.rules.specs.Configuration.{mask_called, usable_covering, first_covering, chosen}
use Rattle.rules.proofs.Tests.{never, both}
use Rattle.rules.proofs.Shapes.{Tables}

-- ---- "the first usable covering"

module _ (sets : List GenSet) (states : List SetState) (held : Float) where
  abbrev good : ℕ → Bool
  good mask = usable_covering sets states held mask

  record Found (n : ℕ) (masks : List ℕ) : Type 0 where
    place : ℕ
    inside : place < length masks
    covers : good (get_or masks place 0) ≡ true
    is : first_covering sets states held n masks ≡ suc (n + place)

  found : (n : ℕ) (masks : List ℕ) (j : ℕ) → j < length masks → good (get_or masks j 0) ≡ true → Found n masks
  unfolding first_covering
  found n [] j l h = absurd (not-suc-le-zero l)
  found n (m ∷ masks) j l h = go (good m) refl j l h (λ i. found (suc n) masks i)
    where
      go : (b : Bool) → good m ≡ b → (j : ℕ) → j < suc (length masks) → good (get_or (m ∷ masks) j 0) ≡ true → ((i : ℕ) → i < length masks → good (get_or masks i 0) ≡ true → Found (suc n) masks) → Found n (m ∷ masks)
      go true e j l h later = record { place = 0; inside = omega arith; covers = e; is = rw e (ap suc (omega arith)) }
      go false e zero l h later = never (sym e ∙ h)
      go false e (suc j) l h later =
          let f = later j (omega arith) h in
          record { place = suc f.place; inside = omega (arith, f.inside); covers = f.covers; is = rw e (f.is ∙ ap suc (omega arith)) }

-- ---- the one called

module _ (st : Station) (tables : Tables st) (few : st.configcount ≤ 64) (states : List SetState) (held : Float) where
  abbrev covering : ℕ → Bool
  covering call = usable_covering st.sets states held (mask_called st.configs call)

  abbrev first : ℕ
  first = first_covering st.sets states held 0 (take st.configcount st.configs)

  masks-at : (j : ℕ) → j < st.configcount → get_or (take st.configcount st.configs) j 0 ≡ mask_called st.configs (suc j)
  unfolding mask_called
  masks-at j h = get_or-take st.configcount st.configs j 0 h

  first-covers : (j : ℕ) → j < st.configcount → covering (suc j) ≡ true → (0 < first) × (covering first ≡ true)
  first-covers j l h =
      let size : length (take st.configcount st.configs) ≡ st.configcount = length-take st.configcount st.configs ∙ (omega (arith, tables.configs-length)) in
      let f = found st.sets states held 0 (take st.configcount st.configs) j (omega (arith, size)) (rw (masks-at j l) h) in
      let k : f.place < st.configcount = omega (arith, f.inside, size) in
      let e : 0 + f.place ≡ f.place = omega arith in
      (rw f.is (omega arith), rw (f.is, e) (rw (masks-at f.place k) at f.covers))

  picked : (keep : Bool) (called greatest : ℕ) → (keep ≡ true → covering called ≡ true) → 0 < first → covering first ≡ true
      → covering (if keep then called else if ltb 0 first then first else greatest) ≡ true
  picked true called greatest k l h = k refl
  picked false called greatest k l h = rw (lt-ltb 0 first l) h

  pub chosen-covers : (called since now j : ℕ) → j < st.configcount → covering (suc j) ≡ true → covering (chosen st states held called since now) ≡ true
  unfolding chosen
  chosen-covers called since now j l h =
      let f = first-covers j l h in
      picked (covering called && ltb (now - since) st.control.minseconds) called _ (λ e. (both (covering called) (ltb (now - since) st.control.minseconds) e).0) f.0 f.1
