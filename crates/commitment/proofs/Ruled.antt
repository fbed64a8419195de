-- The choice of masks and capacities is the rules' choice of the sets' states, where the mask of the barred sets is that of the states
-- and each capacity that of its configuration. Assumes nothing.
use Rattle.std.specs.Prelude.{if◌then◌else◌}
use Rattle.std.proofs.Common.{◌≡◌, ℕ, zero, suc, ◌+◌, ◌-◌, ◌<◌, Bool, true, false, ◌&&◌, ltb, List, [], ◌∷◌, length, get_or, take, refl, ap, ◌∙◌, arith}
use native.Mathlib.Decide.{dec_lt}
use lib.Ieee.{Float}
use lib.ListN.{get_or-eq_default}
use Rattle.rules.specs.declared.station.GenSet.{GenSet}
use Rattle.rules.specs.declared.station.Station.{Station}
use Rattle.rules.specs.declared.run.SetState.{SetState}
use Rattle.rules.specs.Share.{capacity}
use Rattle.rules.specs.Configuration.{mask_called, usable, usable_covering, first_covering, greatest_usable, chosen}
use Rattle.modes.specs.Barred.{barred_mask}
use Rattle.commitment.specs.declared.configuration.Greatest.{Greatest}
use Rattle.commitment.specs.Choice.{Rated, usable_of, usable_covering_of, called_covers, none, greater, first_covering_of, greatest_usable_of, chosen_of}
use Rattle.commitment.proofs.Usable.{usable-mask}

module _ (sets : List GenSet) (states : List SetState) (barred : ℕ) (same : barred ≡ barred_mask sets states) where
  -- ---- one configuration

  covering-is : (held : Float) (mask cap : ℕ) → cap ≡ capacity sets mask → usable_covering_of barred held mask cap ≡ usable_covering sets states held mask
  unfolding usable_covering_of usable_covering
  covering-is held mask cap e = rw (usable-mask sets states mask barred same, e)

  -- 0 is never usable
  no-sets : (held : Float) (mask cap : ℕ) → mask ≡ 0 → usable_covering_of barred held mask cap ≡ usable_covering sets states held mask
  unfolding usable_covering_of usable_of usable_covering usable
  no-sets held mask cap e = rw e

  called_is : (configs caps : List ℕ) → Rated sets configs caps → (held : Float) (called : ℕ)
      → called_covers configs caps barred held called ≡ usable_covering sets states held (mask_called configs called)
  unfolding called_covers mask_called
  called_is configs caps rated held zero = no-sets held 0 (get_or caps (0 - 1) 0) refl
  called_is configs caps rated held (suc j) = go (dec_lt j 64)
    where
      go : Dec (j < 64) → usable_covering_of barred held (get_or configs j 0) (get_or caps (suc j - 1) 0) ≡ usable_covering sets states held (get_or configs j 0)
      go (yes h) =
          let e : suc j - 1 ≡ j = omega arith in
          covering-is held (get_or configs j 0) (get_or caps (suc j - 1) 0) (ap (λ (k : ℕ). get_or caps k 0) e ∙ rated.each j h)
      go (no h) = no-sets held (get_or configs j 0) (get_or caps (suc j - 1) 0) (get_or-eq_default configs 0 {n = j} (omega (arith, h, rated.size)))

  -- the two numbers of the greater one, picked one by one, whatever is made of them
  greater-is : (best : Greatest) (mask cap number : ℕ) → cap ≡ capacity sets mask → (rest : ℕ → ℕ → ℕ) →
      let next = greater barred best mask cap number in
      let better = usable sets states mask && ltb best.most (capacity sets mask) in
      rest next.number next.most ≡ rest (if better then number else best.number) (if better then capacity sets mask else best.most)
  unfolding greater
  greater-is best mask cap number e rest = rw (usable-mask sets states mask barred same, e) (both (usable sets states mask && ltb best.most (capacity sets mask)))
    where
      both : (b : Bool) →
          let next : Greatest = if b then record { number = number; most = capacity sets mask } else best in
          rest next.number next.most ≡ rest (if b then number else best.number) (if b then capacity sets mask else best.most)
      both true = refl
      both false = refl

  -- ---- all of them

  module _ (caps : List ℕ) where
    -- the configurations after the first n have their capacities in the table
    abbrev RatedFrom : ℕ → List ℕ → Type 0
    RatedFrom n [] = Unit {0}
    RatedFrom n (mask ∷ masks) = (get_or caps n 0 ≡ capacity sets mask) × RatedFrom (suc n) masks

    rated-from : (k n : ℕ) (configs : List ℕ) → ((j : ℕ) → j < length configs → get_or caps (n + j) 0 ≡ capacity sets (get_or configs j 0)) → RatedFrom n (take k configs)
    rated-from zero n configs h = tt
    rated-from (suc k) n [] h = tt
    rated-from (suc k) n (mask ∷ masks) h =
        let here : n ≡ n + 0 = omega arith in (
          ap (λ (i : ℕ). get_or caps i 0) here ∙ h 0 (omega arith),
          rated-from k (suc n) masks (λ j l. let next : suc n + j ≡ n + suc j = omega arith in ap (λ (i : ℕ). get_or caps i 0) next ∙ h (suc j) (omega arith)),
        )

    first-is : (held : Float) (n : ℕ) (masks : List ℕ) → RatedFrom n masks → first_covering_of caps barred held n masks ≡ first_covering sets states held n masks
    unfolding first_covering_of first_covering
    first-is held n [] h = refl
    first-is held n (mask ∷ masks) h = rw (covering-is held mask (get_or caps n 0) h.0, first-is held (suc n) masks h.1)

    greatest-is : (best : Greatest) (n : ℕ) (masks : List ℕ) → RatedFrom n masks
        → greatest_usable_of caps barred best n masks ≡ greatest_usable sets states best.number best.most n masks
    unfolding greatest_usable_of greatest_usable
    greatest-is best n [] h = refl
    greatest-is best n (mask ∷ masks) h =
        greatest-is (greater barred best mask (get_or caps n 0) (suc n)) (suc n) masks h.1
        ∙ greater-is best mask (get_or caps n 0) (suc n) h.0 (λ (number most : ℕ). greatest_usable sets states number most (suc n) masks)

pub chosen_is : (st : Station) (states : List SetState) (caps : List ℕ) (barred : ℕ) → barred ≡ barred_mask st.sets states → Rated st.sets st.configs caps
    → (held : Float) (called since now : ℕ) → chosen_of st caps barred held called since now ≡ chosen st states held called since now
unfolding chosen_of chosen
chosen_is st states caps barred same rated held called since now =
    let from =
    rated-from st.sets states barred same caps st.configcount 0 st.configs
    (λ j l. let e : 0 + j ≡ j = omega arith in ap (λ (i : ℕ). get_or caps i 0) e ∙ rated.each j (omega (arith, l, rated.size))) in
    rw (called_is st.sets states barred same st.configs caps rated held called, first-is st.sets states barred same caps held 0 (take st.configcount st.configs) from, greatest-is st.sets states barred same caps none 0 (take st.configcount st.configs) from)
