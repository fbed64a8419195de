-- The checks of a record one after the other, as the code meets them: sets and configurations, all values, and those of 25. Assumes nothing.
use Rattle.std.specs.Prelude.{Ok, Err, Result}
use Rattle.std.specs.Result.{is_err}
use Prim.Native.Nat.{ℕ, suc, ◌+◌, ◌≤◌, ◌<◌}
use mathlib.Core.Path.{◌≡◌, sym, ap, ◌∙◌}
use mathlib.Core.Bool.{Bool, true, false, ◌&&◌}
use mathlib.Core.List.{List, ◌∷◌}
use native.Mathlib.Numerals.{add-one}
use lib.ListN.{length, take, drop, get_or, drop_of_length-le}
use lib.Seq.{drop-cons, get_or-take, length-take-le}
use Rattle.rules.specs.declared.answers.Refusal.{Refusal}
use Rattle.rules.specs.declared.station.GenSet.{GenSet}
use Rattle.rules.specs.declared.station.Station.{Station}
use Rattle.rules.specs.Numbers.{within, every, all_zero}
use Rattle.rules.specs.Answers.{Answer, accepted, refused, need, refusal_of, result_of, ◌>>◌}
use Rattle.rules.specs.StationRecord.{past_end, set_at, control_right, battery_right, set_right, pairs_right, sets_right, configuration_right, configurations_right, values_right, set_unused, some_file_gives}

-- the elements from place i on, of the first n: the one there, and the rest
from-here : {A : Type 0} (l : List A) (n i : ℕ) (d : A) → n ≤ length l → i < n → drop i (take n l) ≡ get_or l i d ∷ drop (suc i) (take n l)
from-here l n i d h k =
    drop-cons (take n l) i d (rw (length-take-le n l h) k) ∙ ap (λ x. x ∷ drop (suc i) (take n l)) (get_or-take n l i d k)

none_left : {A : Type 0} (l : List A) (n i : ℕ) → n ≤ length l → n ≤ i → length (take n l) ≤ i
none_left l n i h k = rw (length-take-le n l h) k

-- ---- the sets, of which those before place i were in order

module _ (sets : List GenSet) (n : ℕ) (whole : Answer (Unit {0})) (i : ℕ) (fits : n ≤ length sets) (from : whole ≡ sets_right i (drop i (take n sets))) where
  one_set : i < n → whole ≡ (need (set_right (set_at sets i)) 6 (i + 1) >> (need (pairs_right (set_at sets i)) 7 (i + 1) >> sets_right (i + 1) (drop (i + 1) (take n sets))))
  unfolding sets_right set_at
  one_set l = rw add-one (from ∙ ap (sets_right i) (from-here sets n i past_end fits l))

  pub set-number : i < n → set_right (set_at sets i) ≡ false → refused 6 (i + 1) ≡ whole
  set-number l e = sym (one_set l ∙ rw e)

  pub set-pairs : i < n → set_right (set_at sets i) ≡ true → pairs_right (set_at sets i) ≡ false → refused 7 (i + 1) ≡ whole
  set-pairs l e f = sym (one_set l ∙ rw (e, f))

  pub set-in-order : i < n → set_right (set_at sets i) ≡ true → pairs_right (set_at sets i) ≡ true → whole ≡ sets_right (i + 1) (drop (i + 1) (take n sets))
  set-in-order l e f = one_set l ∙ rw (e, f)

  pub sets-in-order : n ≤ i → accepted tt ≡ whole
  unfolding sets_right
  sets-in-order l = sym (from ∙ ap (sets_right i) (drop_of_length-le (take n sets) (none_left sets n i fits l)))

-- ---- the configurations, the same

module _ (setcount : ℕ) (masks : List ℕ) (n : ℕ) (whole : Answer (Unit {0})) (i : ℕ) (fits : n ≤ length masks) (from : whole ≡ configurations_right setcount i (drop i (take n masks))) where
  one-configuration : i < n → whole ≡ (need (configuration_right setcount (get_or masks i 0)) 8 (i + 1) >> configurations_right setcount (i + 1) (drop (i + 1) (take n masks)))
  unfolding configurations_right
  one-configuration l = rw add-one (from ∙ ap (configurations_right setcount i) (from-here masks n i 0 fits l))

  pub configuration-mask : i < n → configuration_right setcount (get_or masks i 0) ≡ false → refused 8 (i + 1) ≡ whole
  configuration-mask l e = sym (one-configuration l ∙ rw e)

  pub configuration-in-order : i < n → configuration_right setcount (get_or masks i 0) ≡ true → whole ≡ configurations_right setcount (i + 1) (drop (i + 1) (take n masks))
  configuration-in-order l e = one-configuration l ∙ rw e

  pub configurations-in-order : n ≤ i → accepted tt ≡ whole
  unfolding configurations_right
  configurations-in-order l = sym (from ∙ ap (configurations_right setcount i) (drop_of_length-le (take n masks) (none_left masks n i fits l)))

-- ---- all values: "4, 5, then set by set 6 before 7, then 8"

module _ (st : Station) where
  pub control-first : control_right st.setcount st.control ≡ false → refused 4 0 ≡ values_right st
  unfolding values_right
  control-first e = rw e

  module _ (control : control_right st.setcount st.control ≡ true) where
    pub battery-next : battery_right st.battery ≡ false → refused 5 0 ≡ values_right st
    unfolding values_right
    battery-next e = rw (control, e)

    module _ (battery : battery_right st.battery ≡ true) (v : Result (Unit {0}) Refusal) (sets : result_of v ≡ sets_right 0 (take st.setcount st.sets)) where
      pub sets-next : (r : Refusal) → v ≡ Err r → refusal_of r ≡ values_right st
      unfolding values_right
      sets-next r e = rw (control, battery, ← sets, e)

      pub configurations-last : v ≡ Ok tt → configurations_right st.setcount 0 (take st.configcount st.configs) ≡ values_right st
      unfolding values_right
      configurations-last e = rw (control, battery, ← sets, e)

-- ---- 25

module _ (st : Station) where
  pub counts-first : within 1 8 st.setcount && within 1 64 st.configcount ≡ false → false ≡ some_file_gives st
  unfolding some_file_gives
  counts-first e = rw e

  module _ (counts : within 1 8 st.setcount && within 1 64 st.configcount ≡ true) where
    pub values-next : (v : Result (Unit {0}) Refusal) → result_of v ≡ values_right st → is_err v ≡ true → false ≡ some_file_gives st
    unfolding some_file_gives
    values-next (Ok a) values e = cc
    values-next (Err r) values e = rw (counts, ← values)

    pub unused-last : (v : Result (Unit {0}) Refusal) → result_of v ≡ values_right st → is_err v ≡ false
        → (sets configs : Bool) → sets ≡ every set_unused (drop st.setcount st.sets) → configs ≡ all_zero (drop st.configcount st.configs)
        → sets && configs ≡ some_file_gives st
    unfolding some_file_gives
    unused-last (Ok a) values e sets configs p q = rw (counts, ← values, p, q)
    unused-last (Err r) values e sets configs p q = cc
