-- The configuration called, from what the code has found of it: kept, or the first that covers, or the greatest. Assumes nothing.
use Rattle.std.proofs.Common.{◌≡◌, ℕ, ◌-◌, ◌<◌, min, Bool, true, false, ◌&&◌, ltb, List, length, take, lt-ltb}
use lib.Ieee.{Float}
use Rattle.rules.specs.declared.station.Station.{Station}
use Rattle.rules.proofs.Tables.{take-least}
use Rattle.commitment.specs.Choice.{called_covers, none, first_covering_of, greatest_usable_of, chosen_of}

module _ (st : Station) (caps : List ℕ) (barred : ℕ) (held : Float) (called since now : ℕ) {elapsed : ℕ} {covering : Bool}
    (its-test : covering ≡ called_covers st.configs caps barred held called) (its-time : elapsed ≡ now - since) where
  pub kept : covering && ltb elapsed st.control.minseconds ≡ true → called ≡ chosen_of st caps barred held called since now
  unfolding chosen_of
  kept h = rw (← its-test, ← its-time, h)

  module _ {count : ℕ} (dropped : covering && ltb elapsed st.control.minseconds ≡ false) (counted : count ≡ min st.configcount 64) (size : length st.configs ≡ 64) where
    masks : take count st.configs ≡ take st.configcount st.configs
    masks = rw (counted, ← size) (take-least st.configcount st.configs)

    pub first-called : {first : ℕ} → first ≡ first_covering_of caps barred held 0 (take count st.configs) → 0 < first → first ≡ chosen_of st caps barred held called since now
    unfolding chosen_of
    first-called {first} e h =
        let found : first ≡ first_covering_of caps barred held 0 (take st.configcount st.configs) = rw (← masks) e in
        rw (← its-test, ← its-time, dropped, ← found, lt-ltb 0 first h)

    pub none-called : first_covering_of caps barred held 0 (take count st.configs) ≡ 0
        → greatest_usable_of caps barred none 0 (take count st.configs) ≡ chosen_of st caps barred held called since now
    unfolding chosen_of
    none-called e =
        let found : first_covering_of caps barred held 0 (take st.configcount st.configs) ≡ 0 = rw masks at e in
        rw (← its-test, ← its-time, dropped, found, masks)
