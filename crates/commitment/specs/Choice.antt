-- Document 01, step 10, of what the call is handed: each configuration's mask and capacity, and one mask of the sets that bar a
-- configuration. The definitions go as those of the rules do, and `chosen_of` is the rules' own answer where the capacities are the
-- station's and the mask is that of its sets due or in Service (`proofs/Ruled.antt`).
use Rattle.std.specs.Prelude.{◌≡◌, ℕ, suc, ◌-◌, ◌<◌, min, Bool, ◌&&◌, ltb, List, [], ◌∷◌, length, take, ◌==◌, bit_and, nat_lt, slice_index, Float, if◌then◌else◌}
use Rattle.rules.specs.declared.station.GenSet.{GenSet}
use Rattle.rules.specs.declared.station.Station.{Station}
use Rattle.rules.specs.Numbers.{tab}
use Rattle.rules.specs.Share.{capacity}
use Rattle.rules.specs.Setpoint.{covers}
use Rattle.rules.specs.Configuration.{mask_called}
use Rattle.commitment.specs.declared.configuration.Greatest.{Greatest}

-- ---- the capacities of a station

-- each configuration's capacity, where it has 32 bits
unfoldable pub capacities : List GenSet → List ℕ → List ℕ
capacities sets configs = tab 64 (λ j. min (capacity sets (slice_index configs j)) 4_294_967_295)

-- the whole table of configurations, and a table with the capacity of each
pub record Rated (sets : List GenSet) (configs caps : List ℕ) : Type 0 where
  pub size : length configs ≡ 64
  pub each : (j : ℕ) → j < 64 → slice_index caps j ≡ capacity sets (slice_index configs j)

-- ---- one configuration, by its mask and its capacity

-- "0 .. is never usable. Usable: none of its sets is" barred
unfoldable pub usable_of : ℕ → ℕ → Bool
usable_of barred mask = nat_lt 0 mask && bit_and mask barred == 0

unfoldable pub usable_covering_of : ℕ → Float → ℕ → ℕ → Bool
usable_covering_of barred held mask cap = usable_of barred mask && covers held cap

-- the called one is usable and covers; 0 and a number past the table have no set
unfoldable pub called_covers : List ℕ → List ℕ → ℕ → Float → ℕ → Bool
called_covers configs caps barred held called = usable_covering_of barred held (mask_called configs called) (slice_index caps (called - 1))

-- no configuration so far
abbrev pub none : Greatest
none = record { number = 0; most = 0 }

-- the configuration of a number where it is usable and its capacity above the greatest so far, which else remains
unfoldable pub greater : ℕ → Greatest → ℕ → ℕ → ℕ → Greatest
greater barred greatest mask cap number =
    if usable_of barred mask && nat_lt greatest.most cap then record { number = number; most = cap } else greatest

-- ---- all of them: `masks` are those after the first n

-- "the first usable covering": its number, and 0 where none is
unfoldable pub first_covering_of : List ℕ → ℕ → Float → ℕ → List ℕ → ℕ
first_covering_of caps barred held n [] = 0
first_covering_of caps barred held n (mask ∷ masks) =
    if usable_covering_of barred held mask (slice_index caps n) then suc n else first_covering_of caps barred held (suc n) masks

-- "the usable one of greatest capacity, first of equals": its number, where `greatest` is the greatest of the first n
unfoldable pub greatest_usable_of : List ℕ → ℕ → Greatest → ℕ → List ℕ → ℕ
greatest_usable_of caps barred greatest n [] = greatest.number
greatest_usable_of caps barred greatest n (mask ∷ masks) =
    greatest_usable_of caps barred (greater barred greatest mask (slice_index caps n) (suc n)) (suc n) masks

-- "Keep the called one exactly if usable, covering and called fewer than "minimum seconds" seconds ago. Else the first
-- usable covering; else the usable one of greatest capacity, first of equals; else 0."
unfoldable pub chosen_of : Station → List ℕ → ℕ → Float → ℕ → ℕ → ℕ → ℕ
chosen_of st caps barred held called since now =
    let masks = take st.configcount st.configs in
    let first = first_covering_of caps barred held 0 masks in
    let keep = called_covers st.configs caps barred held called && ltb (now - since) st.control.minseconds in
    if keep then called else
    if nat_lt 0 first then first else
    greatest_usable_of caps barred none 0 masks
