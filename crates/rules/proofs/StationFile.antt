-- 25, "station record that no file gives": the computed test of a record holds exactly when some file, a list of bytes,
-- gives the record. Assumes nothing.
use Prim.Native.Nat.{ℕ, zero, suc, ◌/◌}
use mathlib.Core.Path.{◌≡◌}
use mathlib.Core.Bool.{true}
use mathlib.Core.Logic.{◌↔◌}
use mathlib.Core.List.{List, [], ◌∷◌, ◌++◌}
use native.Mathlib.Omega.{arith}
use lib.ListN.{take}
use Rattle.rules.specs.declared.station.GenSet.{GenSet}
use Rattle.rules.specs.declared.station.Station.{Station}
use Rattle.rules.specs.Bytes.{bytes_of, bytes_of_all}
use Rattle.rules.specs.Answers.{accepted}
use Rattle.rules.specs.StationRecord.{some_file_gives}
use Rattle.rules.specs.StationFile.{entry, control_numbers, set_numbers, sets_bytes, contents_bytes, battery_bytes, file_of, station_file, configs_offset}
use Rattle.rules.proofs.LittleEndian.{AllBelow}
use Rattle.rules.proofs.Shapes.{Shaped}
use Rattle.rules.proofs.StationWritten.{read_back}
use Rattle.rules.proofs.StationRead.{read-is-right}

-- ---- the file of a record is made of bytes

below-append : (xs ys : List ℕ) → AllBelow 256 xs → AllBelow 256 ys → AllBelow 256 (xs ++ ys)
below-append [] ys h k = k
below-append (x ∷ xs) ys h k = (h.0, below-append xs ys h.1 k)

bytes_below : (width x : ℕ) → AllBelow 256 (bytes_of width x)
unfolding bytes_of
bytes_below zero x = tt
bytes_below (suc width) x = (omega arith, bytes_below width (x / 256))

all-bytes-below : (width : ℕ) (xs : List ℕ) → AllBelow 256 (bytes_of_all width xs)
unfolding bytes_of_all
all-bytes-below width [] = tt
all-bytes-below width (x ∷ xs) = below-append (bytes_of width x) (bytes_of_all width xs) (bytes_below width x) (all-bytes-below width xs)

sets_below : (gs : List GenSet) → AllBelow 256 (sets_bytes gs)
unfolding sets_bytes
sets_below [] = tt
sets_below (g ∷ gs) = below-append (bytes_of_all 4 (set_numbers g)) (sets_bytes gs) (all-bytes-below 4 (set_numbers g)) (sets_below gs)

entry-below : (kind count offset : ℕ) → AllBelow 256 (entry kind count offset)
entry-below kind count offset =
    below-append (bytes_of 2 kind ++ bytes_of 2 count) (bytes_of 4 offset)
    (below-append (bytes_of 2 kind) (bytes_of 2 count) (bytes_below 2 kind) (bytes_below 2 count))
    (bytes_below 4 offset)

contents-below : (n m : ℕ) → AllBelow 256 (contents_bytes n m)
unfolding contents_bytes
contents-below n m =
    below-append (entry 1 1 32 ++ entry 2 1 68 ++ entry 3 n 100) (entry 4 m (configs_offset n))
    (below-append (entry 1 1 32 ++ entry 2 1 68) (entry 3 n 100) (below-append (entry 1 1 32) (entry 2 1 68) (entry-below 1 1 32) (entry-below 2 1 68)) (entry-below 3 n 100))
    (entry-below 4 m (configs_offset n))

file-below : (st : Station) → AllBelow 256 (file_of st)
unfolding file_of battery_bytes
file-below st =
    let numbers : List ℕ = control_numbers st.control in
    let rating : List ℕ = st.battery.power ∷ st.battery.efficiency ∷ [] in
    let stored : List ℕ = st.battery.least ∷ st.battery.most ∷ st.battery.start ∷ [] in
    let contents : List ℕ = contents_bytes st.setcount st.configcount in
    let gs : List GenSet = take st.setcount st.sets in
    let ms : List ℕ = take st.configcount st.configs in
    below-append (contents ++ bytes_of_all 4 numbers ++ (bytes_of_all 4 rating ++ bytes_of_all 8 stored) ++ sets_bytes gs) (bytes_of_all 1 ms)
    (below-append (contents ++ bytes_of_all 4 numbers ++ (bytes_of_all 4 rating ++ bytes_of_all 8 stored)) (sets_bytes gs)
    (below-append (contents ++ bytes_of_all 4 numbers) (bytes_of_all 4 rating ++ bytes_of_all 8 stored)
    (below-append contents (bytes_of_all 4 numbers) (contents-below st.setcount st.configcount) (all-bytes-below 4 numbers))
    (below-append (bytes_of_all 4 rating) (bytes_of_all 8 stored) (all-bytes-below 4 rating) (all-bytes-below 8 stored)))
    (sets_below gs))
    (all-bytes-below 1 ms)

-- ---- the law

-- a file that gives the record
pub record GivenBy (st : Station) (s : List ℕ) : Type 0 where
  pub of-bytes : AllBelow 256 s
  pub gives : station_file s ≡ accepted st

pub some-file-gives : (st : Station) → Shaped st → (some_file_gives st ≡ true) ↔ ((s : List ℕ) × GivenBy st s)
some-file-gives st shaped = (
  λ h. (file_of st, record { of-bytes = file-below st; gives = read_back st shaped h }),
  λ p. (read-is-right p.0 st p.1.gives).0,
)

-- and whatever a file gives has its shape
pub given-in-shape : (st : Station) (s : List ℕ) → station_file s ≡ accepted st → Shaped st
given-in-shape st s h = (read-is-right s st h).1
