-- Document 01, "The station file", at both sides of each limit: sizes, contents, and each value with its refusal and place; and their
-- order. By computation. Assumes nothing.
use Prim.Native.Nat.{ℕ, ◌+◌, ◌*◌}
use mathlib.Core.Path.{◌≡◌, refl}
use mathlib.Core.List.{List, [], ◌∷◌, ◌++◌}
use lib.ListN.{take, drop, set, replicate}
use Rattle.rules.specs.Numbers
use Rattle.rules.specs.Bytes
use Rattle.rules.specs.Bytes.{bytes_of_all}
use Rattle.rules.specs.Answers.{refusal}
use Rattle.rules.specs.StationRecord
use Rattle.rules.specs.StationRecord.{values_right}
use Rattle.rules.specs.StationFile
use Rattle.rules.specs.StationFile.{station_file}
use Rattle.rules.specs.Cases.{Case, ◌shows◌}
use Rattle.rules.proofs.EdgeRecords.{refuses, accepts, given, said, station_with}

-- ---- a station of two sets and three configurations, as numbers

abbrev control : List ℕ
control = 10000 ∷ 50 ∷ 40 ∷ 90 ∷ 1 ∷ 0 ∷ 3 ∷ 0 ∷ 2 ∷ []

abbrev battery : List ℕ
battery = 20000 ∷ 90 ∷ 100 ∷ 9000000 ∷ 1000000 ∷ []

abbrev set1 : List ℕ
set1 = 100000 ∷ 2 ∷ 1 ∷ 50 ∷ 7 ∷ 2 ∷ 0 ∷ 2000 ∷ 1000 ∷ 27000 ∷ 0 ∷ 0 ∷ 0 ∷ 0 ∷ 0 ∷ 0 ∷ []

abbrev set2 : List ℕ
set2 = 60000 ∷ 1 ∷ 1 ∷ 0 ∷ 0 ∷ 5 ∷ 0 ∷ 1 ∷ 250 ∷ 2 ∷ 500 ∷ 3 ∷ 750 ∷ 4 ∷ 1500 ∷ 5 ∷ []

abbrev masks : List ℕ
masks = 2 ∷ 1 ∷ 3 ∷ []

-- ---- 1, 2, 3: the size and the table of contents

-- the contents' kinds and counts, and offsets
abbrev contents : List ℕ
contents = 1 ∷ 1 ∷ 32 ∷ 2 ∷ 1 ∷ 68 ∷ 3 ∷ 2 ∷ 100 ∷ 4 ∷ 3 ∷ 228 ∷ []

-- "each kind (2 bytes), count (2), offset (4)"
abbrev entries : List ℕ → List ℕ
entries [] = []
entries (kind ∷ []) = []
entries (kind ∷ count ∷ []) = []
entries (kind ∷ count ∷ offset ∷ ns) = bytes_of_all 2 (kind ∷ count ∷ []) ++ bytes_of_all 4 (offset ∷ []) ++ entries ns

abbrev set_bytes : List (List ℕ) → List ℕ
set_bytes [] = []
set_bytes (s ∷ ss) = bytes_of_all 4 s ++ set_bytes ss

-- "Bodies follow without gaps."
abbrev file_with : List ℕ → List (List ℕ) → List ℕ → List ℕ
file_with entered sets configs =
    entries entered ++ bytes_of_all 4 control ++ bytes_of_all 4 (take 2 battery) ++ bytes_of_all 8 (drop 2 battery) ++ set_bytes sets ++ configs

abbrev read : List ℕ → List ℕ
read s = refusal (station_file s)

-- one number of the contents changed
abbrev entered : ℕ → ℕ → List ℕ
entered i n = read (file_with (set contents i n) (set1 ∷ set2 ∷ []) masks)

abbrev contents_of : ℕ → ℕ → List ℕ
contents_of sets configs = set (set (set contents 7 sets) 10 configs) 11 (100 + 64 * sets)

abbrev files : List Case
files =
    -- "a file has 165 to 676 bytes": 1, before the contents are looked at
    (read (replicate 164 0) shows refuses 1 0)
    ∷ (read (replicate 165 0) shows refuses 2 1)
    ∷ (read (replicate 676 0) shows refuses 2 1)
    ∷ (read (replicate 677 0) shows refuses 1 0)
    ∷ (read (file_with (contents_of 1 1) (set1 ∷ []) (1 ∷ [])) shows refuses 4 0)
    ∷ (read (file_with (contents_of 2 1) (set1 ∷ set2 ∷ []) (3 ∷ [])) shows accepts)
    ∷ (read (file_with (contents_of 8 64) (replicate 8 set1) (replicate 64 128)) shows accepts)
    -- "Kinds are 1, 2, 3, 4 in that order"; counts 1, 1, "1 to 8", "1 to 64"; "offsets are 32, 68, 100 and 100 + 64 x sets"
    ∷ (read (file_with contents (set1 ∷ set2 ∷ []) masks) shows accepts)
    ∷ (entered 0 2 shows refuses 2 1)
    ∷ (entered 0 0 shows refuses 2 1)
    ∷ (entered 1 0 shows refuses 2 1)
    ∷ (entered 1 2 shows refuses 2 1)
    ∷ (entered 2 31 shows refuses 2 1)
    ∷ (entered 2 33 shows refuses 2 1)
    ∷ (entered 3 1 shows refuses 2 2)
    ∷ (entered 3 3 shows refuses 2 2)
    ∷ (entered 4 0 shows refuses 2 2)
    ∷ (entered 4 2 shows refuses 2 2)
    ∷ (entered 5 67 shows refuses 2 2)
    ∷ (entered 5 69 shows refuses 2 2)
    ∷ (entered 6 2 shows refuses 2 3)
    ∷ (entered 6 4 shows refuses 2 3)
    ∷ (entered 7 0 shows refuses 2 3)
    ∷ (entered 7 9 shows refuses 2 3)
    ∷ (entered 8 99 shows refuses 2 3)
    ∷ (entered 8 101 shows refuses 2 3)
    ∷ (entered 9 3 shows refuses 2 4)
    ∷ (entered 9 5 shows refuses 2 4)
    ∷ (entered 10 0 shows refuses 2 4)
    ∷ (entered 10 65 shows refuses 2 4)
    ∷ (entered 11 227 shows refuses 2 4)
    ∷ (entered 11 229 shows refuses 2 4)
    -- a number's upper bytes count too
    ∷ (entered 0 257 shows refuses 2 1)
    ∷ (entered 1 257 shows refuses 2 1)
    ∷ (entered 2 16777248 shows refuses 2 1)
    -- a count in its range that is not the true one moves the next offset
    ∷ (entered 7 1 shows refuses 2 4)
    ∷ (entered 7 8 shows refuses 2 4)
    -- "size differs from the contents": 3
    ∷ (entered 10 2 shows refuses 3 0)
    ∷ (entered 10 4 shows refuses 3 0)
    ∷ (entered 10 64 shows refuses 3 0)
    -- "the first wrong contents entry for 2"
    ∷ (read (file_with (set (set contents 9 0) 3 0) (set1 ∷ set2 ∷ []) masks) shows refuses 2 2)
    -- 2 before 3, 3 before 4
    ∷ (read (file_with (set contents 9 0) (set1 ∷ set2 ∷ []) (2 ∷ [])) shows refuses 2 4)
    ∷ (read (file_with contents (set1 ∷ set2 ∷ []) (2 ∷ [])) shows refuses 3 0)
    ∷ []

-- ---- 4 to 8: the values

abbrev judged : List ℕ → List ℕ → List (List ℕ) → List ℕ → List ℕ
judged c b sets configs = refusal (values_right (station_with c b sets configs))

-- one number of the control changed, of the battery, of the first set, of the second set, and other masks
abbrev controlled : ℕ → ℕ → List ℕ
controlled i n = judged (set control i n) battery (set1 ∷ set2 ∷ []) masks

abbrev stored : ℕ → ℕ → List ℕ
stored i n = judged control (set battery i n) (set1 ∷ set2 ∷ []) masks

abbrev first : ℕ → ℕ → List ℕ
first i n = judged control battery (set set1 i n ∷ set2 ∷ []) masks

abbrev next : ℕ → ℕ → List ℕ
next i n = judged control battery (set1 ∷ set set2 i n ∷ []) masks

abbrev called : List ℕ → List ℕ
called configs = judged control battery (set1 ∷ set2 ∷ []) configs

abbrev values : List Case
values =
    -- "spinning reserve W 0 to 50,000,000"
    (controlled 0 0 shows accepts)
    ∷ (controlled 0 50_000_000 shows accepts)
    ∷ (controlled 0 50_000_001 shows refuses 4 0)
    -- "solar coverage % 0 to 100; minimum load % 0 to 100; shed % 0 to 100"
    ∷ (controlled 1 0 shows accepts)
    ∷ (controlled 1 100 shows accepts)
    ∷ (controlled 1 101 shows refuses 4 0)
    ∷ (controlled 2 0 shows accepts)
    ∷ (controlled 2 100 shows accepts)
    ∷ (controlled 2 101 shows refuses 4 0)
    ∷ (controlled 3 0 shows accepts)
    ∷ (controlled 3 100 shows accepts)
    ∷ (controlled 3 101 shows refuses 4 0)
    -- "shed delay s 1 to 60"
    ∷ (controlled 4 0 shows refuses 4 0)
    ∷ (controlled 4 60 shows accepts)
    ∷ (controlled 4 61 shows refuses 4 0)
    -- "filter k 0 to 999"
    ∷ (controlled 5 999 shows accepts)
    ∷ (controlled 5 1000 shows refuses 4 0)
    -- "minimum seconds 0 to 86,400"
    ∷ (controlled 6 0 shows accepts)
    ∷ (controlled 6 86_400 shows accepts)
    ∷ (controlled 6 86_401 shows refuses 4 0)
    -- "maintain 0 or 1"
    ∷ (controlled 7 1 shows accepts)
    ∷ (controlled 7 2 shows refuses 4 0)
    -- "mask of sets on line at the start (bit 0 is set 1, existing sets only)": of two sets at most 3
    ∷ (controlled 8 0 shows accepts)
    ∷ (controlled 8 3 shows accepts)
    ∷ (controlled 8 4 shows refuses 4 0)
    -- "Battery: power W 0 to 50,000,000 and efficiency % 1 to 100"
    ∷ (stored 0 0 shows accepts)
    ∷ (stored 0 50_000_000 shows accepts)
    ∷ (stored 0 50_000_001 shows refuses 5 0)
    ∷ (stored 1 0 shows refuses 5 0)
    ∷ (stored 1 1 shows accepts)
    ∷ (stored 1 100 shows accepts)
    ∷ (stored 1 101 shows refuses 5 0)
    -- "least <= start <= most <= 10,000,000,000,000"
    ∷ (stored 2 1000000 shows accepts)
    ∷ (stored 2 1000001 shows refuses 5 0)
    ∷ (stored 3 999999 shows refuses 5 0)
    ∷ (stored 3 1000000 shows accepts)
    ∷ (stored 3 10_000_000_000_000 shows accepts)
    ∷ (stored 3 10_000_000_000_001 shows refuses 5 0)
    ∷ (stored 4 99 shows refuses 5 0)
    ∷ (stored 4 100 shows accepts)
    ∷ (stored 4 9000000 shows accepts)
    ∷ (stored 4 9000001 shows refuses 5 0)
    -- "rating W 1 to 10,000,000"
    ∷ (first 0 0 shows refuses 6 1)
    ∷ (first 0 1 shows accepts)
    ∷ (first 0 10_000_000 shows accepts)
    ∷ (first 0 10_000_001 shows refuses 6 1)
    -- "warm-up s and cool-down s, each 1 to 3,600"
    ∷ (first 1 0 shows refuses 6 1)
    ∷ (first 1 1 shows accepts)
    ∷ (first 1 3_600 shows accepts)
    ∷ (first 1 3_601 shows refuses 6 1)
    ∷ (first 2 0 shows refuses 6 1)
    ∷ (first 2 3_600 shows accepts)
    ∷ (first 2 3_601 shows refuses 6 1)
    -- "service interval in run seconds 0 to 100,000,000 (0: never); service time s 1 to 2,592,000, but 0 where the interval is 0"
    ∷ (first 3 100_000_000 shows accepts)
    ∷ (first 3 100_000_001 shows refuses 6 1)
    ∷ (first 3 0 shows refuses 6 1)
    ∷ (first 3 1 shows accepts)
    ∷ (first 4 0 shows refuses 6 1)
    ∷ (first 4 1 shows accepts)
    ∷ (first 4 2_592_000 shows accepts)
    ∷ (first 4 2_592_001 shows refuses 6 1)
    ∷ (next 4 1 shows refuses 6 2)
    -- "points 2 to 5": 6, so that no pair of a set of 1 or 6 points is asked for
    ∷ (first 5 1 shows refuses 6 1)
    ∷ (first 5 6 shows refuses 6 1)
    ∷ (next 5 6 shows refuses 6 2)
    -- "load in thousandths of the rating 0 to 1,500; mL/h 0 to 10,000,000"
    ∷ (next 14 1_500 shows accepts)
    ∷ (next 14 1_501 shows refuses 7 2)
    ∷ (first 8 1_501 shows refuses 7 1)
    ∷ (next 7 10_000_000 shows accepts)
    ∷ (next 7 10_000_001 shows refuses 7 2)
    ∷ (next 15 10_000_000 shows accepts)
    ∷ (next 15 10_000_001 shows refuses 7 2)
    ∷ (next 13 10_000_001 shows refuses 7 2)
    ∷ (next 11 10_000_001 shows refuses 7 2)
    ∷ (next 9 10_000_001 shows refuses 7 2)
    -- "Loads rise strictly."
    ∷ (next 6 249 shows accepts)
    ∷ (next 6 250 shows refuses 7 2)
    ∷ (next 8 499 shows accepts)
    ∷ (next 8 500 shows refuses 7 2)
    ∷ (next 10 749 shows accepts)
    ∷ (next 10 750 shows refuses 7 2)
    ∷ (next 12 1_499 shows accepts)
    ∷ (next 12 1_500 shows refuses 7 2)
    -- "Unused pairs are zero.": those after the second point of set 1
    ∷ (first 10 1 shows refuses 7 1)
    ∷ (first 11 1 shows refuses 7 1)
    ∷ (first 12 1 shows refuses 7 1)
    ∷ (first 13 1 shows refuses 7 1)
    ∷ (first 14 1 shows refuses 7 1)
    ∷ (first 15 1 shows refuses 7 1)
    ∷ (next 5 4 shows refuses 7 2)
    -- "A first pair 0,0 is a real point"
    ∷ (first 7 0 shows accepts)
    -- "Configuration: a mask, not zero, existing sets only."
    ∷ (called (3 ∷ []) shows accepts)
    ∷ (called (0 ∷ []) shows refuses 8 1)
    ∷ (called (1 ∷ 4 ∷ []) shows refuses 8 2)
    ∷ (called (1 ∷ 2 ∷ 3 ∷ 0 ∷ 4 ∷ []) shows refuses 8 4)
    ∷ (judged control battery (replicate 8 set1) (255 ∷ []) shows accepts)
    ∷ (judged control battery (replicate 8 set1) (256 ∷ []) shows refuses 8 1)
    -- "Station order: 1, 2, 3, 4, 5, then set by set 6 before 7, then 8."
    ∷ (judged (set control 1 101) (set battery 1 0) (set1 ∷ set2 ∷ []) masks shows refuses 4 0)
    ∷ (judged control (set battery 1 0) (set set1 0 0 ∷ set2 ∷ []) masks shows refuses 5 0)
    ∷ (judged control battery (set (set set1 0 0) 10 1 ∷ set2 ∷ []) masks shows refuses 6 1)
    ∷ (judged control battery (set set1 10 1 ∷ set set2 0 0 ∷ []) masks shows refuses 7 1)
    ∷ (judged control battery (set1 ∷ set set2 6 250 ∷ []) (0 ∷ []) shows refuses 7 2)
    ∷ (judged control battery (replicate 7 set1 ++ (set set1 0 0 ∷ [])) (255 ∷ []) shows refuses 6 8)
    ∷ []

pub station-edges : given (files ++ values) ≡ said (files ++ values)
unfolding Numbers.all_to Bytes.little Bytes.littles Bytes.bytes_of Bytes.bytes_of_all StationRecord.no_set StationRecord.control_right StationRecord.battery_right StationRecord.set_right StationRecord.pairs_right StationRecord.sets_right StationRecord.configurations_right StationRecord.values_right StationFile.entry_right StationFile.sets_of StationFile.record_of StationFile.contents_right StationFile.station_file
station-edges = refl
