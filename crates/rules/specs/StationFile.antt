-- Document 01, "The station file": the record that the bytes of a file give, or the refusal.
use Rattle.std.specs.Prelude.{ℕ, zero, suc, ◌+◌, ◌-◌, ◌*◌, Bool, ◌&&◌, List, [], ◌∷◌, ◌++◌, length, take, drop, get_or, replicate, eqb}
use Rattle.rules.specs.declared.station.Control.{Control}
use Rattle.rules.specs.declared.station.Battery.{Battery}
use Rattle.rules.specs.declared.station.GenSet.{GenSet}
use Rattle.rules.specs.declared.station.Station.{Station}
use Rattle.rules.specs.Numbers.{within}
use Rattle.rules.specs.Bytes.{little, littles, bytes_of, bytes_of_all}
use Rattle.rules.specs.Answers.{Answer, accepted, need, ◌>>◌}
use Rattle.rules.specs.StationRecord.{no_set, values_right}

-- ---- the table of contents: "four entries of 8 bytes, each kind (2 bytes), count (2), offset (4)"

abbrev pub kind_at : List ℕ → ℕ → ℕ
kind_at s i = little 2 (drop (8 * i) s)

abbrev pub count_at : List ℕ → ℕ → ℕ
count_at s i = little 2 (drop (8 * i + 2) s)

abbrev pub offset_at : List ℕ → ℕ → ℕ
offset_at s i = little 4 (drop (8 * i + 4) s)

-- "Kinds are 1, 2, 3, 4 in that order"; a set has 64 bytes
abbrev pub sets_kind : ℕ
sets_kind = 3

abbrev pub set_size : ℕ
set_size = 64

-- "So offsets are 32, 68, 100 and 100 + 64 x sets"
abbrev pub control_offset : ℕ
control_offset = 32

abbrev pub battery_offset : ℕ
battery_offset = 68

abbrev pub sets_offset : ℕ
sets_offset = 100

abbrev pub configs_offset : ℕ → ℕ
configs_offset setcount = sets_offset + set_size * setcount

-- 2: the entry at place i has its kind, a count in its range and its offset
unfoldable pub entry_right : List ℕ → ℕ → ℕ → ℕ → ℕ → ℕ → Bool
entry_right s i kind least most offset = eqb (kind_at s i) kind && within least most (count_at s i) && eqb (offset_at s i) offset

-- ---- the bodies

-- "Control, nine 4-byte numbers", in their order
abbrev pub control_of : List ℕ → Control
control_of ns =
    record {
      spinning = get_or ns 0 0;
      coverage = get_or ns 1 0;
      minload = get_or ns 2 0;
      shed = get_or ns 3 0;
      delay = get_or ns 4 0;
      k = get_or ns 5 0;
      minseconds = get_or ns 6 0;
      maintain = get_or ns 7 0;
      online = get_or ns 8 0;
    }

-- "Battery: power W .. and efficiency % .. (4 bytes each), then least, most, start content (8 each)"
abbrev pub battery_of : List ℕ → List ℕ → Battery
battery_of ns ms =
    record { power = get_or ns 0 0; efficiency = get_or ns 1 0; least = get_or ms 0 0; most = get_or ms 1 0; start = get_or ms 2 0 }

-- "Set, all 4-byte numbers": six, then five pairs of load and rate
abbrev pub set_of : List ℕ → GenSet
set_of ns =
    record {
      rating = get_or ns 0 0;
      warmup = get_or ns 1 0;
      cooldown = get_or ns 2 0;
      interval = get_or ns 3 0;
      service = get_or ns 4 0;
      points = get_or ns 5 0;
      loads = get_or ns 6 0 ∷ get_or ns 8 0 ∷ get_or ns 10 0 ∷ get_or ns 12 0 ∷ get_or ns 14 0 ∷ [];
      rates = get_or ns 7 0 ∷ get_or ns 9 0 ∷ get_or ns 11 0 ∷ get_or ns 13 0 ∷ get_or ns 15 0 ∷ [];
    }

-- n sets, one after the other
unfoldable pub sets_of : ℕ → List ℕ → List GenSet
sets_of zero s = []
sets_of (suc n) s = set_of (littles 4 16 s) ∷ sets_of n (drop set_size s)

-- the record that the bodies give, whatever the file has not being zero
unfoldable pub record_of : List ℕ → Station
record_of s =
    let setcount = count_at s 2 in
    let configcount = count_at s 3 in
    record {
      control = control_of (littles 4 9 (drop control_offset s));
      battery = battery_of (littles 4 2 (drop battery_offset s)) (littles 8 3 (drop (battery_offset + 8) s));
      setcount = setcount;
      configcount = configcount;
      sets = sets_of setcount (drop sets_offset s) ++ replicate (8 - setcount) no_set;
      configs = littles 1 configcount (drop (configs_offset setcount) s) ++ replicate (64 - configcount) 0;
    }

-- ---- "Station order: 1, 2, 3, 4, 5, then set by set 6 before 7, then 8."

-- 1, 2, 3: the size and the table of contents
unfoldable pub contents_right : List ℕ → Answer (Unit {0})
contents_right s = do
  need (within 165 676 (length s)) 1 0
  need (entry_right s 0 1 1 1 control_offset) 2 1
  need (entry_right s 1 2 1 1 battery_offset) 2 2
  need (entry_right s 2 sets_kind 1 8 sets_offset) 2 3
  need (entry_right s 3 4 1 64 (configs_offset (count_at s 2))) 2 4
  need (eqb (length s) (configs_offset (count_at s 2) + count_at s 3)) 3 0

unfoldable pub station_file : List ℕ → Answer Station
station_file s = do
  contents_right s
  values_right (record_of s)
  accepted (record_of s)

-- ---- the file of a record

abbrev pub entry : ℕ → ℕ → ℕ → List ℕ
entry kind count offset = bytes_of 2 kind ++ bytes_of 2 count ++ bytes_of 4 offset

abbrev pub control_numbers : Control → List ℕ
control_numbers c =
    c.spinning ∷ c.coverage ∷ c.minload ∷ c.shed ∷ c.delay ∷ c.k ∷ c.minseconds ∷ c.maintain ∷ c.online ∷ []

abbrev pub set_numbers : GenSet → List ℕ
set_numbers g =
    g.rating
    ∷ g.warmup
    ∷ g.cooldown
    ∷ g.interval
    ∷ g.service
    ∷ g.points
    ∷ get_or g.loads 0 0
    ∷ get_or g.rates 0 0
    ∷ get_or g.loads 1 0
    ∷ get_or g.rates 1 0
    ∷ get_or g.loads 2 0
    ∷ get_or g.rates 2 0
    ∷ get_or g.loads 3 0
    ∷ get_or g.rates 3 0
    ∷ get_or g.loads 4 0
    ∷ get_or g.rates 4 0
    ∷ []

unfoldable pub sets_bytes : List GenSet → List ℕ
sets_bytes [] = []
sets_bytes (g ∷ gs) = bytes_of_all 4 (set_numbers g) ++ sets_bytes gs

unfoldable pub contents_bytes : ℕ → ℕ → List ℕ
contents_bytes setcount configcount =
    entry 1 1 control_offset
    ++ entry 2 1 battery_offset
    ++ entry sets_kind setcount sets_offset
    ++ entry 4 configcount (configs_offset setcount)

unfoldable pub battery_bytes : Battery → List ℕ
battery_bytes b = bytes_of_all 4 (b.power ∷ b.efficiency ∷ []) ++ bytes_of_all 8 (b.least ∷ b.most ∷ b.start ∷ [])

-- "Bodies follow without gaps."
unfoldable pub file_of : Station → List ℕ
file_of st =
    contents_bytes st.setcount st.configcount
    ++ bytes_of_all 4 (control_numbers st.control)
    ++ battery_bytes st.battery
    ++ sets_bytes (take st.setcount st.sets)
    ++ bytes_of_all 1 (take st.configcount st.configs)
