-- Document 01, "Cases beside each edge (P: proved)": P1 to P12, one table. proofs/Cases.antt has the theorem.
use Rattle.std.specs.Prelude.{ℕ, List, [], ◌∷◌, ◌++◌}
use Rattle.rules.specs.declared.station.Control.{Control}
use Rattle.rules.specs.declared.station.Battery.{Battery}
use Rattle.rules.specs.declared.station.GenSet.{GenSet}
use Rattle.rules.specs.declared.station.Station.{Station}
use Rattle.rules.specs.Bytes.{bytes, bytes_of_all}
use Rattle.rules.specs.Answers.{refusal}
use Rattle.rules.specs.StationRecord.{set_at}
use Rattle.rules.specs.StationFile.{entry, record_of}
use Rattle.rules.specs.SampleFile.{sample_file}
use Rattle.rules.specs.Share.{share}
use Rattle.rules.specs.Fuel.{fuel_rate}
use Rattle.rules.specs.Flows.{battery_gives, battery_takes}
use Rattle.rules.specs.Setpoint.{reserve, float}
use Rattle.rules.specs.Configuration.{chosen}
use Rattle.rules.specs.RunRecord.{start_record}
use Rattle.rules.specs.Run.{printed}

-- ---- "Station A, five seconds, whole"

-- "Control 10000, 50, 40, 90, 1, 0, 3, 0, mask 2. Battery 20000, 90, 0, 9000000, 1000000. Set 1: 100000, 2, 1, 0, 0,
-- points 0:2000 1000:27000. Set 2: 60000, 1, 1, 0, 0, points 0:1500 1000:16500. Masks 2, 1, 3."
unfoldable pub station_a : List ℕ
station_a =
    entry 1 1 32 ++ entry 2 1 68 ++ entry 3 2 100 ++ entry 4 3 228
    ++ bytes_of_all 4 (10000 ∷ 50 ∷ 40 ∷ 90 ∷ 1 ∷ 0 ∷ 3 ∷ 0 ∷ 2 ∷ [])
    ++ bytes_of_all 4 (20000 ∷ 90 ∷ []) ++ bytes_of_all 8 (0 ∷ 9000000 ∷ 1000000 ∷ [])
    ++ bytes_of_all 4 (100000 ∷ 2 ∷ 1 ∷ 0 ∷ 0 ∷ 2 ∷ 0 ∷ 2000 ∷ 1000 ∷ 27000 ∷ 0 ∷ 0 ∷ 0 ∷ 0 ∷ 0 ∷ 0 ∷ [])
    ++ bytes_of_all 4 (60000 ∷ 1 ∷ 1 ∷ 0 ∷ 0 ∷ 2 ∷ 0 ∷ 1500 ∷ 1000 ∷ 16500 ∷ 0 ∷ 0 ∷ 0 ∷ 0 ∷ 0 ∷ 0 ∷ [])
    ++ (2 ∷ 1 ∷ 3 ∷ [])

unfoldable pub samples_a : List ℕ
samples_a =
    bytes "t,LoadP,PvAvailP,ShedLoadP\n"
    ++ bytes "0,40,10,0\n"
    ++ bytes "1,75,10,5\n"
    ++ bytes "2,75,10,5\n"
    ++ bytes "3,30,40,5\n"

unfoldable pub printed_a : List ℕ
printed_a =
    bytes "t,load,shed,solar,charge,spill,give,diesel,unserved,on,sets,call,store\n"
    ++ bytes "0,40000,0,10000,0,0,0,30000,0,2,1,1,1000000\n"
    ++ bytes "1,75000,0,10000,0,0,5000,60000,0,2,1,2,500000\n"
    ++ bytes "2,75000,5000,10000,0,0,0,60000,0,2,1,2,500000\n"
    ++ bytes "3,30000,5000,0,20000,20000,0,25000,0,3,2,2,2300000\n"
    ++ bytes "4,30000,0,0,20000,20000,0,30000,0,1,1,1,4100000\n"
    ++ bytes "set,run,starts,stops,energy,fuel\n"
    ++ bytes "1,2,1,0,45625,15406\n"
    ++ bytes "2,4,1,1,159375,45843\n"

unfoldable pub record_a : Station
record_a = record_of station_a

-- ---- what the other cases name

-- a set of a rating, with a curve
unfoldable pub set_with : ℕ → ℕ → List ℕ → List ℕ → GenSet
set_with rating points loads rates =
    record { rating = rating; warmup = 1; cooldown = 1; interval = 0; service = 0; points = points; loads = loads; rates = rates }

-- P3: "three 10,000 W sets"
unfoldable pub three_sets : List GenSet
three_sets = set_with 10000 0 [] [] ∷ set_with 10000 0 [] [] ∷ set_with 10000 0 [] [] ∷ []

-- P5: "points 500:0 1000:10000"
unfoldable pub late_curve : GenSet
late_curve = set_with 100000 2 (500 ∷ 1000 ∷ 0 ∷ 0 ∷ 0 ∷ []) (0 ∷ 10000 ∷ 0 ∷ 0 ∷ 0 ∷ [])

-- P6 and P7: a battery whose rating is no limit
unfoldable pub battery_with : ℕ → ℕ → ℕ → Battery
battery_with efficiency least most =
    record { power = 50_000_000; efficiency = efficiency; least = least; most = most; start = least }

-- P8: "spinning 10,000, coverage 50 %", without and with maintain
unfoldable pub control_with : ℕ → Control
control_with maintain =
    record {
      spinning = 10000;
      coverage = 50;
      minload = 0;
      shed = 0;
      delay = 1;
      k = 0;
      minseconds = 0;
      maintain = maintain;
      online = 0;
    }

-- P9 to P11: "table A, nothing called, held .."
unfoldable pub called_at : ℕ → ℕ
called_at held = chosen record_a (start_record record_a).sets (float held) 0 0 0

-- ---- the table: what the definitions give, and what the paper shows

pub record Case : Type 0 where
  pub gives : List ℕ
  pub shows : List ℕ

infix 4 ◌shows◌
abbrev pub ◌shows◌ : List ℕ → List ℕ → Case
given shows shown = record { gives = given; shows = shown }

unfoldable pub P1 : Case
P1 = printed station_a samples_a (bytes "5") shows printed_a

-- "25,000 W over 100,000 and 60,000: 15,625, 9,375"
unfoldable pub P2 : Case
P2 = share record_a.sets 3 25000 0 ∷ share record_a.sets 3 25000 1 ∷ [] shows 15625 ∷ 9375 ∷ []

-- "1 W over three 10,000 W sets: 0, 0, 1"
unfoldable pub P3 : Case
P3 = share three_sets 7 1 0 ∷ share three_sets 7 1 1 ∷ share three_sets 7 1 2 ∷ [] shows 0 ∷ 0 ∷ 1 ∷ []

-- "set 1 at 15,625 W: 5,906"
unfoldable pub P4 : Case
P4 = fuel_rate (set_at record_a.sets 0) 15625 ∷ [] shows 5906 ∷ []

-- "points 500:0 1000:10000 at 0 W: 0"
unfoldable pub P5 : Case
P5 = fuel_rate late_curve 0 ∷ [] shows 0 ∷ []

-- "room 8,500,000 at 90 %: 94,444 W"
unfoldable pub P6 : Case
P6 = battery_takes (battery_with 90 0 9500000) 1000000 50_000_000 ∷ [] shows 94444 ∷ []

-- "store 1,000,099, least 0: 10,000 W"
unfoldable pub P7 : Case
P7 = battery_gives (battery_with 90 0 9000000) 1000099 0 50_000_000 ∷ [] shows 10000 ∷ []

-- "coverage 50 % of 10,001 W, live 12,000: reserve 0; maintain: 10,000"
unfoldable pub P8 : Case
P8 = reserve (control_with 0) 10001 12000 ∷ reserve (control_with 1) 10001 12000 ∷ [] shows 0 ∷ 10000 ∷ []

-- "held 60,000: 1"
unfoldable pub P9 : Case
P9 = called_at 60000 ∷ [] shows 1 ∷ []

-- "held 60,001: 2"
unfoldable pub P10 : Case
P10 = called_at 60001 ∷ [] shows 2 ∷ []

-- "held 170,000: 3"
unfoldable pub P11 : Case
P11 = called_at 170000 ∷ [] shows 3 ∷ []

-- "headings `t,LoadP,,PvAvailP,ShedLoadP`: 12", in line 1
unfoldable pub P12 : Case
P12 = refusal (sample_file (bytes "t,LoadP,,PvAvailP,ShedLoadP\n")) shows 12 ∷ 1 ∷ []

unfoldable pub cases : List Case
cases = P1 ∷ P2 ∷ P3 ∷ P4 ∷ P5 ∷ P6 ∷ P7 ∷ P8 ∷ P9 ∷ P10 ∷ P11 ∷ P12 ∷ []
