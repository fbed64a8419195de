-- Document 01, "The station file": which values a control, a battery, a set and a configuration may have, and which
-- station records some file gives (25).
use Rattle.std.specs.Prelude.{ℕ, suc, Bool, true, ◌&&◌, List, [], ◌∷◌, take, drop, get_or, replicate, leb, ltb, eqb, if◌then◌else◌}
use Rattle.rules.specs.declared.station.Control.{Control}
use Rattle.rules.specs.declared.station.Battery.{Battery}
use Rattle.rules.specs.declared.station.GenSet.{GenSet}
use Rattle.rules.specs.declared.station.Station.{Station}
use Rattle.rules.specs.Numbers.{within, existing_only, all_to, all_hold, every, all_zero}
use Rattle.rules.specs.Answers.{Answer, accepted, need, is_accepted, ◌>>◌}

-- what a list of sets has past its end
unfoldable pub past_end : GenSet
past_end = record { rating = 0; warmup = 0; cooldown = 0; interval = 0; service = 0; points = 0; loads = []; rates = [] }

-- the set at place i
unfoldable pub set_at : List GenSet → ℕ → GenSet
set_at sets i = get_or sets i past_end

-- what the record holds in the place of a set that the file has not
unfoldable pub no_set : GenSet
no_set =
    record {
      rating = 0;
      warmup = 0;
      cooldown = 0;
      interval = 0;
      service = 0;
      points = 0;
      loads = replicate 5 0;
      rates = replicate 5 0;
    }

-- what a refused reading hands back: the record of zeros, which no file gives
unfoldable pub no_station : Station
no_station =
    record {
      control =
          record {
            spinning = 0;
            coverage = 0;
            minload = 0;
            shed = 0;
            delay = 0;
            k = 0;
            minseconds = 0;
            maintain = 0;
            online = 0;
          };
      battery = record { power = 0; efficiency = 0; least = 0; most = 0; start = 0 };
      setcount = 0;
      configcount = 0;
      sets = replicate 8 no_set;
      configs = replicate 64 0;
    }

-- ---- the values

-- 4: "Control, nine 4-byte numbers"
abbrev pub control_rules : ℕ → Control → List Bool
control_rules setcount c =
    leb c.spinning 50_000_000
    ∷ leb c.coverage 100
    ∷ leb c.minload 100
    ∷ leb c.shed 100
    ∷ within 1 60 c.delay
    ∷ leb c.k 999
    ∷ leb c.minseconds 86_400
    ∷ leb c.maintain 1
    ∷ existing_only setcount c.online
    ∷ []

unfoldable pub control_right : ℕ → Control → Bool
control_right setcount c = all_hold (control_rules setcount c)

-- 5: "least <= start <= most <= 10,000,000,000,000"
abbrev pub battery_rules : Battery → List Bool
battery_rules b =
    leb b.power 50_000_000
    ∷ within 1 100 b.efficiency
    ∷ leb b.least b.start
    ∷ leb b.start b.most
    ∷ leb b.most 10_000_000_000_000
    ∷ []

unfoldable pub battery_right : Battery → Bool
battery_right b = all_hold (battery_rules b)

-- "service time s 1 to 2,592,000, but 0 where the interval is 0"
abbrev pub service_right : ℕ → ℕ → Bool
service_right interval service = if eqb interval 0 then eqb service 0 else within 1 2_592_000 service

-- 6: "a set's number before its pairs"
abbrev pub set_rules : GenSet → List Bool
set_rules g =
    within 1 10_000_000 g.rating
    ∷ within 1 3_600 g.warmup
    ∷ within 1 3_600 g.cooldown
    ∷ leb g.interval 100_000_000
    ∷ service_right g.interval g.service
    ∷ within 2 5 g.points
    ∷ []

unfoldable pub set_right : GenSet → Bool
set_right g = all_hold (set_rules g)

-- a used pair is in its range; "Unused pairs are zero"
abbrev pub pair_right : ℕ → ℕ → ℕ → ℕ → Bool
pair_right points j load rate =
    if ltb j points then leb load 1_500 && leb rate 10_000_000 else eqb load 0 && eqb rate 0

-- "Loads rise strictly": the used pair after place j has a greater load than the one at j
abbrev pub rises : ℕ → ℕ → ℕ → ℕ → Bool
rises points j load next = if ltb (suc j) points then ltb load next else true

-- 7: "its pairs"
unfoldable pub pairs_right : GenSet → Bool
pairs_right g =
    all_to 5 (λ j. pair_right g.points j (get_or g.loads j 0) (get_or g.rates j 0))
    && all_to 4 (λ j. rises g.points j (get_or g.loads j 0) (get_or g.loads (suc j) 0))

-- 8: "a mask, not zero, existing sets only"
abbrev pub configuration_right : ℕ → ℕ → Bool
configuration_right setcount mask = ltb 0 mask && existing_only setcount mask

-- ---- the order: "4, 5, then set by set 6 before 7, then 8"

-- the sets that follow the first n
unfoldable pub sets_right : ℕ → List GenSet → Answer (Unit {0})
sets_right n [] = accepted tt
sets_right n (g ∷ gs) = do
  need (set_right g) 6 (suc n)
  need (pairs_right g) 7 (suc n)
  sets_right (suc n) gs

-- the configurations that follow the first n
unfoldable pub configurations_right : ℕ → ℕ → List ℕ → Answer (Unit {0})
configurations_right setcount n [] = accepted tt
configurations_right setcount n (mask ∷ masks) = do
  need (configuration_right setcount mask) 8 (suc n)
  configurations_right setcount (suc n) masks

unfoldable pub values_right : Station → Answer (Unit {0})
values_right st = do
  need (control_right st.setcount st.control) 4 0
  need (battery_right st.battery) 5 0
  sets_right 0 (take st.setcount st.sets)
  configurations_right st.setcount 0 (take st.configcount st.configs)

-- ---- 25

abbrev pub unused_rules : GenSet → List Bool
unused_rules g =
    eqb g.rating 0
    ∷ eqb g.warmup 0
    ∷ eqb g.cooldown 0
    ∷ eqb g.interval 0
    ∷ eqb g.service 0
    ∷ eqb g.points 0
    ∷ all_zero g.loads
    ∷ all_zero g.rates
    ∷ []

abbrev pub set_unused : GenSet → Bool
set_unused g = all_hold (unused_rules g)

-- some file gives the record: its counts and values are in rule, and what is past the counts is zero
-- (proofs/StationFile.antt shows it both ways, by a file that the reader takes back)
abbrev pub station_rules : Station → List Bool
station_rules st =
    within 1 8 st.setcount
    ∷ within 1 64 st.configcount
    ∷ is_accepted (values_right st)
    ∷ every set_unused (drop st.setcount st.sets)
    ∷ all_zero (drop st.configcount st.configs)
    ∷ []

unfoldable pub some_file_gives : Station → Bool
some_file_gives st = all_hold (station_rules st)
