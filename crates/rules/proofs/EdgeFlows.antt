-- Document 01, steps 3 to 7, at their edges: shed, solar, battery, diesel, and the shed decided. By computation. Assumes nothing.
use Prim.Native.Nat.{ℕ}
use mathlib.Core.Path.{◌≡◌, refl}
use mathlib.Core.List.{List, [], ◌∷◌, ◌++◌}
use lib.ListN.{replicate}
use Rattle.rules.specs.declared.station.Battery.{Battery}
use Rattle.rules.specs.Quantities.{Watts}
use Rattle.rules.specs.StationFile.{control_of, battery_of}
use Rattle.rules.specs.Flows.{shed_now, solar_on_load, battery_gives, battery_takes, store_after}
use Rattle.rules.specs.Flows.{diesel_for, watts_with, watts_for, shed_decided, decided_after}
use Rattle.rules.specs.Cases.{Case, ◌shows◌}
use Rattle.rules.proofs.EdgeRecords.{◌is◌, given, said}

-- 3,000 W at 90 %, between 1,000 and 9,000,000
abbrev battery : Battery
battery = battery_of (3000 ∷ 90 ∷ []) (1000 ∷ 9000000 ∷ 201099 ∷ [])

abbrev watt_numbers : Watts → List ℕ
watt_numbers w = w.offered ∷ w.load ∷ w.shed ∷ w.solar ∷ w.charge ∷ w.spill ∷ w.give ∷ w.diesel ∷ w.unserved ∷ []

-- with 40,000 W on line and a floor load of 16,000 W
abbrev watts : ℕ → ℕ → ℕ → ℕ → ℕ → List ℕ
watts store decided load solar sheddable =
    watt_numbers (watts_for battery store 40000 16000 decided (record { load = load; solar = solar; sheddable = sheddable }))

abbrev decides : ℕ → ℕ → ℕ → ℕ → ℕ → ℕ
decides percentage cap load solar sheddable = shed_decided (control_of (0 ∷ 0 ∷ 0 ∷ percentage ∷ [])) cap load solar sheddable

abbrev flow_edges : List Case
flow_edges =
    -- "off = smaller of H and the amount decided "delay" seconds ago"
    (shed_now 5 7 is 5)
    ∷ (shed_now 7 5 is 5)
    -- "smaller of S and max(0, D - floor load)"
    ∷ (solar_on_load 10 30 25 is 5)
    ∷ (solar_on_load 5 30 25 is 5)
    ∷ (solar_on_load 3 30 25 is 3)
    ∷ (solar_on_load 10 25 25 is 0)
    ∷ (solar_on_load 10 24 25 is 0)
    -- "If R > cap it gives min(R - cap, power, (store - least) / 100)"
    ∷ (battery_gives battery 201099 100 99 is 0)
    ∷ (battery_gives battery 201099 100 100 is 0)
    ∷ (battery_gives battery 201099 100 101 is 1)
    ∷ (battery_gives battery 201099 100 2099 is 1999)
    ∷ (battery_gives battery 201099 100 9000 is 2000)
    ∷ (battery_gives battery 1000 100 9000 is 0)
    ∷ (battery_gives battery 1099 100 9000 is 0)
    ∷ (battery_gives battery 1100 100 9000 is 1)
    ∷ (battery_gives battery 9000000 100 9000 is 3000)
    -- "min(surplus, power, (most - store) / efficiency)"
    ∷ (battery_takes battery 201099 2999 is 2999)
    ∷ (battery_takes battery 201099 3001 is 3000)
    ∷ (battery_takes battery 8900050 3001 is 1110)
    ∷ (battery_takes battery 8999910 3001 is 1)
    ∷ (battery_takes battery 8999911 3001 is 0)
    ∷ (battery_takes battery 9000000 3001 is 0)
    -- "Store + charge x efficiency - 100 x given."
    ∷ (store_after battery 500000 1110 0 is 599900)
    ∷ (store_after battery 500000 0 2000 is 300000)
    ∷ (store_after battery 500000 1110 2000 is 399900)
    -- "Diesel = min(R - given, cap)"
    ∷ (diesel_for 40 39 is 39)
    ∷ (diesel_for 40 41 is 40)
    -- solar offered, load, shed, solar on load, charge, spill, give, diesel, unserved: D 58,000, R 49,000, 2,000 W in the store
    ∷ (watts 201099 12000 70000 9000 20000 shows 9000 ∷ 70000 ∷ 12000 ∷ 9000 ∷ 0 ∷ 0 ∷ 2000 ∷ 40000 ∷ 7000 ∷ [])
    -- D 19,000, R 16,000, surplus 27,000, room for 1,110 W
    ∷ (watts 8900050 5000 20000 30000 1000 shows 30000 ∷ 20000 ∷ 1000 ∷ 3000 ∷ 1110 ∷ 25890 ∷ 0 ∷ 16000 ∷ 0 ∷ [])
    -- the same with room for the battery's power
    ∷ (watts 201099 5000 20000 30000 1000 shows 30000 ∷ 20000 ∷ 1000 ∷ 3000 ∷ 3000 ∷ 24000 ∷ 0 ∷ 16000 ∷ 0 ∷ [])
    -- R just the capacity
    ∷ (watts 201099 0 40000 0 0 shows 0 ∷ 40000 ∷ 0 ∷ 0 ∷ 0 ∷ 0 ∷ 0 ∷ 40000 ∷ 0 ∷ [])
    -- "Shed decided = min(H, max(0, L - solar on load - cap x shed % / 100))": from L, and not from what is left of it
    ∷ (decides 90 40000 70000 9000 20000 is 20000)
    ∷ (decides 90 40000 70000 9000 25000 is 25000)
    ∷ (decides 90 40000 70000 9000 30000 is 25000)
    ∷ (decides 90 40000 45000 9000 30000 is 0)
    ∷ (decides 90 40000 45001 9000 30000 is 1)
    ∷ (decides 50 101 60 5 30 is 5)
    -- "Decided amounts are held oldest first.": the oldest goes and the new one is the last of the delay's
    ∷ (decided_after 1 (1 ∷ 0 ∷ 0 ∷ []) 9 shows 9 ∷ 0 ∷ 0 ∷ [])
    ∷ (decided_after 2 (1 ∷ 2 ∷ 0 ∷ []) 9 shows 2 ∷ 9 ∷ 0 ∷ [])
    ∷ (decided_after 3 (1 ∷ 2 ∷ 3 ∷ 0 ∷ []) 9 shows 2 ∷ 3 ∷ 9 ∷ 0 ∷ [])
    ∷ (decided_after 60 (1 ∷ replicate 59 2) 9 shows replicate 59 2 ++ (9 ∷ []))
    ∷ []

pub flow-edges : given flow_edges ≡ said flow_edges
unfolding shed_now solar_on_load battery_gives battery_takes store_after diesel_for watts_with watts_for shed_decided decided_after
flow-edges = refl
