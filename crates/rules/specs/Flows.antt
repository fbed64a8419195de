-- Document 01, steps 2 to 7, on plain numbers: where a second's load is met from, and what is shed.
use Rattle.std.specs.Prelude.{ℕ, ◌+◌, ◌-◌, ◌*◌, ◌/◌, min, List, ◌∷◌, ◌++◌, take, drop}
use Rattle.rules.specs.declared.station.Battery.{Battery}
use Rattle.rules.specs.declared.station.Control.{Control}
use Rattle.rules.specs.declared.station.Station.{Station}
use Rattle.rules.specs.declared.run.Inputs.{Inputs}
use Rattle.rules.specs.Quantities.{Watts}
use Rattle.rules.specs.Share.{capacity}

abbrev pub percent : ℕ → ℕ → ℕ
percent x p = x * p / 100

-- ---- 2. "Floor load = cap x minimum load % / 100.", of a station and the mask of its sets On

unfoldable pub floor_load : Station → ℕ → ℕ
floor_load st mask = percent (capacity st.sets mask) st.control.minload

-- ---- 3. Shed. "off = smaller of H and the amount decided "delay" seconds ago"

unfoldable pub shed_now : ℕ → ℕ → ℕ
shed_now sheddable decided_then = min sheddable decided_then

-- ---- 4. Solar. "Solar on load = smaller of S and max(0, D - floor load)."

unfoldable pub solar_on_load : ℕ → ℕ → ℕ → ℕ
solar_on_load offered demand floor = min offered (demand - floor)

-- ---- 5. Battery.

-- "min(R - cap, power, (store - least) / 100)" if R > cap, and else 0, since `-` stops there
unfoldable pub battery_gives : Battery → ℕ → ℕ → ℕ → ℕ
battery_gives b store cap rest = min (rest - cap) (min b.power ((store - b.least) / 100))

-- "Surplus S - solar on load charges min(surplus, power, (most - store) / efficiency)"
unfoldable pub battery_takes : Battery → ℕ → ℕ → ℕ
battery_takes b store surplus = min surplus (min b.power ((b.most - store) / b.efficiency))

-- "Store + charge x efficiency - 100 x given."
unfoldable pub store_after : Battery → ℕ → ℕ → ℕ → ℕ
store_after b store charge give = store + charge * b.efficiency - 100 * give

-- ---- 6. "Diesel = min(R - given, cap). Unserved = R - given - diesel."

unfoldable pub diesel_for : ℕ → ℕ → ℕ
diesel_for cap rest = min rest cap

-- ---- 3 to 6 together

-- from the watts shed and the solar on the load
unfoldable pub watts_with : Battery → ℕ → ℕ → Inputs → ℕ → ℕ → Watts
watts_with b store cap x off solar =
    let rest = x.load - off - solar in
    let give = battery_gives b store cap rest in
    let charge = battery_takes b store (x.solar - solar) in
    let diesel = diesel_for cap (rest - give) in
    record {
      offered = x.solar;
      load = x.load;
      shed = off;
      solar = solar;
      charge = charge;
      spill = x.solar - solar - charge;
      give = give;
      diesel = diesel;
      unserved = rest - give - diesel;
    }

unfoldable pub watts_for : Battery → ℕ → ℕ → ℕ → ℕ → Inputs → Watts
watts_for b store cap floor decided_then x =
    let off = shed_now x.sheddable decided_then in
    watts_with b store cap x off (solar_on_load x.solar (x.load - off) floor)

-- R = D - solar on load, with D = L - off
abbrev pub rest_of : Watts → ℕ
rest_of w = w.load - w.shed - w.solar

-- ---- 7. "Shed decided = min(H, max(0, L - solar on load - cap x shed % / 100))."

unfoldable pub shed_decided : Control → ℕ → ℕ → ℕ → ℕ → ℕ
shed_decided c cap load solar sheddable = min sheddable (load - solar - percent cap c.shed)

-- "Decided amounts are held oldest first": the oldest goes, and the new one is the last of as many as the delay has
-- seconds; what stands beyond the delay stays
unfoldable pub decided_after : ℕ → List ℕ → ℕ → List ℕ
decided_after delay amounts new = take (delay - 1) (drop 1 amounts) ++ (new ∷ drop delay amounts)
