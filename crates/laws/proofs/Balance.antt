-- Document 01, steps 3 to 6, and the request's demand 3, for one second: the load is met, the solar goes somewhere, the store
-- moves by what is charged and given and stays within its limits, and load is left unserved only where nothing more could
-- serve it. Each law is of plain numbers. Assumes nothing.
use Prim.Native.Nat.{ℕ, ◌+◌, ◌-◌, ◌*◌, ◌/◌, ◌≤◌, ◌<◌, min}
use mathlib.Core.Path.{◌≡◌}
use native.Mathlib.Omega.{arith}
use native.Mathlib.Nat.{div-mul-le_self, mul-le-mul_left, mul-le-mul_right, le_refl, le_trans}
use Rattle.rules.specs.declared.station.Battery.{Battery}
use Rattle.rules.specs.declared.station.Station.{Station}
use Rattle.rules.specs.declared.run.Inputs.{Inputs}
use Rattle.rules.specs.Quantities.{Watts}
use Rattle.rules.specs.Share.{capacity}
use Rattle.rules.specs.Flows.{floor_load, shed_now, solar_on_load, battery_gives, battery_takes, store_after, diesel_for, watts_with, watts_for}

-- ---- each step's bounds

pub shed-most : (sheddable decided : ℕ) → shed_now sheddable decided ≤ sheddable
unfolding shed_now
shed-most sheddable decided = omega arith

pub solar-offered : (offered demand floor : ℕ) → solar_on_load offered demand floor ≤ offered
unfolding solar_on_load
solar-offered offered demand floor = omega arith

solar-demand : (offered demand floor : ℕ) → solar_on_load offered demand floor ≤ demand - floor
unfolding solar_on_load
solar-demand offered demand floor = omega arith

-- the battery gives what lies above a threshold: the capacity in document 01, and any number from the floor load to it in these laws
pub gives-lacking : (b : Battery) (store threshold rest : ℕ) → battery_gives b store threshold rest ≤ rest - threshold
unfolding battery_gives
gives-lacking b store threshold rest = omega arith

gives-content : (b : Battery) (store threshold rest : ℕ) → 100 * battery_gives b store threshold rest ≤ store - b.least
unfolding battery_gives
gives-content b store threshold rest = omega arith

-- less than is lacking is all that rating and content allow
gives_all : (b : Battery) (store threshold rest : ℕ) → battery_gives b store threshold rest < rest - threshold → battery_gives b store threshold rest ≡ min b.power ((store - b.least) / 100)
unfolding battery_gives
gives_all b store threshold rest h = omega arith

pub takes-surplus : (b : Battery) (store surplus : ℕ) → battery_takes b store surplus ≤ surplus
unfolding battery_takes
takes-surplus b store surplus = omega arith

pub takes-room : (b : Battery) (store surplus : ℕ) → battery_takes b store surplus * b.efficiency ≤ b.most - store
unfolding battery_takes
takes-room b store surplus =
    le_trans (mul-le-mul_right b.efficiency (omega arith)) (div-mul-le_self (b.most - store) b.efficiency)

pub floor-most : (st : Station) (mask : ℕ) → st.control.minload ≤ 100 → floor_load st mask ≤ capacity st.sets mask
unfolding floor_load
floor-most st mask h =
    let cap : ℕ = capacity st.sets mask in
    let k : cap * st.control.minload ≤ cap * 100 = mul-le-mul_left cap h in
    omega arith

-- ---- on plain numbers

-- load, shed and solar leave the rest
rest-is : (load off solar : ℕ) → off ≤ load → solar ≤ load - off → load ≡ load - off - solar + solar + off
rest-is load off solar h k = omega arith

met : (load off solar rest give diesel : ℕ) → load ≡ rest + solar + off → give ≤ rest → diesel ≤ rest - give → load ≡ diesel + solar + give + off + (rest - give - diesel)
met load off solar rest give diesel e h k = omega arith

pub diesel-most : (cap rest : ℕ) → diesel_for cap rest ≤ rest
unfolding diesel_for
diesel-most cap rest = omega arith

-- load is left over only where every set is at its rating
diesel-all : (cap rest : ℕ) → 0 < rest - diesel_for cap rest → (diesel_for cap rest ≡ cap) × (cap < rest)
unfolding diesel_for
diesel-all cap rest h = (omega arith, omega arith)

-- what is left above the floor load has had all the solar
solar-used : (offered demand floor : ℕ) → floor < demand - solar_on_load offered demand floor → solar_on_load offered demand floor ≡ offered
unfolding solar_on_load
solar-used offered demand floor h = omega arith

none-taken : (b : Battery) (store surplus : ℕ) → surplus ≡ 0 → battery_takes b store surplus ≡ 0
none-taken b store surplus h = omega (arith, takes-surplus b store surplus)

-- ---- the store, where the battery gives above any threshold

module _ (b : Battery) (store threshold rest surplus : ℕ) (low : b.least ≤ store) where
  abbrev give : ℕ
  give = battery_gives b store threshold rest

  abbrev charge : ℕ
  charge = battery_takes b store surplus

  -- "the store equals its start + efficiency x charged - 100 x given", with no subtraction that could stop at zero
  pub store-moves : store_after b store charge give + 100 * give ≡ store + charge * b.efficiency
  unfolding store_after
  store-moves = omega (arith, gives-content b store threshold rest)

  -- "It is within its two limits in each row."
  pub store-least : b.least ≤ store_after b store charge give
  unfolding store_after
  store-least = omega (arith, gives-content b store threshold rest)

  pub store-most : store ≤ b.most → store_after b store charge give ≤ b.most
  unfolding store_after
  store-most high = omega (arith, takes-room b store surplus)

-- ---- load and solar, where the battery gives above any threshold from the floor load to the capacity

-- "every set on line is at its rating, no solar is spilled or charged, and the battery gives all that its rating and content allow"
pub record AllServing (b : Battery) (store cap diesel charge spill give : ℕ) : Type 0 where
  pub diesel-full : diesel ≡ cap
  pub none-charged : charge ≡ 0
  pub none-spilled : spill ≡ 0
  pub battery-full : give ≡ min b.power ((store - b.least) / 100)

module _ (b : Battery) (store threshold cap floor load off offered : ℕ) where
  abbrev on_load : ℕ
  on_load = solar_on_load offered (load - off) floor

  abbrev left : ℕ
  left = load - off - on_load

  abbrev given : ℕ
  given = battery_gives b store threshold left

  abbrev taken : ℕ
  taken = battery_takes b store (offered - on_load)

  abbrev diesel : ℕ
  diesel = diesel_for cap (left - given)

  placed-above : offered ≡ on_load + taken + (offered - on_load - taken)
  placed-above = omega (arith, solar-offered offered (load - off) floor, takes-surplus b store (offered - on_load))

  met-above : off ≤ load → load ≡ diesel + on_load + given + off + (left - given - diesel)
  met-above h =
      let d : on_load ≤ load - off = le_trans (solar-demand offered (load - off) floor) (omega arith) in
      let e : given ≤ left = le_trans (gives-lacking b store threshold left) (omega arith) in
      met load off on_load left given diesel (rest-is load off on_load h d) e (diesel-most cap (left - given))

  unserved-above : floor ≤ threshold → threshold ≤ cap → 0 < left - given - diesel → AllServing b store cap diesel taken (offered - on_load - taken) given
  unserved-above low high h =
      let d = diesel-all cap (left - given) h in
      let f : floor < left = omega (arith, d.1) in
      let s : on_load ≡ offered = solar-used offered (load - off) floor f in
      let k : taken ≡ 0 = none-taken b store (offered - on_load) (omega arith) in
      record {
        diesel-full = d.0;
        none-charged = k;
        none-spilled = omega arith;
        battery-full = gives_all b store threshold left (omega (arith, d.1));
      }

-- ---- a second: its threshold is the capacity

module _ (b : Battery) (store cap floor decided : ℕ) (x : Inputs) where
  abbrev w : Watts
  w = watts_for b store cap floor decided x

  abbrev off : ℕ
  off = shed_now x.sheddable decided

  -- "solar offered equals solar on the load + charged + spilled"
  pub solar-placed : x.solar ≡ w.solar + w.charge + w.spill
  unfolding watts_for watts_with
  solar-placed = placed-above b store cap cap floor x.load off x.solar

  -- "load .. equals diesel + solar on the load + given + shed + unserved"
  pub load-met : x.sheddable ≤ x.load → x.load ≡ w.diesel + w.solar + w.give + w.shed + w.unserved
  unfolding watts_for watts_with
  load-met h = met-above b store cap cap floor x.load off x.solar (le_trans (shed-most x.sheddable decided) h)

  -- "Where a row has load unserved, .."
  pub unserved-last : floor ≤ cap → 0 < w.unserved → AllServing b store cap w.diesel w.charge w.spill w.give
  unfolding watts_for watts_with
  unserved-last low h = unserved-above b store cap cap floor x.load off x.solar low (le_refl cap) h
