-- What is known of the values of a station record whose checks passed. Assumes nothing.
use Rattle.std.specs.Prelude.{if◌then◌else◌}
use Prim.Native.Nat.{ℕ, suc, ◌^◌, ◌≤◌, ◌<◌}
use mathlib.Core.Path.{◌≡◌}
use mathlib.Core.Bool.{Bool, true, false, ◌&&◌}
use mathlib.Core.List.{[], ◌∷◌}
use native.Mathlib.Omega.{arith}
use native.Mathlib.Nat.{lt_of_lt_of_le}
use lib.Dec.{leb, ltb, eqb}
use lib.ListN.{get_or, take, drop}
use lib.Pow.{pow_mono}
use borrow.Author.Tests.{leb-true, ltb-true, eqb-true}
use Rattle.rules.specs.declared.station.Control.{Control}
use Rattle.rules.specs.declared.station.Battery.{Battery}
use Rattle.rules.specs.declared.station.GenSet.{GenSet}
use Rattle.rules.specs.declared.station.Station.{Station}
use Rattle.rules.specs.Numbers.{within, existing_only, all_to, every, all_zero}
use Rattle.rules.specs.Answers.{Answer, accepted, need, ◌>>◌}
use Rattle.rules.specs.StationRecord.{control_rules, control_right, battery_rules, battery_right, service_right, set_rules, set_right, pair_right, rises, pairs_right, sets_right, configurations_right, values_right, set_unused, station_rules, some_file_gives}
use Rattle.rules.specs.StationFile.{control_numbers, set_numbers}
use Rattle.rules.proofs.Tests.{both, all-at, to_at, within-fact}
use Rattle.rules.proofs.Checks.{passed, both-passed, is-accepted}
use Rattle.rules.proofs.LittleEndian.{AllBelow}

-- a mask of existing sets only, of which there are at most eight
pub mask_below : (setcount mask : ℕ) → setcount ≤ 8 → existing_only setcount mask ≡ true → mask < 256
mask_below setcount mask h e = lt_of_lt_of_le (ltb-true mask (2 ^ setcount) e) (pow_mono h)

-- ---- the control

module _ (n : ℕ) (c : Control) (h : control_right n c ≡ true) where
  control-rule : (i : ℕ) → get_or (control_rules n c) i true ≡ true
  unfolding control_right
  control-rule i = all-at (control_rules n c) i h

  pub spinning-most : c.spinning ≤ 50_000_000
  spinning-most = leb-true _ _ (control-rule 0)

  pub coverage-most : c.coverage ≤ 100
  coverage-most = leb-true _ _ (control-rule 1)

  pub minload-most : c.minload ≤ 100
  minload-most = leb-true _ _ (control-rule 2)

  pub shed-most : c.shed ≤ 100
  shed-most = leb-true _ _ (control-rule 3)

  pub delay-range : (1 ≤ c.delay) × (c.delay ≤ 60)
  delay-range = within-fact 1 60 c.delay (control-rule 4)

  pub k-most : c.k ≤ 999
  k-most = leb-true _ _ (control-rule 5)

  pub minseconds-most : c.minseconds ≤ 86_400
  minseconds-most = leb-true _ _ (control-rule 6)

  pub maintain-most : c.maintain ≤ 1
  maintain-most = leb-true _ _ (control-rule 7)

  pub online-existing : existing_only n c.online ≡ true
  online-existing = control-rule 8

  pub control-fits : n ≤ 8 → AllBelow (256 ^ 4) (control_numbers c)
  control-fits e =
      let l = mask_below n c.online e online-existing in
      (omega (arith, spinning-most), (omega (arith, coverage-most), (omega (arith, minload-most), (omega (arith, shed-most), (omega (arith, delay-range.1), (omega (arith, k-most), (omega (arith, minseconds-most), (omega (arith, maintain-most), (omega (arith, l), tt)))))))))

-- ---- the battery

module _ (b : Battery) (h : battery_right b ≡ true) where
  battery-rule : (i : ℕ) → get_or (battery_rules b) i true ≡ true
  unfolding battery_right
  battery-rule i = all-at (battery_rules b) i h

  pub power-most : b.power ≤ 50_000_000
  power-most = leb-true _ _ (battery-rule 0)

  pub efficiency-range : (1 ≤ b.efficiency) × (b.efficiency ≤ 100)
  efficiency-range = within-fact 1 100 b.efficiency (battery-rule 1)

  pub least_start : b.least ≤ b.start
  least_start = leb-true _ _ (battery-rule 2)

  pub start-most : b.start ≤ b.most
  start-most = leb-true _ _ (battery-rule 3)

  pub content-most : b.most ≤ 10_000_000_000_000
  content-most = leb-true _ _ (battery-rule 4)

  pub rating-fits : AllBelow (256 ^ 4) (b.power ∷ b.efficiency ∷ [])
  rating-fits = (omega (arith, power-most), (omega (arith, efficiency-range.1), tt))

  pub contents-fit : AllBelow (256 ^ 8) (b.least ∷ b.most ∷ b.start ∷ [])
  contents-fit =
      let p : b.start ≤ 10_000_000_000_000 = omega (arith, start-most, content-most) in
      (omega (arith, least_start), (omega (arith, content-most), (omega arith, tt)))

-- ---- a set

-- a pair's numbers, used or not
pub pair-most : (points j load rate : ℕ) → pair_right points j load rate ≡ true → (load ≤ 1_500) × (rate ≤ 10_000_000)
pair-most points j load rate h = go (ltb j points) h
  where
    go : (b : Bool) → (if b then leb load 1_500 && leb rate 10_000_000 else eqb load 0 && eqb rate 0) ≡ true → (load ≤ 1_500) × (rate ≤ 10_000_000)
    go true k = let t = both (leb load 1_500) (leb rate 10_000_000) k in (leb-true _ _ t.0, leb-true _ _ t.1)
    go false k =
        let t = both (eqb load 0) (eqb rate 0) k in
        let x = eqb-true load 0 t.0 in
        let y = eqb-true rate 0 t.1 in
        (omega arith, omega arith)

-- a set's service time
pub service-most : (interval service : ℕ) → service_right interval service ≡ true → service ≤ 2_592_000
service-most interval service h = go (eqb interval 0) h
  where
    go : (b : Bool) → (if b then eqb service 0 else within 1 2_592_000 service) ≡ true → service ≤ 2_592_000
    go true k = let x = eqb-true service 0 k in omega arith
    go false k = (within-fact 1 2_592_000 service k).1

module _ (g : GenSet) (h : set_right g ≡ true) where
  set-rule : (i : ℕ) → get_or (set_rules g) i true ≡ true
  unfolding set_right
  set-rule i = all-at (set_rules g) i h

  pub rating-range : (1 ≤ g.rating) × (g.rating ≤ 10_000_000)
  rating-range = within-fact 1 10_000_000 g.rating (set-rule 0)

  pub warmup-range : (1 ≤ g.warmup) × (g.warmup ≤ 3_600)
  warmup-range = within-fact 1 3_600 g.warmup (set-rule 1)

  pub cooldown-range : (1 ≤ g.cooldown) × (g.cooldown ≤ 3_600)
  cooldown-range = within-fact 1 3_600 g.cooldown (set-rule 2)

  pub interval-most : g.interval ≤ 100_000_000
  interval-most = leb-true _ _ (set-rule 3)

  pub service-right : service_right g.interval g.service ≡ true
  service-right = set-rule 4

  pub points-range : (2 ≤ g.points) × (g.points ≤ 5)
  points-range = within-fact 2 5 g.points (set-rule 5)

pub pair-at : (g : GenSet) → pairs_right g ≡ true → (j : ℕ) → j < 5 → (get_or g.loads j 0 ≤ 1_500) × (get_or g.rates j 0 ≤ 10_000_000)
unfolding pairs_right
pair-at g h j l =
    let p : ℕ → Bool = λ i. pair_right g.points i (get_or g.loads i 0) (get_or g.rates i 0) in
    let q : ℕ → Bool = λ i. rises g.points i (get_or g.loads i 0) (get_or g.loads (suc i) 0) in
    pair-most g.points j (get_or g.loads j 0) (get_or g.rates j 0) (to_at p 5 (both (all_to 5 p) (all_to 4 q) h).0 j l)

pub set-fits : (g : GenSet) → set_right g ≡ true → pairs_right g ≡ true → AllBelow (256 ^ 4) (set_numbers g)
set-fits g h k =
    let a = pair-at g k 0 (omega arith) in
    let b = pair-at g k 1 (omega arith) in
    let c = pair-at g k 2 (omega arith) in
    let d = pair-at g k 3 (omega arith) in
    let e = pair-at g k 4 (omega arith) in
    (omega (arith, (rating-range g h).1), (omega (arith, (warmup-range g h).1), (omega (arith, (cooldown-range g h).1), (omega (arith, interval-most g h), (omega (arith, service-most g.interval g.service (service-right g h)), (omega (arith, (points-range g h).1), (omega (arith, a.0), (omega (arith, a.1), (omega (arith, b.0), (omega (arith, b.1), (omega (arith, c.0), (omega (arith, c.1), (omega (arith, d.0), (omega (arith, d.1), (omega (arith, e.0), (omega (arith, e.1), tt))))))))))))))))

-- ---- the record

-- what the checks of 25 say of a record
pub record Right (st : Station) : Type 0 where
  pub setcount : (1 ≤ st.setcount) × (st.setcount ≤ 8)
  pub configcount : (1 ≤ st.configcount) × (st.configcount ≤ 64)
  pub values : values_right st ≡ accepted tt
  pub control : control_right st.setcount st.control ≡ true
  pub battery : battery_right st.battery ≡ true
  pub sets : sets_right 0 (take st.setcount st.sets) ≡ accepted tt
  pub configs : configurations_right st.setcount 0 (take st.configcount st.configs) ≡ accepted tt
  pub unused : every set_unused (drop st.setcount st.sets) ≡ true
  pub zero : all_zero (drop st.configcount st.configs) ≡ true

pub right_of : (st : Station) → some_file_gives st ≡ true → Right st
unfolding some_file_gives values_right
right_of st h =
    let configs : Answer (Unit {0}) = configurations_right st.setcount 0 (take st.configcount st.configs) in
    let sets : Answer (Unit {0}) = sets_right 0 (take st.setcount st.sets) in
    let v : values_right st ≡ accepted tt = is-accepted (values_right st) (all-at (station_rules st) 2 h) in
    let a = passed (control_right st.setcount st.control) 4 0 (need (battery_right st.battery) 5 0 >> (sets >> configs)) tt v in
    let b = passed (battery_right st.battery) 5 0 (sets >> configs) tt a.1 in
    let c = both-passed sets configs tt b.1 in
    record {
      setcount = within-fact 1 8 st.setcount (all-at (station_rules st) 0 h);
      configcount = within-fact 1 64 st.configcount (all-at (station_rules st) 1 h);
      values = v;
      control = a.0;
      battery = b.0;
      sets = c.0;
      configs = c.1;
      unused = all-at (station_rules st) 3 h;
      zero = all-at (station_rules st) 4 h;
    }
