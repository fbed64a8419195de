-- The rest of a possible record stays possible through a second: what is called, the totals, the decided amounts.
-- Assumes nothing.
use Rattle.std.specs.Prelude.{if◌then◌else◌}
use Prim.Native.Nat.{ℕ, suc, ◌+◌, ◌-◌, ◌*◌, ◌≤◌, ◌<◌, min}
use mathlib.Core.Path.{◌≡◌, ap, ◌∙◌}
use mathlib.Core.Bool.{Bool, true, false, ◌&&◌}
use mathlib.Core.List.{List, [], ◌∷◌}
use native.Mathlib.Omega.{arith}
use native.Mathlib.Decide.{dec_lt}
use lib.Dec.{leb, ltb, eqb}
use lib.Ieee.{Float}
use lib.ListN.{length, get_or, take, drop, length-take, length-drop, get_or-append, get_or-eq_default}
use lib.Seq.{get_or-take, get_or-drop, get_or-append-add, get_or-append_seam}
use borrow.Author.Tests.{leb-true, le-leb, lt-ltb}
use Rattle.rules.specs.declared.station.Battery.{Battery}
use Rattle.rules.specs.declared.station.Control.{Control}
use Rattle.rules.specs.declared.station.GenSet.{GenSet}
use Rattle.rules.specs.declared.station.Station.{Station}
use Rattle.rules.specs.declared.run.SetState.{SetState}
use Rattle.rules.specs.Quantities.{Watts}
use Rattle.rules.specs.Quantities.{Totals}
use Rattle.rules.specs.declared.run.Inputs.{Inputs}
use Rattle.rules.specs.Share.{capacity}
use Rattle.rules.specs.Flows.{shed_now, solar_on_load, battery_gives, battery_takes, diesel_for, watts_with, watts_for, shed_decided, decided_after}
use Rattle.rules.specs.Configuration.{mask_called, usable, usable_covering, first_covering, greatest_usable, chosen, since_after}
use Rattle.rules.specs.RunRecord.{total_rules, totals_possible, decided_possible}
use Rattle.rules.specs.Second.{plus}
use Rattle.rules.proofs.Tests.{and-true, all-at, to_at, to-all}
use Rattle.laws.proofs.Balance.{shed-most, solar-offered, gives-lacking, takes-surplus, diesel-most}

choice-most : (b : Bool) (x y most : ℕ) → x ≤ most → y ≤ most → (if b then x else y) ≤ most
choice-most true x y most h k = h
choice-most false x y most h k = k

-- ---- what is called has a number of the table

module _ (sets : List GenSet) (states : List SetState) where
  first-most : (held : Float) (n : ℕ) (masks : List ℕ) → first_covering sets states held n masks ≤ n + length masks
  unfolding first_covering
  first-most held n [] = omega arith
  first-most held n (m ∷ masks) =
      choice-most (usable_covering sets states held m) (suc n) (first_covering sets states held (suc n) masks) (n + suc (length masks)) (omega arith) (omega (arith, first-most held (suc n) masks))

  greatest-most : (best most n : ℕ) (masks : List ℕ) → best ≤ n → greatest_usable sets states best most n masks ≤ n + length masks
  unfolding greatest_usable
  greatest-most best most n [] h = omega arith
  greatest-most best most n (m ∷ masks) h =
      let better : Bool = usable sets states m && ltb most (capacity sets m) in
      let k = choice-most better (suc n) best (suc n) (omega arith) (omega arith) in
      omega (arith, greatest-most (if better then suc n else best) (if better then capacity sets m else most) (suc n) masks k)

pub chosen-most : (st : Station) (states : List SetState) (held : Float) (called since now : ℕ) → called ≤ st.configcount → chosen st states held called since now ≤ st.configcount
unfolding chosen
chosen-most st states held called since now h =
    let masks : List ℕ = take st.configcount st.configs in
    let size : length masks ≤ st.configcount = simp length-take (omega arith) in
    let first : ℕ = first_covering st.sets states held 0 masks in
    let greatest : ℕ = greatest_usable st.sets states 0 0 0 masks in
    let f : first ≤ st.configcount = omega (arith, first-most st.sets states held 0 masks) in
    let g : greatest ≤ st.configcount = omega (arith, greatest-most st.sets states 0 0 0 masks (omega arith)) in
    let keep : Bool = usable_covering st.sets states held (mask_called st.configs called) && ltb (now - since) st.control.minseconds in
    choice-most keep called (if ltb 0 first then first else greatest) st.configcount h (choice-most (ltb 0 first) first greatest st.configcount f g)

pub since-most : (call called since now : ℕ) → since ≤ now → since_after call called since now ≤ now + 1
since-most call called since now h = choice-most (eqb call called) since now (now + 1) (omega arith) (omega arith)

-- ---- totals

pub record Small (w : Watts) : Type 0 where
  pub offered : w.offered ≤ 50_000_000
  pub load : w.load ≤ 50_000_000
  pub shed : w.shed ≤ 50_000_000
  pub solar : w.solar ≤ 50_000_000
  pub charge : w.charge ≤ 50_000_000
  pub spill : w.spill ≤ 50_000_000
  pub give : w.give ≤ 50_000_000
  pub diesel : w.diesel ≤ 50_000_000
  pub unserved : w.unserved ≤ 50_000_000

with-small : (b : Battery) (store cap : ℕ) (x : Inputs) (off solar : ℕ) → x.load ≤ 50_000_000 → x.solar ≤ 50_000_000 → off ≤ 50_000_000 → solar ≤ x.solar → Small (watts_with b store cap x off solar)
unfolding watts_with
with-small b store cap x off solar load offered shed used =
    let rest : ℕ = x.load - off - solar in
    let r : rest ≤ 50_000_000 = omega arith in
    let g : battery_gives b store cap rest ≤ 50_000_000 = omega (arith, gives-lacking b store cap rest) in
    let d : diesel_for cap (rest - battery_gives b store cap rest) ≤ 50_000_000 = omega (arith, diesel-most cap (rest - battery_gives b store cap rest)) in
    let c : battery_takes b store (x.solar - solar) ≤ 50_000_000 = omega (arith, takes-surplus b store (x.solar - solar)) in
    record {
      offered = offered;
      load = load;
      shed = shed;
      solar = omega arith;
      charge = c;
      spill = omega arith;
      give = g;
      diesel = d;
      unserved = omega arith;
    }

pub watts-small : (b : Battery) (store cap floor decided : ℕ) (x : Inputs) → x.load ≤ 50_000_000 → x.solar ≤ 50_000_000 → x.sheddable ≤ 50_000_000 → Small (watts_for b store cap floor decided x)
unfolding watts_for
watts-small b store cap floor decided x load offered sheddable =
    let off : ℕ = shed_now x.sheddable decided in
    with-small b store cap x off (solar_on_load x.solar (x.load - off) floor) load offered (omega (arith, shed-most x.sheddable decided)) (solar-offered x.solar (x.load - off) floor)

one_more : (t w done : ℕ) → leb t (50_000_000 * done) ≡ true → w ≤ 50_000_000 → leb (t + w) (50_000_000 * (done + 1)) ≡ true
one_more t w done h k = let a = leb-true t (50_000_000 * done) h in le-leb (t + w) (50_000_000 * (done + 1)) (omega arith)

pub totals-kept : (t : Totals) (w : Watts) (done : ℕ) → Small w → totals_possible t (50_000_000 * done) ≡ true → totals_possible (plus t w) (50_000_000 * (done + 1)) ≡ true
totals-kept t w done s h =
    let rule : (i : ℕ) → get_or (total_rules t (50_000_000 * done)) i true ≡ true = λ i. all-at (total_rules t (50_000_000 * done)) i h in
    and-true
    (and-true
    (and-true
    (and-true
    (and-true
    (and-true
    (and-true (and-true (one_more t.offered w.offered done (rule 0) s.offered) (one_more t.load w.load done (rule 1) s.load)) (one_more t.shed w.shed done (rule 2) s.shed))
    (one_more t.solar w.solar done (rule 3) s.solar))
    (one_more t.charge w.charge done (rule 4) s.charge))
    (one_more t.spill w.spill done (rule 5) s.spill))
    (one_more t.give w.give done (rule 6) s.give))
    (one_more t.diesel w.diesel done (rule 7) s.diesel))
    (one_more t.unserved w.unserved done (rule 8) s.unserved)

-- ---- the decided amounts

pub shed-decided-most : (c : Control) (cap load solar sheddable : ℕ) → shed_decided c cap load solar sheddable ≤ sheddable
unfolding shed_decided
shed-decided-most c cap load solar sheddable = omega arith

-- what an amount may be at a place
abbrev limit : ℕ → ℕ → ℕ
limit delay j = if ltb j delay then 50_000_000 else 0

small-held : (delay j v : ℕ) → j < delay → v ≤ 50_000_000 → leb v (limit delay j) ≡ true
small-held delay j v h k = rw (lt-ltb j delay h) (le-leb v 50_000_000 k)

module _ (amounts : List ℕ) (delay new : ℕ) (some : 1 ≤ delay) where
  abbrev front : List ℕ
  front = take (delay - 1) (drop 1 amounts)

  front-size : length front ≡ min (delay - 1) (length amounts - 1)
  front-size = length-take (delay - 1) (drop 1 amounts) ∙ ap (min (delay - 1)) (length-drop 1 amounts)

  before : (j : ℕ) → j < length front → (get_or (decided_after delay amounts new) j 0 ≡ get_or amounts (1 + j) 0) × (1 + j < delay)
  unfolding decided_after
  before j h =
      let k : j < delay - 1 = omega (arith, front-size) in
      (get_or-append front (new ∷ drop delay amounts) 0 j h ∙ get_or-take (delay - 1) (drop 1 amounts) j 0 k ∙ get_or-drop 1 amounts j 0, omega arith)

  here : get_or (decided_after delay amounts new) (length front) 0 ≡ new
  unfolding decided_after
  here = get_or-append_seam front new (drop delay amounts) 0

  after : (k : ℕ) → get_or (decided_after delay amounts new) (length front + suc k) 0 ≡ get_or amounts (delay + k) 0
  unfolding decided_after
  after k = get_or-append-add front (new ∷ drop delay amounts) (suc k) 0 ∙ get_or-drop delay amounts k 0

  module _ (most : delay ≤ 60) (small : new ≤ 50_000_000) (held : (j : ℕ) → j < 60 → leb (get_or amounts j 0) (limit delay j) ≡ true) where
    held-before : (j : ℕ) → j < length front → leb (get_or (decided_after delay amounts new) j 0) (limit delay j) ≡ true
    held-before j h =
        let b = before j h in
        let v : leb (get_or amounts (1 + j) 0) 50_000_000 ≡ true = rw (lt-ltb (1 + j) delay b.1) at (held (1 + j) (omega (arith, b.1))) in
        small-held delay j (get_or (decided_after delay amounts new) j 0) (omega (arith, b.1)) (rw b.0 (leb-true (get_or amounts (1 + j) 0) 50_000_000 v))

    held-here : leb (get_or (decided_after delay amounts new) (length front) 0) (limit delay (length front)) ≡ true
    held-here = small-held delay (length front) (get_or (decided_after delay amounts new) (length front) 0) (omega (arith, front-size)) (rw here small)

    held_after : (k : ℕ) → length front + suc k < 60 → Dec (length amounts < delay) → leb (get_or (decided_after delay amounts new) (length front + suc k) 0) (limit delay (length front + suc k)) ≡ true
    held_after k h (yes short) =
        let z : get_or (decided_after delay amounts new) (length front + suc k) 0 ≡ 0 = after k ∙ get_or-eq_default amounts 0 (omega arith) in
        rw z (le-leb 0 (limit delay (length front + suc k)) (omega arith))
    held_after k h (no long) =
        let e : delay + k ≡ length front + suc k = omega (arith, front-size, long) in
        rw (after k, ← e) (held (delay + k) (omega arith))

    held_at : (j : ℕ) → j < 60 → Dec (j < length front) → Dec (length front < j) → leb (get_or (decided_after delay amounts new) j 0) (limit delay j) ≡ true
    held_at j h (yes k) d = held-before j k
    held_at j h (no k) (no l) = let e : j ≡ length front = omega (arith, k, l) in rw e held-here
    held_at j h (no k) (yes l) =
        let e : j ≡ length front + suc (j - length front - 1) = omega arith in
        rw e (held_after (j - length front - 1) (omega arith) (dec_lt (length amounts) delay))

pub decided-kept : (delay : ℕ) (amounts : List ℕ) (new : ℕ) → 1 ≤ delay → delay ≤ 60 → new ≤ 50_000_000 → decided_possible delay amounts ≡ true → decided_possible delay (decided_after delay amounts new) ≡ true
unfolding decided_possible
decided-kept delay amounts new some most small h =
    to-all _ 60
    λ j l. held_at amounts delay new some most small (λ i k. to_at (λ n. leb (get_or amounts n 0) (limit delay n)) 60 h i k) j l (dec_lt j (length (front amounts delay new some))) (dec_lt (length (front amounts delay new some)) j)
