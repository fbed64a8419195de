-- Document 01, step 10: the rules' test of a configuration is what the words of specs/Serving.antt say, both ways, of a station that some
-- file gives. Assumes nothing.
use Rattle.std.specs.Prelude.{if◌then◌else◌}
use Prim.Native.Nat.{ℕ, zero, suc, ◌+◌, ◌≤◌, ◌<◌}
use mathlib.Core.Path.{◌≡◌, refl, sym, ap, subst, ◌∙◌}
use mathlib.Core.Bool.{Bool, true, false, not, ◌||◌}
use mathlib.Core.List.{List, [], ◌∷◌}
use native.Mathlib.Omega.{arith}
use native.Mathlib.Decide.{dec_lt}
use native.Mathlib.Nat.{not-suc-le-zero, add-zero, zero-add}
use lib.Dec.{leb, ltb}
use lib.Ieee.{Float}
use lib.ListN.{length, take, get_or, length-take}
use lib.Seq.{get_or-take}
use borrow.Author.Tests.{leb-true, le-leb, ltb-true, lt-ltb}
use Rattle.rules.specs.declared.station.GenSet.{GenSet}
use Rattle.rules.specs.declared.station.Station.{Station}
use Rattle.rules.specs.declared.run.Mode.{Mode}
use Rattle.rules.specs.declared.run.Mode.TheVariants.{Off, Warming, On, Cooling, Service}
use Rattle.rules.specs.declared.run.SetState.{SetState}
use Rattle.rules.specs.Numbers.{has, existing_only, sum_to, all_to}
use Rattle.rules.specs.Answers.{accepted}
use Rattle.rules.specs.StationRecord.{set_at, configuration_right, configurations_right, some_file_gives}
use Rattle.rules.specs.Share.{running_total, capacity}
use Rattle.rules.specs.Modes.{state_at, due, in_service}
use Rattle.rules.specs.Setpoint.{covers}
use Rattle.rules.specs.Configuration.{mask_called, usable, usable_covering}
use Rattle.rules.specs.Serving.{Due, Usable, ratings_from, Serves}
use Rattle.rules.proofs.Tests.{never, both, and-true, to_at, to-all}
use Rattle.rules.proofs.Checks.{passed}
use Rattle.rules.proofs.Tables.{has-beyond}
use Rattle.rules.proofs.Shapes.{Tables}
use Rattle.rules.proofs.StationFacts.{mask_below, Right, right_of}

-- the modes and clocks of some states
abbrev pub mode_of : List SetState → ℕ → Mode
mode_of states i = (state_at states i).mode

abbrev pub clock_of : List SetState → ℕ → ℕ
clock_of states i = (state_at states i).clock

-- ---- due, and in Service

due-means : (g : GenSet) (s : SetState) → Due g s.clock → due g s ≡ true
unfolding due
due-means g s d = and-true (lt-ltb 0 g.interval d.some-interval) (le-leb g.interval s.clock d.reached)

due-told : (g : GenSet) (s : SetState) → due g s ≡ true → Due g s.clock
unfolding due
due-told g s h =
    let t = both (ltb 0 g.interval) (leb g.interval s.clock) h in
    record { some-interval = ltb-true 0 g.interval t.0; reached = leb-true g.interval s.clock t.1 }

service-told : (m : Mode) → in_service m ≡ true → (n : ℕ) × (m ≡ Service n)
service-told Off h = never h
service-told (Warming n) h = never h
service-told On h = never h
service-told (Cooling n) h = never h
service-told (Service n) h = (n, refl)

-- ---- of one set: it is not in the mask, or neither due nor in Service

barring : (m d s : Bool) → not m || not (d || s) ≡ true → m ≡ true → (d ≡ true → ⊥) × (s ≡ true → ⊥)
barring true true s h e = never h
barring true false true h e = never h
barring true false false h e = (λ q. never q, λ q. never q)
barring false d s h e = never e

not-barring : (m d s : Bool) → (m ≡ true → (d ≡ true → ⊥) × (s ≡ true → ⊥)) → not m || not (d || s) ≡ true
not-barring true true s h = absurd ((h refl).0 refl)
not-barring true false true h = absurd ((h refl).1 refl)
not-barring true false false h = refl
not-barring false d s h = refl

-- ---- ratings summed

sum-front : (n : ℕ) (f : ℕ → ℕ) → sum_to (suc n) f ≡ f 0 + sum_to n (λ i. f (suc i))
unfolding sum_to
sum-front zero f = omega arith
sum-front (suc n) f = omega (arith, sum-front n f)

sum_same : (n : ℕ) (f g : ℕ → ℕ) → ((k : ℕ) → f k ≡ g k) → sum_to n f ≡ sum_to n g
unfolding sum_to
sum_same zero f g h = refl
sum_same (suc n) f g h = omega (arith, sum_same n f g h, h n)

-- what the set at place i + k adds
abbrev rated : ℕ → ℕ → List GenSet → ℕ → ℕ
rated mask i sets k = if has mask (i + k) then (set_at sets k).rating else 0

ratings-are : (mask i : ℕ) (sets : List GenSet) → ratings_from mask i sets ≡ sum_to (length sets) (rated mask i sets)
unfolding ratings_from sum_to set_at
ratings-are mask i [] = refl
ratings-are mask i (g ∷ gs) =
    let here : rated mask i (g ∷ gs) 0 ≡ (if has mask i then g.rating else 0) = ap (λ (n : ℕ). if has mask n then g.rating else 0) (add-zero i) in
    let there : sum_to (length gs) (rated mask (suc i) gs) ≡ sum_to (length gs) (λ k. rated mask i (g ∷ gs) (suc k)) =
    sum_same (length gs) (rated mask (suc i) gs) (λ k. rated mask i (g ∷ gs) (suc k)) (λ k. ap (λ (n : ℕ). if has mask n then (set_at gs k).rating else 0) (let e : suc i + k ≡ i + suc k = omega arith in e)) in
    omega (arith, here, there, ratings-are mask (suc i) gs, sum-front (length gs) (rated mask i (g ∷ gs)))

pub capacity-is : (sets : List GenSet) (mask : ℕ) → length sets ≡ 8 → ratings_from mask 0 sets ≡ capacity sets mask
unfolding capacity running_total
capacity-is sets mask e = ratings-are mask 0 sets ∙ rw e (sum_same 8 (rated mask 0 sets) (λ i. if has mask i then (set_at sets i).rating else 0) (λ k. ap (λ (n : ℕ). if has mask n then (set_at sets k).rating else 0) (zero-add k)))

-- ---- the masks of the table: "not zero, existing sets only"

masks-right : (setcount n : ℕ) (masks : List ℕ) → configurations_right setcount n masks ≡ accepted tt → (j : ℕ) → j < length masks → configuration_right setcount (get_or masks j 0) ≡ true
unfolding configurations_right
masks-right setcount n [] h j l = absurd (not-suc-le-zero l)
masks-right setcount n (m ∷ masks) h j l =
    let t = passed (configuration_right setcount m) 8 (suc n) (configurations_right setcount (suc n) masks) tt h in
    go j l t.0 (λ i. masks-right setcount (suc n) masks t.1 i)
  where
    go : (j : ℕ) → j < suc (length masks) → configuration_right setcount m ≡ true → ((i : ℕ) → i < length masks → configuration_right setcount (get_or masks i 0) ≡ true)
        → configuration_right setcount (get_or (m ∷ masks) j 0) ≡ true
    go zero l here later = here
    go (suc j) l here later = later j (omega arith)

module _ (st : Station) (given : some_file_gives st ≡ true) (tables : Tables st) where
  right : Right st
  right = right_of st given

  mask-right : (j : ℕ) → j < st.configcount → configuration_right st.setcount (get_or st.configs j 0) ≡ true
  mask-right j l =
      let masks : List ℕ = take st.configcount st.configs in
      let size : length masks ≡ st.configcount = length-take st.configcount st.configs ∙ (omega (arith, tables.configs-length, right.configcount.1)) in
      rw (get_or-take st.configcount st.configs j 0 l) at (masks-right st.setcount 0 masks right.configs j (omega (arith, size)))

  -- a set of such a mask is one of the eight
  has-few : (mask i : ℕ) → existing_only st.setcount mask ≡ true → has mask i ≡ true → i < 8
  has-few mask i e h = go (dec_lt i 8)
    where
      go : Dec (i < 8) → i < 8
      go (yes l) = l
      go (no l) = never (sym (has-beyond 8 mask i (mask_below st.setcount mask right.setcount.1 e) (omega (arith, l))) ∙ h)

  -- no other modes and clocks are looked at
  pub serves_by : (mode mode' : ℕ → Mode) (clock clock' : ℕ → ℕ) → ((i : ℕ) → i < 8 → mode i ≡ mode' i) → ((i : ℕ) → i < 8 → clock i ≡ clock' i)
      → (held : Float) (call : ℕ) → Serves st mode clock held call → Serves st mode' clock' held call
  serves_by mode mode' clock clock' modes clocks held zero s = s
  serves_by mode mode' clock clock' modes clocks held (suc j) s =
      let mask : ℕ = get_or st.configs j 0 in
      let r = both (ltb 0 mask) (existing_only st.setcount mask) (mask-right j s.0) in (
        s.0,
        record {
          none-due = λ i e d. s.1.none-due i e (subst (λ (n : ℕ). Due (set_at st.sets i) n) (sym (clocks i (has-few mask i r.1 e))) d);
          none-in-service = λ i n e q. s.1.none-in-service i n e (modes i (has-few mask i r.1 e) ∙ q);
        },
        s.2,
      )

module _ (st : Station) (given : some_file_gives st ≡ true) (tables : Tables st) (states : List SetState) where
  abbrev free : ℕ → ℕ → Bool
  free mask i = not (has mask i) || not (due (set_at st.sets i) (state_at states i) || in_service (state_at states i).mode)

  -- ---- from the test to the words

  pub usable-told : (j : ℕ) → j < st.configcount → usable st.sets states (get_or st.configs j 0) ≡ true → Usable st.sets (mode_of states) (clock_of states) (get_or st.configs j 0)
  unfolding usable
  usable-told j l h =
      let mask : ℕ = get_or st.configs j 0 in
      let r = both (ltb 0 mask) (existing_only st.setcount mask) (mask-right st given tables j l) in
      let t = both (ltb 0 mask) (all_to 8 (free mask)) h in
      let at : (i : ℕ) → has mask i ≡ true → (due (set_at st.sets i) (state_at states i) ≡ true → ⊥) × (in_service (state_at states i).mode ≡ true → ⊥) =
      λ i e. barring (has mask i) _ _ (to_at (free mask) 8 t.1 i (has-few st given tables mask i r.1 e)) e in
      record {
        none-due = λ i e d. (at i e).0 (due-means (set_at st.sets i) (state_at states i) d);
        none-in-service = λ i n e s. (at i e).1 (ap in_service s);
      }

  pub serves-told : (held : Float) (call : ℕ) → call ≤ st.configcount → usable_covering st.sets states held (mask_called st.configs call) ≡ true → Serves st (mode_of states) (clock_of states) held call
  unfolding usable_covering mask_called usable covers
  serves-told held zero l h = never h
  serves-told held (suc j) l h =
      let t = both (usable st.sets states (get_or st.configs j 0)) (covers held (capacity st.sets (get_or st.configs j 0))) h in
      (l, usable-told j l t.0, rw (capacity-is st.sets (get_or st.configs j 0) tables.sets-length) t.1)

  -- ---- and back

  pub serves-means : (held : Float) (call : ℕ) → Serves st (mode_of states) (clock_of states) held call
      → (call ≤ st.configcount) × (usable_covering st.sets states held (mask_called st.configs call) ≡ true)
  unfolding usable_covering mask_called usable covers
  serves-means held zero s = absurd s
  serves-means held (suc j) s =
      let mask : ℕ = get_or st.configs j 0 in
      let r = both (ltb 0 mask) (existing_only st.setcount mask) (mask-right st given tables j s.0) in
      let each : (i : ℕ) → i < 8 → free mask i ≡ true = λ i k. not-barring (has mask i) _ _ (λ e. (
        λ d. s.1.none-due i e (due-told (set_at st.sets i) (state_at states i) d),
        λ d. let v = service-told (state_at states i).mode d in s.1.none-in-service i v.0 e v.1,
      )) in
      (s.0, and-true (and-true r.0 (to-all (free mask) 8 each)) (rw (capacity-is st.sets mask tables.sets-length) at s.2))
