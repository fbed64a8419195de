-- One accepted second: its row's numbers, the replay through it, and what demand 3 says of the row. Assumes nothing.
use Rattle.std.specs.Prelude.{if◌then◌else◌}
use Prim.Native.Nat.{ℕ, zero, suc, ◌+◌, ◌-◌, ◌*◌, ◌≤◌, ◌<◌}
use mathlib.Core.Path.{◌≡◌, sym, ap, ◌∙◌, refl, subst}
use mathlib.Core.Bool.{Bool, true}
use mathlib.Core.List.{List, [], ◌∷◌, ◌++◌, append-nil}
use native.Mathlib.Omega.{arith}
use native.Mathlib.Decide.{dec_lt}
use lib.ListN.{length, get_or, drop}
use lib.Seq.{ext_get_or}
use borrow.Author.Tests.{leb-true}
use Rattle.rules.specs.declared.station.Station.{Station}
use Rattle.rules.specs.declared.run.Inputs.{Inputs}
use Rattle.rules.specs.declared.run.Row.{Row}
use Rattle.rules.specs.declared.run.Run.{Run}
use Rattle.rules.specs.declared.run.SetState.{SetState}
use Rattle.rules.specs.Quantities.{Watts}
use Rattle.rules.specs.Numbers.{has, tab}
use Rattle.rules.specs.Bytes.{LF, parts}
use Rattle.rules.specs.Share.{capacity, share}
use Rattle.rules.specs.Modes.{state_at, is_on, ticked, on_mask}
use Rattle.rules.specs.Flows.{shed_now, solar_on_load, watts_with, watts_for}
use Rattle.rules.specs.Configuration.{mask_called}
use Rattle.rules.specs.Serving.{Serves}
use Rattle.rules.specs.RunRecord.{record_rules, possible}
use Rattle.rules.specs.Row.{columns, row_text}
use Rattle.rules.specs.Second.{states_now, on_now, cap_now, floor_now, watts_now, store_now, ran_now, held_now, call_now, commanded_now, record_after, row_after, step}
use Rattle.rules.proofs.Tests.{never, all-at, within-fact}
use Rattle.rules.proofs.Counts.{on-told, served, ran-mode, ran-clock, clock-after}
use Rattle.rules.proofs.Masks.{mask_below, mask-has}
use Rattle.rules.proofs.ReadBack.{line_of, line_first, line-numbers}
use Rattle.rules.proofs.Serving.{mode_of, clock_of, capacity-is, serves_by, serves-told, serves-means}
use Rattle.rules.proofs.Shapes.{Tables}
use Rattle.rules.proofs.StationFacts.{Right, right_of, minload-most}
use Rattle.rules.proofs.Tables.{length-tab, tab-at, has-beyond}
use Rattle.laws.specs.Admitted.{Admitted}
use Rattle.laws.proofs.AtRating.{share-full}
use Rattle.laws.proofs.Balance as balance
use Rattle.laws.proofs.Called.{chosen-covers}
use Rattle.laws.proofs.Kept.{diesel-cap, record-kept}
use Rattle.laws.proofs.Share.{all-shared}
use Rattle.claims_rules.specs.Shown.{numbers_in, in_columns, shown_in, shown, Worked}
use Rattle.claims_rules.specs.Replay.{replay_of, modes_in, mode_in, served_in, clocks_in, clock_in, counts_in, held_in, following}
use Rattle.claims_rules.specs.InRow.{AllServing, InRow}

-- ---- what is read back from a row's bytes is what was written

-- a row's line, without its LF
unfoldable pub row_line : Row → List ℕ
row_line r = line_of r.second (drop 1 (columns r))

pub row_first : (r : Row) (rest : List ℕ) → parts LF (row_text r ++ rest) ≡ row_line r ∷ parts LF rest
unfolding row_text row_line
row_first r rest = line_first r.second (drop 1 (columns r)) rest

pub row-shown : (r : Row) → shown_in (row_line r) ≡ in_columns (columns r)
unfolding shown_in numbers_in row_line
row-shown r = ap in_columns (line-numbers r.second (drop 1 (columns r)))

pub read_back : (r : Row) → shown (row_text r) ≡ in_columns (columns r)
unfolding shown
read_back r =
    ap (λ (text : List ℕ). shown_in (get_or (parts LF text) 0 [])) (sym (append-nil (row_text r)))
    ∙ ap (λ (ls : List (List ℕ)). shown_in (get_or ls 0 [])) (row_first r []) ∙ row-shown r

-- ---- the second of a record, with what its row shows

unfoldable pub worked_at : Station → Run → Inputs → Worked
worked_at st r x = record { inputs = x; row = in_columns (columns (step st r x).row) }

-- the clock that is counted is the record's, after step 8
clock-is : (st : Station) (r : Run) (x : Inputs) (i : ℕ) → i < 8 → clock_in st (replay_of r) (worked_at st r x) i ≡ clock_of (ran_now st r (watts_now st r x)) i
unfolding clocks_in modes_in worked_at step row_after ran_now states_now on_now
clock-is st r x i l =
    let states : List SetState = ticked st.sets r.sets in
    let ended : Bool = served (state_at r.sets i).mode (state_at states i).mode in
    let ran : ℕ = if has (on_mask states) i then 1 else 0 in
    tab-at (λ k. (if served_in st (replay_of r) k then 0 else get_or (tab 8 (λ j. (state_at r.sets j).clock)) k 0) + (if has (on_mask states) k then 1 else 0)) 8 i 0 l
    ∙ ap (λ (n : ℕ). (if ended then 0 else n) + ran) (tab-at (λ j. (state_at r.sets j).clock) 8 i 0 l)
    ∙ sym (ran-clock st.sets r.sets (watts_now st r x).diesel 0 i l)

clocks-follow : (st : Station) (r : Run) (x : Inputs) → clocks_in st (replay_of r) (worked_at st r x) ≡ tab 8 (λ i. (state_at (step st r x).run.sets i).clock)
unfolding clocks_in step record_after commanded_now ran_now states_now on_now
clocks-follow st r x =
    let after : ℕ → ℕ = λ i. (state_at (step st r x).run.sets i).clock in
    let size : length (clocks_in st (replay_of r) (worked_at st r x)) ≡ 8 = length-tab _ 8 in
    ext_get_or 0 (clocks_in st (replay_of r) (worked_at st r x)) (tab 8 after) (size ∙ sym (length-tab after 8)) (λ i k.
    let l : i < 8 = omega (arith, size) in
    clock-is st r x i l ∙ sym (clock-after st.sets r.sets (watts_now st r x).diesel (mask_called st.configs (call_now st r x (watts_now st r x))) i l) ∙ sym (tab-at after 8 i 0 l))

-- the replay goes on as the record does
pub follows : (st : Station) (r : Run) (x : Inputs) → following st (replay_of r) (worked_at st r x) ≡ replay_of (step st r x).run
unfolding following counts_in modes_in held_in worked_at step record_after row_after commanded_now ran_now states_now held_now
follows st r x = ap (λ (clocks : List ℕ). record {
  second = (step st r x).run.done;
  sets = (step st r x).run.sets;
  clocks = clocks;
  setpoint = (step st r x).run.setpoint;
  store = (step st r x).run.store;
  called = (step st r x).run.called;
  changed = (step st r x).run.since;
}) (clocks-follow st r x)

module _ (st : Station) (tables : Tables st) (r : Run) (x : Inputs) (h : Admitted st r x) where
  abbrev w : Watts
  w = watts_now st r x

  right : Right st
  right = right_of st h.station-given

  rule : (i : ℕ) → get_or (record_rules st r) i true ≡ true
  unfolding possible
  rule i = all-at (record_rules st r) i h.record-possible

  rule-after : (i : ℕ) → get_or (record_rules st (record_after st r x w)) i true ≡ true
  unfolding possible
  rule-after i = all-at (record_rules st (record_after st r x w)) i (record-kept st tables r x h)

  before-within : (st.battery.least ≤ r.store) × (r.store ≤ st.battery.most)
  before-within = within-fact st.battery.least st.battery.most r.store (rule 1)

  after-within : (st.battery.least ≤ store_now st r w) × (store_now st r w ≤ st.battery.most)
  unfolding record_after
  after-within = within-fact st.battery.least st.battery.most (store_now st r w) (rule-after 1)

  call-inside : call_now st r x w ≤ st.configcount
  unfolding record_after
  call-inside = leb-true (call_now st r x w) st.configcount (rule-after 2)

  -- ---- the sums of the second

  pub load-met : x.load ≡ w.diesel + w.solar + w.give + w.shed + w.unserved
  unfolding watts_now
  load-met = balance.load-met st.battery r.store (cap_now st r) (floor_now st r) (get_or r.decided 0 0) x h.sheddable-load

  pub solar-placed : x.solar ≡ w.solar + w.charge + w.spill
  unfolding watts_now
  solar-placed = balance.solar-placed st.battery r.store (cap_now st r) (floor_now st r) (get_or r.decided 0 0) x

  pub store-moves : store_now st r w + 100 * w.give ≡ r.store + w.charge * st.battery.efficiency
  unfolding store_now watts_now watts_for watts_with
  store-moves =
      let off : ℕ = shed_now x.sheddable (get_or r.decided 0 0) in
      let solar : ℕ = solar_on_load x.solar (x.load - off) (floor_now st r) in
      balance.store-moves st.battery r.store (cap_now st r) (x.load - off - solar) (x.solar - solar) before-within.0

  -- ---- the row

  on-few : (i : ℕ) → has (on_now st r) i ≡ true → i < 8
  unfolding on_now on_mask
  on-few i e = go (dec_lt i 8)
    where
      go : Dec (i < 8) → i < 8
      go (yes l) = l
      go (no l) = never (sym (has-beyond 8 (on_now st r) i (mask_below 8 _) (omega (arith, l))) ∙ e)

  all-serving : 0 < w.unserved → AllServing st r.store (worked_at st r x).row
  unfolding watts_now worked_at step row_after cap_now floor_now
  all-serving some =
      let a = balance.unserved-last st.battery r.store (cap_now st r) (floor_now st r) (get_or r.decided 0 0) x (balance.floor-most st (on_now st r) (minload-most st.setcount st.control right.control)) some in
      record {
        diesel-full = a.diesel-full ∙ sym (capacity-is st.sets (on_now st r) tables.sets-length);
        at-rating = λ i e. ap (λ (d : ℕ). share st.sets (on_now st r) d i) a.diesel-full ∙ share-full st.sets (on_now st r) i (on-few i e) e;
        none-spilled = a.none-spilled;
        none-charged = a.none-charged;
        battery-full = a.battery-full;
      }

  diesel-inside : w.diesel ≤ capacity st.sets (on_now st r)
  unfolding watts_now watts_for watts_with cap_now
  diesel-inside = diesel-cap (cap_now st r) _

  shed-inside : w.shed ≤ x.sheddable
  unfolding watts_now watts_for watts_with
  shed-inside = balance.shed-most x.sheddable (get_or r.decided 0 0)

  -- ---- the called configuration

  abbrev ran : List SetState
  ran = ran_now st r w

  mode-is : (i : ℕ) → i < 8 → mode_of ran i ≡ mode_in st (replay_of r) i
  unfolding ran_now states_now on_now modes_in
  mode-is i l = ran-mode st.sets r.sets w.diesel 0 i l

  called-serves : (j : ℕ) → Serves st (mode_of ran) (clock_of ran) (held_now st r x w) j → Serves st (mode_of ran) (clock_of ran) (held_now st r x w) (call_now st r x w)
  unfolding call_now
  called-serves zero s = absurd s
  called-serves (suc j) s =
      let m = serves-means st h.station-given tables ran (held_now st r x w) (suc j) s in
      serves-told st h.station-given tables ran (held_now st r x w) (call_now st r x w) call-inside
      (chosen-covers st tables right.configcount.1 ran (held_now st r x w) r.called r.since r.done j m.0 m.1)

  in_words : (j : ℕ) → Serves st (mode_in st (replay_of r)) (clock_in st (replay_of r) (worked_at st r x)) (held_now st r x w) j
      → Serves st (mode_in st (replay_of r)) (clock_in st (replay_of r) (worked_at st r x)) (held_now st r x w) (call_now st r x w)
  in_words j s =
      serves_by st h.station-given tables (mode_of ran) (mode_in st (replay_of r)) (clock_of ran) (clock_in st (replay_of r) (worked_at st r x)) mode-is (λ i l. sym (clock-is st r x i l)) (held_now st r x w) (call_now st r x w)
      (called-serves j
      (serves_by st h.station-given tables (mode_in st (replay_of r)) (mode_of ran) (clock_in st (replay_of r) (worked_at st r x)) (clock_of ran) (λ i l. sym (mode-is i l)) (clock-is st r x) (held_now st r x w) j s))

  pub in_row : InRow st (replay_of r) (worked_at st r x)
  unfolding worked_at step row_after modes_in held_in on_now states_now held_now on_mask
  in_row = record {
    on_line = λ i e. on-told (mode_in st (replay_of r) i) (sym (mask-has (λ j. is_on (mode_in st (replay_of r) j)) 8 i (on-few i e)) ∙ e);
    all-on-line = λ i l e. mask-has (λ j. is_on (mode_in st (replay_of r) j)) 8 i l ∙ ap is_on e;
    sets-counted = refl;
    numbered = refl;
    diesel-shared = all-shared st.sets (on_now st r) w.diesel diesel-inside;
    diesel-most = subst (λ (n : ℕ). w.diesel ≤ n) (sym (capacity-is st.sets (on_now st r) tables.sets-length)) diesel-inside;
    shed-most = shed-inside;
    store-least = after-within.0;
    store-most = after-within.1;
    unserved = all-serving;
    called = in_words;
  }
