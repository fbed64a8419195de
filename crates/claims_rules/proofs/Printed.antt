-- DEMAND 3 OF THE PRINTED TEXT, for every pair of accepted files and every accepted SECONDS. Assumes nothing.
use Rattle.std.specs.Prelude.{if◌then◌else◌}
use Prim.Native.Nat.{ℕ, zero, suc, ◌+◌, ◌≤◌, ◌<◌, min}
use mathlib.Core.Path.{◌≡◌, refl, sym, ap, ◌∙◌, subst}
use mathlib.Core.Bool.{true}
use mathlib.Core.List.{List, [], ◌∷◌, ◌++◌}
use native.Mathlib.Omega.{arith}
use native.Mathlib.Nat.{add-zero, not-suc-le-zero}
use lib.Dec.{leb}
use lib.ListN.{length, take, drop, get_or, length-append, length-take}
use lib.Seq.{get_or-append-add, get_or-take}
use borrow.Author.Tests.{leb-true}
use Rattle.rules.specs.declared.station.Station.{Station}
use Rattle.rules.specs.declared.samples.Sample.{Sample}
use Rattle.rules.specs.declared.run.Inputs.{Inputs}
use Rattle.rules.specs.declared.run.Mode.TheVariants.{Off, On}
use Rattle.rules.specs.declared.run.Run.{Run}
use Rattle.rules.specs.declared.run.SetState.{SetState}
use Rattle.rules.specs.declared.run.Step.{Step}
use Rattle.rules.specs.Numbers.{has, every}
use Rattle.rules.specs.Bytes.{LF, bytes, digits, value, parts}
use Rattle.rules.specs.Answers.{accepted, need, ◌>>◌}
use Rattle.rules.specs.StationRecord.{set_at, some_file_gives}
use Rattle.rules.specs.StationFile.{station_file}
use Rattle.rules.specs.SampleFile.{sample_file, sample_at}
use Rattle.rules.specs.Modes.{fresh, state_at}
use Rattle.rules.specs.RunRecord.{most_seconds, start_record, possible}
use Rattle.rules.specs.Row.{row_heading, row_text, set_heading, set_lines}
use Rattle.rules.specs.Commands.{commanded_all}
use Rattle.rules.specs.Second.{commanded_now, record_after, row_after, step}
use Rattle.rules.specs.Run.{seconds_asked, inputs_of, rows_from, run_of, printed}
use Rattle.rules.proofs.Checks.{passed, same-value}
use Rattle.rules.proofs.ReadBack as back
use Rattle.rules.proofs.ReadBack.{part-ended, line_first, line-numbers}
use Rattle.rules.proofs.SampleRows.{sample-right}
use Rattle.rules.proofs.Shapes.{Tables, tables-of}
use Rattle.rules.proofs.Start.{start-possible}
use Rattle.rules.proofs.StationFacts.{right_of}
use Rattle.rules.proofs.StationRead.{read-is-right}
use Rattle.rules.proofs.Tables.{length-tab}
use Rattle.laws.specs.Admitted.{Admitted}
use Rattle.laws.proofs.Kept.{record-kept}
use Rattle.claims_rules.specs.Shown.{numbers_in, Shown, Worked, rows_of}
use Rattle.claims_rules.specs.Replay.{at_first, replayed}
use Rattle.claims_rules.specs.Burned.{powers_of, sum_of, Burned}
use Rattle.claims_rules.specs.Claim.{Counted, counted_by, OverRows}
use Rattle.claims_rules.specs.Printed.{lines_of, line_of, inputs_from, printed_rows, store_after, set_numbers, counts_printed, Printed}
use Rattle.claims_rules.proofs.Seconds.{row_line, row_first, row-shown, worked_at}
use Rattle.claims_rules.proofs.Lists as lists
use Rattle.claims_rules.proofs.Lists.{Steps, worked_of}
use Rattle.claims_rules.proofs.OverRows.{over-rows}

-- ---- the headings' lines

abbrev row_head : List ℕ
row_head = bytes "t,load,shed,solar,charge,spill,give,diesel,unserved,on,sets,call,store"

abbrev set_head : List ℕ
set_head = bytes "set,run,starts,stops,energy,fuel"

row-head : (rest : List ℕ) → parts LF (row_heading ++ rest) ≡ row_head ∷ parts LF rest
unfolding row_heading bytes every
row-head rest = part-ended LF row_head rest refl

set-head : (rest : List ℕ) → parts LF (set_heading ++ rest) ≡ set_head ∷ parts LF rest
unfolding set_heading bytes every
set-head rest = part-ended LF set_head rest refl

row-head-is : row_head ++ (LF ∷ []) ≡ row_heading
unfolding row_heading bytes
row-head-is = refl

set-head-is : set_head ++ (LF ∷ []) ≡ set_heading
unfolding set_heading bytes
set-head-is = refl

-- ---- the sets' lines

abbrev counts : SetState → List ℕ
counts s = s.run ∷ s.starts ∷ s.stops ∷ s.energy ∷ s.fuel ∷ []

set_line_list : ℕ → List SetState → List (List ℕ)
set_line_list n [] = []
set_line_list n (s ∷ states) = back.line_of (suc n) (counts s) ∷ set_line_list (suc n) states

sets-lines : (n : ℕ) (states : List SetState) → parts LF (set_lines n states) ≡ set_line_list n states ++ ([] ∷ [])
unfolding set_lines set_line_list parts
sets-lines n [] = refl
sets-lines n (s ∷ states) =
    line_first (suc n) (counts s) (set_lines (suc n) states) ∙ ap (λ (l : List (List ℕ)). back.line_of (suc n) (counts s) ∷ l) (sets-lines (suc n) states)

sets-count : (n : ℕ) (states : List SetState) → length (set_line_list n states) ≡ length states
unfolding set_line_list
sets-count n [] = refl
sets-count n (s ∷ states) = ap suc (sets-count (suc n) states)

set-line-at : (n : ℕ) (states : List SetState) (i : ℕ) (rest : List (List ℕ)) → i < length states
    → numbers_in (get_or (set_line_list n states ++ rest) i []) ≡ suc (n + i) ∷ counts (get_or states i (fresh Off))
unfolding set_line_list numbers_in
set-line-at n [] i rest l = absurd (not-suc-le-zero l)
set-line-at n (s ∷ states) i rest l = go i l (λ j. set-line-at (suc n) states j rest)
  where
    go : (i : ℕ) → i < suc (length states) → ((j : ℕ) → j < length states → numbers_in (get_or (set_line_list (suc n) states ++ rest) j []) ≡ suc (suc n + j) ∷ counts (get_or states j (fresh Off)))
        → numbers_in (get_or (back.line_of (suc n) (counts s) ∷ (set_line_list (suc n) states ++ rest)) i []) ≡ suc (n + i) ∷ counts (get_or (s ∷ states) i (fresh Off))
    go zero l later = line-numbers (suc n) (counts s) ∙ ap (λ (k : ℕ). suc k ∷ counts s) (sym (add-zero n))
    go (suc i) l later = later i (omega arith) ∙ ap (λ (k : ℕ). suc k ∷ counts (get_or states i (fresh Off))) (let e : suc n + i ≡ n + suc i = omega arith in e)

-- ---- the record after some seconds

start-sets : (st : Station) → length (start_record st).sets ≡ 8
unfolding start_record
start-sets st = length-tab (λ i. fresh (if has st.control.online i then On else Off)) 8

sets_last : {st : Station} {r last : Run} {xs : List Inputs} → length r.sets ≡ 8 → Steps st r xs last → length last.sets ≡ 8
unfolding step record_after commanded_now commanded_all
sets_last h lists.none = h
sets_last h (lists.more a rest) = sets_last (length-tab _ 8) rest

store-last : {st : Station} {r last : Run} {xs : List Inputs} → Steps st r xs last → last.store ≡ store_after r.store (worked_of st r xs)
unfolding store_after worked_of worked_at step record_after row_after
store-last lists.none = refl
store-last (lists.more a rest) = store-last rest

-- ---- n seconds of an accepted sample file

module _ (st : Station) (given : some_file_gives st ≡ true) (tables : Tables st) (file : List ℕ) (samples : List Sample) (read : sample_file file ≡ accepted samples) where
  record Ran (t n : ℕ) (r : Run) : Type 0 where
    last : Run
    steps : Steps st r (inputs_from samples t n) last
    lines : List (List ℕ)
    count : length lines ≡ n
    text : parts LF (rows_from st samples n r) ≡ lines ++ parts LF (set_heading ++ set_lines 0 (take st.setcount last.sets))
    shows : (rest : List (List ℕ)) → rows_of (inputs_from samples t n) n (lines ++ rest) ≡ worked_of st r (inputs_from samples t n)

  pub admitted-at : (t : ℕ) (r : Run) → possible st r ≡ true → r.done ≡ t → t < most_seconds → Admitted st r (inputs_of (sample_at samples t))
  admitted-at t r h e l =
      let right = sample-right file samples read t in
      record {
        station-given = given;
        record-possible = h;
        not-ended = omega arith;
        load-most = right.load;
        solar-most = right.solar;
        sheddable-most = right.sheddable;
        sheddable-load = right.agrees;
      }

  pub kept_on : (r : Run) (x : Inputs) → Admitted st r x → possible st (step st r x).run ≡ true
  unfolding step
  kept_on r x h = record-kept st tables r x h

  pub done-is : (r : Run) (x : Inputs) → (step st r x).run.done ≡ r.done + 1
  unfolding step record_after
  done-is r x = refl

  ran : (n t : ℕ) (r : Run) → possible st r ≡ true → r.done ≡ t → t + n ≤ most_seconds → Ran t n r
  unfolding inputs_from rows_from rows_of worked_of worked_at
  ran zero t r h e l = record { last = r; steps = lists.none; lines = []; count = refl; text = refl; shows = λ rest. refl }
  ran (suc n) t r h e l =
      let x : Inputs = inputs_of (sample_at samples t) in
      let worked : Step = step st r x in
      let admits : Admitted st r x = admitted-at t r h e (omega arith) in
      let next : Ran (suc t) n worked.run = ran n (suc t) worked.run (kept_on r x admits) (done-is r x ∙ (let z : r.done + 1 ≡ suc t = omega arith in z)) (omega arith) in
      record {
        last = next.last;
        steps = lists.more admits next.steps;
        lines = row_line worked.row ∷ next.lines;
        count = ap suc next.count;
        text =
            ap (λ (d : ℕ). parts LF (row_text (step st r (inputs_of (sample_at samples d))).row ++ rows_from st samples n (step st r (inputs_of (sample_at samples d))).run)) e
            ∙ row_first worked.row (rows_from st samples n worked.run)
            ∙ ap (λ (ls : List (List ℕ)). row_line worked.row ∷ ls) next.text;
        shows = λ rest.
            ap (λ (row : Shown). record { inputs = x; row = row } ∷ rows_of (inputs_from samples (suc t) n) n (next.lines ++ rest)) (row-shown worked.row)
            ∙ ap (λ (ws : List Worked). worked_at st r x ∷ ws) (next.shows rest);
      }

  -- ---- the text, line by line

  module _ (n : ℕ) (few : n ≤ most_seconds) where
    abbrev first : Run
    first = start_record st

    abbrev xs : List Inputs
    xs = inputs_from samples 0 n

    whole : Ran 0 n first
    unfolding start_record
    whole = ran n 0 first (start-possible st given) refl (omega arith)

    abbrev last : Run
    last = whole.last

    abbrev sets : List SetState
    sets = take st.setcount last.sets

    abbrev text : List ℕ
    text = row_heading ++ rows_from st samples n first

    -- after the rows
    abbrev after : List (List ℕ)
    after = set_head ∷ (set_line_list 0 sets ++ ([] ∷ []))

    lines_are : lines_of text ≡ row_head ∷ (whole.lines ++ after)
    lines_are =
        row-head (rows_from st samples n first)
        ∙ ap (λ (ls : List (List ℕ)). row_head ∷ ls) (whole.text ∙ ap (λ (ls : List (List ℕ)). whole.lines ++ ls) (set-head (set_lines 0 sets) ∙ ap (λ (ls : List (List ℕ)). set_head ∷ ls) (sets-lines 0 sets)))

    sets-length : length sets ≡ st.setcount
    sets-length = length-take st.setcount last.sets ∙ (let e : min st.setcount (length last.sets) ≡ st.setcount = omega (arith, sets_last (start-sets st) whole.steps, (right_of st given).setcount.1) in e)

    -- the line at a place after the rows
    after-at : (i j : ℕ) → j ≡ suc (n + i) → line_of text j ≡ get_or after i []
    after-at i j e =
        ap (λ (ls : List (List ℕ)). get_or ls j []) lines_are
        ∙ ap (λ (k : ℕ). get_or (row_head ∷ (whole.lines ++ after)) k []) (e ∙ ap (λ (k : ℕ). suc (k + i)) (sym whole.count))
        ∙ get_or-append-add whole.lines after i []

    set-at : (i : ℕ) → i < st.setcount → set_numbers n text i ≡ suc (0 + i) ∷ counts (state_at last.sets i)
    unfolding state_at
    set-at i l =
        ap numbers_in (after-at (suc i) (n + 2 + i) (omega arith))
        ∙ set-line-at 0 sets i ([] ∷ []) (omega (arith, sets-length))
        ∙ ap (λ (s : SetState). suc (0 + i) ∷ counts s) (get_or-take st.setcount last.sets i (fresh Off) l)

    count-lines : length (lines_of text) ≡ n + st.setcount + 3
    count-lines =
        ap length lines_are
        ∙ (let e : suc (length (whole.lines ++ after)) ≡ n + st.setcount + 3
        = omega (arith, length-append whole.lines after, length-append (set_line_list 0 sets) ([] ∷ []), whole.count, sets-count 0 sets, sets-length) in e)

    nothing : line_of text (n + 2 + st.setcount) ≡ []
    nothing =
        after-at (suc (length (set_line_list 0 sets) + 0)) (n + 2 + st.setcount) (omega (arith, sets-count 0 sets, sets-length))
        ∙ get_or-append-add (set_line_list 0 sets) ([] ∷ []) 0 []

    rows_are : printed_rows samples n text ≡ worked_of st first xs
    unfolding printed_rows
    rows_are = ap (λ (ls : List (List ℕ)). rows_of xs n (drop 1 ls)) lines_are ∙ whole.shows after

    store_is : store_after st.battery.start (printed_rows samples n text) ≡ last.store
    unfolding start_record
    store_is = ap (store_after st.battery.start) rows_are ∙ sym (store-last whole.steps)

    over : OverRows st (worked_of st first xs) last.store (counted_by last)
    over = over-rows st given tables xs last whole.steps

    -- a set's counts are those on its line
    counts-are : (i : ℕ) → i < st.setcount → counted_by last i ≡ counts_printed n text i
    counts-are i l = sym (ap (λ (ns : List ℕ). record { run = get_or ns 1 0; energy = get_or ns 4 0; fuel = get_or ns 5 0 }) (set-at i l))

    abbrev powers : ℕ → List ℕ
    powers i = powers_of st i (replayed st (at_first st) (worked_of st first xs))

    holds : OverRows st (worked_of st first xs) last.store (counts_printed n text)
    holds =
        let o = over in
        record {
          load-handed = o.load-handed;
          load-shown = o.load-shown;
          solar-placed = o.solar-placed;
          store-moved = o.store-moved;
          each_row = o.each_row;
          fuel-burned = λ i l. subst (λ (c : Counted). Burned (set_at st.sets i) c.fuel (powers i)) (counts-are i l) (o.fuel-burned i l);
          run-counted = λ i l. subst (λ (c : Counted). c.run ≡ length (powers i)) (counts-are i l) (o.run-counted i l);
          energy-counted = λ i l. subst (λ (c : Counted). c.energy ≡ sum_of (powers i)) (counts-are i l) (o.energy-counted i l);
        }

    pub text-holds : Printed st samples n text
    text-holds = record {
      line-count = count-lines;
      heading = ap (λ (ls : List (List ℕ)). get_or ls 0 [] ++ (LF ∷ [])) lines_are ∙ row-head-is;
      set-heading = ap (λ (l : List ℕ). l ++ (LF ∷ [])) (after-at 0 (n + 1) (omega arith)) ∙ set-head-is;
      set-numbered = λ i l. ap (λ (ns : List ℕ). get_or ns 0 0) (set-at i l) ∙ (let e : suc (0 + i) ≡ suc i = omega arith in e);
      nothing-after = nothing;
      over-rows =
          subst (λ (rows : List Worked). OverRows st rows (store_after st.battery.start (printed_rows samples n text)) (counts_printed n text)) (sym rows_are)
          (subst (λ (store : ℕ). OverRows st (worked_of st first xs) store (counts_printed n text)) (sym store_is) holds);
    }

-- ---- the theorem

pub asked-most : (s : List ℕ) (n : ℕ) → seconds_asked s ≡ accepted n → n ≤ most_seconds
unfolding seconds_asked
asked-most s n h =
    let p = passed (digits 9 s) 18 0 (need (leb (value s) most_seconds) 23 0 >> accepted (value s)) n h in
    let q = passed (leb (value s) most_seconds) 23 0 (accepted (value s)) n p.1 in
    subst (λ (k : ℕ). k ≤ most_seconds) (same-value (value s) n q.1) (leb-true (value s) most_seconds q.0)

pub text-is : (station samples seconds : List ℕ) (st : Station) (rows : List Sample) (n : ℕ) → station_file station ≡ accepted st → sample_file samples ≡ accepted rows → seconds_asked seconds ≡ accepted n
    → printed station samples seconds ≡ row_heading ++ rows_from st rows n (start_record st)
unfolding printed run_of
text-is station samples seconds st rows n a b c = rw (a, b, c)

-- for every pair of accepted files and every accepted SECONDS
pub printed-claim : (station samples seconds : List ℕ) (st : Station) (rows : List Sample) (n : ℕ) → station_file station ≡ accepted st → sample_file samples ≡ accepted rows → seconds_asked seconds ≡ accepted n
    → Printed st rows n (printed station samples seconds)
printed-claim station samples seconds st rows n a b c =
    let right = read-is-right station st a in
    subst (Printed st rows n) (sym (text-is station samples seconds st rows n a b c)) (text-holds st right.0 (tables-of right.1) samples rows b n (asked-most seconds n c))
