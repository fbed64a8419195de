-- Each call's refusals are those of its own table, with their places. Assumes nothing.
use Prim.Native.Nat.{ℕ, zero, suc, ◌+◌, ◌≤◌}
use mathlib.Core.Path.{◌≡◌, refl}
use mathlib.Core.Bool.{Bool, true, false, not, ◌&&◌, ◌||◌}
use mathlib.Core.List.{List, [], ◌∷◌, ◌++◌}
use native.Mathlib.Omega.{arith}
use lib.Count.{ones}
use lib.Dec.{leb, ltb, eqb}
use lib.ListN.{length, get_or, take, length-take}
use Rattle.rules.specs.declared.station.GenSet.{GenSet}
use Rattle.rules.specs.declared.station.Station.{Station}
use Rattle.rules.specs.declared.run.Run.{Run}
use Rattle.rules.specs.declared.run.Inputs.{Inputs}
use Rattle.rules.specs.Numbers.{within, existing_only, all_to, tab}
use Rattle.rules.specs.Bytes.{point, digits, value, parts}
use Rattle.rules.specs.Lines.{Line, lines, cells_of}
use Rattle.rules.specs.Answers.{Answer, accepted, refused, need, ◌>>=◌, ◌>>◌}
use Rattle.rules.specs.StationRecord.{control_right, battery_right, set_right, pairs_right, configuration_right, sets_right, configurations_right, values_right, some_file_gives}
use Rattle.rules.specs.StationFile.{count_at, configs_offset, entry_right, record_of, contents_right, station_file}
use Rattle.rules.specs.SampleFile.{Sheet, sample_sheet, name_of, occurs, headings, heading_line, limited, time_cell, power_cell, power_form, power_value, cell, cell_values, value_under, row_values, time_in, later_rows, rows_after, sheet_lines, sample_file}
use Rattle.rules.specs.Share.{capacity}
use Rattle.rules.specs.RunRecord.{start, possible, most_seconds}
use Rattle.rules.specs.Second.{inputs_right, admitted, second}
use Rattle.rules.specs.Sizing.{share_asked, rate_asked, share_of, rate_of}
use Rattle.rules.specs.Run.{seconds_asked, run_of}
use Rattle.rules.specs.RefusalTables.{Fault, fault, listed, RefusedIn, station_faults, sample_faults, seconds_faults, run_faults, sizing_faults, start_faults, second_faults}
use Rattle.rules.proofs.Tests.{never, within-fact, fact-within}
use Rattle.rules.proofs.StationRead.{Contents, contents}

-- ---- one check after another

-- a check whose refusal the table lists, and the rest where it passed
checked : {A : Type 0} (t : List Fault) (b : Bool) (n p : ℕ) (rest : Answer A) → listed t n p ≡ true → (b ≡ true → RefusedIn t rest) → RefusedIn t (need b n p >> rest)
checked t true n p rest h k = k refl
checked t false n p rest h k = h

-- a check with nothing after it
last-check : (t : List Fault) (b : Bool) (n p : ℕ) → listed t n p ≡ true → RefusedIn t (need b n p)
last-check t true n p h = tt
last-check t false n p h = h

-- checks made of others
then-in : {A B : Type 0} (t : List Fault) (a : Answer A) (b : Answer B) → RefusedIn t a → RefusedIn t b → RefusedIn t (a >> b)
then-in t (accepted a) b h k = k
then-in t (refused n p) b h k = h

-- the same, the rest where they passed
after-in : {B : Type 0} (t : List Fault) (a : Answer (Unit {0})) (b : Answer B) → RefusedIn t a → (a ≡ accepted tt → RefusedIn t b) → RefusedIn t (a >> b)
after-in t (accepted a) b h k = k refl
after-in t (refused n p) b h k = h

bind-in : {A B : Type 0} (t : List Fault) (a : Answer A) (f : A → Answer B) → RefusedIn t a → ((x : A) → RefusedIn t (f x)) → RefusedIn t (a >>= f)
bind-in t (accepted a) f h k = k a
bind-in t (refused n p) f h k = h

-- a longer table lists what a part of it lists
or_right : (a b : Bool) → b ≡ true → a || b ≡ true
or_right true b h = refl
or_right false b h = h

or_left : (a b : Bool) → a ≡ true → a || b ≡ true
or_left true b h = refl
or_left false b h = never h

or_cases : (a b : Bool) {P : Type 0} → a || b ≡ true → (a ≡ true → P) → (b ≡ true → P) → P
or_cases true b h f g = f refl
or_cases false b h f g = g h

listed-left : (t u : List Fault) (n p : ℕ) → listed t n p ≡ true → listed (t ++ u) n p ≡ true
unfolding listed
listed-left [] u n p h = never h
listed-left (f ∷ t) u n p h =
    let here : Bool = eqb f.number n && within f.least f.most p in
    or_cases here (listed t n p) h (or_left here (listed (t ++ u) n p)) (λ k. or_right here (listed (t ++ u) n p) (listed-left t u n p k))

listed-right : (t u : List Fault) (n p : ℕ) → listed u n p ≡ true → listed (t ++ u) n p ≡ true
unfolding listed
listed-right [] u n p h = h
listed-right (f ∷ t) u n p h =
    or_right (eqb f.number n && within f.least f.most p) (listed (t ++ u) n p) (listed-right t u n p h)

in_left : {A : Type 0} (t u : List Fault) (a : Answer A) → RefusedIn t a → RefusedIn (t ++ u) a
in_left t u (accepted a) h = tt
in_left t u (refused n p) h = listed-left t u n p h

in_right : {A : Type 0} (t u : List Fault) (a : Answer A) → RefusedIn u a → RefusedIn (t ++ u) a
in_right t u (accepted a) h = tt
in_right t u (refused n p) h = listed-right t u n p h

-- a fault's place is in its range, and its row is found in the table whatever follows it
in-range : (least most p : ℕ) (more : Bool) → least ≤ p → p ≤ most → within least most p || more ≡ true
in-range least most p more h k = or_left (within least most p) more (fact-within least most p h k)

-- ---- the station file

sets-in : (n : ℕ) (gs : List GenSet) → n + length gs ≤ 8 → RefusedIn station_faults (sets_right n gs)
unfolding sets_right listed
sets-in n [] h = tt
sets-in n (g ∷ gs) h =
    let place : within 1 8 (suc n) || false ≡ true = in-range 1 8 (suc n) false (omega arith) (omega arith) in
    checked station_faults (set_right g) _ _ _ place
    λ e. checked station_faults (pairs_right g) _ _ _ place
    λ f. sets-in (suc n) gs (omega arith)

configurations-in : (setcount n : ℕ) (masks : List ℕ) → n + length masks ≤ 64 → RefusedIn station_faults (configurations_right setcount n masks)
unfolding configurations_right listed
configurations-in setcount n [] h = tt
configurations-in setcount n (m ∷ masks) h =
    checked station_faults (configuration_right setcount m) _ _ _ (in-range 1 64 (suc n) false (omega arith) (omega arith))
    λ e. configurations-in setcount (suc n) masks (omega arith)

values-in : (st : Station) → st.setcount ≤ 8 → st.configcount ≤ 64 → RefusedIn station_faults (values_right st)
unfolding values_right listed
values-in st h k =
    let a : length (take st.setcount st.sets) ≤ 8 = simp length-take (omega arith) in
    let b : length (take st.configcount st.configs) ≤ 64 = simp length-take (omega arith) in
    checked station_faults (control_right st.setcount st.control) _ _ _ refl
    λ e. checked station_faults (battery_right st.battery) _ _ _ refl
    λ f. then-in station_faults (sets_right 0 (take st.setcount st.sets)) _ (sets-in 0 (take st.setcount st.sets) (omega arith)) (configurations-in st.setcount 0 (take st.configcount st.configs) (omega arith))

contents-in : (s : List ℕ) → RefusedIn station_faults (contents_right s)
unfolding contents_right listed
contents-in s =
    checked station_faults (within 165 676 (length s)) _ _ _ refl
    λ a. checked station_faults (entry_right s 0 1 1 1 32) _ _ _ refl
    λ b. checked station_faults (entry_right s 1 2 1 1 68) _ _ _ refl
    λ c. checked station_faults (entry_right s 2 3 1 8 100) _ _ _ refl
    λ d. checked station_faults (entry_right s 3 4 1 64 (configs_offset (count_at s 2))) _ _ _ refl
    λ e. last-check station_faults (eqb (length s) (configs_offset (count_at s 2) + count_at s 3)) _ _ refl

record-in : (s : List ℕ) → Contents s → RefusedIn station_faults (values_right (record_of s))
unfolding record_of
record-in s c =
    values-in (record_of s) (within-fact 1 8 (count_at s 2) c.sets-in-range).1 (within-fact 1 64 (count_at s 3) c.configs-in-range).1

pub station-refusals : (s : List ℕ) → RefusedIn station_faults (station_file s)
unfolding station_file
station-refusals s =
    after-in station_faults (contents_right s) _ (contents-in s)
    λ h. then-in station_faults (values_right (record_of s)) _ (record-in s (contents s h)) tt

-- ---- the sample file

headings-in : (k : ℕ) (names : List (List ℕ)) (columns : List ℕ) (hs : List (List ℕ)) → RefusedIn (sample_faults k) (headings names columns hs)
unfolding headings listed
headings-in k names columns [] = tt
headings-in k names columns (h ∷ hs) =
    checked (sample_faults k) (ltb 0 (length h)) _ _ _ refl
    λ a. checked (sample_faults k) (ltb (name_of names h) (length names)) _ _ _ refl
    λ b. checked (sample_faults k) (not (occurs (name_of names h) columns)) _ _ _ refl
    λ c. headings-in k names (columns ++ (name_of names h ∷ [])) hs

heading-in : (k : ℕ) (names : List (List ℕ)) (l : Line) → 1 ≤ k → RefusedIn (sample_faults k) (heading_line names l)
unfolding heading_line listed
heading-in k names l h =
    checked (sample_faults k) (leb l.size 512) _ _ _ (in-range 1 k 1 false (omega arith) h)
    λ a. checked (sample_faults k) (eqb (name_of names (get_or (cells_of l) 0 [])) 0) _ _ _ refl
    λ b. bind-in (sample_faults k) (headings names [] (cells_of l)) _ (headings-in k names [] (cells_of l))
    λ columns. checked (sample_faults k) (all_to (length names) (λ name. occurs name columns)) _ _ _ refl
    λ d. tt

module _ (k line : ℕ) (first : 2 ≤ line) (last : line ≤ k) where
  limited-in : (limit : ℕ) (well_formed : Bool) (v : ℕ) → RefusedIn (sample_faults k) (limited line limit well_formed v)
  unfolding listed
  limited-in limit well_formed v =
      checked (sample_faults k) well_formed _ _ _ (in-range 2 k line false first last)
      λ a. checked (sample_faults k) (leb v limit) _ _ _ (in-range 2 k line false first last)
      λ b. tt

  cell_in : (limits : List ℕ) (name : ℕ) (c : List ℕ) → RefusedIn (sample_faults k) (cell line limits name c)
  unfolding cell time_cell power_cell
  cell_in limits zero c = limited-in (get_or limits 0 0) (digits 9 c) (value c)
  cell_in limits (suc name) c = limited-in (get_or limits (suc name) 0) (power_form (parts point c)) (power_value (parts point c))

  cells_in : (limits columns : List ℕ) (cs : List (List ℕ)) → RefusedIn (sample_faults k) (cell_values line limits columns cs)
  unfolding cell_values
  cells_in limits [] cs = tt
  cells_in limits (name ∷ columns) [] = tt
  cells_in limits (name ∷ columns) (c ∷ cs) =
      bind-in (sample_faults k) (cell line limits name c) _ (cell_in limits name c)
      λ v. bind-in (sample_faults k) (cell_values line limits columns cs) _ (cells_in limits columns cs)
      λ vs. tt

  row_in : (sheet : Sheet) (columns : List ℕ) (l : Line) → RefusedIn (sample_faults k) (row_values sheet columns line l)
  unfolding row_values listed
  row_in sheet columns l =
      checked (sample_faults k) (leb l.size 512) _ _ _ (in-range 1 k line false (omega arith) last)
      λ a. checked (sample_faults k) (eqb (length (cells_of l)) (length columns)) _ _ _ (in-range 2 k line false first last)
      λ b. bind-in (sample_faults k) (cell_values line sheet.limits columns (cells_of l)) _ (cells_in sheet.limits columns (cells_of l))
      λ vs. checked (sample_faults k) (sheet.agree (tab (length sheet.names) (λ name. value_under name columns vs))) _ _ _ (in-range 2 k line false first last)
      λ d. tt

later-in : (k : ℕ) (sheet : Sheet) (columns : List ℕ) (line last : ℕ) (ls : List Line) → 2 ≤ line → line + length ls ≤ suc k → RefusedIn (sample_faults k) (later_rows sheet columns line last ls)
unfolding later_rows
later-in k sheet columns line last [] h e = tt
later-in k sheet columns line last (l ∷ ls) h e =
    bind-in (sample_faults k) (row_values sheet columns line l) _ (row_in k line h (omega arith) sheet columns l)
    λ values. bind-in (sample_faults k) (later_rows sheet columns (suc line) _ ls) _ (later-in k sheet columns (suc line) _ ls (omega arith) (omega arith))
    λ rows. tt

rows_in : (k : ℕ) (sheet : Sheet) (columns : List ℕ) (ls : List Line) → suc (length ls) ≤ k → RefusedIn (sample_faults k) (rows_after sheet columns ls)
unfolding rows_after listed
rows_in k sheet columns [] h = refl
rows_in k sheet columns (l ∷ ls) h =
    bind-in (sample_faults k) (row_values sheet columns 2 l) _ (row_in k 2 (omega arith) (omega arith) sheet columns l)
    λ values. checked (sample_faults k) (eqb (time_in values) 0) _ _ _ refl
    λ a. bind-in (sample_faults k) (later_rows sheet columns 3 (time_in values) ls) _ (later-in k sheet columns 3 (time_in values) ls (omega arith) (omega arith))
    λ rows. tt

sheet-in : (sheet : Sheet) (ls : List Line) → RefusedIn (sample_faults (length ls)) (sheet_lines sheet ls)
unfolding sheet_lines listed
sheet-in sheet [] = refl
sheet-in sheet (l ∷ ls) =
    bind-in (sample_faults (suc (length ls))) (heading_line sheet.names l) _ (heading-in (suc (length ls)) sheet.names l (omega arith))
    λ columns. rows_in (suc (length ls)) sheet columns ls (omega arith)

pub sample-refusals : (s : List ℕ) → RefusedIn (sample_faults (length (lines s))) (sample_file s)
unfolding sample_file
sample-refusals s =
    bind-in (sample_faults (length (lines s))) (sheet_lines sample_sheet (lines s)) _ (sheet-in sample_sheet (lines s)) λ rows. tt

-- ---- the run program

pub seconds-refusals : (s : List ℕ) → RefusedIn seconds_faults (seconds_asked s)
unfolding seconds_asked listed
seconds-refusals s =
    checked seconds_faults (digits 9 s) _ _ _ refl
    λ a. checked seconds_faults (leb (value s) 316_224_000) _ _ _ refl
    λ b. tt

pub run-refusals : (station samples seconds : List ℕ) → RefusedIn (run_faults (length (lines samples))) (run_of station samples seconds)
unfolding run_of
run-refusals station samples seconds =
    let k : ℕ = length (lines samples) in
    bind-in (run_faults k) (station_file station) _ (in_left station_faults (sample_faults k ++ seconds_faults) (station_file station) (station-refusals station))
    λ st. bind-in (run_faults k) (sample_file samples) _ (in_right station_faults (sample_faults k ++ seconds_faults) (sample_file samples) (in_left (sample_faults k) seconds_faults (sample_file samples) (sample-refusals samples)))
    λ rows. bind-in (run_faults k) (seconds_asked seconds) _ (in_right station_faults (sample_faults k ++ seconds_faults) (seconds_asked seconds) (in_right (sample_faults k) seconds_faults (seconds_asked seconds) (seconds-refusals seconds)))
    λ n. tt

-- ---- the sizing screen

pub share-refusals : (s : List ℕ) (mask power set : ℕ) → RefusedIn sizing_faults (share_asked s mask power set)
unfolding share_asked share_of listed
share-refusals s mask power set =
    bind-in sizing_faults (station_file s) _ (in_left station_faults (fault 8 ∷ fault 19 ∷ []) (station_file s) (station-refusals s))
    λ st. checked sizing_faults (existing_only st.setcount mask && ltb 0 mask) _ _ _ refl
    λ a. checked sizing_faults (leb power (capacity st.sets mask)) _ _ _ refl
    λ b. tt

pub rate-refusals : (s : List ℕ) (mask power : ℕ) → RefusedIn sizing_faults (rate_asked s mask power)
unfolding rate_asked rate_of listed
rate-refusals s mask power =
    bind-in sizing_faults (station_file s) _ (in_left station_faults (fault 8 ∷ fault 19 ∷ []) (station_file s) (station-refusals s))
    λ st. checked sizing_faults (existing_only st.setcount mask && eqb (ones mask) 1) _ _ _ refl
    λ a. checked sizing_faults (leb power (capacity st.sets mask)) _ _ _ refl
    λ b. tt

-- ---- the start and a second

pub start-refusals : (st : Station) → RefusedIn start_faults (start st)
unfolding start listed
start-refusals st = checked start_faults (some_file_gives st) _ _ _ refl λ a. tt

admitted-in : (done : ℕ) (x : Inputs) (room : ℕ) → RefusedIn second_faults (admitted done x room)
unfolding admitted listed
admitted-in done x room =
    checked second_faults (ltb done most_seconds) _ _ _ refl
    λ a. checked second_faults (inputs_right x) _ _ _ refl
    λ b. checked second_faults (leb x.sheddable x.load) _ _ _ refl
    λ c. last-check second_faults (leb 256 room) _ _ refl

pub second-refusals : (st : Station) (r : Run) (x : Inputs) (room : ℕ) → RefusedIn second_faults (second st r x room)
unfolding second admitted listed
second-refusals st r x room =
    checked second_faults (some_file_gives st) _ _ _ refl
    λ a. checked second_faults (possible st r) _ _ _ refl
    λ b. then-in second_faults (admitted r.done x room) _ (admitted-in r.done x room) tt
