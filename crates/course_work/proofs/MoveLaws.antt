-- A call of some seconds: their rows stand in the lent numbers, and the inputs still to come are those that the sample file gives.
-- Assumes nothing.
use Prim.Native.Nat.{ℕ, ◌+◌, ◌-◌, ◌*◌, ◌/◌, ◌≤◌, ◌<◌, min}
use mathlib.Core.Path.{◌≡◌, refl, sym, ap, ◌∙◌, subst}
use mathlib.Core.Bool.{Bool, true, false}
use mathlib.Core.List.{List, [], ◌∷◌, ◌++◌, append-nil}
use native.Mathlib.Omega.{arith}
use lib.ListN.{length, drop, length-append, drop_of_length-le}
use Rattle.rules.specs.declared.answers.Ended.{Ended}
use Rattle.rules.specs.declared.answers.Ended.TheVariants.{AllWorked, NoRoom, BeforeRefused}
use Rattle.rules.specs.declared.run.Inputs.{Inputs}
use Rattle.rules.specs.declared.run.Row.{Row}
use Rattle.rules.specs.declared.run.Worked.{Worked}
use Rattle.rules.specs.declared.samples.Sample.{Sample}
use Rattle.rules.specs.Answers.{is_accepted}
use Rattle.rules.specs.Seconds.{inputs_each, numbers_of, WorkedSeconds, came_to, Seconds}
use Rattle.dispatch.specs.Working.{rows_of, run_after}
use Rattle.dispatch.proofs.Working.{rows-count}
use Rattle.input_source.specs.declared.source.InputSource.{InputSource}
use Rattle.held_inputs.specs.declared.fill.Filled.{Filled}
use Rattle.sheet_stages.specs.ToCome.{RowsRead, all_read}
use Rattle.rows_in_force.specs.Held.{held_from}
use Rattle.input_source.specs.Source.{source_rows, source_ended, at_end_of, EndedRight}
use Rattle.held_inputs.specs.Filling.{inputs_in, places_of, HeldOn, FilledRight}
use Rattle.sample_rows.proofs.LineLaws.{drop-least}
use Rattle.sheet_stages.proofs.UpToRefused.{all_read_lem}
use Rattle.input_source.proofs.EndLaws.{source-accepted}
use Rattle.course.specs.declared.state.Course.{Course}
use Rattle.course.specs.declared.state.Halt.{Halt}
use Rattle.course.specs.declared.state.Moved.{Moved}
use Rattle.course.specs.Ruled.{AllRuled, AllRight}
use Rattle.course.specs.Coming.{inputs_all, Coming, ComesOn, unended, weight}
use Rattle.course.specs.Halts.{halt_for}
use Rattle.course_work.specs.Moves.{HaltedFor, Moves, with_source, waiting_for, NoInputs, with_seconds, came_in, SecondsMoved}
use Rattle.course_work.proofs.Worked.{Some, some-worked, All, all-worked}
use Rattle.course.proofs.InputsRight.{held-right, first-right, drop-right, in-length}

opposite : {A : Type 0} (b : Bool) → b ≡ true → b ≡ false → A
opposite b p q = absurd (let z : ◌≡◌ {A = ℕ} 0 1 = cc (sym p ∙ q) in omega arith)

-- ---- calls that work nothing

-- the course is as it was, but for its source; `next` may have moved
module _ (c : Course) (chunk : List ℕ) (at : ℕ) (ended : Bool) (lent : List ℕ) (source : InputSource) (next : ℕ) (halt : Halt)
    (comes : (rest : List ℕ) → (ended ≡ true → rest ≡ []) → (xs : List Inputs) → Coming c (drop at chunk ++ rest) xs → Coming (with_source c source) (drop next chunk ++ rest) xs)
    (within : next ≤ length chunk) (onward : min at (length chunk) ≤ next) (less : weight (with_source c source) ≤ weight c) where
  quiet : HaltedFor halt c chunk at ended lent (waiting_for (with_source c source) next halt) → Moves c chunk at ended lent (waiting_for (with_source c source) next halt) lent
  unfolding rows_of run_after AllRuled numbers_of
  quiet e =
      record {
        worked = [];
        counts = refl;
        ruled = tt;
        left_is = omega arith;
        station-is = refl;
        run_is = refl;
        rows = refl;
        fits = omega arith;
        inputs = λ rest h xs k. record { others = xs; are = refl; come = comes rest h xs k };
        within = within;
        onward = onward;
        less = less;
        halts = e;
      }

-- at the place where the chunk is read on, the course stays
module _ (c : Course) (chunk : List ℕ) (at : ℕ) (ended : Bool) (lent : List ℕ) (next : ℕ) (next-is : next ≡ min at (length chunk)) where
  stays : (halt : Halt) → HaltedFor halt c chunk at ended lent (waiting_for c next halt) → Moves c chunk at ended lent (waiting_for c next halt) lent
  stays halt e =
      quiet c chunk at ended lent c.source next halt
      (λ rest h xs k. subst (λ (l : List ℕ). Coming c (l ++ rest) xs) (sym (drop-least at chunk) ∙ ap (λ (n : ℕ). drop n chunk) (sym next-is)) k)
      (omega (arith, next-is)) (omega (arith, next-is)) (omega arith) e

  pub none_left : c.left ≡ 0 → Moves c chunk at ended lent (waiting_for c next Halt.AllWorked) lent
  none_left e = stays Halt.AllWorked e

  pub no_room : length lent / 13 ≡ 0 → Moves c chunk at ended lent (waiting_for c next Halt.Room) lent
  no_room e = stays Halt.Room (let z : length lent < 13 = omega (arith, e) in z)

-- ---- some seconds

-- what the call of many seconds owes, where these are the inputs that it was handed
pub seconds-move : (c : Course) (source : InputSource) (next : ℕ) (xs : List Inputs) (inputs lent left : List ℕ) (w : Worked) → inputs_each inputs ≡ xs → Seconds c.station c.run inputs lent w left
    → SecondsMoved c source next xs lent (record { course = record { station = c.station; run = w.run; source = source; left = c.left - w.seconds }; next = next; seconds = w.seconds; halt = halt_for w.ended }) left
seconds-move c source next xs inputs lent left w e s =
    let same : came_to c.station c.run (inputs_each inputs) (length lent / 13) ≡ came_in c xs lent = ap (λ (l : List Inputs). came_to c.station c.run l (length lent / 13)) e in
    record {
      moved-is = rw (s.hands, s.counts, s.ends, same);
      left_is = s.leaves ∙ ap (λ (y : WorkedSeconds). numbers_of y.rows ++ drop (13 * length y.rows) lent) same;
    }

-- no more seconds are worked than inputs were handed
pub worked-few : (c : Course) (inputs lent left : List ℕ) (w : Worked) (xs : List Inputs) → inputs_each inputs ≡ xs → Seconds c.station c.run inputs lent w left → w.seconds ≤ length xs
worked-few c inputs lent left w xs e s =
    let m = some-worked c.station c.run (inputs_each inputs) (length lent / 13) in
    omega (arith, s.counts, ap length m.rows_is, rows-count c.station m.worked c.run, ap length m.are, length-append m.worked m.others, ap length e)

module _ (c : Course) (chunk : List ℕ) (at : ℕ) (ended : Bool) (lent : List ℕ)
    (loads₀ solars₀ sheddables₀ loads solars sheddables : List ℕ) (f : Filled)
    (fr : FilledRight c.source c.run.done chunk at loads₀ solars₀ sheddables₀ f loads solars sheddables)
    (want-left : places_of loads₀ solars₀ sheddables₀ ≤ c.left)
    (want-room : places_of loads₀ solars₀ sheddables₀ ≤ length lent / 13)
    (some : 1 ≤ f.seconds) where
  abbrev xs : List Inputs
  xs = inputs_in f.seconds loads solars sheddables

  abbrev came : WorkedSeconds
  came = came_in c xs lent

  sm : Some c.station c.run xs (length lent / 13) came
  sm = some-worked c.station c.run xs (length lent / 13)

  xs-length : length xs ≡ f.seconds
  xs-length =
      in-length f.seconds loads solars sheddables
      (omega (arith, fr.most, fr.kept_loads.size)) (omega (arith, fr.most, fr.kept_solars.size)) (omega (arith, fr.most, fr.kept_sheddables.size))

  rows-worked : length came.rows ≡ length sm.worked
  rows-worked = ap length sm.rows_is ∙ rows-count c.station sm.worked c.run

  few : length sm.worked ≤ f.seconds
  few = omega (arith, ap length sm.are, length-append sm.worked sm.others, xs-length)

  -- ---- the inputs

  abbrev after : Course
  after = (with_seconds c f.source f.next came).course

  module _ (rest : List ℕ) (zs : List Inputs) (k : Coming c (drop at chunk ++ rest) zs) where
    abbrev later : RowsRead
    later = source_rows f.source (drop f.next chunk ++ rest)

    held : HeldOn c.source.now (all_read k.rows) c.run.done f later loads solars sheddables
    held = subst (λ (r : RowsRead). HeldOn c.source.now r c.run.done f later loads solars sheddables) k.accepts (fr.inputs rest)

    abbrev others : List Inputs
    others = held_from f.source.now later.rows (c.run.done + f.seconds) (c.left - f.seconds)

    split : zs ≡ xs ++ others
    split =
        let sum : f.seconds + (c.left - f.seconds) ≡ c.left = omega (arith, fr.most) in
        k.are ∙ ap (held_from c.source.now k.rows c.run.done) (sym sum) ∙ held.told (c.left - f.seconds)

    all_right : AllRight xs
    all_right = first-right xs others (subst AllRight (sym k.are ∙ split) (held-right c.source.now k.rows c.run.done c.left k.right))

    all : All c.station k.ready.station-given k.ready.tables c.run xs came
    all =
        all-worked c.station k.ready.station-given k.ready.tables c.run xs (length lent / 13) k.ready.record-possible all_right
        (omega (arith, k.ready.in-time, xs-length, fr.most)) (omega (arith, xs-length, fr.most))

    all-of-them : xs ≡ sm.worked
    all-of-them = sm.are ∙ ap (λ (l : List Inputs). sm.worked ++ l) (sm.all all.ends) ∙ append-nil sm.worked

    count-is : length came.rows ≡ f.seconds
    count-is = omega (arith, rows-worked, ap length all-of-them, xs-length)

    come : Coming after (drop f.next chunk ++ rest) others
    come =
        record {
          ready = record {
            station-given = k.ready.station-given;
            tables = k.ready.tables;
            record-possible = all.stays;
            in-time = omega (arith, k.ready.in-time, all.done-is, xs-length, count-is, fr.most);
          };
          rows = later.rows;
          accepts = all_read_lem later held.verdict;
          right = subst (λ (l : List Sample). AllRight (inputs_all l)) held.last (drop-right held.passed (c.source.now ∷ k.rows) k.right);
          are = rw (all.done-is, xs-length, count-is);
        }

    comes-on : ComesOn sm.worked zs after (drop f.next chunk ++ rest)
    comes-on = record { others = others; are = split ∙ ap (λ (l : List Inputs). l ++ others) all-of-them; come = come }

  -- ---- the call

  lighter : came.ended ≡ AllWorked → weight after < weight c
  lighter e =
      let u = ap unended fr.ended in
      omega (arith, u, rows-worked, ap length sm.are, length-append sm.worked sm.others, ap length (sm.all e), xs-length, fr.most)

  halts : (e : Ended) → came.ended ≡ e → HaltedFor (halt_for e) c chunk at ended lent (with_seconds c f.source f.next came)
  halts AllWorked e = lighter e
  halts NoRoom e = absurd (sm.roomy (omega (arith, xs-length, fr.most)) e)
  halts BeforeRefused e = λ rest h zs k. absurd (let z : ◌≡◌ {A = ℕ} 0 1 = cc (sym (all rest zs k).ends ∙ e) in omega arith)

  moves : Moves c chunk at ended lent (with_seconds c f.source f.next came) (numbers_of came.rows ++ drop (13 * length came.rows) lent)
  moves =
      record {
        worked = sm.worked;
        counts = rows-worked;
        ruled = sm.accepts;
        left_is = omega (arith, rows-worked, few, fr.most);
        station-is = refl;
        run_is = sm.run_is;
        rows = ap (λ (n : ℕ). numbers_of came.rows ++ drop (13 * n) lent) rows-worked ∙ ap (λ (l : List Row). numbers_of l ++ drop (13 * length sm.worked) lent) sm.rows_is;
        fits = omega (arith, sm.fits);
        inputs = λ rest h zs k. comes-on rest zs k;
        within = fr.within;
        onward = fr.onward;
        less = (let u = ap unended fr.ended in omega (arith, u));
        halts = halts came.ended refl;
      }

  pub seconds-moved : (r : Moved) (left : List ℕ) → SecondsMoved c f.source f.next xs lent r left → Moves c chunk at ended lent r left
  seconds-moved r left m = rw (m.moved-is, m.left_is) moves

-- ---- no second is told by the chunk

none_told : (k d n : ℕ) (loads solars sheddables : List ℕ) (now : Sample) (rows : List Sample) → k ≡ 0 → inputs_in k loads solars sheddables ++ held_from now rows (d + k) n ≡ held_from now rows d n
unfolding inputs_in
none_told k d n loads solars sheddables now rows e =
    ap (λ (j : ℕ). inputs_in j loads solars sheddables ++ held_from now rows (d + k) n) e ∙ ap (λ (j : ℕ). held_from now rows j n) (let z : d + k ≡ d = omega (arith, e) in z)

module _ (c : Course) (chunk : List ℕ) (at : ℕ) (ended : Bool) (lent : List ℕ)
    (loads₀ solars₀ sheddables₀ loads solars sheddables : List ℕ) (f : Filled)
    (fr : FilledRight c.source c.run.done chunk at loads₀ solars₀ sheddables₀ f loads solars sheddables)
    (places : 1 ≤ places_of loads₀ solars₀ sheddables₀) (no_second : f.seconds ≡ 0) where
  used-up : f.next ≡ length chunk
  used-up = fr.short (omega (arith, no_second))

  module _ (rest : List ℕ) (zs : List Inputs) (k : Coming c (drop at chunk ++ rest) zs) where
    abbrev to-come : RowsRead
    to-come = source_rows f.source (drop f.next chunk ++ rest)

    on : HeldOn c.source.now (all_read k.rows) c.run.done f to-come loads solars sheddables
    on = subst (λ (r : RowsRead). HeldOn c.source.now r c.run.done f to-come loads solars sheddables) k.accepts (fr.inputs rest)

    all-to-come : to-come ≡ all_read to-come.rows
    all-to-come = all_read_lem to-come on.verdict

    still : zs ≡ held_from f.source.now to-come.rows c.run.done c.left
    still =
        let a : f.seconds + c.left ≡ c.left = omega (arith, no_second) in
        k.are ∙ ap (held_from c.source.now k.rows c.run.done) (sym a) ∙ on.told c.left ∙ none_told f.seconds c.run.done c.left loads solars sheddables f.source.now to-come.rows no_second

    -- with a source of which the same rows are to come
    with_rows : (source : InputSource) (left : List ℕ) → source.now ≡ f.source.now → source_rows source left ≡ all_read to-come.rows → Coming (with_source c source) left zs
    with_rows source left now-is comes =
        record {
          ready = record { station-given = k.ready.station-given; tables = k.ready.tables; record-possible = k.ready.record-possible; in-time = k.ready.in-time };
          rows = to-come.rows;
          accepts = comes;
          right = rw now-is (subst (λ (l : List Sample). AllRight (inputs_all l)) on.last (drop-right on.passed (c.source.now ∷ k.rows) k.right));
          are = rw now-is still;
        }

    -- a file that has ended tells every second
    never-broken : source_ended f.source ≡ true → ⊥
    never-broken e =
        let all = fr.all (sym fr.ended ∙ e) (source-accepted c.source (drop at chunk ++ rest) (ap (λ (r : RowsRead). is_accepted r.verdict) k.accepts)) in
        omega (arith, all, no_second)

  awaits : ended ≡ false → Moves c chunk at ended lent (waiting_for (with_source c f.source) f.next Halt.Input) lent
  awaits e =
      quiet c chunk at ended lent f.source f.next Halt.Input
      (λ rest h zs k. with_rows rest zs k f.source (drop f.next chunk ++ rest) refl (all-to-come rest zs k))
      fr.within fr.onward (let u = ap unended fr.ended in omega (arith, u)) (used-up, e)

  breaks : source_ended f.source ≡ true → Moves c chunk at ended lent (waiting_for c f.next Halt.Broken) lent
  breaks e =
      quiet c chunk at ended lent c.source f.next Halt.Broken
      (λ rest h zs k. absurd (never-broken rest zs k e))
      fr.within fr.onward (omega arith) (λ rest h zs k. never-broken rest zs k e)

  ends : (after : InputSource) → ended ≡ true → source_ended f.source ≡ false → EndedRight f.source after → Moves c chunk at ended lent (waiting_for (with_source c after) f.next Halt.Further) lent
  ends after e n r =
      let lighter : weight (with_source c after) < weight c =
      let a = ap unended r.ended in let b = ap unended (sym fr.ended ∙ n) in omega (arith, a, b) in
      quiet c chunk at ended lent after f.next Halt.Further
      (λ rest h zs k. with_rows rest zs k after (drop f.next chunk ++ rest) r.held
      (r.rows (drop f.next chunk ++ rest) ∙ ap at_end_of (sym (ap (source_rows f.source) (no-rest rest (h e))) ∙ all-to-come rest zs k)))
      fr.within fr.onward (omega (arith, lighter)) lighter
    where
      no-rest : (rest : List ℕ) → rest ≡ [] → drop f.next chunk ++ rest ≡ []
      no-rest rest n = ap (λ (l : List ℕ). drop f.next chunk ++ l) n ∙ append-nil (drop f.next chunk) ∙ (let z : length chunk ≤ f.next = omega (arith, used-up) in drop_of_length-le chunk z)

  pub no-seconds-moved : (r : Moved) → NoInputs c f.source f.next ended r → Moves c chunk at ended lent r lent
  no-seconds-moved r m = by_end ended refl
    where
      by-source : (b : Bool) → source_ended f.source ≡ b → ended ≡ true → Moves c chunk at ended lent r lent
      by-source true b e = rw (m.breaks e b) (breaks b)
      by-source false b e = rw (m.ends e b) (ends m.after e b m.at-end)

      by_end : (b : Bool) → ended ≡ b → Moves c chunk at ended lent r lent
      by_end false e = rw (m.awaits e) (awaits e)
      by_end true e = by-source (source_ended f.source) refl e

-- ---- what a call owes that was told no second

module _ (c : Course) (source after : InputSource) (next : ℕ) (ended : Bool) (at-end : EndedRight source after) where
  pub no-inputs-broken : ended ≡ true → source_ended source ≡ true → NoInputs c source next ended (waiting_for c next Halt.Broken)
  no-inputs-broken e b = record { after = after; awaits = λ f. opposite ended e f; breaks = λ e b. refl; ends = λ e f. opposite (source_ended source) b f; at-end = at-end }

  pub no-inputs-ended : ended ≡ true → source_ended source ≡ false → NoInputs c source next ended (waiting_for (with_source c after) next Halt.Further)
  no-inputs-ended e b = record { after = after; awaits = λ f. opposite ended e f; breaks = λ e c. opposite (source_ended source) c b; ends = λ e f. refl; at-end = at-end }

  pub no-inputs-yet : ended ≡ false → NoInputs c source next ended (waiting_for (with_source c source) next Halt.Input)
  no-inputs-yet e = record { after = after; awaits = λ f. refl; breaks = λ f b. opposite ended f e; ends = λ f b. opposite ended f e; at-end = at-end }
