-- A turn of some seconds: the text of their rows stands in the buffer, and the inputs still to come are those that the sample file gives.
-- Assumes nothing.
use Prim.Native.Nat.{ℕ, ◌+◌, ◌-◌, ◌*◌, ◌/◌, ◌≤◌, ◌<◌}
use mathlib.Core.Path.{◌≡◌, refl, sym, ap, ◌∙◌, subst}
use mathlib.Core.Bool.{Bool, true}
use mathlib.Core.List.{List, [], ◌∷◌, ◌++◌, append_assoc}
use native.Mathlib.Omega.{arith}
use native.Mathlib.Decide.{dec_lt}
use lib.ListN.{length, take, drop, length-append, length-drop}
use lib.Seq.{take_at}
use Rattle.rules.specs.declared.station.Station.{Station}
use Rattle.rules.specs.declared.run.Inputs.{Inputs}
use Rattle.rules.specs.declared.run.Row.{Row}
use Rattle.rules.specs.declared.run.Run.{Run}
use Rattle.rules.specs.Row.{row_text}
use Rattle.rules.specs.Second.{step}
use Rattle.rules.specs.Seconds.{numbers_of}
use Rattle.rules.proofs.Shapes.{Tables}
use Rattle.laws.proofs.Kept.{admitted_of}
use Rattle.laws.proofs.RowLength.{row-length}
use Rattle.row_texts.specs.declared.put_rows.RowsPut.{RowsPut}
use Rattle.row_texts.specs.RowLines as lines
use Rattle.row_texts.specs.RowLines.{LinesPut}
use Rattle.rows.proofs.RowNumbers.{numbers-length}
use Rattle.row_texts.proofs.RowLines.{all-put}
use Rattle.dispatch.specs.Working.{rows_of}
use Rattle.dispatch.proofs.Working.{rows-count}
use Rattle.course.specs.declared.state.Course.{Course}
use Rattle.course.specs.declared.state.Halt.{Halt}
use Rattle.course.specs.declared.state.Moved as moves
use Rattle.course.specs.Ruled.{AllRuled}
use Rattle.course.specs.Coming as coming
use Rattle.course.specs.Coming.{Coming}
use Rattle.course_work.specs.Moves.{HaltedFor, Moves}
use Rattle.course.proofs.Started.{coming-length}
use Rattle.run_phases.specs.declared.state.Phase.{Phase}
use Rattle.run_phases.specs.declared.state.Simulation.{Simulation}
use Rattle.run_phases.specs.declared.state.Turn.{Turn}
use Rattle.run_phases.specs.declared.state.Wants.{Wants}
use Rattle.run_phases.specs.Phases.{phase_for, wants_for}
use Rattle.run_texts.specs.Rows.{row_texts, rows_with}
use Rattle.run_texts.specs.Text.{text_of, to_print, with_phase}
use Rattle.run_texts.specs.Coming.{ComesIn, Comes, rank, weight, is_before_sets}
use Rattle.simulation.specs.Turns.{Ended, Moved, with_rows, waiting_for, put_at, SomeAsked}
use Rattle.simulation.proofs.LineLaws.{back_is}
use Rattle.simulation.proofs.TurnLaws.{put_front, put_rest, put-size, with-split, with_none, quiet}

-- ---- the phase of the seconds

seconds-text : (s : Simulation) (xs : List Inputs) → s.phase ≡ Phase.Seconds → to_print s xs ≡ rows_with s.course.station xs s.course.run
unfolding text_of
seconds-text s xs e = ap (λ (p : Phase). text_of p s.course.station s.course.run xs) e

seconds-come : (s : Simulation) (rest : List ℕ) (xs : List Inputs) → s.phase ≡ Phase.Seconds → Comes s rest xs → Coming s.course rest xs
seconds-come s rest xs e c = subst (λ (p : Phase). ComesIn p s rest xs) e c

empty : (xs : List Inputs) → length xs ≡ 0 → xs ≡ []
empty [] e = refl
empty (x ∷ xs) e = absurd (omega (arith, e))

before-sets : (h : Halt) → is_before_sets (phase_for h) ≡ true
before-sets Halt.Further = refl
before-sets Halt.Input = refl
before-sets Halt.Room = refl
before-sets Halt.AllWorked = refl
before-sets Halt.Broken = refl

-- ---- rows are short

-- no row of a second that the rules accept has more than 153 bytes
rows_short : (st : Station) → Tables st → (xs : List Inputs) (r : Run) → AllRuled st xs r → length (row_texts st xs r) ≤ 153 * length xs
unfolding lines.text_of rows_of AllRuled
rows_short st tables [] r a = omega arith
rows_short st tables (x ∷ xs) r a =
    let s = step st r x in
    let short = row-length st tables r x (admitted_of st r x 256 s a.0).0 in
    let others = rows_short st tables xs s.run a.1 in
    omega (arith, short, others, length-append (row_text s.row) (row_texts st xs s.run))

-- ---- some seconds

module _ (t : Turn) (chunk : List ℕ) (ended : Bool) (out lent : List ℕ) (out-in : t.written ≤ length out) (asked : SomeAsked t chunk lent out) (tables : Tables t.simulation.course.station)
    (m : moves.Moved) (left : List ℕ) (mv : Moves t.simulation.course chunk t.next ended lent m left) where
  abbrev s : Simulation
  s = t.simulation

  abbrev c : Course
  c = s.course

  abbrev rows : List Row
  rows = rows_of c.station mv.worked c.run

  abbrev text : List ℕ
  text = row_texts c.station mv.worked c.run

  few : length mv.worked ≤ length lent / 13
  few = omega (arith, mv.fits)

  -- 153 bytes for each of them have room
  pub text-room : t.written + length text ≤ length out
  text-room = omega (arith, rows_short c.station tables mv.worked c.run mv.ruled, few, asked.want-room, out-in)

  size_of : length (numbers_of rows) ≡ 13 * m.seconds
  size_of = numbers-length rows ∙ ap (λ (n : ℕ). 13 * n) (rows-count c.station mv.worked c.run ∙ sym mv.counts)

  -- the numbers of their rows are handed on
  pub numbers_fit : 13 * m.seconds ≤ length left
  numbers_fit = omega (arith, ap length mv.rows, length-append (numbers_of rows) (drop (13 * length mv.worked) lent), size_of)

  pub numbers-are : take (13 * m.seconds) left ≡ numbers_of rows
  numbers-are = ap (take (13 * m.seconds)) mv.rows ∙ take_at (numbers_of rows) (drop (13 * length mv.worked) lent) (13 * m.seconds) size_of

  -- ---- by what the call ended for

  -- the text of the seconds after them: of every phase that it can come to
  later-text : (h : Halt) → HaltedFor h c chunk t.next ended lent m → (r : Run) (xs : List Inputs) → text_of (phase_for h) c.station r xs ≡ rows_with c.station xs r
  unfolding text_of
  later-text Halt.Further h r xs = refl
  later-text Halt.Input h r xs = refl
  later-text Halt.Room h r xs = refl
  later-text Halt.AllWorked h r xs = absurd (omega (arith, h, asked.some_left))
  later-text Halt.Broken h r xs = refl

  to-come : (h : Halt) → HaltedFor h c chunk t.next ended lent m → (rest : List ℕ) → (ended ≡ true → rest ≡ []) → (zs : List Inputs) → Coming c (drop t.next chunk ++ rest) zs
      → (xs : List Inputs) → Coming m.course (drop m.next chunk ++ rest) xs → ComesIn (phase_for h) (record { phase = phase_for h; course = m.course }) (drop m.next chunk ++ rest) xs
  to-come Halt.Further h rest e zs k xs j = j
  to-come Halt.Input h rest e zs k xs j = j
  to-come Halt.Room h rest e zs k xs j = j
  to-come Halt.AllWorked h rest e zs k xs j = absurd (omega (arith, h, asked.some_left))
  to-come Halt.Broken h rest e zs k xs j = h rest e zs k

  lighter : (h : Halt) → HaltedFor h c chunk t.next ended lent m → rank (phase_for h) + coming.weight m.course ≤ weight s
  lighter Halt.Further h = let z = h in let e = ap rank asked.phase-is in omega (arith, z, e)
  lighter Halt.Input h = let e = ap rank asked.phase-is in omega (arith, e, mv.less)
  lighter Halt.Room h = let e = ap rank asked.phase-is in omega (arith, e, mv.less)
  lighter Halt.AllWorked h = let e = ap rank asked.phase-is in omega (arith, e, mv.less)
  lighter Halt.Broken h = let e = ap rank asked.phase-is in omega (arith, e, mv.less)

  ends : (h : Halt) (bytes : ℕ) → HaltedFor h c chunk t.next ended lent m
      → Ended (wants_for h) t chunk ended out (record { simulation = record { phase = phase_for h; course = m.course }; next = m.next; written = t.written + bytes; wants = wants_for h })
  ends Halt.Further bytes h = let z = h in let e = ap rank asked.phase-is in omega (arith, z, e)
  ends Halt.Input bytes h = h
  ends Halt.Room bytes h = absurd (omega (arith, h, asked.some))
  ends Halt.AllWorked bytes h = absurd (omega (arith, h, asked.some_left))
  ends Halt.Broken bytes h = let e = ap rank asked.phase-is in omega (arith, e, mv.less)

  -- ---- the turn

  moved : Moved t chunk ended out (with_rows t m (length text)) (put_at out t.written text)
  moved =
      record {
        worked = mv.worked;
        left_is = mv.left_is;
        text = λ xs l.
            let to-print : to_print s (mv.worked ++ xs) ≡ text ++ rows_with m.course.station xs m.course.run =
            seconds-text s (mv.worked ++ xs) asked.phase-is ∙ with-split c.station mv.worked xs c.run ∙ rw (mv.station-is, mv.run_is) in
            ap (λ (l : List ℕ). take t.written out ++ l) to-print
            ∙ sym (append_assoc (take t.written out) text (rows_with m.course.station xs m.course.run))
            ∙ ap (λ (l : List ℕ). l ++ rows_with m.course.station xs m.course.run) (sym (put_front out text t.written text-room))
            ∙ ap (λ (l : List ℕ). take (t.written + length text) (put_at out t.written text) ++ l) (as-text xs);
        inputs = λ rest h zs k.
            let came = seconds-come s (drop t.next chunk ++ rest) zs asked.phase-is k in
            let on = mv.inputs rest h zs came in
            record { others = on.others; are = on.are; come = to-come m.halt mv.halts rest h zs came on.others on.come };
        within = mv.within;
        onward = omega (arith, mv.onward, asked.next-in);
        grows = omega arith;
        fits = omega (arith, put-size out text t.written text-room, text-room);
        size = put-size out text t.written text-room;
        kept = put_rest out text t.written text-room;
        less = lighter m.halt mv.halts;
        small = λ h. absurd (omega (arith, h, asked.want-room, asked.some));
        early = λ n b. before-sets m.halt;
        wants = ends m.halt (length text) mv.halts;
      }
    where
      as-text : (xs : List Inputs) → rows_with m.course.station xs m.course.run ≡ text_of (phase_for m.halt) m.course.station m.course.run xs
      as-text xs =
          ap (λ (st : Station). rows_with st xs m.course.run) mv.station-is ∙ sym (later-text m.halt mv.halts m.course.run xs)
          ∙ ap (λ (st : Station). text_of (phase_for m.halt) st m.course.run xs) (sym mv.station-is)

  module _ (p : RowsPut) (tail : List ℕ) (put : LinesPut (take (13 * m.seconds) left) (drop t.written out) p tail) where
    all : (p.count ≡ length rows) × (p.bytes ≡ length text) × (tail ≡ text ++ drop (length text) (drop t.written out))
    all = all-put rows (take (13 * m.seconds) left) (drop t.written out) p tail put numbers-are (omega (arith, text-room, length-drop t.written out))

    pub rows-room : t.written + p.bytes ≤ length out
    rows-room = omega (arith, all.1, text-room)

    pub rows-turn : Moved t chunk ended out (with_rows t m p.bytes) (take t.written out ++ (tail ++ drop (length out - t.written) (drop t.written out)))
    rows-turn =
        rw (all.1, back_is out tail t.written ∙ ap (λ (l : List ℕ). take t.written out ++ l) all.2) moved

-- ---- no second is left, or no room

module _ (t : Turn) (chunk : List ℕ) (ended : Bool) (out : List ℕ) (phase-is : t.simulation.phase ≡ Phase.Seconds) (at_in : t.next ≤ length chunk) (out-in : t.written ≤ length out) where
  pub none-left-turn : t.simulation.course.left ≡ 0 → Moved t chunk ended out (record { simulation = with_phase t.simulation Phase.SetHeading; next = t.next; written = t.written; wants = Wants.Further }) out
  unfolding text_of
  none-left-turn none =
      let s = t.simulation in
      let lighter : weight (with_phase s Phase.SetHeading) < weight s = let z = ap rank phase-is in omega (arith, z) in
      quiet t chunk ended out (with_phase s Phase.SetHeading) t.next Wants.Further refl
      (λ xs l. seconds-text s xs phase-is ∙ ap (λ (l : List Inputs). rows_with s.course.station l s.course.run) (empty xs (l ∙ none)) ∙ with_none s.course.station s.course.run)
      (λ rest h zs k. let c = seconds-come s (drop t.next chunk ++ rest) zs phase-is k in (none, empty zs (coming-length s.course (drop t.next chunk ++ rest) zs c ∙ none)))
      at_in (omega arith) out-in (omega (arith, lighter)) (λ n b. refl) lighter

  pub no-room-turn : (least : ℕ) → (t.written ≡ 0 → least ≡ 256) → length out - t.written < least → Moved t chunk ended out (waiting_for t Wants.Room) out
  no-room-turn least first h =
      quiet t chunk ended out t.simulation t.next Wants.Room refl (λ xs l. refl) (λ rest k zs l. l) at_in (omega arith) out-in (omega arith) (λ n b. b) (wrote (dec_lt 0 t.written), refl)
    where
      wrote : Dec (0 < t.written) → 256 ≤ length out → 0 < t.written
      wrote (yes l) roomy = l
      wrote (no l) roomy =
          let none : t.written ≡ 0 = omega (arith, l) in
          absurd (omega (arith, first none, h, none, roomy))
