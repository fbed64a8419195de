-- What one turn of a run owes, over every rest of the sample file and whatever inputs are still to come.
use Rattle.std.specs.Prelude.{ℕ, ◌+◌, ◌-◌, ◌*◌, ◌/◌, ◌≤◌, ◌<◌, ◌≡◌, Bool, true, false, List, [], ◌++◌, length, take, drop, leb}
use Rattle.rules.specs.declared.run.Inputs.{Inputs}
use Rattle.course.specs.declared.state.Moved as moves
use Rattle.run_phases.specs.declared.state.Phase.{Phase}
use Rattle.run_phases.specs.declared.state.Turn.{Turn}
use Rattle.run_phases.specs.declared.state.Wants.{Wants}
use Rattle.run_phases.specs.Phases.{phase_after, phase_for, wants_for}
use Rattle.run_texts.specs.Text.{to_print, line_of, with_phase}
use Rattle.run_texts.specs.Coming.{Comes, ComesOn, weight, finished, is_before_sets}

-- ---- what a turn ended for

abbrev pub Ended : Wants → Turn → List ℕ → Bool → List ℕ → Turn → Type 0
Ended Wants.Further t chunk ended out r = weight r.simulation < weight t.simulation
Ended Wants.Input t chunk ended out r = (r.next ≡ length chunk) × (ended ≡ false)
Ended Wants.Room t chunk ended out r = (256 ≤ length out → 0 < r.written) × (r.written ≡ t.written)
Ended Wants.Nothing t chunk ended out r = finished r.simulation.phase ≡ true

-- ---- ONE TURN

pub record Moved (t : Turn) (chunk : List ℕ) (ended : Bool) (out : List ℕ) (r : Turn) (out' : List ℕ) : Type 0 where
  -- the seconds worked
  pub worked : List Inputs
  pub left_is : length worked + r.simulation.course.left ≡ t.simulation.course.left
  -- so far and to come: whatever inputs the other seconds get
  pub text : (xs : List Inputs) → length xs ≡ r.simulation.course.left
      → take t.written out ++ to_print t.simulation (worked ++ xs) ≡ take r.written out' ++ to_print r.simulation xs
  -- and those are the ones that an accepted sample file gives
  pub inputs : (rest : List ℕ) → (ended ≡ true → rest ≡ []) → (xs : List Inputs) → Comes t.simulation (drop t.next chunk ++ rest) xs
      → ComesOn worked xs r.simulation (drop r.next chunk ++ rest)
  pub within : r.next ≤ length chunk
  pub onward : t.next ≤ r.next
  pub grows : t.written ≤ r.written
  pub fits : r.written ≤ length out'
  pub size : length out' ≡ length out
  pub kept : drop r.written out' ≡ drop r.written out
  pub less : weight r.simulation ≤ weight t.simulation
  pub small : length out < 256 → r.written ≡ t.written
  -- no set's heading or line comes before the sample file has ended
  pub early : ended ≡ false → is_before_sets t.simulation.phase ≡ true → is_before_sets r.simulation.phase ≡ true
  pub wants : Ended r.wants t chunk ended out r

-- ---- a single line

abbrev pub with_line : Turn → Turn
with_line t =
    record {
      simulation = with_phase t.simulation (phase_after t.simulation.phase);
      next = t.next;
      written = t.written + length (line_of t.simulation.phase t.simulation.course.run.sets);
      wants = Wants.Further;
    }

abbrev pub waiting_for : Turn → Wants → Turn
waiting_for t wants = record { simulation = t.simulation; next = t.next; written = t.written; wants = wants }

-- the text from a place of the buffer on
abbrev pub put_at : List ℕ → ℕ → List ℕ → List ℕ
put_at out at text = take at out ++ (text ++ drop (length text) (drop at out))

abbrev pub LineBy : Bool → Turn → List ℕ → Turn → List ℕ → Type 0
LineBy true t out r out' =
    (r ≡ with_line t) × (out' ≡ put_at out t.written (line_of t.simulation.phase t.simulation.course.run.sets))
    × (t.written + length (line_of t.simulation.phase t.simulation.course.run.sets) ≤ length out)
LineBy false t out r out' = (r ≡ waiting_for t Wants.Room) × (out' ≡ out)

-- the line where it has room, and else a wait for room
abbrev pub LineMoved : Turn → List ℕ → Turn → List ℕ → Type 0
LineMoved t out r out' = LineBy (leb 256 (length out - t.written)) t out r out'

-- ---- some seconds

-- a turn after a call of its run's course, of which so many bytes were put
abbrev pub with_rows : Turn → moves.Moved → ℕ → Turn
with_rows t m bytes =
    record {
      simulation = record { phase = phase_for m.halt; course = m.course };
      next = m.next;
      written = t.written + bytes;
      wants = wants_for m.halt;
    }

-- what a turn of some seconds may take for granted: a second is left, and the text of as many as have places in the lent rows has room
pub record SomeAsked (t : Turn) (chunk lent out : List ℕ) : Type 0 where
  pub phase-is : t.simulation.phase ≡ Phase.Seconds
  pub next-in : t.next ≤ length chunk
  pub some_left : 1 ≤ t.simulation.course.left
  pub some : 13 ≤ length lent
  pub want-room : 153 * (length lent / 13) + 103 ≤ length out - t.written
