-- What one call of a run's course owes, over every rest of the sample file and whatever inputs are still to come.
use Rattle.std.specs.Prelude.{ℕ, ◌+◌, ◌-◌, ◌*◌, ◌/◌, ◌≤◌, ◌<◌, min, ◌≡◌, Bool, true, false, List, [], ◌++◌, length, drop}
use Rattle.rules.specs.declared.run.Inputs.{Inputs}
use Rattle.rules.specs.Seconds.{numbers_of, WorkedSeconds, came_to}
use Rattle.dispatch.specs.Working.{rows_of, run_after}
use Rattle.input_source.specs.declared.source.InputSource.{InputSource}
use Rattle.input_source.specs.Source.{source_ended, EndedRight}
use Rattle.held_inputs.specs.Filling.{places_of}
use Rattle.course.specs.declared.state.Course.{Course}
use Rattle.course.specs.declared.state.Halt.{Halt}
use Rattle.course.specs.declared.state.Moved.{Moved}
use Rattle.course.specs.Ruled.{AllRuled}
use Rattle.course.specs.Halts.{halt_for}
use Rattle.course.specs.Coming.{Coming, ComesOn, weight}

-- no accepted sample file goes on like this
abbrev pub NoneComes : Course → List ℕ → ℕ → Bool → Type 0
NoneComes c chunk at ended = (rest : List ℕ) → (ended ≡ true → rest ≡ []) → (xs : List Inputs) → Coming c (drop at chunk ++ rest) xs → ⊥

-- what a call ends for: it came nearer to the last second; the chunk is used up and more may come; the lent rows have no place for a
-- second; none was left; or the samples are not those that were checked
abbrev pub HaltedFor : Halt → Course → List ℕ → ℕ → Bool → List ℕ → Moved → Type 0
HaltedFor Halt.Further c chunk at ended lent r = weight r.course < weight c
HaltedFor Halt.Input c chunk at ended lent r = (r.next ≡ length chunk) × (ended ≡ false)
HaltedFor Halt.Room c chunk at ended lent r = length lent < 13
HaltedFor Halt.AllWorked c chunk at ended lent r = c.left ≡ 0
HaltedFor Halt.Broken c chunk at ended lent r = NoneComes c chunk at ended

-- ONE CALL, with a chunk from a place on and rows lent
pub record Moves (c : Course) (chunk : List ℕ) (at : ℕ) (ended : Bool) (lent : List ℕ) (r : Moved) (left : List ℕ) : Type 0 where
  -- the seconds worked, none of which the rules refuse
  pub worked : List Inputs
  pub counts : r.seconds ≡ length worked
  pub ruled : AllRuled c.station worked c.run
  pub left_is : length worked + r.course.left ≡ c.left
  pub station-is : r.course.station ≡ c.station
  pub run_is : r.course.run ≡ run_after c.station worked c.run
  -- their rows, and then the lent numbers as they stood
  pub rows : left ≡ numbers_of (rows_of c.station worked c.run) ++ drop (13 * length worked) lent
  pub fits : 13 * length worked ≤ length lent
  -- and their inputs are the ones that an accepted sample file gives
  pub inputs : (rest : List ℕ) → (ended ≡ true → rest ≡ []) → (xs : List Inputs) → Coming c (drop at chunk ++ rest) xs
      → ComesOn worked xs r.course (drop r.next chunk ++ rest)
  pub within : r.next ≤ length chunk
  pub onward : min at (length chunk) ≤ r.next
  pub less : weight r.course ≤ weight c
  pub halts : HaltedFor r.halt c chunk at ended lent r

-- ---- a course of which one thing changed

abbrev pub with_source : Course → InputSource → Course
with_source c source = record { station = c.station; run = c.run; source = source; left = c.left }

-- ---- a call that works nothing

abbrev pub waiting_for : Course → ℕ → Halt → Moved
waiting_for c next halt = record { course = c; next = next; seconds = 0; halt = halt }

-- no second is told by the chunk
pub record NoInputs (c : Course) (source : InputSource) (next : ℕ) (ended : Bool) (r : Moved) : Type 0 where
  pub after : InputSource
  pub awaits : ended ≡ false → r ≡ waiting_for (with_source c source) next Halt.Input
  pub breaks : ended ≡ true → source_ended source ≡ true → r ≡ waiting_for c next Halt.Broken
  pub ends : ended ≡ true → source_ended source ≡ false → r ≡ waiting_for (with_source c after) next Halt.Further
  pub at-end : EndedRight source after

-- ---- a call that works seconds

-- after seconds that came to this
abbrev pub with_seconds : Course → InputSource → ℕ → WorkedSeconds → Moved
with_seconds c source next came =
    record {
      course = record { station = c.station; run = came.run; source = source; left = c.left - length came.rows };
      next = next;
      seconds = length came.rows;
      halt = halt_for came.ended;
    }

-- the seconds of these inputs, as many as the lent rows have places for
abbrev pub came_in : Course → List Inputs → List ℕ → WorkedSeconds
came_in c xs lent = came_to c.station c.run xs (length lent / 13)

pub record SecondsMoved (c : Course) (source : InputSource) (next : ℕ) (xs : List Inputs) (lent : List ℕ) (r : Moved) (left : List ℕ) : Type 0 where
  pub moved-is : r ≡ with_seconds c source next (came_in c xs lent)
  pub left_is : left ≡ numbers_of (came_in c xs lent).rows ++ drop (13 * length (came_in c xs lent).rows) lent

-- what a call of some seconds may take for granted: no more places in the slices than seconds are left and rows are lent
pub record SomeAsked (c : Course) (loads solars sheddables lent : List ℕ) : Type 0 where
  pub some : 1 ≤ places_of loads solars sheddables
  pub most : places_of loads solars sheddables ≤ 256
  pub want-left : places_of loads solars sheddables ≤ c.left
  pub want-room : places_of loads solars sheddables ≤ length lent / 13
