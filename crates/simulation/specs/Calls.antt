-- What one call of a run owes, over every rest of the sample file and whatever inputs are still to come.
use Rattle.std.specs.Prelude.{ℕ, ◌+◌, ◌≤◌, ◌<◌, ◌≡◌, Bool, true, false, List, [], ◌++◌, length, take, drop}
use Rattle.rules.specs.declared.run.Inputs.{Inputs}
use Rattle.run_phases.specs.declared.state.Simulation.{Simulation}
use Rattle.run_phases.specs.declared.state.Turn.{Turn}
use Rattle.run_phases.specs.declared.state.Wants.{Wants}
use Rattle.run_texts.specs.Text.{to_print}
use Rattle.run_texts.specs.Coming.{Comes, ComesOn, weight, finished, is_before_sets}

abbrev pub goes_on : Wants → Bool
goes_on Wants.Further = true
goes_on Wants.Input = false
goes_on Wants.Room = false
goes_on Wants.Nothing = false

-- what a call ends for: the chunk is used up and more may come; another buffer is wanted, and with at least 256 bytes of this one some
-- are handed over and the run came nearer to its end; or all is handed over
abbrev pub Stopped : Wants → Simulation → List ℕ → Bool → List ℕ → Turn → Type 0
Stopped Wants.Further s chunk ended out r = ⊥
Stopped Wants.Input s chunk ended out r = (r.next ≡ length chunk) × (ended ≡ false)
Stopped Wants.Room s chunk ended out r = (256 ≤ length out → 0 < r.written) × (256 ≤ length out → weight r.simulation < weight s)
Stopped Wants.Nothing s chunk ended out r = finished r.simulation.phase ≡ true

-- ONE CALL, with a chunk from a place on and a lent buffer
pub record Called (s : Simulation) (chunk : List ℕ) (at : ℕ) (ended : Bool) (out : List ℕ) (r : Turn) (out' : List ℕ) : Type 0 where
  -- the seconds worked
  pub worked : List Inputs
  pub left_is : length worked + r.simulation.course.left ≡ s.course.left
  -- what is handed over, and then what is still to come: whatever inputs the other seconds get
  pub text : (xs : List Inputs) → length xs ≡ r.simulation.course.left → to_print s (worked ++ xs) ≡ take r.written out' ++ to_print r.simulation xs
  -- and those are the ones that an accepted sample file gives
  pub inputs : (rest : List ℕ) → (ended ≡ true → rest ≡ []) → (xs : List Inputs) → Comes s (drop at chunk ++ rest) xs
      → ComesOn worked xs r.simulation (drop r.next chunk ++ rest)
  pub within : r.next ≤ length chunk
  pub fits : r.written ≤ length out'
  -- the buffer's other bytes stay
  pub kept : drop r.written out' ≡ drop r.written out
  pub less : weight r.simulation ≤ weight s
  -- a buffer that is too small for a line gets nothing
  pub small : length out < 256 → r.written ≡ 0
  -- no set's heading or line comes before the sample file has ended
  pub early : ended ≡ false → is_before_sets s.phase ≡ true → is_before_sets r.simulation.phase ≡ true
  pub wants : Stopped r.wants s chunk ended out r
