-- `steady::next_event::until_event` meets its contract. Assumes nothing.
use Prim.Native.Nat.{ℕ, ◌<◌}
use mathlib.Core.List.{List}
use Rattle.rules.specs.declared.station.GenSet.{GenSet}
use Rattle.rules.specs.declared.run.SetState.{SetState}
use Rattle.rules.specs.StationRecord.{set_at}
use Rattle.rules.specs.Modes.{state_at}
use Rattle.steady.specs.NextEvent.{NoOwnEvent}
use Rattle.steady.proofs.next_event.until_event.Given as goal

-- of the sets before a place
pub record LastingTo (i : ℕ) (sets : List GenSet) (states : List SetState) (seconds : ℕ) : Type 0 where
  pub each : (j : ℕ) → j < i → NoOwnEvent (set_at sets j) (state_at states j) seconds

abbrev pub invariant-loop-i : goal.invariant-loop-i
invariant-loop-i l = LastingTo l.i l.sets l.states l.least
