-- `held_inputs::fill::fill_seconds` meets its contract: the seconds so far are told, and the others are told by what is left. Assumes nothing.
use Prim.Native.Nat.{◌-◌}
use mathlib.Core.Path.{◌≡◌}
use Rattle.held_inputs.specs.Filling.{places_of, filled_at, Filling}
use Rattle.held_inputs.proofs.fill.fill_seconds.Given as goal

abbrev pub invariant-loop-told : goal.invariant-loop-told
invariant-loop-told l =
    (l.places ≡ places_of l.initial.loads l.initial.solars l.initial.sheddables) × Filling (filled_at l.initial.told l.line).source l.first l.chunk l.at l.initial.loads l.initial.solars l.initial.sheddables (filled_at l.told l.line) l.loads l.solars l.sheddables

abbrev pub decreases-loop-told : goal.decreases-loop-told
decreases-loop-told l = l.places - l.told.seconds
