-- `held_inputs::usual_seconds::fill_usual` meets its contract: whatever filling had come to its call has come to the loop's turn. Assumes nothing.
use Prim.Native.Nat.{◌+◌, ◌-◌}
use lib.ListN.{length}
use Rattle.held_inputs.specs.Filling.{fill_state_at, GoesOn}
use Rattle.held_inputs.proofs.usual_seconds.fill_usual.Given as goal

abbrev pub invariant-loop-i : goal.invariant-loop-i
invariant-loop-i l =
    GoesOn (fill_state_at l.columns l.initial.line l.initial.now l.initial.row l.initial.next l.initial.i) l.first l.places l.chunk l.initial.loads l.initial.solars l.initial.sheddables (fill_state_at l.columns l.line l.now l.row l.next l.i) l.loads l.solars l.sheddables

abbrev pub decreases-loop-i : goal.decreases-loop-i
decreases-loop-i l =
    (length l.chunk - l.next) + (l.places - l.i)
