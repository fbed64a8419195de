-- Each turn is one more and performs one action, and the last state is the one at which the loop stops. Assumes nothing.
use native.Mathlib.Omega.{arith}
use Rattle.perform.specs.Turns.{Turns}
use Rattle.perform.proofs.turns.run.Goals as goal

pub loop-turn-init : goal.loop-turn-init
loop-turn-init g c = (c.new-files.ensures.unused, (c.begin-state.ensures, Turns.none))

pub loop-turn-preserved : goal.loop-turn-preserved
loop-turn-preserved g c =
    let shaped = c.perform-event.ensures.shaped in
    let counted = c.perform-event.ensures.counted in
    let before = c.loop-turn.invariant.0 in
    let less = c.loop-turn-test.true in
    (omega (arith, counted, before, less), (c.loop-turn.invariant.1.0, Turns.more c.perform-event.result c.loop-turn.invariant.1.1 (rw c.asked-action.ensures at shaped) c.next-state.ensures))
