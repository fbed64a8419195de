-- `advance` meets its contract: turn after turn, until one does not go on. Assumes nothing.
use Prim.Native.Nat.{◌+◌, ◌*◌}
use Rattle.run_texts.specs.Coming.{weight}
use Rattle.simulation.specs.Calls.{goes_on}
use Rattle.simulation.proofs.CallLaws.{count, Going}
use Rattle.simulation.proofs.advance.advance.Given as goal

abbrev pub invariant-loop-t : goal.invariant-loop-t
invariant-loop-t l = Going l.initial.t.simulation l.chunk l.at l.ended l.initial.out l.out l.t

abbrev pub decreases-loop-t : goal.decreases-loop-t
decreases-loop-t l = 2 * weight l.t.simulation + count (goes_on l.t.wants)
