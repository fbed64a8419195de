-- `rows_in_force::in_force::reach` meets its contract: the row in force and the rows to come are those of the call, held as they were. Assumes nothing.
use Prim.Native.Nat.{ℕ, ◌-◌, min}
use mathlib.Core.Path.{◌≡◌}
use lib.ListN.{length}
use Rattle.rules.specs.declared.samples.Sample.{Sample}
use Rattle.rows_in_force.specs.declared.in_force.Ahead.{Ahead}
use Rattle.rows_in_force.specs.Held.{comes_in}
use Rattle.rows_in_force.proofs.HeldLaws.{Reaching}
use Rattle.rows_in_force.proofs.in_force.reach.Given as goal

abbrev pub invariant-loop-further : goal.invariant-loop-further
invariant-loop-further l = (now : Sample) (ahead : Ahead) (at : ℕ) → l.initial.next ≡ min at (length l.chunk) → l.initial.known ≡ comes_in now ahead l.second → Reaching l.initial.begun l.line now ahead l.second l.chunk at l.begun l.next l.known

abbrev pub decreases-loop-further : goal.decreases-loop-further
decreases-loop-further l = length l.chunk - l.next
