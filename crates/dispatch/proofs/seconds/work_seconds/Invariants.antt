-- `dispatch::seconds::work_seconds` meets its contract. Assumes nothing.
-- ---- a second, and its row
use Prim.Native.Nat.{◌≤◌}
use mathlib.Core.Path.{◌≡◌}
use lib.ListN.{length}
use Rattle.rules.specs.Seconds.{inputs_each}
use Rattle.moments.specs.Parts.{run_of}
use Rattle.dispatch.specs.Working.{Works}
use Rattle.dispatch.proofs.seconds.work_seconds.Given as goal

abbrev pub invariant-loop-i : goal.invariant-loop-i
invariant-loop-i l =
    Works l.st (run_of l.initial.moment l.initial.states l.initial.decided) (inputs_each l.inputs) l.initial.rows l.i (run_of l.moment l.states l.decided) l.rows
    × (l.i ≤ l.count)
    × (length l.decided ≡ 60)
    × (length l.rows ≡ length l.initial.rows)
