-- `steady::steady_walk::steady_walk` meets its contract. Assumes nothing.
-- ---- a second of the walk
use mathlib.Core.Path.{◌≡◌}
use mathlib.Core.Bool.{true}
use lib.ListN.{length}
use Rattle.rules.specs.Configuration.{mask_called}
use Rattle.rules.specs.RunRecord.{possible}
use Rattle.rules.specs.Seconds.{inputs_each}
use Rattle.moments.specs.Parts.{run_of}
use Rattle.dispatch.specs.Working.{Works}
use Rattle.steady.specs.Steady.{since_steady}
use Rattle.steady.proofs.steady_walk.steady_walk.Given as goal

abbrev pub invariant-loop-ran : goal.invariant-loop-ran
invariant-loop-ran l =
    Works l.st (run_of l.initial.moment (since_steady l.steady.states l.steady.on 0 l.initial.added) l.initial.decided) (inputs_each l.inputs) l.initial.rows l.ran (run_of l.moment (since_steady l.steady.states l.steady.on l.ran l.added) l.decided) l.rows
    × (mask_called l.st.configs l.moment.called ≡ l.steady.called)
    × (length l.decided ≡ 60)
    × (length l.rows ≡ length l.initial.rows)
    × (possible l.st (run_of l.moment (since_steady l.steady.states l.steady.on l.ran l.added) l.decided) ≡ true)
