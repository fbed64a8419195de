-- `samples::check::usual_rows` meets its contract: the rows so far are counted, and the others are to come. Assumes nothing.
use Prim.Native.Nat.{◌-◌}
use mathlib.Core.List.{[]}
use lib.ListN.{length}
use Rattle.sheet_stages.specs.declared.stage.Stage.{Stage}
use Rattle.samples.specs.Streamed.{CountedOn}
use Rattle.samples.proofs.check.usual_rows.Given as goal

abbrev pub invariant-loop-row : goal.invariant-loop-row
invariant-loop-row l =
    CountedOn (Stage.LaterRows l.columns l.initial.latest l.initial.line) [] (record { rows = l.initial.rows; last = l.initial.time }) l.chunk l.initial.next (record { stage = Stage.LaterRows l.columns l.latest l.line; span = record { rows = l.rows; last = l.time }; next = l.next })

abbrev pub decreases-loop-row : goal.decreases-loop-row
decreases-loop-row l = length l.chunk - l.next
