-- `admission::admit::admit` meets its contract: the first test that fails decides. Assumes nothing.
use mathlib.Core.Path.{sym, ◌∙◌}
use native.Mathlib.Omega.{arith}
use Rattle.admission.proofs.InOrder.{run-ended, inputs-over, sheddable-above, buffer-short, none-refuses}
use Rattle.admission.proofs.admit.admit.Goals as goal

pub returns-then-done-ge-MOST_SECONDS : goal.returns-then-done-ge-MOST_SECONDS
returns-then-done-ge-MOST_SECONDS c = run-ended c.args.done c.args.inputs c.args.room c.if-done-ge-MOST_SECONDS.true

pub returns-then-not-inputs_right : goal.returns-then-not-inputs_right
returns-then-not-inputs_right c =
    inputs-over c.args.done c.args.inputs c.args.room (omega arith) (sym c.inputs_right.ensures ∙ c.if-not-inputs_right.true)

pub returns-then-inputs : goal.returns-then-inputs
returns-then-inputs c =
    sheddable-above c.args.done c.args.inputs c.args.room (omega arith) (sym c.inputs_right.ensures ∙ c.if-not-inputs_right.false) c.if-inputs.true

pub returns-then-room-lt-LEAST_ROW_BUFFER : goal.returns-then-room-lt-LEAST_ROW_BUFFER
returns-then-room-lt-LEAST_ROW_BUFFER c =
    buffer-short c.args.done c.args.inputs c.args.room (omega arith) (sym c.inputs_right.ensures ∙ c.if-not-inputs_right.false) (omega arith) c.if-room-lt-LEAST_ROW_BUFFER.true

pub returns : goal.returns
returns c =
    none-refuses c.args.done c.args.inputs c.args.room (omega arith) (sym c.inputs_right.ensures ∙ c.if-not-inputs_right.false) (omega arith) (omega arith)
