-- `without_inputs` meets its contract. Assumes nothing.
use mathlib.Core.Path.{sym, ◌∙◌}
use Rattle.course_work.proofs.MoveLaws.{no-inputs-broken, no-inputs-ended, no-inputs-yet}
use Rattle.course_work.proofs.work.without_inputs.Goals as goal

pub returns-then-not-ended : goal.returns-then-not-ended
returns-then-not-ended c = rw c.waiting.ensures (no-inputs-yet c.args.course c.args.source _ c.args.next c.args.ended c.end_inputs-after.ensures c.if-not-ended.true)

pub returns-then-has_ended : goal.returns-then-has_ended
returns-then-has_ended c = rw c.waiting-then-has_ended.ensures (no-inputs-broken c.args.course c.args.source _ c.args.next c.args.ended c.end_inputs-after.ensures c.if-not-ended.false (sym c.has_ended.ensures ∙ c.if-has_ended.true))

pub returns : goal.returns
returns c = rw c.waiting-2.ensures (no-inputs-ended c.args.course c.args.source _ c.args.next c.args.ended c.end_inputs-after.ensures c.if-not-ended.false (sym c.has_ended.ensures ∙ c.if-has_ended.false))
