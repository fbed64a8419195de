-- `some_seconds` meets its contract: the seconds that the chunk tells, or a wait. Assumes nothing.
use native.Mathlib.Omega.{arith}
use Rattle.course_work.proofs.MoveLaws.{seconds-moved, no-seconds-moved}
use Rattle.course_work.proofs.work.some_seconds.Goals as goal

pub returns-then-seconds-eq0 : goal.returns-then-seconds-eq0
returns-then-seconds-eq0 c = no-seconds-moved c.args.course c.args.chunk.now c.args.at c.args.ended c.args.rows.now _ _ _ _ _ _ _ c.fill-filled.ensures c.requires.some c.if-seconds-eq0.true _ c.without_inputs.ensures

pub returns : goal.returns
returns c = seconds-moved c.args.course c.args.chunk.now c.args.at c.args.ended c.args.rows.now _ _ _ _ _ _ _ c.fill-filled.ensures c.requires.want-left c.requires.want-room (omega (arith, c.if-seconds-eq0.false)) _ _ c.with_inputs.ensures
