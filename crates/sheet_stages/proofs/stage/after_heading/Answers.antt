-- `sheet_stages::stage::after_heading` meets its contract. Assumes nothing.
use Rattle.sheet_stages.proofs.StageLaws.{heading-taken}
use Rattle.sheet_stages.proofs.stage.after_heading.Goals as goal

pub returns-in-Ok : goal.returns-in-Ok
returns-in-Ok c = λ l ls e. rw c.waiting.ensures (rw c.in-Ok.is at (heading-taken l ls c.args.headed e))

pub returns-in-Err : goal.returns-in-Err
returns-in-Err c = λ l ls e. rw c.waiting-in-Err.ensures (rw c.in-Err.is at (heading-taken l ls c.args.headed e))
