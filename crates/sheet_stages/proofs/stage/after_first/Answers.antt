-- `sheet_stages::stage::after_first` meets its contract. Assumes nothing.
use borrow.Author.Tests.{eq-eqb, ne_eqb}
use Rattle.sheet_stages.proofs.StageLaws.{first_taken}
use Rattle.sheet_stages.proofs.stage.after_first.Goals as goal

pub returns-then-sample-eq0 : goal.returns-then-sample-eq0
returns-then-sample-eq0 c = λ l ls e. rw (c.in-Ok.is, eq-eqb _ 0 c.if-sample-eq0.true) at (first_taken c.args.columns l ls c.args.row e)

pub returns-else-sample-eq0 : goal.returns-else-sample-eq0
returns-else-sample-eq0 c = λ l ls e. rw c.waiting.ensures (rw (c.in-Ok.is, ne_eqb _ 0 c.if-sample-eq0.false) at (first_taken c.args.columns l ls c.args.row e))

pub returns-in-Err : goal.returns-in-Err
returns-in-Err c = λ l ls e. rw c.waiting-in-Err.ensures (rw c.in-Err.is at (first_taken c.args.columns l ls c.args.row e))
