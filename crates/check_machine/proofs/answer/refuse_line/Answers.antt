-- `refuse_line` meets its contract. Assumes nothing.
use Rattle.check_machine.proofs.PutLaws.{without-line, refuse-line-puts, refuse-line-stops}
use Rattle.check_machine.proofs.answer.refuse_line.Goals as goal

pub returns-then-line-eq0 : goal.returns-then-line-eq0
returns-then-line-eq0 c = without-line c.args.refusal _ _ _ c.refuse.ensures

pub returns-in-Err : goal.returns-in-Err
returns-in-Err c = refuse-line-stops _ c.args.out.now _ _ _ c.in-Err.is _ _ c.stopped.ensures c.args.refusal c.put_refused.ensures

pub returns-in-Ok : goal.returns-in-Ok
returns-in-Ok c = refuse-line-puts _ c.args.out.now _ c.put_refused.result _ c.in-Ok.is c.args.refusal c.put_refused.ensures
