-- `refuse` meets its contract. Assumes nothing.
use Rattle.check_machine.proofs.PutLaws.{refuse-puts, refuse-stops}
use Rattle.check_machine.proofs.answer.refuse.Goals as goal

pub returns-in-Err : goal.returns-in-Err
returns-in-Err c = refuse-stops c.args.held c.args.out.now _ _ _ c.in-Err.is _ _ c.stopped.ensures c.args.refusal c.put_refused.ensures

pub returns-in-Ok : goal.returns-in-Ok
returns-in-Ok c = refuse-puts c.args.held c.args.out.now _ c.put_refused.result _ c.in-Ok.is c.args.refusal c.put_refused.ensures
