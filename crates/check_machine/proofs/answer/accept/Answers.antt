-- `accept` meets its contract. Assumes nothing.
use Rattle.check_machine.proofs.PutLaws.{accept-puts, accept-stops}
use Rattle.check_machine.proofs.answer.accept.Goals as goal

pub returns-in-Err : goal.returns-in-Err
returns-in-Err c = accept-stops c.args.held c.args.out.now _ _ _ c.in-Err.is _ _ c.stopped.ensures c.put_accepted.ensures

pub returns-in-Ok : goal.returns-in-Ok
returns-in-Ok c = accept-puts c.args.held c.args.out.now _ c.put_accepted.result _ c.in-Ok.is c.put_accepted.ensures
