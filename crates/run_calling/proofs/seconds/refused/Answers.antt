-- `refused` meets its contract. Assumes nothing.
use Rattle.run_calling.proofs.SecondsLaws.{refusal-put, refusal-stop}
use Rattle.run_calling.proofs.seconds.refused.Goals as goal

pub returns-in-Ok : goal.returns-in-Ok
returns-in-Ok c = refusal-put c.args.held c.args.refusal c.args.out.now _ _ _ c.in-Ok.is c.put_refused.ensures

pub returns-in-Err : goal.returns-in-Err
returns-in-Err c = refusal-stop c.args.held c.args.refusal c.args.out.now _ _ _ _ _ c.in-Err.is c.put_refused.ensures c.stopped.ensures
