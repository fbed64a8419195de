-- `answer_samples` meets its contract. Assumes nothing.
use Rattle.check_machine.proofs.PutLaws.{accepts-samples, refuses-samples}
use Rattle.check_machine.proofs.answer.answer_samples.Goals as goal

pub returns-in-Ok : goal.returns-in-Ok
returns-in-Ok c = accepts-samples c.args.held _ _ _ c.finish.result c.finish.ensures _ c.in-Ok.is c.accept.ensures

pub returns-in-Err : goal.returns-in-Err
returns-in-Err c = refuses-samples c.args.held _ _ _ c.finish.result c.finish.ensures _ c.in-Err.is c.refuse_line.ensures
