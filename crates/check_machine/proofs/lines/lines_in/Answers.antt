-- `lines_in` meets its contract. Assumes nothing.
use Rattle.check_machine.proofs.StepLaws.{line-found, line-awaited}
use Rattle.check_machine.proofs.lines.lines_in.Goals as goal

pub returns-in-Found : goal.returns-in-Found
returns-in-Found c = line-found c.args.refusal _

pub returns : goal.returns
returns c = line-awaited c.args.refusal _
