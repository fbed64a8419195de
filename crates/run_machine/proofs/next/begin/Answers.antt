-- `begin` meets its contract. Assumes nothing.
use Rattle.run_machine.proofs.StepLaws.{opens-so}
use Rattle.run_machine.proofs.next.begin.Goals as goal

pub returns : goal.returns
returns c = opens-so _ c.judging.ensures c.no_bytes.ensures
