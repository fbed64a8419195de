-- `named` meets its contract. Assumes nothing.
use Rattle.run_calling.proofs.CallingLaws.{told-call, untold-call}
use Rattle.run_calling.proofs.calling.named.Goals as goal

pub returns-then-not-told : goal.returns-then-not-told
returns-then-not-told c = untold-call c.args.held c.args.told _ _ c.if-not-told.true c.stopped.ensures

pub returns : goal.returns
returns c = told-call c.args.held c.args.told
