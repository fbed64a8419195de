-- `called` meets its contract. Assumes nothing.
use native.Mathlib.Omega.{arith}
use Rattle.run_calling.proofs.CallingLaws.{plain-call, word-call, wrong-call}
use Rattle.run_calling.proofs.calling.called.Goals as goal

pub returns-in-4 : goal.returns-in-4
returns-in-4 c = plain-call c.args.held c.args.count c.in-4.is

pub returns-in-5 : goal.returns-in-5
returns-in-5 c = word-call c.args.held c.args.count c.in-5.is

pub returns-in_default : goal.returns-in_default
returns-in_default c = wrong-call c.args.held c.args.count _ _ (λ four. omega arith) (λ five. omega arith) c.stopped.ensures
