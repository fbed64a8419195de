-- `flow::shed_now` meets its contract. Assumes nothing.
use Rattle.rules.specs.Flows.{shed_now}
use Rattle.flows.proofs.flow.shed_now.Goals as goal

pub returns : goal.returns
unfolding shed_now
returns c = c.min.ensures
