-- `flow::diesel_for` meets its contract. Assumes nothing.
use Rattle.rules.specs.Flows.{diesel_for}
use Rattle.flows.proofs.flow.diesel_for.Goals as goal

pub returns : goal.returns
unfolding diesel_for
returns c = c.min.ensures
