-- `flow::solar_on_load` meets its contract. Assumes nothing.
use Rattle.rules.specs.Flows.{solar_on_load}
use Rattle.flows.proofs.flow.solar_on_load.Goals as goal

pub returns : goal.returns
unfolding solar_on_load
returns c = simp (c.at_most.ensures, c.saturating_sub.ensures)
