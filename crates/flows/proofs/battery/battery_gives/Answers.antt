-- `battery::battery_gives` meets its contract. Assumes nothing.
use Rattle.rules.specs.Flows.{battery_gives}
use Rattle.flows.proofs.battery.battery_gives.Goals as goal

pub returns : goal.returns
unfolding battery_gives
returns c = simp (c.min.ensures, c.at_most.ensures, c.saturating_sub-content.ensures, c.saturating_sub.ensures)
