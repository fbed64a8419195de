-- `amounts::shed_decided` meets its contract. Assumes nothing.
use Rattle.rules.specs.Flows.{shed_decided}
use Rattle.flows.proofs.amounts.shed_decided.Goals as goal

pub returns : goal.returns
unfolding shed_decided
returns c = simp (c.at_most.ensures, c.saturating_sub.ensures, c.percent.ensures, c.saturating_sub-left.ensures)
