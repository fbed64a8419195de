-- `commitment::configuration::capacities` meets its contract. Assumes nothing.
use Rattle.std.proofs.Common.{rules}
use Rattle.commitment.specs.Choice.{capacities}
use Rattle.modes.proofs.MadeByPlace.{made}
use Rattle.commitment.proofs.configuration.capacities.Goals as goal

pub returns : goal.returns
unfolding capacities
returns c = made _ _ 64 _ (λ i y q l called. search rules) _ c.from_fn.ensures.items
