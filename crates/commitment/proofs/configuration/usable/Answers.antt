-- `commitment::configuration::usable` meets its contract. Assumes nothing.
use Rattle.std.proofs.Common.{refl}
use Rattle.commitment.specs.Choice.{usable_of}
use Rattle.commitment.proofs.configuration.usable.Goals as goal

pub returns : goal.returns
unfolding usable_of
returns c = refl
