-- `commitment::configuration::covers` meets its contract. Assumes nothing.
use Rattle.std.proofs.Common.{refl}
use Rattle.rules.specs.Setpoint.{covers, float}
use Rattle.commitment.proofs.configuration.covers.Goals as goal

pub returns : goal.returns
unfolding covers float
returns c = refl
