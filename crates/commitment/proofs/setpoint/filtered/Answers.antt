-- `commitment::setpoint::filtered` meets its contract. Assumes nothing.
use Rattle.std.proofs.Common.{refl}
use Rattle.rules.specs.Setpoint.{filtered}
use Rattle.commitment.proofs.setpoint.filtered.Goals as goal

pub returns : goal.returns
unfolding filtered
returns c = refl
