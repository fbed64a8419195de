-- `commitment::setpoint::filter_of` meets its contract: the literal 1000.0, which is kept by its bits, is the whole number 1000.
-- Assumes nothing.
use Rattle.std.proofs.Common.{arith}
use lib.Ieee.{of_int, of_bits}
use Rattle.rules.specs.Setpoint.{filter_of, thousandths, float}
use Rattle.commitment.proofs.Floats.{whole}
use Rattle.commitment.proofs.setpoint.filter_of.Goals as goal

pub int_to_float-result-2 : goal.int_to_float-result-2
int_to_float-result-2 c = whole c.saturating_sub-rest.result (omega (arith, c.saturating_sub-rest.ensures))

pub returns : goal.returns
unfolding filter_of thousandths float of_int of_bits
returns c = rw c.saturating_sub-rest.ensures
