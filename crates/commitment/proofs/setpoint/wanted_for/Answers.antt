-- `commitment::setpoint::wanted_for` meets its contract. Assumes nothing.
use Rattle.std.proofs.Common.{arith, rules}
use Rattle.rules.specs.Setpoint.{wanted_for}
use Rattle.commitment.proofs.Reserves.{reserve-most}
use Rattle.commitment.proofs.setpoint.wanted_for.Goals as goal

pub overflow_add-result : goal.overflow_add-result
overflow_add-result c =
    let s = c.args in
    record { fits = omega (arith, c.reserve.ensures, reserve-most s.control s.solar c.saturating_sub-live.result (search rules) (search rules) (search rules)) }

pub returns : goal.returns
unfolding wanted_for
returns c = rw (c.reserve.ensures, c.saturating_sub-live.ensures)
