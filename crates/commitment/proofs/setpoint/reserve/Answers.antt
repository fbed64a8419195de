-- `commitment::setpoint::reserve` meets its contract. Assumes nothing.
use Rattle.std.proofs.Common.{eq-eqb, ne_eqb}
use Rattle.rules.specs.Setpoint.{reserve}
use Rattle.commitment.proofs.setpoint.reserve.Goals as goal

pub returns-then-control-eq1 : goal.returns-then-control-eq1
unfolding reserve
returns-then-control-eq1 c =
    simp (eq-eqb _ _ c.if-control-eq1.true, c.max.ensures, c.saturating_sub.ensures, c.coverage_of-coverage.ensures)

pub returns : goal.returns
unfolding reserve
returns c =
    simp (ne_eqb _ _ c.if-control-eq1.false, c.saturating_sub-2.ensures, c.max-2.ensures, c.coverage_of-coverage.ensures)
