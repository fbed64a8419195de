-- `commitment::setpoint::held_after` meets its contract: each arm is told which variant the setpoint is, at which the definition
-- computes. Assumes nothing.
use Rattle.rules.specs.Setpoint.{float, held_after}
use Rattle.commitment.proofs.setpoint.held_after.Goals as goal

pub returns-in-None : goal.returns-in-None
unfolding held_after float
returns-in-None c = rw (c.in-None.is, c.nearest_u64_to_f64-asked.ensures)

pub returns-in-Some : goal.returns-in-Some
unfolding held_after float
returns-in-Some c = rw (c.in-Some.is, c.filtered.ensures, c.filter_of.ensures, c.nearest_u64_to_f64-asked.ensures)
