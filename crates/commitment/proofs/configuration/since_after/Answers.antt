-- `since_after` meets its contract. Assumes nothing.
use Rattle.std.proofs.Common.{eq-eqb, ne_eqb}
use Rattle.commitment.proofs.configuration.since_after.Goals as goal

pub returns-then-call-called : goal.returns-then-call-called
returns-then-call-called c = rw (eq-eqb _ _ c.if-call-called.true)

pub returns-else-call-called : goal.returns-else-call-called
returns-else-call-called c = rw (ne_eqb _ _ c.if-call-called.false)
