-- `records::start::mode_at_start` meets its contract. Assumes nothing.
use borrow.Author.Tests.{eq-eqb, ne_eqb}
use Rattle.records.proofs.start.mode_at_start.Goals as goal

pub returns-then-online-place-eq1 : goal.returns-then-online-place-eq1
returns-then-online-place-eq1 c = rw (eq-eqb _ _ c.if-online-place-eq1.true)

pub returns-else-online-place-eq1 : goal.returns-else-online-place-eq1
returns-else-online-place-eq1 c = rw (ne_eqb _ _ c.if-online-place-eq1.false)
