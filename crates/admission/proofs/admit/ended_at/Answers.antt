-- `admission::admit::ended_at` meets its contract. Assumes nothing.
use borrow.Author.Tests.{eq-eqb, ne_eqb}
use Rattle.admission.specs.Admission.{ended_at}
use Rattle.admission.proofs.admit.ended_at.Goals as goal

pub returns-then-count-asked : goal.returns-then-count-asked
unfolding ended_at
returns-then-count-asked c = rw (eq-eqb c.args.count c.args.asked c.if-count-asked.true)

pub returns-then-count-room : goal.returns-then-count-room
unfolding ended_at
returns-then-count-room c = rw (ne_eqb c.args.count c.args.asked c.if-count-asked.false, eq-eqb c.args.count c.args.room c.if-count-room.true)

pub returns : goal.returns
unfolding ended_at
returns c = rw (ne_eqb c.args.count c.args.asked c.if-count-asked.false, ne_eqb c.args.count c.args.room c.if-count-room.false)
