-- `tally::worth` meets its contract. Assumes nothing.
use Rattle.std.proofs.Common.{arith}
use Rattle.tally.specs.Tally.{worth}
use Rattle.tally.proofs.TallyLaws.{worth-last}
use Rattle.tally.proofs.worth.Goals as goal

pub returns-in-0 : goal.returns-in-0
unfolding worth
returns-in-0 c = rw (c.in-0.is, c.from.ensures)

pub returns-in-1 : goal.returns-in-1
unfolding worth
returns-in-1 c = rw (c.in-1.is, c.from-in-1.ensures)

pub returns-in-2 : goal.returns-in-2
unfolding worth
returns-in-2 c = rw (c.in-2.is, c.from-in-2.ensures)

pub returns-in_default : goal.returns-in_default
returns-in_default c = rw c.from-in_default.ensures (worth-last c.args.place c.args.byte (omega arith))
