-- `records::states::state_possible` meets its contract. Assumes nothing.
use Rattle.rules.specs.RunRecord.{state_possible}
use Rattle.records.proofs.states.state_possible.Goals as goal

pub returns-then-not-exists : goal.returns-then-not-exists
unfolding state_possible
returns-then-not-exists c = rw (c.if-not-exists.true, c.state_unused.ensures)

pub returns : goal.returns
unfolding state_possible
returns c = rw (c.if-not-exists.false, c.counts_possible.ensures, c.mode_possible.ensures)
