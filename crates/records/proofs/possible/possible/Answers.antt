-- `records::possible::possible` meets its contract, with each part as its own function tells it. Assumes nothing.
use borrow.Author.Tests.{le-leb, lt-leb}
use Rattle.rules.specs.RunRecord.{possible}
use Rattle.records.proofs.possible.possible.Goals as goal

pub returns-then-done-gt-MOST_SECONDS : goal.returns-then-done-gt-MOST_SECONDS
unfolding possible
returns-then-done-gt-MOST_SECONDS c = rw (lt-leb _ _ c.if-done-gt-MOST_SECONDS.true)

pub returns : goal.returns
unfolding possible
returns c = simp (le-leb _ _ c.if-done-gt-MOST_SECONDS.false, c.states_possible.ensures, c.totals_possible.ensures, c.decided_possible.ensures)
