-- `asked` meets its contract. Assumes nothing.
use mathlib.Core.Logic.{inl, inr}
use Rattle.check_machine.proofs.state.asked.Goals as goal

pub returns-in-Counting : goal.returns-in-Counting
returns-in-Counting c = rw c.in-Counting.is

pub returns-in-Judging : goal.returns-in-Judging
returns-in-Judging c = rw c.in-Judging.is c.judge_asks.ensures

pub returns-in-Answer : goal.returns-in-Answer
returns-in-Answer c = elim c.in-Answer.is [ inl is ↦ rw is.1 | inr is ↦ rw is.1 ]

pub returns-in-ToLines : goal.returns-in-ToLines
returns-in-ToLines c = rw c.in-ToLines.is

pub returns-in-Lines : goal.returns-in-Lines
returns-in-Lines c = rw c.in-Lines.is

pub returns-in-Stop : goal.returns-in-Stop
returns-in-Stop c = rw c.in-Stop.is
