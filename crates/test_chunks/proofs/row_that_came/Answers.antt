-- `test_chunks::row_that_came` meets its contract. Assumes nothing.
use Rattle.test_chunks.specs.Answers.{row_at}
use Rattle.test_chunks.proofs.row_that_came.Goals as goal

pub returns-in-Came : goal.returns-in-Came
returns-in-Came c = rw c.in-Came.is

pub returns-in-After : goal.returns-in-After
unfolding row_at
returns-in-After c = rw c.in-After.is
