-- `test_chunks::passed` meets its contract. Assumes nothing.
use Rattle.test_chunks.proofs.ChunkedLaws.{row-asked, row_before}
use Rattle.test_chunks.proofs.passed.Goals as goal

pub returns-then-before-eq0 : goal.returns-then-before-eq0
returns-then-before-eq0 c = λ rows. rw (c.in-Some.is, c.in-After.is) (row-asked _ _ c.if-before-eq0.true rows)

pub returns-in-None : goal.returns-in-None
returns-in-None c = λ rows. rw c.in-None.is

pub returns-in-Came : goal.returns-in-Came
returns-in-Came c = λ rows. rw (c.in-Some.is, c.in-Came.is)

pub returns-else-before-eq0 : goal.returns-else-before-eq0
returns-else-before-eq0 c = λ rows. rw (c.in-Some.is, c.in-After.is) (row_before _ _ c.if-before-eq0.false rows)
