-- `sheet_stages::stage::too_long` meets its contract. Assumes nothing.
use Rattle.sheet_stages.proofs.StageLaws.{long-heading, long-first, long-later, long-refused}
use Rattle.sheet_stages.proofs.stage.too_long.Goals as goal

pub returns-in-Heading : goal.returns-in-Heading
returns-in-Heading c = λ l ls rest h. rw c.in-Heading.is (long-heading l ls rest h)

pub returns-in-FirstRow : goal.returns-in-FirstRow
returns-in-FirstRow c = λ l ls rest h. rw c.in-FirstRow.is (long-first l ls rest h _)

pub returns-in-LaterRows : goal.returns-in-LaterRows
returns-in-LaterRows c = λ l ls rest h. rw c.in-LaterRows.is (long-later l ls rest h _ _ _ _ c.next_line.ensures)

pub returns-in-Refused : goal.returns-in-Refused
returns-in-Refused c = λ l ls rest h. rw c.in-Refused.is (long-refused l ls rest h _)
