-- `sheet_stages::stage::verdict_at` meets its contract. Assumes nothing.
use Rattle.sheet_stages.proofs.StageLaws.{end-heading, end-first, end_later, end_refused}
use Rattle.sheet_stages.proofs.stage.verdict_at.Goals as goal

pub returns-in-Heading : goal.returns-in-Heading
returns-in-Heading c = rw c.in-Heading.is end-heading

pub returns-in-FirstRow : goal.returns-in-FirstRow
returns-in-FirstRow c = rw c.in-FirstRow.is (end-first _)

pub returns-in-LaterRows : goal.returns-in-LaterRows
returns-in-LaterRows c = rw c.in-LaterRows.is (end_later _ _ _)

pub returns-in-Refused : goal.returns-in-Refused
returns-in-Refused c = rw c.in-Refused.is (end_refused _)
