-- `sheet_stages::stage::take_line` meets its contract. Assumes nothing.
use Rattle.sheet_stages.proofs.StageLaws.{later-led, refused-taken}
use Rattle.sheet_stages.proofs.stage.take_line.Goals as goal

pub returns-in-Heading : goal.returns-in-Heading
returns-in-Heading c =
    λ ls. rw c.in-Heading.is (c.after_heading.ensures _ ls c.heading_line.ensures)

pub returns-in-FirstRow : goal.returns-in-FirstRow
returns-in-FirstRow c =
    λ ls. rw c.in-FirstRow.is (c.after_first.ensures _ ls c.read_row.ensures)

pub returns-in-LaterRows : goal.returns-in-LaterRows
returns-in-LaterRows c =
    λ ls. rw c.in-LaterRows.is (later-led _ _ _ c.read_row-in-LaterRows.result _ c.after_later.ensures _ ls _ c.next_line-line.ensures c.read_row-in-LaterRows.ensures)

pub returns-in-Refused : goal.returns-in-Refused
returns-in-Refused c = λ ls. rw (c.waiting.ensures, c.in-Refused.is) (refused-taken _ _ ls)
