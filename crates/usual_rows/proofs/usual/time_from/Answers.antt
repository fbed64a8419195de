-- `usual_rows::usual::time_from` meets its contract. Assumes nothing.
use Rattle.rules.specs.SampleFile.{time_cell}
use Rattle.usual_rows.proofs.UsualLaws.{cell-taken}
use Rattle.usual_rows.proofs.usual.time_from.Goals as goal

pub returns : goal.returns
returns c = cell-taken time_cell 9 316223999 _ _ _ _ (rw c.in_ok-cell.was at c.time_cell.ensures) c.if-cell-gt-MOST_TIME.false
