-- `usual_rows::usual::power_after` meets its contract. Assumes nothing.
use Rattle.rules.specs.SampleFile.{power_cell}
use Rattle.usual_rows.proofs.UsualLaws.{cell-taken}
use Rattle.usual_rows.proofs.usual.power_after.Goals as goal

pub returns : goal.returns
returns c = (c.if-text-comma-ne44.false, cell-taken power_cell 10 50000000 _ _ _ _ (rw c.in_ok-cell.was at c.power_cell.ensures) c.if-cell-gt-MOST_POWER.false)
