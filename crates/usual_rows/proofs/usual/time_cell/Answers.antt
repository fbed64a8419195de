-- `usual_rows::usual::time_cell` meets its contract. Assumes nothing.
use Rattle.usual_rows.proofs.UsualLaws.{time-part}
use Rattle.usual_rows.proofs.usual.time_cell.Goals as goal

pub returns : goal.returns
returns c = time-part c.args.text.now c.args.at c.digits_from-digits.result c.digits_from-digits.ensures c.if-digits-at.false
