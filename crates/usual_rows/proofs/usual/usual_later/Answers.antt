-- `usual_rows::usual::usual_later` meets its contract. Assumes nothing.
use Rattle.std.proofs.Common.{arith}
use Rattle.usual_rows.specs.Usual.{UsualRight}
use Rattle.usual_rows.proofs.usual.usual_later.Goals as goal

pub returns : goal.returns
returns c =
    let u : UsualRight c.args.columns c.args.chunk.now c.args.at c.in_ok-row.row.sample c.in_ok-row.row.next = rw c.in_ok-row.was at c.usual_row.ensures in
    record { later = omega (arith, c.if-row-last.false); right = u }
