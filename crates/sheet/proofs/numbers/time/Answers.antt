-- `sheet::numbers::time` meets its contract. Assumes nothing.
use Rattle.rules.specs.Bytes.{digits, value}
use Rattle.rules.specs.SampleFile.{time_cell}
use Rattle.sheet.proofs.numbers.time.Goals as goal

pub returns : goal.returns
unfolding time_cell
returns c =
    let s = c.args.cell.now in
    λ line. c.limited.ensures line (digits 9 s) (value s) c.digits_of.ensures
