-- `sheet::numbers::power` meets its contract. Assumes nothing.
use Rattle.rules.specs.Bytes.{point, parts}
use Rattle.rules.specs.SampleFile.{power_form, power_value, power_cell}
use Rattle.sheet.proofs.numbers.power.Goals as goal

pub returns : goal.returns
unfolding power_cell
returns c =
    let ps = parts point c.args.cell.now in
    λ line. c.limited.ensures line (power_form ps) (power_value ps) c.watts_of.ensures
