-- `steady::curve_table::burned_on` meets its contract. Assumes nothing.
use Rattle.steady.proofs.CurveRead.{rate-read}
use Rattle.steady.proofs.curve_table.burned_on.Goals as goal

pub returns : goal.returns
returns c = λ g right most are.
    rw (c.per_hour.ensures, c.rate_on.ensures, c.from-second.ensures, c.from-third.ensures, c.from-fourth.ensures)
    (rate-read g right c.args.power most c.args.lines.now are _)
