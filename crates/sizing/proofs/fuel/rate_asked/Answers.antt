-- `sizing::fuel::rate_asked` meets its contract. Assumes nothing.
use mathlib.Core.Path.{◌∙◌}
use Rattle.std.proofs.lemmas.Result.{err_from_is_err_and}
use Rattle.rules.specs.Sizing.{rate_asked}
use Rattle.station.proofs.FileAnswers.{file-gives, record-right, file-refused}
use Rattle.sizing.proofs.fuel.rate_asked.Goals as goal

pub returns-in_err-read_station : goal.returns-in_err-read_station
unfolding rate_asked
returns-in_err-read_station c =
    let p = err_from_is_err_and c.from_residual.result c.from_residual.ensures.1 in
    rw (p.1, p.2, file-refused c.args.s.now c.read_station.result c.read_station.ensures _ c.in_err-read_station.was)

pub rate_of_station-requires : goal.rate_of_station-requires
rate_of_station-requires c = record-right c.args.s.now c.read_station.result c.read_station.ensures _ c.in_ok-read_station.was

pub returns : goal.returns
unfolding rate_asked
returns c = c.rate_of_station.ensures ∙ rw (file-gives c.args.s.now c.read_station.result c.read_station.ensures _ c.in_ok-read_station.was)
