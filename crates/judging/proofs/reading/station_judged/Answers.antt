-- `station_judged` meets its contract. Assumes nothing.
use Rattle.judging.proofs.StationLaws.{station-refused, station-accepted}
use mathlib.Core.Path.{sym, ◌∙◌}
use Rattle.judging.proofs.reading.station_judged.Goals as goal

pub returns-then-is_station_refused : goal.returns-then-is_station_refused
returns-then-is_station_refused c = station-refused c.args.held (sym c.is_station_refused.ensures ∙ c.if-is_station_refused.true)

pub returns-else-is_station_refused : goal.returns-else-is_station_refused
returns-else-is_station_refused c = station-accepted c.args.held
