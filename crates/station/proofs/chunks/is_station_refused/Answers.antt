-- `station::chunks::is_station_refused` meets its contract. Assumes nothing.
use mathlib.Core.Path.{ap, ◌∙◌}
use Rattle.station.specs.Stations.{is_refused}
use Rattle.station.proofs.StationLaws.{refused-reading}
use Rattle.station.proofs.chunks.is_station_refused.Goals as goal

pub returns : goal.returns
returns c = c.is_err.ensures.value ∙ refused-reading c.station_of.result ∙ ap is_refused c.station_of.ensures
