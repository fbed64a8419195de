-- `station::chunks::station_bytes` meets its contract. Assumes nothing.
use mathlib.Core.Path.{refl}
use Rattle.station.specs.Stations.{station_with}
use Rattle.station.proofs.chunks.station_bytes.Goals as goal

pub returns : goal.returns
unfolding station_with
returns c = λ rest. refl
