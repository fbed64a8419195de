-- `station::reader::no_station` meets its contract. Assumes nothing.
use Rattle.rules.specs.StationRecord.{no_station}
use Rattle.station.proofs.reader.no_station.Goals as goal

pub returns : goal.returns
unfolding no_station
returns c = rw c.no_set-none.ensures
