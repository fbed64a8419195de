-- `station_record::values::pairs_right` meets its contract. Assumes nothing.
use Rattle.rules.specs.StationRecord.{pairs_right}
use Rattle.station_record.proofs.values.pairs_right.Goals as goal

pub returns : goal.returns
unfolding pairs_right
returns c = rw (c.loads_rise.ensures, c.pairs_in_range.ensures)
