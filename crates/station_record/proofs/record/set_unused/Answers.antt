-- `station_record::record::set_unused` meets its contract. Assumes nothing.

use Rattle.station_record.proofs.record.set_unused.Goals as goal

pub returns : goal.returns
returns c = rw (c.pairs_unused-2.ensures, c.pairs_unused.ensures)
