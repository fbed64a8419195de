-- `station_record::values::set_right` meets its contract. Assumes nothing.
use lib.Dec.{leb-zero}
use Rattle.rules.specs.StationRecord.{set_right}
use Rattle.station_record.proofs.values.set_right.Goals as goal

pub returns : goal.returns
unfolding set_right
returns c = simp (c.within.ensures, c.within-2.ensures, c.within-3.ensures, c.within-4.ensures, c.within-5.ensures, leb-zero, c.service_right.ensures)
