-- `station_record::values::control_right` meets its contract. Assumes nothing.
use lib.Dec.{leb-zero}
use Rattle.rules.specs.StationRecord.{control_right}
use Rattle.station_record.proofs.values.control_right.Goals as goal

pub returns : goal.returns
unfolding control_right
returns c = simp (c.within.ensures, c.within-2.ensures, c.within-3.ensures, c.within-4.ensures, c.within-5.ensures, c.within-6.ensures, c.within-7.ensures, c.within-8.ensures, leb-zero, c.existing_only.ensures)
