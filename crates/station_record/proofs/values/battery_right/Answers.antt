-- `station_record::values::battery_right` meets its contract. Assumes nothing.
use lib.Dec.{leb-zero}
use Rattle.rules.specs.StationRecord.{battery_right}
use Rattle.station_record.proofs.Ranges.{contents-below}
use Rattle.station_record.proofs.values.battery_right.Goals as goal

pub returns : goal.returns
unfolding battery_right
returns c = simp (c.within.ensures, c.within-2.ensures, c.within-3.ensures, c.within-4.ensures, c.within-5.ensures, leb-zero) (contents-below c.args.b)
