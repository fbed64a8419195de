-- `station_record::values::configuration_right` meets its contract. Assumes nothing.

use Rattle.station_record.proofs.values.configuration_right.Goals as goal

pub returns : goal.returns
returns c = rw c.existing_only.ensures
