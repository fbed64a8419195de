-- `station::bodies::no_set` meets its contract. Assumes nothing.
use mathlib.Core.Path.{refl}
use Rattle.rules.specs.StationRecord.{no_set}
use Rattle.station.proofs.bodies.no_set.Goals as goal

pub returns : goal.returns
unfolding no_set
returns c = refl
