-- `station::bodies::configurations_of` meets its contract. Assumes nothing.
use Rattle.station.proofs.Reading.{littles-copied}
use Rattle.station.proofs.bodies.configurations_of.Goals as goal

pub returns : goal.returns
returns c = littles-copied c.copy_from_slice.new.self c.args.s.now c.args.at c.args.configcount c.requires.0 c.requires.1 c.copy_from_slice.ensures.after
