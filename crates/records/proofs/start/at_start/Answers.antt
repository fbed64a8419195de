-- `records::start::at_start` meets its contract. Assumes nothing.
use mathlib.Core.Path.{refl}
use Rattle.records.specs.NoRun.{at_start}
use Rattle.records.proofs.start.at_start.Goals as goal

pub returns : goal.returns
unfolding at_start
returns c = refl
