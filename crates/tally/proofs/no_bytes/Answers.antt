-- `tally::no_bytes` meets its contract. Assumes nothing.
use Rattle.std.proofs.Common.{refl}
use Rattle.tally.specs.Tally.{no_bytes}
use Rattle.tally.proofs.no_bytes.Goals as goal

pub returns : goal.returns
unfolding no_bytes
returns c = refl
