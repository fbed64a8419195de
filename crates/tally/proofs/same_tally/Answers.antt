-- `tally::same_tally` meets its contract. Assumes nothing.
use Rattle.std.proofs.Common.{rules}
use Rattle.tally.specs.Tally.{same_tally}
use Rattle.tally.proofs.same_tally.Goals as goal

pub returns : goal.returns
unfolding same_tally
returns c = rw c.eq.ensures (search rules)
