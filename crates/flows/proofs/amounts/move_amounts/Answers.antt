-- `amounts::move_amounts` meets its contract: the first amounts move by one place. Assumes nothing.
use Rattle.flows.proofs.Shifting.{moved}
use Rattle.flows.proofs.amounts.move_amounts.Goals as goal

pub returns : goal.returns
returns c = rw c.copy_within.ensures.after (moved _ _ _ c.requires.0 c.requires.1)
