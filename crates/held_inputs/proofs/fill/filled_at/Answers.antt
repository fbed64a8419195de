-- `held_inputs::fill::filled_at` meets its contract. Assumes nothing.

use Rattle.held_inputs.proofs.fill.filled_at.Goals as goal

pub returns : goal.returns
returns c = rw c.reader_at.ensures
