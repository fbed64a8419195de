-- `steady::next_event::waited` meets its contract. Assumes nothing.

use Rattle.steady.proofs.next_event.waited.Goals as goal

pub returns : goal.returns
returns c = simp c.counted_down.ensures
