-- `tally::with_byte` meets its contract. Assumes nothing.
use Rattle.tally.specs.Tally.{with_byte}
use Rattle.tally.proofs.with_byte.Goals as goal

pub returns : goal.returns
unfolding with_byte
returns c = rw (c.at_word_end.ensures, c.worth.ensures)
