-- `sample_rows::reader::text_of` meets its contract. Assumes nothing.

use Rattle.sample_rows.proofs.reader.text_of.Goals as goal

pub returns-then-ended : goal.returns-then-ended
returns-then-ended c = rw c.if-ended.true c.without_cr.ensures
