-- `sample_rows::reader::whole_line` meets its contract. Assumes nothing.

use Rattle.sample_rows.proofs.reader.whole_line.Goals as goal

pub returns : goal.returns
returns c = λ ls. rw c.text_of.ensures at (c.take_line.ensures ls)
