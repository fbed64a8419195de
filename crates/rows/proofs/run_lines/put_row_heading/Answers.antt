-- `put_row_heading` meets its contract. Assumes nothing.
use Rattle.rules.specs.Bytes.{bytes}
use Rattle.rules.specs.Row.{row_heading}
use Rattle.rows.proofs.run_lines.put_row_heading.Goals as goal

pub returns : goal.returns
unfolding row_heading bytes
returns c = c.put_line.ensures
