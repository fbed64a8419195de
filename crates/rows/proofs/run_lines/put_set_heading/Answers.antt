-- `put_set_heading` meets its contract. Assumes nothing.
use Rattle.rules.specs.Bytes.{bytes}
use Rattle.rules.specs.Row.{set_heading}
use Rattle.rows.proofs.run_lines.put_set_heading.Goals as goal

pub returns : goal.returns
unfolding set_heading bytes
returns c = c.put_line.ensures
