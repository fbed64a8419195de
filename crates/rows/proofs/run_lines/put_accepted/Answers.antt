-- `put_accepted` meets its contract. Assumes nothing.
use Rattle.rules.specs.Bytes.{bytes}
use Rattle.rows.specs.AnswerLine.{accepted_line}
use Rattle.rows.proofs.run_lines.put_accepted.Goals as goal

pub returns : goal.returns
unfolding accepted_line bytes
returns c = c.put_line.ensures
