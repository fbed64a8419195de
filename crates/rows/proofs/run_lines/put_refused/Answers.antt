-- `put_refused` meets its contract. Assumes nothing.
use Rattle.rows.specs.AnswerLine.{refused_line}
use Rattle.rows.proofs.run_lines.put_refused.Goals as goal

pub returns : goal.returns
unfolding refused_line
returns c = rw (c.from-answer.ensures.0, c.from-answer.ensures.1) at c.put_refusal.ensures
