-- `test_chunks::chunked_rows` meets its contract. Assumes nothing.
use mathlib.Core.Path.{ap, ◌∙◌}
use Rattle.test_chunks.specs.Answers.{found_answer}
use Rattle.test_chunks.proofs.chunked_rows.Goals as goal

pub returns : goal.returns
returns c =
    c.row_answer.ensures ∙ ap found_answer c.row_in_chunks.ensures
