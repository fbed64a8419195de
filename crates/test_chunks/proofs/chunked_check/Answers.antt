-- `test_chunks::chunked_check` meets its contract. Assumes nothing.
use mathlib.Core.Path.{ap, ◌∙◌}
use borrow.Author.Rules.{rules}
use Rattle.samples.proofs.CheckLaws.{span-place}
use Rattle.test_chunks.specs.Answers.{span_answer}
use Rattle.test_chunks.proofs.chunked_check.Goals as goal

pub returns : goal.returns
returns c =
    let file = c.args.samples.now in
    c.span_answer.ensures ∙ ap span_answer (c.finish.ensures ∙ c.fed_in_chunks.ensures ∙ span-place file (search rules))
