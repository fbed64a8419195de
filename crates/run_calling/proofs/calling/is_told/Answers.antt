-- `is_told` meets its contract. Assumes nothing.
use mathlib.Core.Path.{◌∙◌}
use Rattle.run_calling.specs.Calls.{Tells}
use Rattle.run_calling.proofs.CallingLaws.{word-told}
use Rattle.run_calling.proofs.calling.is_told.Goals as goal

pub returns-then-size-eq2 : goal.returns-then-size-eq2
unfolding Tells
returns-then-size-eq2 c = λ within e. c.starts_with.ensures.value ∙ (word-told c.args.word.now c.args.size within e).1

pub returns-else-size-eq2 : goal.returns-else-size-eq2
unfolding Tells
returns-else-size-eq2 c = λ within e. absurd (c.if-size-eq2.false (word-told c.args.word.now c.args.size within e).0)
