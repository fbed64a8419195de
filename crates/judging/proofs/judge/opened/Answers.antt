-- `opened` meets its contract. Assumes nothing.
use mathlib.Core.Path.{sym, ap, ◌∙◌}
use mathlib.Core.Bool.{Bool}
use Rattle.judging.specs.Stages.{opened_by}
use Rattle.judging.proofs.judge.opened.Goals as goal

pub returns-then-held : goal.returns-then-held
returns-then-held c = c.moved.ensures ∙ ap (λ (b : Bool). opened_by b c.args.event c.args.held) (sym c.if-held.true)

pub returns-else-held : goal.returns-else-held
returns-else-held c = c.moved-else-held.ensures ∙ ap (λ (b : Bool). opened_by b c.args.event c.args.held) (sym c.if-held.false)
