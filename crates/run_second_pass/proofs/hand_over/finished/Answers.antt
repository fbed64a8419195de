-- `finished` meets its contract. Assumes nothing.
use Rattle.run_second_pass.specs.Passes.{is_over}
use Rattle.run_second_pass.proofs.HandingLaws.{complete-finishes, broken-stops, unended-stops}
use mathlib.Core.Path.{sym, ap, ◌∙◌}
use Rattle.run_second_pass.proofs.hand_over.finished.Goals as goal

pub returns-then-not-is_over : goal.returns-then-not-is_over
returns-then-not-is_over c = broken-stops c.args.held _ _ (ap is_over (sym c.phase_of.ensures) ∙ sym c.is_over.ensures ∙ c.if-not-is_over.true) c.stopped.ensures

pub returns-then-held : goal.returns-then-held
returns-then-held c = complete-finishes c.args.held (ap is_over (sym c.phase_of.ensures) ∙ sym c.is_over.ensures ∙ c.if-not-is_over.false) c.if-held.true

pub returns : goal.returns
returns c = unended-stops c.args.held _ _ (ap is_over (sym c.phase_of.ensures) ∙ sym c.is_over.ensures ∙ c.if-not-is_over.false) c.if-held.false c.stopped-2.ensures
