-- `lines_read` meets its contract. Assumes nothing.
use Rattle.check_machine.proofs.StopLaws.{stop-steps, short-lines, at-event}
use Rattle.check_machine.proofs.StepLaws.{search-steps, search-ends}
use Rattle.check_machine.specs.declared.state.Stage.{Stage}
use Rattle.std.proofs.Common.{rules}
use mathlib.Core.Logic.{inl, inr}
use mathlib.Core.Path.{refl}
use Rattle.check_machine.proofs.lines.lines_read.Goals as goal

pub returns-in-None : goal.returns-in-None
returns-in-None c =
    let short = c.in-None.ensures.lookup in
    λ out. short-lines c.args.refusal c.args.held c.args.event _ c.args.buf.now out _ _ c.stopped.ensures c.in-Read.is (search (rules, short))

pub returns-in-Some : goal.returns-in-Some
returns-in-Some c = λ out. at-event (Stage.Lines c.args.refusal) c.args.held c.args.event _ c.args.buf.now out out _ c.in-Read.is (search-steps c.args.refusal c.args.held _ c.args.buf.now out _ c.lines_in.ensures)

pub returns-in-End : goal.returns-in-End
returns-in-End c = λ out. search-ends c.args.refusal c.args.held c.args.event c.args.buf.now out _ c.lines_end.ensures

pub returns-in-Done : goal.returns-in-Done
returns-in-Done c = λ out.
    elim c.in-Done.is [
      | inl is ↦ stop-steps (Stage.Lines c.args.refusal) c.args.held c.args.held c.args.event _ c.args.buf.now out out _ _ c.stopped-in-Done.ensures is refl
      | inr is ↦ stop-steps (Stage.Lines c.args.refusal) c.args.held c.args.held c.args.event _ c.args.buf.now out out _ _ c.stopped-in-Done.ensures is.1 refl
    ]

pub returns-in-Failed : goal.returns-in-Failed
returns-in-Failed c = λ out. search-ends c.args.refusal c.args.held c.args.event c.args.buf.now out _ refl
