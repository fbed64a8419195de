-- `telling` meets its contract. Assumes nothing.
use mathlib.Core.Path.{refl}
use mathlib.Core.Logic.{inl, inr}
use Rattle.run_stages.specs.declared.state.Stage.{Stage}
use Rattle.run_stages.proofs.StopLaws.{stop-steps, at-event}
use Rattle.run_calling.proofs.CallingLaws.{tell-steps}
use Rattle.run_calling.proofs.calling.telling.Goals as goal

pub returns-in-Read : goal.returns-in-Read
returns-in-Read c = at-event Stage.Telling c.args.held c.args.event _ c.args.buf.now c.args.out.now c.args.out.now _ c.in-Read.is (tell-steps c.args.held _ _ c.args.buf.now c.args.out.now c.args.out.now _ c.is_told.ensures c.named.ensures)

pub returns-in-Failed : goal.returns-in-Failed
returns-in-Failed c = stop-steps Stage.Telling c.args.held c.args.event _ c.args.buf.now c.args.out.now c.args.out.now _ _ c.stopped.ensures c.in-Failed.is refl

pub returns-in-Done : goal.returns-in-Done
returns-in-Done c =
    elim c.in-Done.is [
      | inl is ↦ stop-steps Stage.Telling c.args.held c.args.event _ c.args.buf.now c.args.out.now c.args.out.now _ _ c.stopped-in-Done.ensures is refl
      | inr (inl is) ↦ stop-steps Stage.Telling c.args.held c.args.event _ c.args.buf.now c.args.out.now c.args.out.now _ _ c.stopped-in-Done.ensures is.1 refl
      | inr (inr is) ↦ stop-steps Stage.Telling c.args.held c.args.event _ c.args.buf.now c.args.out.now c.args.out.now _ _ c.stopped-in-Done.ensures is refl
    ]
