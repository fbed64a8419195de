-- `written` meets its contract. Assumes nothing.
use mathlib.Core.Path.{refl}
use mathlib.Core.Logic.{inl, inr}
use Rattle.run_stages.specs.declared.state.Stage.{Stage}
use Rattle.run_stages.proofs.StopLaws.{stop-steps, at-event}
use Rattle.run_second_pass.proofs.SecondPassLaws.{write-steps}
use Rattle.run_second_pass.proofs.writing.written.Goals as goal

pub returns-in-Done : goal.returns-in-Done
returns-in-Done c = at-event (Stage.Write c.args.size c.args.wants) c.args.held c.args.event _ c.args.buf.now c.args.out.now _ _ c.in-Done.is (write-steps c.args.held c.args.size c.args.wants c.args.buf.now c.args.out.now _ _ c.write_done.ensures)

pub returns-in-Failed : goal.returns-in-Failed
returns-in-Failed c = stop-steps (Stage.Write c.args.size c.args.wants) c.args.held c.args.event _ c.args.buf.now c.args.out.now c.args.out.now _ _ c.stopped.ensures c.in-Failed.is refl

pub returns-in-Count : goal.returns-in-Count
returns-in-Count c =
    elim c.in-Count.is [
      | inl is ↦ stop-steps (Stage.Write c.args.size c.args.wants) c.args.held c.args.event _ c.args.buf.now c.args.out.now c.args.out.now _ _ c.stopped-in-Count.ensures is.1 refl
      | inr (inl is) ↦ stop-steps (Stage.Write c.args.size c.args.wants) c.args.held c.args.event _ c.args.buf.now c.args.out.now c.args.out.now _ _ c.stopped-in-Count.ensures is.1 refl
      | inr (inr is) ↦ stop-steps (Stage.Write c.args.size c.args.wants) c.args.held c.args.event _ c.args.buf.now c.args.out.now c.args.out.now _ _ c.stopped-in-Count.ensures is refl
    ]
