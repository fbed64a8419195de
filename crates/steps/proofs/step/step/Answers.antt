-- `steps::step::step` meets its contract. Assumes nothing.
use Rattle.steps.proofs.StepsTaken.{stepped_by}
use Rattle.steps.proofs.step.step.Goals as goal

pub returns : goal.returns
returns c =
    let a = c.args in
    stepped_by a.st a.caps.now a.before a.moment a.decided.now a.inputs _ c.tick_all-states.ensures _ c.on_mask-on.ensures.value _ c.capacity_fitting-cap.ensures _ c.floor_load.ensures _ c.oldest.ensures _ c.meet_load-met.ensures _ c.decide.ensures _ c.count_all-ran.ensures _ c.barred_mask-barred.ensures.value _ c.commit_at-chosen.ensures _ c.mask_called.ensures.value _ c.moment_after.ensures c.command_all.ensures c.row_of.ensures
